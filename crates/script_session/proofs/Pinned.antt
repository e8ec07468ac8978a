-- Names that are bound to versions: where one more is bound, and which number a name has.
use Rattle.std.proofs.Common.{◌≡◌, ℕ, Bool, true, false, if◌then◌else◌, List, [], ◌∷◌, length, map, Option, Some, None, IfSome, unwrap_or, Bor, refl, sym, ◌∙◌, ap}
use Rattle.std.specs.List.{All}
use Rattle.std.proofs.lemmas.List.Elements.{All-cons, All-head, All-nil, All-tail}
use Rattle.std.specs.Option.{option_copied, option_map}
use Rattle.std.specs.Str.{bytes_eq}
use Rattle.semantics.specs.Deck.{Name, look_up}
use Rattle.deck_cards.specs.Settled.{put}
use Rattle.version_book.specs.Version.{VersionValue}
use Rattle.board_core.specs.Board.{BoardValue}
use Rattle.script_session.specs.Held.{Bindings, bound_to, numbered, session}

-- the values are changed as all values are
pub put_map : {A B : Type 0} (f : A → B) (qs : List (List ℕ × A)) (p : List ℕ × A) → map (λ q. (q.0, f q.1)) (put qs p) ≡ put (map (λ q. (q.0, f q.1)) qs) (p.0, f p.1)
put_map f [] p = refl
put_map {A = A} f (q ∷ qs) p = by (bytes_eq p.0 q.0) (put_map f qs p)
  where
    by : (b : Bool) → map (λ r. (r.0, f r.1)) (put qs p) ≡ put (map (λ r. (r.0, f r.1)) qs) (p.0, f p.1)
        → map (λ r. (r.0, f r.1)) (if b then (q.0, p.1) ∷ qs else q ∷ put qs p) ≡ (if b then (q.0, f p.1) ∷ map (λ r. (r.0, f r.1)) qs else (q.0, f q.1) ∷ put (map (λ r. (r.0, f r.1)) qs) (p.0, f p.1))
    by true ih = refl
    by false ih = ap (λ l. (q.0, f q.1) ∷ l) ih

pub look_up_map : {A B : Type 0} (f : A → B) (n : List ℕ) (qs : List (List ℕ × A)) → look_up n (map (λ q. (q.0, f q.1)) qs) ≡ option_map f (look_up n qs)
look_up_map f n [] = refl
look_up_map {A = A} f n (q ∷ qs) = by (bytes_eq n q.0) (look_up_map f n qs)
  where
    by : (b : Bool) → look_up n (map (λ r. (r.0, f r.1)) qs) ≡ option_map f (look_up n qs)
        → elim (if b then Some (f q.1) else None) [ None ↦ look_up n (map (λ r. (r.0, f r.1)) qs) | Some y ↦ Some y ]
        ≡ option_map f (elim (if b then Some q.1 else None) [ None ↦ look_up n qs | Some y ↦ Some y ])
    by true ih = refl
    by false ih = ih

-- the number of the version that a name is bound to
pub number_of : (pins : Bindings) (n : Name) (k : ℕ)
    → unwrap_or (unwrap_or (look_up n (map numbered pins)) None) k ≡ elim (bound_to pins n) [ None ↦ k | Some v ↦ length v.edits ]
number_of pins n k = ap (λ (o : Option (Option ℕ)). unwrap_or (unwrap_or o None) k) (look_up_map (option_map (λ (v : VersionValue). length v.edits)) n pins) ∙ by (look_up n pins)
  where
    by : (o : Option (Option VersionValue)) → unwrap_or (unwrap_or (option_map (option_map (λ (v : VersionValue). length v.edits)) o) None) k ≡ elim (unwrap_or o None) [ None ↦ k | Some v ↦ length v.edits ]
    by None = refl
    by (Some None) = refl
    by (Some (Some v)) = refl

-- what holds of each bound version holds where one more is bound
pub put_all_hold : {A : Type 0} (P : A → Type 0) (qs : List (List ℕ × A)) (p : List ℕ × A) → All (λ q. P q.1) qs → P p.1 → All (λ q. P q.1) (put qs p)
put_all_hold P [] p all h = All-cons (λ q. P q.1) p [] h all
put_all_hold {A = A} P (q ∷ qs) p all h = by (bytes_eq p.0 q.0) (put_all_hold P qs p (All-tail Holds q qs all) h)
  where
    Holds : List ℕ × A → Type 0
    Holds r = P r.1

    by : (b : Bool) → All Holds (put qs p) → All Holds (if b then (q.0, p.1) ∷ qs else q ∷ put qs p)
    by true rest = All-cons Holds (q.0, p.1) qs h (All-tail Holds q qs all)
    by false rest = All-cons Holds q (put qs p) (All-head Holds q qs all) rest

-- and of the one that a name is bound to
pub held : (P : VersionValue → Type 0) (pins : Bindings) (n : Name) → All (λ q. IfSome q.1 P) pins → IfSome (bound_to pins n) P
held P [] n all = tt
held P (q ∷ qs) n all = by (bytes_eq n q.0) (held P qs n (All-tail Holds q qs all))
  where
    Holds : Name × Option VersionValue → Type 0
    Holds r = IfSome r.1 P

    by : (b : Bool) → IfSome (bound_to qs n) P → IfSome (unwrap_or (elim (if b then Some q.1 else None) [ None ↦ look_up n qs | Some y ↦ Some y ]) None) P
    by true ih = All-head Holds q qs all
    by false ih = ih

-- what follows of each bound version
pub all_then : (P Q : VersionValue → Type 0) (pins : Bindings) → ((v : VersionValue) → P v → Q v) → All (λ q. IfSome q.1 P) pins → All (λ q. IfSome q.1 Q) pins
all_then P Q [] gives all = All-nil (λ q. IfSome q.1 Q)
all_then P Q (q ∷ qs) gives all = All-cons (λ q. IfSome q.1 Q) q qs (by q.1 (All-head (λ q. IfSome q.1 P) q qs all)) (all_then P Q qs gives (All-tail (λ q. IfSome q.1 P) q qs all))
  where
    by : (o : Option VersionValue) → IfSome o P → IfSome o Q
    by None h = tt
    by (Some v) h = gives v h

-- what a map of shared versions has of a name
pub bound_among : {A : Type 0} (f : A → VersionValue) (es : List (Name × Option A)) (n : Name) → bound_to (map (λ e. (e.0, option_map f e.1)) es) n ≡ unwrap_or (option_map (option_map f) (look_up n es)) None
bound_among f es n = ap (λ (o : Option (Option VersionValue)). unwrap_or o None) (look_up_map (option_map f) n es)

-- what is found of a name is the version that it is bound to
pub found : {A : Type 0} (f : A → VersionValue) (es : List (Name × Option A)) (n : Name) (pins : Bindings) (o : Option (Option A))
    → map (λ e. (e.0, option_map f e.1)) es ≡ pins → o ≡ look_up n es → unwrap_or (option_map (option_map f) o) None ≡ bound_to pins n
found f es n pins o view is = ap (λ x. unwrap_or (option_map (option_map f) x) None) is ∙ sym (bound_among f es n) ∙ ap (λ m. bound_to m n) view

-- the numbers of a session where one more name is bound
pub put_numbered : (b : BoardValue) (v : VersionValue) (pins more : Bindings) (n : Name) (o : Option VersionValue) → more ≡ put pins (n, o)
    → session b v more ≡ record (session b v pins) { pins = put (session b v pins).pins (n, option_map (λ (x : VersionValue). length x.edits) o) }
put_numbered b v pins more n o is =
    ap (λ (ps : List (Name × Option ℕ)). record (session b v pins) { pins = ps })
    (ap (map numbered) is ∙ put_map (option_map (λ (x : VersionValue). length x.edits)) pins (n, o))

-- what is lent of a name, and else the current version
pub map_copied : {A : Type 0} (f : A → VersionValue) (o : Option (Bor A)) → option_map (λ v. f v.now) o ≡ option_map f (option_copied o)
map_copied f None = refl
map_copied f (Some v) = refl

pub taken : {A : Type 0} (f : A → VersionValue) (o : Option (Bor A)) (d : Bor A) (p : Option VersionValue) → option_map (λ v. f v.now) o ≡ p → f (unwrap_or o d).now ≡ unwrap_or p (f d.now)
taken f None d p is = ap (λ x. unwrap_or x (f d.now)) is
taken f (Some v) d p is = ap (λ x. unwrap_or x (f d.now)) is

-- its number
pub number_is : (pins : Bindings) (n : Name) (v : VersionValue)
    → length (unwrap_or (bound_to pins n) v).edits ≡ unwrap_or (unwrap_or (look_up n (map numbered pins)) None) (length v.edits)
number_is pins n v = by (bound_to pins n) ∙ sym (number_of pins n (length v.edits))
  where
    by : (p : Option VersionValue) → length (unwrap_or p v).edits ≡ elim p [ None ↦ length v.edits | Some w ↦ length w.edits ]
    by None = refl
    by (Some w) = refl

-- and what holds of it
pub holds_of : (P : VersionValue → Type 0) (p : Option VersionValue) (v : VersionValue) → IfSome p P → P v → P (unwrap_or p v)
holds_of P None v found h = h
holds_of P (Some w) v found h = found
