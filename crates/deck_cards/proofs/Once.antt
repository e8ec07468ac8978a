-- Names and values of which each name stands once, and how a map in order of insertion makes and finds them.
use Rattle.std.proofs.Common.{◌≡◌, ℕ, Bool, true, false, ◌||◌, if◌then◌else◌, List, [], ◌∷◌, ◌++◌, not, ◌&&◌, fold, map, position, slice_get, Option, Some, None, is_some, is_none, IfSome, IfNone, Bor, refl, sym, ◌∙◌, ap, subst}
use Rattle.std.specs.List.{list_any}
use Rattle.std.specs.Option.{option_map, option_copied}
use Rattle.std.specs.Map.{lookup}
use Rattle.std.specs.Str.{bytes_eq}
use Rattle.std.proofs.lemmas.List.{append-nil, append_assoc, map-append}
use Rattle.std.proofs.lemmas.List.Folds.{list_any-append}
use Rattle.std.proofs.lemmas.Option.{slice_get-map}
use Rattle.indexmap.specs.IndexMap.{insert_entry, insert_all}
use Rattle.semantics.specs.Deck.{DeckValue, look_up}
use Rattle.semantics.specs.Valid.{differ}
use Rattle.deck_cards.specs.Settled.{put, put_all, settled}
use Rattle.deck_cards.proofs.Differ.{differ-push}
use Rattle.deck_cards.proofs.Named.{named_at, and_both, or_both, from_not, name_turned}

-- a map puts a pair as the definition does
pub put_is : {A : Type 0} (qs : List (List ℕ × A)) (n : List ℕ) (x : A) → insert_entry bytes_eq qs n x ≡ put qs (n, x)
put_is [] n x = refl
put_is (q ∷ qs) n x = λ i. if bytes_eq n q.0 then (q.0, x) ∷ qs else q ∷ put_is qs n x i

pub put_all_is : {A : Type 0} (qs ps : List (List ℕ × A)) → insert_all bytes_eq qs ps ≡ fold put qs ps
put_all_is qs [] = refl
put_all_is qs (p ∷ ps) = ap (λ l. insert_all bytes_eq l ps) (put_is qs p.0 p.1) ∙ put_all_is (put qs p) ps

-- and finds one
pub look_up_is : {A : Type 0} (n : List ℕ) (ps : List (List ℕ × A)) → lookup (bytes_eq n) ps ≡ look_up n ps
look_up_is n [] = refl
look_up_is {A = A} n (p ∷ ps) = by (bytes_eq n p.0) (look_up_is n ps)
  where
    by : (b : Bool) → lookup (bytes_eq n) ps ≡ look_up n ps
        → (if b then Some p.1 else lookup (bytes_eq n) ps) ≡ elim (if b then Some p.1 else None) [ None ↦ look_up n ps | Some y ↦ Some y ]
    by true ih = refl
    by false ih = ih

-- what a name is given is changed as all values are
pub look_up_map : {A B : Type 0} (f : A → B) (n : List ℕ) (ps : List (List ℕ × A)) → option_map f (look_up n ps) ≡ look_up n (map (λ p. (p.0, f p.1)) ps)
look_up_map f n [] = refl
look_up_map {A = A} {B = B} f n (p ∷ ps) = by (bytes_eq n p.0) (look_up_map f n ps)
  where
    by : (b : Bool) → option_map f (look_up n ps) ≡ look_up n (map (λ q. (q.0, f q.1)) ps)
        → option_map f (elim (if b then Some p.1 else None) [ None ↦ look_up n ps | Some y ↦ Some y ])
        ≡ elim (if b then Some (f p.1) else None) [ None ↦ look_up n (map (λ q. (q.0, f q.1)) ps) | Some y ↦ Some y ]
    by true ih = refl
    by false ih = ih

-- a name is found in a map where the definition finds it
pub found_is : {A B : Type 0} (f : A → B) (n : List ℕ) (ps : List (List ℕ × A)) → is_some (lookup (bytes_eq n) ps) ≡ is_some (look_up n (map (λ p. (p.0, f p.1)) ps))
found_is f n ps = ap is_some (look_up_is n ps) ∙ same f (look_up n ps) ∙ ap is_some (look_up_map f n ps)
  where
    same : {A B : Type 0} (f : A → B) (o : Option A) → is_some o ≡ is_some (option_map f o)
    same f None = refl
    same f (Some x) = refl

-- a name is missing in a map where the definition finds none
pub missing_is : {A : Type 0} (n : List ℕ) (ps : List (List ℕ × A)) → not (is_some (lookup (bytes_eq n) ps)) ≡ is_none (look_up n ps)
missing_is n ps = ap (λ o. not (is_some o)) (look_up_is n ps) ∙ turned (look_up n ps)
  where
    turned : {A : Type 0} (o : Option A) → not (is_some o) ≡ is_none o
    turned None = refl
    turned (Some x) = refl

-- a borrowed value is changed as the value
pub option_copied_map : {A B : Type 0} (f : A → B) (o : Option (Bor A)) → option_map (λ x. f x.now) o ≡ option_map f (option_copied o)
option_copied_map f None = refl
option_copied_map f (Some x) = refl

pub any_map : {X Y : Type 0} (p : Y → Bool) (f : X → Y) (xs : List X) → list_any p (map f xs) ≡ list_any (λ x. p (f x)) xs
any_map p f [] = refl
any_map p f (x ∷ xs) = ap (λ b. p (f x) || b) (any_map p f xs)

-- the place at which a name stands
pub place_named : {X : Type 0} (f : X → List ℕ) (n : List ℕ) (xs : List X) (names : List (List ℕ)) (r : Option ℕ) → r ≡ position (bytes_eq n) names → names ≡ map f xs
    → IfSome r (λ i. option_map f (slice_get xs i) ≡ Some n)
place_named f n xs names None is same = tt
place_named f n xs names (Some i) is same = sym (slice_get-map f xs i) ∙ ap (λ l. slice_get l i) (sym same) ∙ named_at n names i (sym is)

pub no_place_named : {X : Type 0} (f : X → List ℕ) (n : List ℕ) (xs : List X) (names : List (List ℕ)) (r : Option ℕ) → is_some r ≡ list_any (bytes_eq n) names → names ≡ map f xs
    → IfNone r (list_any (λ x. bytes_eq n (f x)) xs ≡ false)
no_place_named f n xs names (Some i) is same = tt
no_place_named f n xs names None is same = sym (any_map (bytes_eq n) f xs) ∙ ap (list_any (bytes_eq n)) (sym same) ∙ sym is

-- a name's place, where its values are changed as all values are
pub part_placed : {A B : Type 0} (f : A → B) (n : List ℕ) (ps : List (List ℕ × A)) (r : Option ℕ) → IfSome r (λ i. slice_get (map (λ p. p.1) ps) i ≡ lookup (bytes_eq n) ps)
    → IfSome r (λ i. option_map (λ (p : List ℕ × B). p.1) (slice_get (map (λ p. (p.0, f p.1)) ps) i) ≡ look_up n (map (λ p. (p.0, f p.1)) ps))
part_placed f n ps None at = tt
part_placed {A = A} {B = B} f n ps (Some i) at =
    ap (option_map (λ (p : List ℕ × B). p.1)) (slice_get-map (λ (p : List ℕ × A). (p.0, f p.1)) ps i) ∙ merged (slice_get ps i)
    ∙ ap (option_map f) (sym (slice_get-map (λ (p : List ℕ × A). p.1) ps i) ∙ at ∙ look_up_is n ps) ∙ look_up_map f n ps
  where
    merged : (o : Option (List ℕ × A)) → option_map (λ (p : List ℕ × B). p.1) (option_map (λ (p : List ℕ × A). (p.0, f p.1)) o) ≡ option_map f (option_map (λ (p : List ℕ × A). p.1) o)
    merged None = refl
    merged (Some p) = refl

pub keys_stay : {A B : Type 0} (f : A → B) (ps : List (List ℕ × A)) → map (λ p. p.0) ps ≡ map (λ (p : List ℕ × B). p.0) (map (λ p. (p.0, f p.1)) ps)
keys_stay f [] = refl
keys_stay f (p ∷ ps) = ap (λ ks. p.0 ∷ ks) (keys_stay f ps)

pub none_placed : {A B : Type 0} (f : A → B) (n : List ℕ) (ps : List (List ℕ × A)) (r : Option ℕ) → is_some r ≡ is_some (lookup (bytes_eq n) ps) → IfNone r (look_up n (map (λ p. (p.0, f p.1)) ps) ≡ None)
none_placed f n ps (Some i) found = tt
none_placed {A = A} {B = B} f n ps None found = nothing (look_up n (map (λ (p : List ℕ × A). (p.0, f p.1)) ps)) (found ∙ found_is f n ps)
  where
    nothing : (o : Option B) → false ≡ is_some o → o ≡ None
    nothing None is = refl
    nothing (Some x) is = absurd (cc)

-- the values of names that stand once are changed as all values are
put_map : {A B : Type 0} (f : A → B) (qs : List (List ℕ × A)) (p : List ℕ × A) → map (λ q. (q.0, f q.1)) (put qs p) ≡ put (map (λ q. (q.0, f q.1)) qs) (p.0, f p.1)
put_map f [] p = refl
put_map {A = A} f (q ∷ qs) p = by (bytes_eq p.0 q.0) (put_map f qs p)
  where
    by : (b : Bool) → map (λ r. (r.0, f r.1)) (put qs p) ≡ put (map (λ r. (r.0, f r.1)) qs) (p.0, f p.1)
        → map (λ r. (r.0, f r.1)) (if b then (q.0, p.1) ∷ qs else q ∷ put qs p) ≡ (if b then (q.0, f p.1) ∷ map (λ r. (r.0, f r.1)) qs else (q.0, f q.1) ∷ put (map (λ r. (r.0, f r.1)) qs) (p.0, f p.1))
    by true ih = refl
    by false ih = ap (λ l. (q.0, f q.1) ∷ l) ih

fold_put_map : {A B : Type 0} (f : A → B) (qs ps : List (List ℕ × A)) → map (λ q. (q.0, f q.1)) (fold put qs ps) ≡ fold put (map (λ q. (q.0, f q.1)) qs) (map (λ q. (q.0, f q.1)) ps)
fold_put_map f qs [] = refl
fold_put_map f qs (p ∷ ps) = fold_put_map f (put qs p) ps ∙ ap (λ l. fold put l (map (λ q. (q.0, f q.1)) ps)) (put_map f qs p)

pub put_all_map : {A B : Type 0} (f : A → B) (ps : List (List ℕ × A)) → map (λ q. (q.0, f q.1)) (put_all ps) ≡ put_all (map (λ q. (q.0, f q.1)) ps)
put_all_map f ps = fold_put_map f [] ps

-- ---- each name stands once

keys_put : {A : Type 0} (qs : List (List ℕ × A)) (p : List ℕ × A) → map (λ q. q.0) (put qs p) ≡ (if list_any (bytes_eq p.0) (map (λ q. q.0) qs) then map (λ q. q.0) qs else map (λ q. q.0) qs ++ p.0 ∷ [])
keys_put [] p = refl
keys_put {A = A} (q ∷ qs) p = by (bytes_eq p.0 q.0) (list_any (bytes_eq p.0) (map (λ (r : List ℕ × A). r.0) qs)) (keys_put qs p)
  where
    by : (a b : Bool) → map (λ (r : List ℕ × A). r.0) (put qs p) ≡ (if b then map (λ r. r.0) qs else map (λ r. r.0) qs ++ p.0 ∷ [])
        → map (λ (r : List ℕ × A). r.0) (if a then (q.0, p.1) ∷ qs else q ∷ put qs p)
        ≡ (if a || b then q.0 ∷ map (λ r. r.0) qs else q.0 ∷ (map (λ r. r.0) qs ++ p.0 ∷ []))
    by true b ih = refl
    by false true ih = ap (λ l. q.0 ∷ l) ih
    by false false ih = ap (λ l. q.0 ∷ l) ih

pub put_once : {A : Type 0} (qs : List (List ℕ × A)) (p : List ℕ × A) → differ (map (λ q. q.0) qs) ≡ true → differ (map (λ q. q.0) (put qs p)) ≡ true
put_once {A = A} qs p h = ap differ (keys_put qs p) ∙ by (list_any (bytes_eq p.0) (map (λ (q : List ℕ × A). q.0) qs)) refl
  where
    by : (b : Bool) → list_any (bytes_eq p.0) (map (λ (q : List ℕ × A). q.0) qs) ≡ b → differ (if b then map (λ (q : List ℕ × A). q.0) qs else map (λ (q : List ℕ × A). q.0) qs ++ p.0 ∷ []) ≡ true
    by true e = h
    by false e = differ-push (map (λ (q : List ℕ × A). q.0) qs) p.0 ∙ (λ i. h i && not (e i))

pub fold_put_once : {A : Type 0} (qs ps : List (List ℕ × A)) → differ (map (λ q. q.0) qs) ≡ true → differ (map (λ q. q.0) (fold put qs ps)) ≡ true
fold_put_once qs [] h = h
fold_put_once qs (p ∷ ps) h = fold_put_once (put qs p) ps (put_once qs p h)

-- names that differ stand in the order in which they are put
put_new : {A : Type 0} (qs : List (List ℕ × A)) (p : List ℕ × A) → list_any (bytes_eq p.0) (map (λ q. q.0) qs) ≡ false → put qs p ≡ qs ++ p ∷ []
put_new [] p new = refl
put_new {A = A} (q ∷ qs) p new = by (bytes_eq p.0 q.0) new (put_new qs p)
  where
    by : (b : Bool) → (b || list_any (bytes_eq p.0) (map (λ (r : List ℕ × A). r.0) qs)) ≡ false → (list_any (bytes_eq p.0) (map (λ (r : List ℕ × A). r.0) qs) ≡ false → put qs p ≡ qs ++ p ∷ [])
        → (if b then (q.0, p.1) ∷ qs else q ∷ put qs p) ≡ q ∷ (qs ++ p ∷ [])
    by true h ih = absurd (cc)
    by false h ih = ap (λ l. q ∷ l) (ih h)

none_before : (ns ms : List (List ℕ)) (m : List ℕ) → differ (ns ++ m ∷ ms) ≡ true → list_any (bytes_eq m) ns ≡ false
none_before [] ms m h = refl
none_before (n ∷ ns) ms m h =
    let h' = and_both (not (list_any (bytes_eq n) (ns ++ m ∷ ms))) (differ (ns ++ m ∷ ms)) h in
    let later = or_both (list_any (bytes_eq n) ns) (list_any (bytes_eq n) (m ∷ ms)) (sym (list_any-append (bytes_eq n) ns (m ∷ ms)) ∙ from_not _ h'.0) in
    let other = or_both (bytes_eq n m) (list_any (bytes_eq n) ms) later.1 in
    λ i. (name_turned m n ∙ other.0) i || none_before ns ms m h'.1 i

pub puts_apart : {A : Type 0} (qs ps : List (List ℕ × A)) → differ (map (λ q. q.0) (qs ++ ps)) ≡ true → fold put qs ps ≡ qs ++ ps
puts_apart qs [] h = sym (append-nil qs)
puts_apart {A = A} qs (p ∷ ps) h =
    let shift : (qs ++ p ∷ []) ++ ps ≡ qs ++ p ∷ ps = append_assoc qs (p ∷ []) ps in
    let new = none_before (map (λ (q : List ℕ × A). q.0) qs) (map (λ (q : List ℕ × A). q.0) ps) p.0 (ap differ (sym (map-append (λ (q : List ℕ × A). q.0) qs (p ∷ ps))) ∙ h) in
    ap (λ l. fold put l ps) (put_new qs p new) ∙ puts_apart (qs ++ p ∷ []) ps (ap (λ l. differ (map (λ (q : List ℕ × A). q.0) l)) shift ∙ h) ∙ shift

settled_is : (d : DeckValue) → (differ (map (λ p. p.0) (settled d).parts) ≡ true) × (differ (map (λ p. p.0) (settled d).initial) ≡ true)
unfolding settled
settled_is d = (fold_put_once [] d.parts refl, fold_put_once [] d.initial refl)

-- in a settled deck no part and no initial voltage stands twice
pub once : (d e : DeckValue) → d ≡ settled e → (differ (map (λ p. p.0) d.parts) ≡ true) × (differ (map (λ p. p.0) d.initial) ≡ true)
once d e is = subst (λ x. (differ (map (λ p. p.0) x.parts) ≡ true) × (differ (map (λ p. p.0) x.initial) ≡ true)) (sym is) (settled_is e)
