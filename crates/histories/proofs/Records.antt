-- The pairs of a node that is kept are those of its lines, and what new lines of one node change.
use Rattle.std.proofs.Common.{◌≡◌, ◌≢◌, ℕ, zero, suc, ◌-◌, ◌<◌, ◌≤◌, ltb, leb, Bool, true, false, not, ◌&&◌, ◌||◌, cond, List, [], ◌∷◌, ◌++◌, length, take, get_or, set, Option, Some, None, Result, Ok, Err, refl, sym, ap, ◌∙◌, arith, ⊎_elim, ℤ, pos, ◌+ℤ◌, ◌*ℤ◌, unwrap_or}
use Rattle.std.specs.Prelude.{◌==◌, OnOk}
use Rattle.std.specs.List.{FoldsTo}
use Rattle.std.specs.Option.{is_some}
use Rattle.std.proofs.lemmas.Bool.{cases_eq, eq-eqb, ne_eqb, false≢true, lt-ltb, le-ltb}
use Rattle.std.proofs.lemmas.Int.{ints}
use Rattle.std.proofs.lemmas.List.{get_or_append_left, get_or-append_right, get_or_past, get_or-set_same, get_or-set_other, take_all, get_or-take}
use Rattle.semantics.specs.declared.fraction.Fraction.{Fraction}
use Rattle.semantics.specs.declared.line.Line.{Line}
use Rattle.histories.specs.Track.{pair}
use Rattle.histories.specs.Piece.{PieceValue}
use Rattle.histories.specs.Record.{IsSpliced, IsStarted, RecordValue, keeps, pair_at, track_of}
use Rattle.histories.proofs.Follows.{fractions, le_or_lt}
use Rattle.histories.proofs.Joins.{pair_one}

pub pairs_of : (r : RecordValue) (n : ℕ) (ls : List Line) → track_of r n ≡ Some ls → pair_at r n ≡ pair ls
unfolding pair_at
pairs_of r n ls e = ap (λ (o : Option (List Line)). pair (unwrap_or o [])) e

pub kept_inside : (xs : List (Option (List Line))) (n : ℕ) → is_some (get_or xs n None) ≡ true → n < length xs
kept_inside [] n e = absurd (false≢true e)
kept_inside (x ∷ xs) zero e = omega arith
kept_inside (x ∷ xs) (suc n) e = omega (arith, kept_inside xs n e)

-- ---- other lines at a place

abbrev pub with_track : RecordValue → ℕ → List Line → RecordValue
with_track r i ls = record { stop = r.stop; tracks = set r.tracks i (Some ls) }

track_same : (r : RecordValue) (i : ℕ) (ls : List Line) → i < length r.tracks → track_of (with_track r i ls) i ≡ Some ls
track_same r i ls h = get_or-set_same r.tracks i (Some ls) None h

track_other : (r : RecordValue) (i n : ℕ) (ls : List Line) → n ≢ i → track_of (with_track r i ls) n ≡ track_of r n
track_other r i n ls ne = get_or-set_other r.tracks i n (Some ls) None ne

pair_other : (r : RecordValue) (i n t : ℕ) (ls : List Line) → n ≢ i → pair_at (with_track r i ls) n t ≡ pair_at r n t
unfolding pair_at
pair_other r i n t ls ne = ap (λ (o : Option (List Line)). pair (unwrap_or o []) t) (track_other r i n ls ne)

pair_same : (r : RecordValue) (i t : ℕ) (ls : List Line) → i < length r.tracks → pair_at (with_track r i ls) i t ≡ pair ls t
unfolding pair_at
pair_same r i t ls h = ap (λ (o : Option (List Line)). pair (unwrap_or o []) t) (track_same r i ls h)

pair_alike : (s r : RecordValue) (n t : ℕ) → track_of s n ≡ track_of r n → pair_at s n t ≡ pair_at r n t
unfolding pair_at
pair_alike s r n t e = ap (λ (o : Option (List Line)). pair (unwrap_or o []) t) e

pair_was : (r : RecordValue) (i t : ℕ) (ls : List Line) → track_of r i ≡ Some ls → pair_at r i t ≡ pair ls t
unfolding pair_at
pair_was r i t ls e = ap (λ (o : Option (List Line)). pair (unwrap_or o []) t) e

pub spliced : (r : RecordValue) (piece : PieceValue) (old new : List Line) → piece.node < length r.tracks → track_of r piece.node ≡ Some old →
    ((t : ℕ) → t ≤ r.stop → pair new t ≡ cond (ltb piece.from t && leb t piece.until) (pair piece.lines t) (pair old t)) → IsSpliced r (with_track r piece.node new) piece
spliced r piece old new inside was pairs = record {
  stop = refl;
  kept = λ n. ⊎_elim
      (λ (e : n ≡ piece.node). rw e (ap is_some (track_same r piece.node new inside) ∙ sym (ap is_some was)))
      (λ (ne : n ≢ piece.node). ap is_some (track_other r piece.node n new ne))
      (cases_eq n piece.node);
  pairs = λ n t h. ⊎_elim
      (λ (e : n ≡ piece.node). rw (e, eq-eqb piece.node piece.node refl) (pair_same r piece.node t new inside ∙ pairs t h ∙ ap (λ x. cond (ltb piece.from t && leb t piece.until) (pair piece.lines t) x) (sym (pair_was r piece.node t old was))))
      (λ (ne : n ≢ piece.node). rw (ne_eqb n piece.node ne) (pair_other r piece.node n t new ne))
      (cases_eq n piece.node);
}

pub started_again : (r : RecordValue) (i : ℕ) (old new : List Line) (v : Fraction) → i < length r.tracks → track_of r i ≡ Some old → pair new 0 ≡ v → ((t : ℕ) → 0 < t → pair new t ≡ pair old t) → IsStarted r (with_track r i new) i v
started_again r i old new v inside was first later = record {
  stop = refl;
  kept = λ n. ⊎_elim
      (λ (e : n ≡ i). rw (e, eq-eqb i i refl) (ap is_some (track_same r i new inside)))
      (λ (ne : n ≢ i). rw (ne_eqb n i ne) (ap is_some (track_other r i n new ne)))
      (cases_eq n i);
  pairs = λ n t h. ⊎_elim
      (λ (e : n ≡ i). rw (e, eq-eqb i i refl) (pair_same r i t new inside ∙ ⊎_elim
      (λ (z : t ≡ 0). rw (z, first) refl)
      (λ (nz : t ≢ 0). rw (ne_eqb t 0 nz, was) (later t (omega (arith, nz)) ∙ sym (pair_was r i t old was)))
      (cases_eq t 0)))
      (λ (ne : n ≢ i). rw (ne_eqb n i ne) (pair_other r i n t new ne))
      (cases_eq n i);
}

level_pair : (num : ℤ) (den t : ℕ) → pair (record { start = 0; num = num; rate = pos 0; den = den } ∷ []) t ≡ record { num = num; den = den }
level_pair num den t = pair_one (record { start = 0; num = num; rate = pos 0; den = den }) t ∙ fractions (num +ℤ (pos 0 *ℤ pos (t - 0))) num den den (omega (arith, ints)) refl

-- a node that was not kept, after room was made for its place
pub started_new : (r : RecordValue) (xs : List (Option (List Line))) (i : ℕ) (num : ℤ) (den : ℕ) → i < length xs → ((n : ℕ) → get_or xs n None ≡ get_or r.tracks n None) → keeps r i ≡ false →
    IsStarted r (record { stop = r.stop; tracks = set xs i (Some (record { start = 0; num = num; rate = pos 0; den = den } ∷ [])) }) i (record { num = num; den = den })
started_new r xs i num den inside same unknown =
    let s : RecordValue = record { stop = r.stop; tracks = xs } in
    let level : List Line = record { start = 0; num = num; rate = pos 0; den = den } ∷ [] in
    record {
      stop = refl;
      kept = λ n. ⊎_elim
          (λ (e : n ≡ i). rw (e, eq-eqb i i refl) (ap is_some (track_same s i level inside)))
          (λ (ne : n ≢ i). rw (ne_eqb n i ne) (ap is_some (track_other s i n level ne ∙ same n)))
          (cases_eq n i);
      pairs = λ n t h. ⊎_elim
          (λ (e : n ≡ i). rw (e, eq-eqb i i refl, unknown, or_true (t == 0)) (pair_same s i t level inside ∙ level_pair num den t))
          (λ (ne : n ≢ i). rw (ne_eqb n i ne) (pair_other s i n t level ne ∙ pair_alike s r n t (same n)))
          (cases_eq n i);
    }
  where
    or_true : (b : Bool) → (b || not false) ≡ true
    or_true true = refl
    or_true false = refl

-- ---- room for a place

pub nones : {F X : Type 0} (step : F → Option X → F → Type 0) (f last : F) (ys : List (Option X)) → ((g : F) (x : Option X) (h : F) → step g x h → x ≡ None) → FoldsTo step f ys last → (j : ℕ) → get_or ys j None ≡ None
nones step f last [] none folds j = get_or_past [] j None (omega arith)
nones step f last (y ∷ ys) none folds zero = none f y folds.0 folds.1
nones step f last (y ∷ ys) none folds (suc j) = nones step folds.0 last ys none folds.2 j

pub room : {X : Type 0} (old ys : List (Option X)) (m : ℕ) → length old ≤ m → ((j : ℕ) → get_or ys j None ≡ None) → (n : ℕ) → get_or (take m old ++ ys) n None ≡ get_or old n None
room old ys m h none n = rw (take_all m old h) (⊎_elim
    (λ (past : length old ≤ n). get_or-append_right old ys (length old) n None refl past ∙ none (n - length old) ∙ sym (get_or_past old n None past))
    (λ (inside : n < length old). get_or_append_left old ys None n inside)
    (le_or_lt (length old) n))

-- ---- answers

pub on_ok_two : {T E P Q R : Type 0} (r : Result T E) → (P → Q → R) → OnOk r P → OnOk r Q → OnOk r R
on_ok_two (Ok x) f p q = f p q
on_ok_two (Err e) f p q = tt

-- ---- the nodes from a number on are forgotten

past_count : (xs : List (Option (List Line))) (count n : ℕ) → count ≤ n → get_or (take count xs) n None ≡ None
past_count [] zero n h = refl
past_count [] (suc count) n h = refl
past_count (x ∷ xs) zero n h = refl
past_count (x ∷ xs) (suc count) zero h = absurd (omega (arith, h))
past_count (x ∷ xs) (suc count) (suc n) h = past_count xs count n (omega (arith, h))

pub kept_before : (old new : RecordValue) (count : ℕ) → new.tracks ≡ take count old.tracks → (n : ℕ) → keeps new n ≡ (ltb n count && keeps old n)
kept_before old new count e n = ⊎_elim
    (λ (h : count ≤ n). ap (λ xs. is_some (get_or xs n None)) e ∙ ap is_some (past_count old.tracks count n h) ∙ sym (ap (λ b. b && keeps old n) (le-ltb n count h)))
    (λ (h : n < count). ap (λ xs. is_some (get_or xs n None)) e ∙ ap is_some (get_or-take count old.tracks n None h) ∙ sym (ap (λ b. b && keeps old n) (lt-ltb n count h)))
    (le_or_lt count n)

pub pair_before : (old new : RecordValue) (count : ℕ) → new.tracks ≡ take count old.tracks → (n t : ℕ) → n < count → pair_at new n t ≡ pair_at old n t
pair_before old new count e n t h = pair_alike new old n t (ap (λ xs. get_or xs n None) e ∙ get_or-take count old.tracks n None h)
