-- The lines of a wave rise, and are small.
use Rattle.std.proofs.Common.{◌≡◌, ℕ, zero, suc, ◌-◌, ◌^◌, ◌<◌, ◌≤◌, Bool, true, false, cond, leb, ltb, List, [], ◌∷◌, ◌++◌, length, get_or, Option, Some, None, refl, sym, ◌∙◌, subst, arith}
use Rattle.std.specs.Prelude.{max, slice_get}
use Rattle.std.specs.Option.{option_map, option_to_list}
use Rattle.std.specs.List.{All, filter, list_any}
use Rattle.std.specs.List.Sorted.{IsNonDecreasingBy}
use Rattle.std.specs.Str.{bytes_eq}
use Rattle.std.proofs.lemmas.List.Elements.{All-nil, All-cons, All-head, All-tail, All-push, All-append, All-filter, All-weaker}
use Rattle.std.proofs.lemmas.List.Folds.{Any-from_list_any}
use Rattle.std.proofs.lemmas.List.Sorted.{IsNonDecreasingBy-push, IsNonDecreasingBy-short}
use Rattle.std.proofs.lemmas.List.{append-nil, get_or_default}
use Rattle.std.proofs.lemmas.Slice.Eq.{bytes_eq-Decides}
use Rattle.semantics.specs.declared.line.Line.{Line}
use Rattle.semantics.specs.Deck.{Name, DeckValue, nodes}
use Rattle.semantics.specs.Valid.{is_valid}
use Rattle.semantics.specs.Wave.{begins, entry, entries_below, wave}
use Rattle.semantics.proofs.Limits.{Limits, limits, IsVoltage, node_voltage, node_rate}
use Rattle.wave_text.specs.Body.{IsSmall, IsWave}
use Rattle.wave_text.specs.Range.{is_in}
use Rattle.wave_text.specs.Shown.{begun, from_tick, in_force, shown}

-- lines that begin below a tick
record Below (t : ℕ) (lines : List Line) : Type 0 where
  rising : IsNonDecreasingBy (λ (l : Line). l.start) lines
  before : All (λ (l : Line). l.start < t) lines
  small : All IsSmall lines

none : Below 0 []
none = record {
  rising = IsNonDecreasingBy-short (λ (l : Line). l.start) [] (omega arith);
  before = All-nil (λ (l : Line). l.start < 0);
  small = All-nil IsSmall;
}

one_more : (t : ℕ) (lines : List Line) (l : Line) (b : Bool) → l.start ≡ t → IsSmall l → Below t lines → Below (suc t) (lines ++ cond b (l ∷ []) [])
one_more t lines l true at small h = record {
  rising = IsNonDecreasingBy-push (λ (m : Line). m.start) lines l h.rising (λ d some. omega (arith, at, h.before (length lines - 1) d (omega (arith, some))));
  before = All-push (λ (m : Line). m.start < suc t) lines l (All-weaker (λ (m : Line). m.start < t) (λ (m : Line). m.start < suc t) (λ m low. omega (arith, low)) lines h.before) (omega (arith, at));
  small = All-push IsSmall lines l h.small small;
}
one_more t lines l false at small h =
    subst (Below (suc t)) (sym (append-nil lines)) (record {
      rising = h.rising;
      before = All-weaker (λ (m : Line). m.start < t) (λ (m : Line). m.start < suc t) (λ m low. omega (arith, low)) lines h.before;
      small = h.small;
    })

module _ (d : DeckValue) (limited : Limits d) (i : ℕ) (below : i < length (nodes d)) where
  small_entry : (t : ℕ) → t ≤ 10 ^ 10 → IsSmall (entry d t (get_or (nodes d) i []))
  unfolding entry
  small_entry t by =
      let v : IsVoltage t _ = node_voltage d t i limited below in
      record { den = v.den_low; num = omega (arith, v.num, by); rate = node_rate d t i limited below }

  starts : (t : ℕ) → (entry d t (get_or (nodes d) i [])).start ≡ t
  unfolding entry
  starts t = refl

  lines_below : (t : ℕ) → t ≤ 10 ^ 10 → Below t (entries_below d t (get_or (nodes d) i []))
  unfolding entries_below
  lines_below zero by = none
  lines_below (suc t) by =
      let n : Name = get_or (nodes d) i [] in
      one_more t (entries_below d t n) (entry d t n) (begins d t n) (starts t) (small_entry t (omega (arith, by))) (lines_below t (omega (arith, by)))

  wave_at : IsWave (wave d (get_or (nodes d) i []))
  unfolding wave
  wave_at =
      let h = lines_below (max 1 d.stop) (omega (arith, limited.stop)) in
      record { rising = h.rising; small = h.small }

-- the wave of a node
pub wave_is : (d : DeckValue) (n : Name) → is_valid d ≡ true → list_any (bytes_eq n) (nodes d) ≡ true → IsWave (wave d n)
wave_is d n valid among =
    let found = Any-from_list_any (bytes_eq n) (nodes d) among in
    let same : n ≡ found.1 = (bytes_eq-Decides n found.1).0 found.4 in
    let at : get_or (nodes d) found.0 [] ≡ n = get_or_default (nodes d) found.0 [] found.1 found.2 ∙ found.3 ∙ sym same in
    subst (λ (m : Name). IsWave (wave d m)) at (wave_at d (limits d valid) found.0 found.2)

-- ---- what is shown of a wave

abbrev pub HasDen : Line → Type 0
HasDen l = 1 ≤ l.den

pub all_front : {X : Type 0} (P : X → Type 0) (xs ys : List X) → All P (xs ++ ys) → All P xs
all_front P [] ys all = All-nil P
all_front P (x ∷ xs) ys all = All-cons P x xs (All-head P x (xs ++ ys) all) (all_front P xs ys (All-tail P x (xs ++ ys) all))

pub all_behind : {X : Type 0} (P : X → Type 0) (xs ys : List X) → All P (xs ++ ys) → All P ys
all_behind P [] ys all = all
all_behind P (x ∷ xs) ys all = all_behind P xs ys (All-tail P x (xs ++ ys) all)

first_den : (lines : List Line) (k t : ℕ) → All HasDen lines → All HasDen (option_to_list (option_map (from_tick t) (slice_get lines k)))
first_den [] k t dens = All-nil HasDen
first_den (l ∷ lines) zero t dens = All-cons HasDen (from_tick t l) [] (All-head HasDen l lines dens) (All-nil HasDen)
first_den (l ∷ lines) (suc k) t dens = first_den lines k t (All-tail HasDen l lines dens)

pub shown_dens : (stop : ℕ) (range : Option (ℕ × ℕ)) (lines : List Line) → IsWave lines → All HasDen (shown stop range lines)
unfolding shown
shown_dens stop None lines h = All-weaker IsSmall HasDen (λ l small. small.den) lines h.small
shown_dens stop (Some range) lines h = by (ltb stop range.0)
  where
    dens : All HasDen lines
    dens = All-weaker IsSmall HasDen (λ l small. small.den) lines h.small

    first : List Line
    first = option_to_list (option_map (from_tick range.0) (in_force range.0 lines))

    others : List Line
    others = filter (λ l. is_in (suc range.0, range.1) l.start) lines

    by : (b : Bool) → All HasDen (cond b [] (first ++ others))
    by true = All-nil HasDen
    by false = All-append HasDen first others
        (first_den (begun range.0 lines) (length (begun range.0 lines) - 1) range.0 (All-filter (λ l. leb l.start range.0) HasDen lines dens))
        (All-filter (λ l. is_in (suc range.0, range.1) l.start) HasDen lines dens)
