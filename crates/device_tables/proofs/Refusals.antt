-- A list is refused exactly where it is not valid.
use Rattle.std.proofs.Common.{◌≡◌, ℕ, suc, ◌+◌, ◌*◌, ◌^◌, Bool, true, false, not, cond, ◌&&◌, leb, ltb, eqb, List, [], ◌∷◌, length, drop, position, Option, Some, None, ℤ, unsigned_abs, int_le, int_lt, nat_le, inl, inr, refl, sym, ap, ◌∙◌, arith}
use Rattle.std.specs.List.{list_all, zip, prefix_len}
use Rattle.std.specs.Option.{is_none, option_or, option_map}
use Rattle.std.proofs.lemmas.Bool.Decides.{nat_tests, leb_tells}
use Rattle.std.proofs.Math.Bool.{not-not, and_assoc}
use borrow.Author.Differences.{up, down, true_is_le, false_is_le, true_is_lt, false_is_lt}
use Rattle.semantics.specs.Valid.{small_volts, rising, is_grid, is_part}
use Rattle.semantics.specs.Part.{Listed}
use Rattle.device_tables.specs.declared.refusal.TableRefusal.TheVariants.{TooManyThresholds, ThresholdTooLarge, NotRising, WrongCount, CurrentTooLarge}
use Rattle.device_tables.specs.Refusal.{too_many, too_large, not_rising, grid_refusal, wrong_count, large_current, table_refusal}

none_or : {T : Type 0} (a b : Option T) → is_none (option_or a b) ≡ (is_none a && is_none b)
none_or None b = refl
none_or (Some x) b = refl

none_map : {T U : Type 0} (f : T → U) (o : Option T) → is_none (option_map f o) ≡ is_none o
none_map f None = refl
none_map f (Some x) = refl

none_then : {T : Type 0} (b : Bool) (x : T) → is_none (cond b (Some x) None) ≡ not b
none_then true x = refl
none_then false x = refl

none_else : {T : Type 0} (b : Bool) (x : T) → is_none (cond b None (Some x)) ≡ b
none_else true x = refl
none_else false x = refl

pass_step : (b rest : Bool) (m n : ℕ) → not (ltb m n) ≡ rest → not (ltb (cond b (1 + m) 0) (suc n)) ≡ (b && rest)
pass_step true rest m n e = grind (arith, nat_tests)
pass_step false rest m n e = grind (arith, nat_tests)

all_pass : {X : Type 0} (p : X → Bool) (xs : List X) → not (ltb (prefix_len p xs) (length xs)) ≡ list_all p xs
all_pass p [] = refl
all_pass p (x ∷ xs) = pass_step (p x) (list_all p xs) (prefix_len p xs) (length xs) (all_pass p xs)

-- no place is found where each item fails the test
none_found : {X : Type 0} (p : X → Bool) (xs : List X) → is_none (position p xs) ≡ list_all (λ x. not (p x)) xs
none_found p xs = none_then _ _ ∙ all_pass (λ x. not (p x)) xs

all_like : {X : Type 0} (p q : X → Bool) → ((x : X) → p x ≡ q x) → (xs : List X) → list_all p xs ≡ list_all q xs
all_like p q same [] = refl
all_like p q same (x ∷ xs) = rw (same x, all_like p q same xs) refl

not_le : (a b : ℤ) → not (int_le b a) ≡ int_lt a b
not_le a b = elim (leb_tells (up b + down a) (up a + down b)) [
  | inl h ↦ ap not (sym (true_is_le b a h.1)) ∙ false_is_lt a b h.1
  | inr h ↦ ap not (sym (false_is_le b a h.1)) ∙ true_is_lt a b h.1
]

neighbours : (zs : List ℤ) → list_all (λ pair. not (int_le pair.1 pair.0)) (zip zs (drop 1 zs)) ≡ rising zs
neighbours [] = refl
neighbours (a ∷ []) = refl
neighbours (a ∷ b ∷ zs) = rw (not_le a b) (ap (λ t. int_lt a b && t) (neighbours (b ∷ zs)))

-- thresholds are refused exactly where they are no grid
pub grid_refused : (zs : List ℤ) → is_none (grid_refusal zs) ≡ is_grid zs
unfolding grid_refusal too_many too_large not_rising
grid_refused zs =
    let count : is_none (too_many zs) ≡ leb (length zs) 256 = none_then (ltb 256 (length zs)) (TooManyThresholds (length zs)) ∙ grind (arith, nat_tests) in
    let size : is_none (too_large zs) ≡ list_all small_volts zs =
    none_map ThresholdTooLarge (position (λ volts. not (small_volts volts)) zs) ∙ none_found (λ volts. not (small_volts volts)) zs ∙ all_like (λ volts. not (not (small_volts volts))) small_volts (λ volts. not-not (small_volts volts)) zs in
    let rise : is_none (not_rising zs) ≡ rising zs =
    none_map (λ before. NotRising (before + 1)) (position (λ pair. int_le pair.1 pair.0) (zip zs (drop 1 zs))) ∙ none_found (λ pair. int_le pair.1 pair.0) (zip zs (drop 1 zs)) ∙ neighbours zs in
    none_or (option_or (too_many zs) (too_large zs)) (not_rising zs) ∙ rw (none_or (too_many zs) (too_large zs), count, size, rise) (and_assoc (leb (length zs) 256) (list_all small_volts zs) (rising zs))

both_true : (a b c : Bool) → a ≡ true → b ≡ true → (a && (b && c)) ≡ c
both_true a b c p q = rw (p, q) refl

-- currents for two grids are refused exactly where they make no valid table
pub table_refused : (gate drain amps : List ℤ) → is_grid gate ≡ true → is_grid drain ≡ true → is_none (table_refusal gate drain amps) ≡ is_part (Listed gate drain amps)
unfolding table_refusal wrong_count large_current
table_refused gate drain amps g d =
    let size : is_none (large_current amps) ≡ list_all (λ z. nat_le (unsigned_abs z) (10 ^ 12)) amps =
    none_map CurrentTooLarge (position (λ z. not (nat_le (unsigned_abs z) (10 ^ 12))) amps) ∙ none_found (λ z. not (nat_le (unsigned_abs z) (10 ^ 12))) amps ∙ all_like (λ z. not (not (nat_le (unsigned_abs z) (10 ^ 12)))) (λ z. nat_le (unsigned_abs z) (10 ^ 12)) (λ z. not-not (nat_le (unsigned_abs z) (10 ^ 12))) amps in
    none_or (wrong_count gate drain amps) (large_current amps) ∙ rw (none_else (eqb (length amps) ((length gate + 1) * (length drain + 1))) (WrongCount ((length gate + 1) * (length drain + 1)) (length amps)), size) refl
    ∙ sym (both_true (is_grid gate) (is_grid drain) (eqb (length amps) ((length gate + 1) * (length drain + 1)) && list_all (λ z. nat_le (unsigned_abs z) (10 ^ 12)) amps) g d)
