-- What a text says, from what is known of its parts.
use Rattle.std.proofs.Common.{◌≡◌, ◌≢◌, ℕ, ◌-◌, ◌^◌, ◌<◌, ◌≤◌, min, Bool, true, false, List, [], ◌∷◌, length, refl, arith, Err, eqb, ltb}
use Rattle.std.proofs.lemmas.Bool.{lt-ltb, le-ltb, ne_eqb}
use Rattle.std.specs.Prelude.{unsigned_abs, pos, ◌+ℤ◌, ◌-ℤ◌}
use Rattle.std.specs.Str.Parse.{digits_value}
use Rattle.spice_num.specs.declared.refusals.NumRefusal.TheVariants.{NoDigits, TooManyDigits, BadExponent, BadTail}
use Rattle.spice_num.specs.declared.units.Unit.{Unit as NumUnit}
use Rattle.spice_num.specs.Number.{number_of, number_of_parts, significant, is_bad_tail, tail_power, rounded, in_range, number_limit}
use Rattle.spice_num.specs.Units.{unit_power}
use Rattle.spice_num.specs.Parts.{parts_of, is_negative, unsigned, after_digits, fraction_of, after_fraction, mantissa_digits, exponent_of, after_exponent}
use Rattle.spice_num.proofs.Significant.{many_digits, few_digits, AllDigits-mantissa}

some_items : (xs : List ℕ) → xs ≢ [] → eqb (length xs) 0 ≡ false
some_items [] h = absurd (h refl)
some_items (x ∷ xs) h = ne_eqb (length (x ∷ xs)) 0 (omega arith)

no_items : (xs : List ℕ) (some : Bool) → (xs ≢ [] → some ≡ true) → some ≡ false → xs ≡ []
no_items [] some h none = refl
no_items (x ∷ xs) some h none = let yes : some ≡ true = h (λ e. cc) in cc

pub no_digits : (unit : NumUnit) (text : List ℕ) (some : Bool) → (mantissa_digits (unsigned text) ≢ [] → some ≡ true) → some ≡ false → number_of unit text ≡ Err NoDigits
unfolding number_of number_of_parts parts_of
no_digits unit text some h none = rw (no_items (mantissa_digits (unsigned text)) some h none) refl

pub too_many : (unit : NumUnit) (text : List ℕ) → mantissa_digits (unsigned text) ≢ [] → number_limit ≤ digits_value 10 (mantissa_digits (unsigned text)) → number_of unit text ≡ Err TooManyDigits
unfolding number_of number_of_parts parts_of
too_many unit text some many =
    let ds = mantissa_digits (unsigned text) in
    rw (some_items ds some, lt-ltb 18 (length (significant ds)) (many_digits ds (AllDigits-mantissa (unsigned text)) many)) refl

-- the digits are neither too few nor too many
pub record HasFitDigits (text : List ℕ) : Type 0 where
  pub some : mantissa_digits (unsigned text) ≢ []
  pub few : digits_value 10 (mantissa_digits (unsigned text)) < number_limit

-- as the mantissa that was read tells it
pub fit_digits : (text u : List ℕ) (some : Bool) (value : ℕ) → u ≡ unsigned text → (some ≡ true → mantissa_digits u ≢ []) → some ≡ true → value ≡ min (2 ^ 64 - 1) (digits_value 10 (mantissa_digits u)) → value < number_limit → HasFitDigits text
fit_digits text u some value e tells is_some capped small =
    let all : value ≡ min (2 ^ 64 - 1) (digits_value 10 (mantissa_digits (unsigned text))) = rw e at capped in
    record { some = rw e at (tells is_some); few = omega arith }

few_significant : (text : List ℕ) → HasFitDigits text → ltb 18 (length (significant (mantissa_digits (unsigned text)))) ≡ false
few_significant text h =
    let ds = mantissa_digits (unsigned text) in
    le-ltb 18 (length (significant ds)) (few_digits ds (AllDigits-mantissa (unsigned text)) h.few)

abbrev pub after_mantissa : List ℕ → List ℕ
after_mantissa text = after_fraction (after_digits (unsigned text))

abbrev pub tail_of : List ℕ → List ℕ
tail_of text = after_exponent (after_mantissa text)

pub bad_exponent : (unit : NumUnit) (text : List ℕ) → HasFitDigits text → 99 < unsigned_abs (exponent_of (after_mantissa text)) → number_of unit text ≡ Err BadExponent
unfolding number_of number_of_parts parts_of
bad_exponent unit text fit large =
    rw (some_items (mantissa_digits (unsigned text)) fit.some, few_significant text fit, lt-ltb 99 (unsigned_abs (exponent_of (after_mantissa text))) large) refl

-- the exponent is not too large either
pub record HasFitExponent (text : List ℕ) : Type 0 where
  pub digits : HasFitDigits text
  pub small : unsigned_abs (exponent_of (after_mantissa text)) ≤ 99

pub bad_tail : (unit : NumUnit) (text : List ℕ) → HasFitExponent text → is_bad_tail (tail_of text) ≡ true → number_of unit text ≡ Err BadTail
unfolding number_of number_of_parts parts_of
bad_tail unit text fit bad =
    rw (some_items (mantissa_digits (unsigned text)) fit.digits.some, few_significant text fit.digits, le-ltb 99 (unsigned_abs (exponent_of (after_mantissa text))) fit.small, bad) refl

-- how many units the text says, without its sign
abbrev pub size_in : NumUnit → List ℕ → ℕ
size_in unit text = rounded (digits_value 10 (mantissa_digits (unsigned text))) (exponent_of (after_mantissa text) -ℤ pos (length (fraction_of (after_digits (unsigned text)))) +ℤ tail_power (tail_of text) +ℤ pos (unit_power unit))

pub fit_tail : (unit : NumUnit) (text : List ℕ) → HasFitExponent text → is_bad_tail (tail_of text) ≡ false → number_of unit text ≡ in_range (is_negative text) (size_in unit text)
unfolding number_of number_of_parts parts_of
fit_tail unit text fit good =
    rw (some_items (mantissa_digits (unsigned text)) fit.digits.some, few_significant text fit.digits, le-ltb 99 (unsigned_abs (exponent_of (after_mantissa text))) fit.small, good) refl
