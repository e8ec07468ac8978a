-- How many digits a number has, and how large it is.
use Rattle.std.proofs.Common.{◌≡◌, ◌≢◌, ℕ, ◌+◌, ◌*◌, ◌^◌, ◌<◌, ◌≤◌, Bool, true, false, List, [], ◌∷◌, ◌++◌, length, refl, arith, one-add, inl, inr, drop, eqb, cond}
use Rattle.std.specs.Prelude.{codes}
use Rattle.std.proofs.lemmas.List.Sums.{take_while-cons}
use Rattle.std.proofs.Math.Nat.{pow-suc, add-mul}
use Rattle.std.proofs.lemmas.Bool.{cases_lt}
use Rattle.std.proofs.lemmas.Bool.Decides.{nat_tests, eqb_tells}
use Rattle.std.proofs.lemmas.Int.Digits.{digits_value-lt}
use Rattle.std.proofs.lemmas.Nat.{mul-le}
use Rattle.std.specs.Char.{is_ascii_digit, digit_value}
use Rattle.std.specs.Str.Parse.{AllDigits, digits_value, digits_value_after}
use Rattle.spice_num.proofs.Rounding.{ten_more}
use Rattle.spice_num.specs.Number.{significant, number_limit}
use Rattle.spice_num.specs.Parts.{digits_of, fraction_of, after_digits, mantissa_digits, begins}

one_place : (n d t x : ℕ) → n * 10 * t + d * t ≤ x → n * (t * 10) ≤ x
one_place n d t x h = omega arith

after_lower : (n : ℕ) (ds : List ℕ) → n * 10 ^ length ds ≤ digits_value_after 10 n ds
after_lower n [] = omega arith
after_lower n (c ∷ cs) =
    let t = 10 ^ length cs in
    let v = digit_value c in
    let rest : n * 10 * t + v * t ≤ digits_value_after 10 (n * 10 + v) cs = rw (← add-mul (n * 10) v t) (after_lower (n * 10 + v) cs) in
    rw (pow-suc 10 (length cs)) (one_place n v t (digits_value_after 10 (n * 10 + v) cs) rest)

digit_above_zero : (c : ℕ) → digit_value c < 10 → c ≢ 48 → 0 < digit_value c
digit_above_zero c h ne = grind (arith, nat_tests)

significant_zero : (c : ℕ) (cs : List ℕ) → c ≡ 48 → significant (c ∷ cs) ≡ significant cs
significant_zero c cs e = rw (e, one-add) refl

significant_other : (c : ℕ) (cs : List ℕ) → eqb c 48 ≡ false → significant (c ∷ cs) ≡ c ∷ cs
significant_other c cs h = rw h refl

value_zero : (c : ℕ) (cs : List ℕ) → c ≡ 48 → digits_value 10 (c ∷ cs) ≡ digits_value 10 cs
value_zero c cs e = rw e refl

value_lower : (ds : List ℕ) → AllDigits 10 ds → 0 < length (significant ds) → 10 ^ length (significant ds) ≤ 10 * digits_value 10 ds
value_lower [] all some = absurd (omega arith)
value_lower (c ∷ cs) all some = elim (eqb_tells c 48) [
  | inl h ↦ rw (significant_zero c cs h.1, value_zero c cs h.1) (value_lower cs all.1 (rw (significant_zero c cs h.1) at some))
  | inr h ↦ rw (significant_other c cs h.0) (
      omega (arith, pow-suc 10 (length cs), after_lower (0 * 10 + digit_value c) cs, mul-le 1 (10 ^ length cs) (0 * 10 + digit_value c) (10 ^ length cs) (omega (arith, digit_above_zero c all.0 h.1)) (omega arith)))
]

value_upper : (ds : List ℕ) → AllDigits 10 ds → digits_value 10 ds < 10 ^ length (significant ds)
value_upper [] all = omega arith
value_upper (c ∷ cs) all = elim (eqb_tells c 48) [
  | inl h ↦ rw (significant_zero c cs h.1, value_zero c cs h.1) (value_upper cs all.1)
  | inr h ↦ rw (significant_other c cs h.0) (digits_value-lt 10 (c ∷ cs) all)
]

-- more than 18 digits from the first that is not 0 write a number that is out of the limit, and no others do
pub many_digits : (ds : List ℕ) → AllDigits 10 ds → number_limit ≤ digits_value 10 ds → 18 < length (significant ds)
many_digits ds all h = elim (cases_lt 18 (length (significant ds))) [
  | inl more ↦ more
  | inr few ↦ absurd (omega (arith, value_upper ds all, ten_more (length (significant ds)) 18 few))
]

pub few_digits : (ds : List ℕ) → AllDigits 10 ds → digits_value 10 ds < number_limit → length (significant ds) ≤ 18
few_digits ds all h = elim (cases_lt 18 (length (significant ds))) [
  | inl more ↦ absurd (omega (arith, value_lower ds all (omega arith), ten_more 19 (length (significant ds)) more))
  | inr few ↦ few
]

digit_below_ten : (c : ℕ) → is_ascii_digit c ≡ true → digit_value c < 10
digit_below_ten c h = grind (arith, nat_tests)

AllDigits-if : (b : Bool) (ds : List ℕ) → (b ≡ true → AllDigits 10 ds) → AllDigits 10 (cond b ds [])
AllDigits-if true ds h = h refl
AllDigits-if false ds h = tt

AllDigits-taken : (xs : List ℕ) → AllDigits 10 (digits_of xs)
AllDigits-taken [] = tt
AllDigits-taken (c ∷ cs) =
    rw (take_while-cons is_ascii_digit c cs)
    (AllDigits-if (is_ascii_digit c) (c ∷ digits_of cs) (λ h. (digit_below_ten c h, AllDigits-taken cs)))

AllDigits-append : (xs ys : List ℕ) → AllDigits 10 xs → AllDigits 10 ys → AllDigits 10 (xs ++ ys)
AllDigits-append [] ys p q = q
AllDigits-append (x ∷ xs) ys p q = (p.0, AllDigits-append xs ys p.1 q)

pub AllDigits-mantissa : (text : List ℕ) → AllDigits 10 (mantissa_digits text)
AllDigits-mantissa text =
    let rest = after_digits text in
    AllDigits-append (digits_of text) (fraction_of rest) (AllDigits-taken text)
    (AllDigits-if (begins rest (codes ".")) (digits_of (drop 1 rest)) (λ _. AllDigits-taken (drop 1 rest)))
