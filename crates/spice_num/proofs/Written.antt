-- What is written for a number reads back as the number.
use Rattle.std.proofs.Common.{◌≡◌, ◌≢◌, ℕ, suc, ◌<◌, ◌≤◌, Bool, true, false, List, [], ◌∷◌, ◌++◌, length, lit≤, refl, arith, Ok, ℤ, pos, negsuc, ◌+ℤ◌, ◌-ℤ◌, one-add, ap, ◌∙◌}
use Rattle.std.proofs.lemmas.Bool.{lt-leb}
use Rattle.std.proofs.lemmas.Bool.Decides.{nat_tests}
use Rattle.std.proofs.lemmas.List.{append-nil}
use Rattle.std.proofs.lemmas.Fmt.{decimal_is_IsNumeral_wide}
use Rattle.std.specs.Char.{is_ascii_digit, digit_value, eq_ignore_ascii_case}
use Rattle.std.specs.Fmt.{decimal}
use Rattle.std.specs.Prelude.{unsigned_abs}
use Rattle.std.specs.Str.Parse.{AllDigits, digits_value}
use Rattle.spice_num.specs.declared.units.Unit.{Unit as NumUnit}
use Rattle.spice_num.specs.declared.units.Unit.TheVariants.{Time, Volt, Farad, Ohm, Amp, Length, Gain, Plain}
use Rattle.spice_num.specs.Number.{number_of, number_text, rounded, in_range, number_limit, is_bad_tail, tail_power}
use Rattle.spice_num.specs.Parts.{begins_with_digit, mantissa_digits, digits_of, after_digits, fraction_of, after_fraction, exponent_of, after_exponent, unsigned, is_negative, signed}
use Rattle.spice_num.proofs.Judged.{HasFitDigits, HasFitExponent, after_mantissa, tail_of, size_in, fit_tail}
use Rattle.spice_num.specs.Units.{unit_power, unit_suffix}

is_digit : (c : ℕ) → digit_value c < 10 → is_ascii_digit c ≡ true
is_digit c h = grind (arith, nat_tests)

-- digits end where something else begins
digits_before : (ds rest : List ℕ) → AllDigits 10 ds → begins_with_digit rest ≡ false → (digits_of (ds ++ rest) ≡ ds) × (after_digits (ds ++ rest) ≡ rest)
digits_before [] [] all ends = (refl, refl)
digits_before [] (c ∷ cs) all ends = rw ends (refl, refl)
digits_before (c ∷ cs) rest all ends =
    let ih = digits_before cs rest all.1 ends in
    rw (is_digit c all.0, one-add) (ap (λ xs. c ∷ xs) ih.0, ih.1)

not_plus : (c : ℕ) → digit_value c < 10 → eq_ignore_ascii_case 43 c ≡ false
not_plus c h = grind (arith, nat_tests)

not_minus : (c : ℕ) → digit_value c < 10 → eq_ignore_ascii_case 45 c ≡ false
not_minus c h = grind (arith, nat_tests)

-- digits are no sign
no_sign : (c : ℕ) (cs : List ℕ) → digit_value c < 10 → (unsigned (c ∷ cs) ≡ c ∷ cs) × (is_negative (c ∷ cs) ≡ false)
no_sign c cs h =
    let plus : eq_ignore_ascii_case 43 c ≡ false = not_plus c h in
    let minus : eq_ignore_ascii_case 45 c ≡ false = not_minus c h in
    rw (plus, minus) (refl, refl)

unsigned_digits : (ds rest : List ℕ) → AllDigits 10 ds → 0 < length ds → (unsigned (ds ++ rest) ≡ ds ++ rest) × (is_negative (ds ++ rest) ≡ false)
unsigned_digits [] rest all some = absurd (omega arith)
unsigned_digits (c ∷ cs) rest all some = no_sign c (cs ++ rest) all.0

-- a suffix ends the digits, has no point, and undoes the units per one
pub record IsSuffix (unit : NumUnit) : Type 0 where
  pub ends : begins_with_digit (unit_suffix unit) ≡ false
  pub fraction : fraction_of (unit_suffix unit) ≡ []
  pub rest : after_fraction (unit_suffix unit) ≡ unit_suffix unit
  pub exponent : unsigned_abs (exponent_of (unit_suffix unit)) ≤ 99
  pub tail : is_bad_tail (after_exponent (unit_suffix unit)) ≡ false
  pub power : exponent_of (unit_suffix unit) -ℤ pos 0 +ℤ tail_power (after_exponent (unit_suffix unit)) +ℤ pos (unit_power unit) ≡ pos 0

suffix_is : (unit : NumUnit) → IsSuffix unit
suffix_is Time = record { ends = refl; fraction = refl; rest = refl; exponent = lit≤ tt; tail = refl; power = refl }
suffix_is Volt = record { ends = refl; fraction = refl; rest = refl; exponent = lit≤ tt; tail = refl; power = refl }
suffix_is Farad = record { ends = refl; fraction = refl; rest = refl; exponent = lit≤ tt; tail = refl; power = refl }
suffix_is Ohm = record { ends = refl; fraction = refl; rest = refl; exponent = lit≤ tt; tail = refl; power = refl }
suffix_is Amp = record { ends = refl; fraction = refl; rest = refl; exponent = lit≤ tt; tail = refl; power = refl }
suffix_is Length = record { ends = refl; fraction = refl; rest = refl; exponent = lit≤ tt; tail = refl; power = refl }
suffix_is Gain = record { ends = refl; fraction = refl; rest = refl; exponent = lit≤ tt; tail = refl; power = refl }
suffix_is Plain = record { ends = refl; fraction = refl; rest = refl; exponent = lit≤ tt; tail = refl; power = refl }

rounded_whole : (n : ℕ) → rounded n (pos 0) ≡ n
unfolding rounded
rounded_whole n = omega arith

size_whole : (unit : NumUnit) (n v : ℕ) (f : List ℕ) (e e' t t' : ℤ) → v ≡ n → f ≡ [] → e ≡ e' → t ≡ t' → e' -ℤ pos 0 +ℤ t' +ℤ pos (unit_power unit) ≡ pos 0 → rounded v (e -ℤ pos (length f) +ℤ t +ℤ pos (unit_power unit)) ≡ n
size_whole unit n v f e e' t t' ev ef ee et power = rw (ev, ef, ee, et, power) (rounded_whole n)

in_range_at : (negative : Bool) (size n : ℕ) → size ≡ n → n < number_limit → in_range negative size ≡ Ok (signed negative n)
in_range_at negative size n e small = rw (e, lt-leb number_limit n small) refl

not_empty : (ds : List ℕ) → 0 < length ds → ds ≢ []
not_empty [] some = absurd (omega arith)
not_empty (d ∷ ds) some = λ e. cc

-- a sign or none, digits and the suffix read back as the number that the digits write
reads_back : (unit : NumUnit) (text ds : List ℕ) (n : ℕ) → unsigned text ≡ ds ++ unit_suffix unit → AllDigits 10 ds → 0 < length ds → digits_value 10 ds ≡ n → n < number_limit → number_of unit text ≡ Ok (signed (is_negative text) n)
reads_back unit text ds n without all some value small =
    let suffix = unit_suffix unit in
    let s = suffix_is unit in
    let d = digits_before ds suffix all s.ends in
    let fraction : fraction_of (after_digits (unsigned text)) ≡ [] = rw (without, d.1, s.fraction) refl in
    let mantissa : mantissa_digits (unsigned text) ≡ ds = rw (without, d.0, d.1, s.fraction) (append-nil ds) in
    let after : after_mantissa text ≡ suffix = rw (without, d.1, s.rest) refl in
    let exponent : exponent_of (after_mantissa text) ≡ exponent_of suffix = ap exponent_of after in
    let tail : tail_of text ≡ after_exponent suffix = ap after_exponent after in
    let digits : HasFitDigits text = record { some = rw mantissa (not_empty ds some); few = rw (mantissa, value) small } in
    let fit : HasFitExponent text = record { digits = digits; small = rw exponent s.exponent } in
    let number : digits_value 10 (mantissa_digits (unsigned text)) ≡ n = ap (digits_value 10) mantissa ∙ value in
    let size : size_in unit text ≡ n = size_whole unit n _ _ _ _ _ _ number fraction exponent (ap tail_power tail) s.power in
    fit_tail unit text fit (rw tail s.tail) ∙ in_range_at (is_negative text) (size_in unit text) n size small

pub written_reads : (value : ℤ) (unit : NumUnit) → unsigned_abs value < number_limit → number_of unit (number_text value unit) ≡ Ok value
written_reads (pos n) unit small =
    let d = decimal_is_IsNumeral_wide n (omega arith) in
    let plain = unsigned_digits (decimal n) (unit_suffix unit) d.0.1 d.0.0 in
    let read = reads_back unit (decimal n ++ unit_suffix unit) (decimal n) n plain.0 d.0.1 d.0.0 d.1 small in
    rw plain.1 at read
written_reads (negsuc n) unit small =
    let d = decimal_is_IsNumeral_wide (suc n) (omega arith) in
    reads_back unit (45 ∷ (decimal (suc n) ++ unit_suffix unit)) (decimal (suc n)) (suc n) refl d.0.1 d.0.0 d.1 small
