-- The parts that were read are those of the definition, and its tests come in the same order.
use Rattle.std.proofs.Common.{◌≡◌, ℕ, Bool, List, length, ℤ, pos, ◌+ℤ◌, ◌-ℤ◌, arith, rules, refl, sym, ◌∙◌}
use Rattle.std.proofs.lemmas.Int.{to_z-of_z}
use mir.Syntax.{w128}
use mir.Val.{SFits}
use Rattle.spice_num.specs.declared.units.Unit.{Unit as NumUnit}
use Rattle.spice_num.specs.Units.{unit_power}
use Rattle.std.proofs.lemmas.Result.{err_from_is_err_and}
use Rattle.std.specs.Str.Parse.{digits_value}
use Rattle.spice_num.specs.Number.{rounded, in_range, is_bad_tail, tail_power}
use Rattle.spice_num.specs.Parts.{is_negative, unsigned, after_digits, fraction_of, after_fraction, mantissa_digits, exponent_of, after_exponent}
use Rattle.spice_num.proofs.Judged.{HasFitExponent, fit_digits, after_mantissa, tail_of, size_in, no_digits, too_many, bad_exponent, bad_tail, fit_tail}
use Rattle.spice_num.proofs.reading.read_number.Goals as goal

pub returns-then-not-mantissa-clause-value : goal.returns-then-not-mantissa-clause-value
returns-then-not-mantissa-clause-value c =
    let tells = rw c.split_sign-is_negative.ensures.rest at c.read_mantissa-mantissa.ensures.has_digits.1 in
    sym (no_digits c.args.unit c.args.text.now c.read_mantissa-mantissa.result.has_digits tells c.if-not-mantissa.true)

pub returns-then-mantissa-ge-LIMIT-clause-value : goal.returns-then-mantissa-ge-LIMIT-clause-value
returns-then-mantissa-ge-LIMIT-clause-value c =
    let some = rw c.split_sign-is_negative.ensures.rest at (c.read_mantissa-mantissa.ensures.has_digits.0 c.if-not-mantissa.false) in
    let value = rw c.split_sign-is_negative.ensures.rest at c.read_mantissa-mantissa.ensures.value in
    sym (too_many c.args.unit c.args.text.now some (omega (arith, value)))

pub returns-in_err-exponent-clause-value : goal.returns-in_err-exponent-clause-value
returns-in_err-exponent-clause-value c =
    let m = c.read_mantissa-mantissa in
    let u = c.split_sign-is_negative in
    let text = c.args.text.now in
    let rest : m.result.rest.now ≡ after_mantissa text = rw u.ensures.rest at m.ensures.rest in
    let fit = fit_digits text u.result.1.now m.result.has_digits m.result.value u.ensures.rest m.ensures.has_digits.0 c.if-not-mantissa.false m.ensures.value (omega arith) in
    let p = err_from_is_err_and c.from_residual.result c.from_residual.ensures.1 in
    rw (p.1, p.2, c.in_err-exponent.ensures.refusal) (sym (bad_exponent c.args.unit text fit (rw rest at c.in_err-exponent.ensures.size)))

pub returns-then-is_bad_tail-clause-value : goal.returns-then-is_bad_tail-clause-value
returns-then-is_bad_tail-clause-value c =
    let m = c.read_mantissa-mantissa in
    let u = c.split_sign-is_negative in
    let text = c.args.text.now in
    let rest : m.result.rest.now ≡ after_mantissa text = rw u.ensures.rest at m.ensures.rest in
    let digits = fit_digits text u.result.1.now m.result.has_digits m.result.value u.ensures.rest m.ensures.has_digits.0 c.if-not-mantissa.false m.ensures.value (omega arith) in
    let fit : HasFitExponent text = record { digits = digits; small = rw rest at c.in_ok-exponent.ensures.size } in
    let bad : c.is_bad_tail.result ≡ is_bad_tail (tail_of text) = rw (c.in_ok-exponent.ensures.rest, rest) at c.is_bad_tail.ensures in
    sym (bad_tail c.args.unit text fit (rw bad at c.if-is_bad_tail.true))

-- the parts that were read, one after the other, are those of the definition
joined : (unit : NumUnit) (text u rest tail : List ℕ) (negative : Bool) (value places : ℕ) (exponent tail_up power : ℤ) → u ≡ unsigned text → negative ≡ is_negative text → value ≡ digits_value 10 (mantissa_digits u) → places ≡ length (fraction_of (after_digits u)) → rest ≡ after_fraction (after_digits u) → exponent ≡ exponent_of rest → tail ≡ after_exponent rest → tail_up ≡ tail_power tail → power ≡ exponent -ℤ pos places +ℤ tail_up +ℤ pos (unit_power unit) → in_range negative (rounded value power) ≡ in_range (is_negative text) (size_in unit text)
joined unit text u rest tail negative value places exponent tail_up power eu en ev ep er ee et eq ew =
    rw (ew, eq, et, ee, er, ep, ev, en, eu) refl

pub returns-clause-value : goal.returns-clause-value
returns-clause-value c =
    let m = c.read_mantissa-mantissa in
    let u = c.split_sign-is_negative in
    let text = c.args.text.now in
    let rest : m.result.rest.now ≡ after_mantissa text = rw u.ensures.rest at m.ensures.rest in
    let digits = fit_digits text u.result.1.now m.result.has_digits m.result.value u.ensures.rest m.ensures.has_digits.0 c.if-not-mantissa.false m.ensures.value (omega arith) in
    let fit : HasFitExponent text = record { digits = digits; small = rw rest at c.in_ok-exponent.ensures.size } in
    let bad : c.is_bad_tail.result ≡ is_bad_tail (tail_of text) = rw (c.in_ok-exponent.ensures.rest, rest) at c.is_bad_tail.ensures in
    let exponent_fits : SFits w128 c.in_ok-exponent.exponent = search rules in
    let tail_fits : SFits w128 c.tail_power.result = search rules in
    let power_fits : SFits w128 c.total_power-power.result = search rules in
    let power = rw (to_z-of_z w128 c.in_ok-exponent.exponent exponent_fits, to_z-of_z w128 c.tail_power.result tail_fits) at c.total_power-power.ensures in
    let exact : m.result.value ≡ digits_value 10 (mantissa_digits u.result.1.now) = omega (arith, m.ensures.value) in
    (rw (to_z-of_z w128 c.total_power-power.result power_fits) at c.number_from.ensures.value)
    ∙ joined c.args.unit text u.result.1.now m.result.rest.now c.in_ok-exponent.tail.now _ _ _ _ _ _ u.ensures.rest u.ensures.sign exact m.ensures.places m.ensures.rest c.in_ok-exponent.ensures.value c.in_ok-exponent.ensures.rest c.tail_power.ensures.value power
    ∙ sym (fit_tail c.args.unit text fit (rw bad at c.if-is_bad_tail.false))
