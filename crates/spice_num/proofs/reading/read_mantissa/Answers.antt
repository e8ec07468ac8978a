use Rattle.std.proofs.Common.{◌^◌, ◌-◌}
use Rattle.spice_num.specs.Parts.{digits_of, after_digits, fraction_of}
use Rattle.spice_num.proofs.Digits.{capped_append}
use Rattle.spice_num.proofs.reading.read_mantissa.Goals as goal

pub returns-clause-value : goal.returns-clause-value
returns-clause-value c =
    let text = c.args.text.now in
    capped_append (2 ^ 64 - 1) c.read_digits-whole.result.value c.read_fraction-fraction.result.value (digits_of text) (fraction_of (after_digits text))
    c.read_digits-whole.ensures.value
    (rw c.read_digits-whole.ensures.rest at c.read_fraction-fraction.ensures.value)
