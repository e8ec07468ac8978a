-- The four powers fit, and so do their sums.
use Rattle.std.proofs.Common.{◌≤◌, arith, lit≤}
use Rattle.std.proofs.lemmas.Int.{ints}
use Rattle.spice_num.specs.declared.units.Unit.{Unit as NumUnit}
use Rattle.spice_num.specs.declared.units.Unit.TheVariants.{Time, Volt, Farad, Ohm, Amp, Length, Gain, Plain}
use Rattle.spice_num.specs.Units.{unit_power}
use Rattle.spice_num.proofs.reading.total_power.Goals as goal

unit_power_le : (unit : NumUnit) → unit_power unit ≤ 18
unit_power_le Time = lit≤ tt
unit_power_le Volt = lit≤ tt
unit_power_le Farad = lit≤ tt
unit_power_le Ohm = lit≤ tt
unit_power_le Amp = lit≤ tt
unit_power_le Length = lit≤ tt
unit_power_le Gain = lit≤ tt
unit_power_le Plain = lit≤ tt

pub overflow_add-result-2 : goal.overflow_add-result-2
overflow_add-result-2 c = omega (arith, ints, unit_power_le c.args.unit)

pub returns : goal.returns
returns c = omega (arith, ints, unit_power_le c.args.unit)
