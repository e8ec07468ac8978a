-- The units that numbers count.
use Rattle.std.specs.Prelude.{ℕ, List, [], codes}
use Rattle.spice_num.specs.declared.units.Unit.{Unit as NumUnit}
use Rattle.spice_num.specs.declared.units.Unit.TheVariants.{Time, Volt, Farad, Ohm, Amp, Length, Gain, Plain}

-- how many of the unit are one, as a power of ten
abbrev pub unit_power : NumUnit → ℕ
unit_power Time = 12
unit_power Volt = 6
unit_power Farad = 18
unit_power Ohm = 3
unit_power Amp = 12
unit_power Length = 12
unit_power Gain = 12
unit_power Plain = 0

-- what is written behind the digits of a number that counts the unit
abbrev pub unit_suffix : NumUnit → List ℕ
unit_suffix Time = codes "p"
unit_suffix Volt = codes "u"
unit_suffix Farad = codes "e-18"
unit_suffix Ohm = codes "m"
unit_suffix Amp = codes "p"
unit_suffix Length = codes "p"
unit_suffix Gain = codes "p"
unit_suffix Plain = []
