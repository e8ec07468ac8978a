-- What number of a unit a text writes, and the text that is written for a number.
use Rattle.std.specs.Prelude.{ℕ, ◌+◌, ◌*◌, ◌/◌, ◌^◌, Bool, ◌||◌, not, nat_lt, nat_le, ◌==◌, if◌then◌else◌, List, ◌++◌, length, codes, ℤ, pos, negsuc, ◌+ℤ◌, ◌-ℤ◌, neg_ℤ, Result, Ok, Err, unsigned_abs}
use Rattle.std.specs.Char.{is_ascii_alphabetic}
use Rattle.std.specs.Fmt.{signed_decimal}
use Rattle.std.specs.List.{list_all}
use Rattle.std.specs.Str.Parse.{digits_value}
use Rattle.spice_num.specs.declared.refusals.NumRefusal.{NumRefusal}
use Rattle.spice_num.specs.declared.refusals.NumRefusal.TheVariants.{NoDigits, TooManyDigits, BadExponent, BadTail, OutOfUnit}
use Rattle.spice_num.specs.declared.units.Unit.{Unit as NumUnit}
use Rattle.spice_num.specs.Parts.{Parts, parts_of, begins, drop_while, signed}
use Rattle.spice_num.specs.Units.{unit_power, unit_suffix}

-- a number has at most 18 digits, so its size is below this
abbrev pub number_limit : ℕ
number_limit = 10 ^ 18

-- the digits from the first that is not 0
abbrev pub significant : List ℕ → List ℕ
significant digits = drop_while (λ c. c == 48) digits

-- a tail is refused where `mil` stands first, or a character is no letter
abbrev pub is_bad_tail : List ℕ → Bool
is_bad_tail tail = begins tail (codes "mil") || not (list_all is_ascii_alphabetic tail)

-- the factor that a tail begins with, as a power of ten: mega, tera, giga, kilo, milli, micro, nano, pico, femto, or one
abbrev pub tail_power : List ℕ → ℤ
tail_power tail =
    if begins tail (codes "meg") then pos 6
    else if begins tail (codes "t") then pos 12
    else if begins tail (codes "g") then pos 9
    else if begins tail (codes "k") then pos 3
    else if begins tail (codes "m") then neg_ℤ (pos 3)
    else if begins tail (codes "u") then neg_ℤ (pos 6)
    else if begins tail (codes "n") then neg_ℤ (pos 9)
    else if begins tail (codes "p") then neg_ℤ (pos 12)
    else if begins tail (codes "f") then neg_ℤ (pos 15)
    else pos 0

-- ten to this power, as a fraction: what stands over the line, and what stands under it
abbrev pub tens_over : ℤ → ℕ
tens_over (pos k) = 10 ^ k
tens_over (negsuc k) = 1

abbrev pub tens_under : ℤ → ℕ
tens_under (pos k) = 1
tens_under (negsuc k) = 10 ^ (k + 1)

-- the whole number nearest to a fraction, and the one above it where two are as near
abbrev pub nearest : ℕ → ℕ → ℕ
nearest over under = (2 * over + under) / (2 * under)

-- n times ten to this power, rounded to a whole number
unfoldable pub rounded : ℕ → ℤ → ℕ
rounded n power = nearest (n * tens_over power) (tens_under power)

-- the digits before and behind the point, which are read as one whole number
abbrev pub all_digits : Parts → List ℕ
all_digits parts = parts.whole ++ parts.fraction

-- by what power of ten that number is multiplied: the exponent's, less one for each digit behind the point, the tail's factor and the units per one
abbrev pub power_of : NumUnit → Parts → ℤ
power_of unit parts = parts.exponent -ℤ pos (length parts.fraction) +ℤ tail_power parts.tail +ℤ pos (unit_power unit)

-- how many units that is, without its sign
abbrev pub size_of : NumUnit → Parts → ℕ
size_of unit parts = rounded (digits_value 10 (all_digits parts)) (power_of unit parts)

-- the number of this sign and size, refused where it has more than 18 digits
abbrev pub in_range : Bool → ℕ → Result ℤ NumRefusal
in_range negative size = if nat_le number_limit size then Err OutOfUnit else Ok (signed negative size)

-- how many units the parts say, or the first refusal that holds
unfoldable pub number_of_parts : NumUnit → Parts → Result ℤ NumRefusal
number_of_parts unit parts =
    if length (all_digits parts) == 0 then Err NoDigits
    else if nat_lt 18 (length (significant (all_digits parts))) then Err TooManyDigits
    else if nat_lt 99 (unsigned_abs parts.exponent) then Err BadExponent
    else if is_bad_tail parts.tail then Err BadTail
    else in_range parts.negative (size_of unit parts)

-- how many units a text says, or why it says none
unfoldable pub number_of : NumUnit → List ℕ → Result ℤ NumRefusal
number_of unit text = number_of_parts unit (parts_of text)

-- the text that is written for a number of a unit
abbrev pub number_text : ℤ → NumUnit → List ℕ
number_text value unit = signed_decimal value ++ unit_suffix unit
