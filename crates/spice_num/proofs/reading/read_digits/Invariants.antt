-- What is left of the text gives what the whole text gives.
use Rattle.std.proofs.Common.{◌≡◌, ◌^◌, ◌-◌, ◌≤◌, min, length}
use Rattle.std.specs.Char.{is_ascii_digit}
use Rattle.std.specs.List.{take_while}
use Rattle.std.specs.Str.Parse.{digits_value_after}
use Rattle.spice_num.specs.Parts.{drop_while}
use Rattle.spice_num.proofs.reading.read_digits.Given as goal

abbrev pub invariant-loop-rest : goal.invariant-loop-rest
invariant-loop-rest l = record {
  value : min (2 ^ 64 - 1) (digits_value_after 10 l.value (take_while is_ascii_digit l.rest)) ≡ min (2 ^ 64 - 1) (digits_value_after 10 l.before (take_while is_ascii_digit l.text));
  fits : l.value ≤ 2 ^ 64 - 1;
  rest : drop_while is_ascii_digit l.rest ≡ drop_while is_ascii_digit l.text;
}

abbrev pub decreases-loop-rest : goal.decreases-loop-rest
decreases-loop-rest l = length l.rest
