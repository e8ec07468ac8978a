use Rattle.std.proofs.Common.{◌≡◌, ◌-◌, ◌^◌, [], arith, ◌∙◌, sym}
use Rattle.std.specs.Char.{is_ascii_digit}
use Rattle.std.specs.List.{take_while}
use Rattle.spice_num.proofs.Digits.{read_digit, drop_digit, take_none}
use Rattle.spice_num.proofs.reading.read_digits.Goals.{in_default, in_default-2, in_default-3}
use Rattle.spice_num.proofs.reading.read_digits.Goals as goal

pub loop-rest-preserved : goal.loop-rest-preserved
loop-rest-preserved c =
    let xs = c.loop-rest.rest.now in
    record {
      value = read_digit (2 ^ 64 - 1) c.loop-rest.value c.saturating_add-value.result xs (omega arith) (omega arith) (omega arith) (omega arith) ∙ c.loop-rest.invariant.value;
      fits = omega arith;
      rest = sym (drop_digit xs (omega arith) (omega arith) (omega arith)) ∙ c.loop-rest.invariant.rest;
    }

pub returns-clause-value : goal.returns-clause-value
returns-clause-value c =
    let none : take_while is_ascii_digit c.loop-rest.rest.now ≡ [] = take_none c.loop-rest.rest.now (λ some low high. elim c.if-rest-lt1.branch [ in_default w ↦ omega arith | in_default-2 w ↦ omega arith | in_default-3 w ↦ omega arith ]) in
    omega (arith, rw none at c.loop-rest.invariant.value)
