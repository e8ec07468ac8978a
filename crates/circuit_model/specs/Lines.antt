-- How a wave grows by the line of one tick.
use Rattle.std.specs.Prelude.{ℕ, ℤ, pos, ◌+ℤ◌, slice_index_or, ◌-◌, List, [], ◌∷◌, ◌++◌, length, Option, Some, None, if◌then◌else◌, slice_get}
use Rattle.semantics.specs.declared.line.Line.{Line}
use Rattle.semantics.specs.declared.fraction.Fraction.{Fraction}
use Rattle.semantics.specs.Wave.{goes_on}
use Rattle.circuit_model.specs.Ends.{no_volts}

-- the line in force at the end of a wave
abbrev pub last : List Line → Option Line
last lines = slice_get lines (length lines - 1)

-- the wave so far with this line, which begins where the last one does not go on
unfoldable pub continued : List Line → Line → List Line
continued lines l = elim (last lines) [
  | None ↦ lines ++ l ∷ []
  | Some in_force ↦ if goes_on in_force l then lines else lines ++ l ∷ []
]

-- the voltage of a node that gains this in a tick
abbrev pub moved : Fraction → ℤ → Fraction
moved v rate = record { num = v.num +ℤ rate; den = v.den }

-- the line of node i at a tick, where these are the voltages and what they gain
abbrev pub line_of : ℕ → List Fraction → List ℤ → ℕ → Line
line_of tick volts rates i = record {
  start = tick;
  num = (slice_index_or volts i no_volts).num;
  rate = slice_index_or rates i (pos 0);
  den = (slice_index_or volts i no_volts).den;
}
