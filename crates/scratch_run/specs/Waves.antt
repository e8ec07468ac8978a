-- How many lines the waves of a circuit have.
use Rattle.std.specs.Prelude.{ℕ, length, sum_by}
use Rattle.semantics.specs.Wave.{wave}
use Rattle.circuit_model.specs.Numbers.{CircuitValue, name_at}
use Rattle.window_run.specs.Circuit.{free_numbers}

-- how many lines the waves of all free nodes have together
unfoldable pub wave_lines : CircuitValue → ℕ
wave_lines c = sum_by (λ i. length (wave c.deck (name_at c i))) (free_numbers c)
