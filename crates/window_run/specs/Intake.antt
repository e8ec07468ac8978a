-- The lines with which the nodes of a window set out.
use Rattle.std.specs.Prelude.{◌≡◌, ℕ, ◌+◌, ◌*◌, ◌<◌, ◌≤◌, ◌^◌, pos, unsigned_abs, List, length}
use Rattle.semantics.specs.declared.fraction.Fraction.{Fraction}
use Rattle.semantics.specs.declared.line.Line.{Line}
use Rattle.circuit_model.specs.declared.node_kind.NodeKind.TheVariants.{Free}
use Rattle.circuit_model.specs.Numbers.{CircuitValue, kind_at}
use Rattle.histories.specs.Record.{RecordValue, pair_at}
use Rattle.histories.specs.Track.{line_of}

-- a line from a tick on, without a slope; a free node begins at its voltage in the record
pub record IsFirst (c : CircuitValue) (past : RecordValue) (from node : ℕ) (l : Line) : Type 0 where
  pub start : l.start ≡ from
  pub rate : l.rate ≡ pos 0
  pub den_from : 1 ≤ l.den
  pub den_to : l.den ≤ 10 ^ 12
  pub num : unsigned_abs l.num ≤ 10 ^ 21 + 10 ^ 15 * from
  pub volts : kind_at c node ≡ Free → record { num = l.num; den = l.den } ≡ pair_at past node from

abbrev pub AreFirst : CircuitValue → RecordValue → ℕ → List Line → Type 0
AreFirst c past from ls = (i : ℕ) → i < length ls → IsFirst c past from i (line_of ls i)
