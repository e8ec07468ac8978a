-- A record that has the run of a circuit, and where the line of a driven node turns before the stop.
use Rattle.std.specs.Prelude.{ℕ, ◌<◌, ◌≤◌, Option, MatchOption}
use Rattle.semantics.specs.declared.line.Line.{Line}
use Rattle.semantics.specs.Record.{IsRunTo}
use Rattle.histories.specs.Record.{RecordValue, keeps, pair_at}
use Rattle.circuit_model.specs.Drive.{StaysTo, TurnsAt}
use Rattle.circuit_model.specs.Numbers.{CircuitValue}
use Rattle.circuit_model.specs.Records.{IsRecordOf, record_of}

-- it is a record of the circuit, and the run up to the stop of the deck
pub record IsRunOf (c : CircuitValue) (r : RecordValue) : Type 0 where
  pub recorded : IsRecordOf c r.stop (keeps r)
  pub run : IsRunTo c.deck (record_of c (pair_at r)) c.deck.stop

-- the least tick after t and before the stop at which the line turns; None where it stays up to there
abbrev pub IsTurnBefore : (ℕ → Line) → ℕ → ℕ → Option ℕ → Type 0
IsTurnBefore line stop t next =
    MatchOption next ((s : ℕ) → t ≤ s → s < stop → StaysTo line t s) (λ turn. TurnsAt line stop t turn × (turn < stop))
