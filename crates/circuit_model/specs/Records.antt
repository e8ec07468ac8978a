-- A record that is kept by the numbers of a circuit's nodes.
use Rattle.std.specs.Prelude.{◌≡◌, ℕ, Bool, true}
use Rattle.semantics.specs.declared.fraction.Fraction.{Fraction}
use Rattle.semantics.specs.Record.{Record, named}
use Rattle.circuit_model.specs.declared.node_kind.NodeKind.TheVariants.{Free}
use Rattle.circuit_model.specs.Numbers.{CircuitValue, kind_at}

-- the pair of each number at each tick, as a record of the names that have these numbers
abbrev pub record_of : CircuitValue → (ℕ → ℕ → Fraction) → Record
record_of c pairs = named c.names pairs

-- a record up to this tick, which keeps these numbers, goes to the stop tick of the circuit's deck and keeps each free node
pub record IsRecordOf (c : CircuitValue) (until : ℕ) (keeps : ℕ → Bool) : Type 0 where
  pub stop : until ≡ c.deck.stop
  pub keeps_free : (i : ℕ) → kind_at c i ≡ Free → keeps i ≡ true
