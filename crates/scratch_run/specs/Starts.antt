-- How the nodes of a circuit begin.
use Rattle.std.specs.Prelude.{◌≡◌, ℕ, ◌<◌, true}
use Rattle.semantics.specs.Record.{start_pair}
use Rattle.histories.specs.Record.{RecordValue, keeps, pair_at}
use Rattle.circuit_model.specs.declared.node_kind.NodeKind.TheVariants.{Free}
use Rattle.circuit_model.specs.Numbers.{CircuitValue, kind_at, name_at}

-- the record keeps a node, and has its capacitance at its initial voltage at tick 0
pub record Begins (c : CircuitValue) (r : RecordValue) (node : ℕ) : Type 0 where
  pub kept : keeps r node ≡ true
  pub first : pair_at r node 0 ≡ start_pair c.deck (name_at c node)

-- and so it does with all free nodes below this number
abbrev pub HasFirst : CircuitValue → RecordValue → ℕ → Type 0
HasFirst c r count = (i : ℕ) → i < count → kind_at c i ≡ Free → Begins c r i

-- the node begins, where it is free, and those that began still do
pub record HasStarted (c : CircuitValue) (node : ℕ) (old new : RecordValue) : Type 0 where
  pub here : kind_at c node ≡ Free → Begins c new node
  pub others : (i : ℕ) → i < node → Begins c old i → Begins c new i
