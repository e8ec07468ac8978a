-- The numbers of the nodes that a change of a deck can put at fault.
use Rattle.std.specs.Prelude.{◌≡◌, ℕ, ◌<◌, List, length, All, Contains}
use Rattle.std.specs.List.Sorted.{IsStrictlyIncreasing}
use Rattle.semantics.specs.Deck.{DeckValue}
use Rattle.semantics.specs.Edit.{IsNear}
use Rattle.circuit_model.specs.declared.node_kind.NodeKind.TheVariants.{Free}
use Rattle.circuit_model.specs.Numbers.{CircuitValue, kind_at, name_at}

-- the node of this number is free in the circuit, and near the change from the one deck to the other
abbrev pub IsDamaged : DeckValue → DeckValue → CircuitValue → ℕ → Type 0
IsDamaged old new c i = (kind_at c i ≡ Free) × IsNear old new (name_at c i)

-- these are the numbers of all such nodes, and they rise
pub record AreNear (old new : DeckValue) (c : CircuitValue) (numbers : List ℕ) : Type 0 where
  pub rising : IsStrictlyIncreasing numbers
  pub sound : All (IsDamaged old new c) numbers
  pub complete : (i : ℕ) → i < length c.names → kind_at c i ≡ Free → IsNear old new (name_at c i) → Contains numbers i
