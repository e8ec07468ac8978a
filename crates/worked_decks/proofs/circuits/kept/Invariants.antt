-- The free nodes so far are kept.
use Rattle.std.proofs.Common.{◌≡◌, ℕ, ◌<◌, true}
use Rattle.circuit_model.specs.declared.node_kind.NodeKind.TheVariants.{Free}
use Rattle.circuit_model.specs.Numbers.{kind_at}
use Rattle.histories.specs.Record.{keeps}
use Rattle.worked_decks.proofs.circuits.kept.Given as goal

abbrev pub invariant-loop-node : goal.invariant-loop-node
invariant-loop-node l = record {
  stop : l.past.stop ≡ l.circuit.deck.stop;
  kept : (i : ℕ) → i < l.node → kind_at l.circuit i ≡ Free → keeps l.past i ≡ true;
}
