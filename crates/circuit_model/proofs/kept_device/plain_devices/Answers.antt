-- The names are the nodes of the deck.
use Rattle.std.proofs.Common.{◌≡◌, ◌∙◌, arith}
use Rattle.semantics.specs.Deck.{DeckValue, nodes}
use Rattle.semantics.proofs.Limits.{Limits, limits}
use Rattle.circuit_model.proofs.Named.{with_nodes_none}
use Rattle.circuit_model.proofs.kept_device.plain_devices.Goals as goal

pub with_nodes-requires : goal.with_nodes-requires
with_nodes-requires c =
    let l : Limits c.args.deck.now = limits c.args.deck.now c.requires in
    rw c.new.ensures (omega (arith, l.few_nodes))

pub returns : goal.returns
returns c =
    let d : DeckValue = c.args.deck.now in
    let same : c.in_ok-names.names ≡ nodes d = c.in_ok-names.ensures.names ∙ rw c.new.ensures (with_nodes_none d) in
    rw (← same) c.kept_devices.ensures
