use Rattle.std.proofs.Common.{◌∙◌}
use Rattle.deck_reader.proofs.CircuitLemmas.{named_by}
use Rattle.deck_reader.proofs.circuit.Circuit.is_named.Goals as goal

pub returns : goal.returns
returns c = c.contains.ensures ∙ named_by c.self.inside.placed c.args.self.now c.self.inside.names.keys c.args.name.now c.self.invariant.named c.self.view_is
