use Rattle.std.proofs.Common.{◌∙◌, length, ap}
use Rattle.deck_reader.proofs.PlacedLemmas.{zip-length}
use Rattle.deck_reader.proofs.placed.Placed.len.Goals as goal

pub returns : goal.returns
returns c = c.len.ensures ∙ c.self.inside.elements.ok.0 ∙ zip-length c.self.inside.lines.items c.self.inside.elements.items c.self.invariant ∙ ap length c.self.view_is
