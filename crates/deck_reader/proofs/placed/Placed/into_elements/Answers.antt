use Rattle.std.proofs.Common.{◌∙◌, sym, ap}
use Rattle.std.proofs.lemmas.Slice.Zip.{seconds-zip}
use Rattle.deck_reader.specs.Circuit.{elements_of}
use Rattle.deck_reader.proofs.placed.Placed.into_elements.Goals as goal

pub returns : goal.returns
returns c = sym (seconds-zip c.self.inside.lines.items c.self.inside.elements.items (sym c.self.invariant)) ∙ ap elements_of c.self.view_is
