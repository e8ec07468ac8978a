use Rattle.std.proofs.Common.{◌∙◌, ap, is_some}
use Rattle.semantics.specs.Deck.{look_up}
use Rattle.deck_cards.specs.Part.{part_of}
use Rattle.deck_cards.proofs.Once.{found_is}
use Rattle.deck_reader.proofs.parts.Parts.has.Goals as goal

pub returns : goal.returns
returns c =
    c.contains_key.ensures
    ∙ found_is part_of c.args.name.now c.self.inside.parts.entries
    ∙ ap (λ parts. is_some (look_up c.args.name.now parts)) c.self.view_is
