use Rattle.std.proofs.Common.{◌∙◌, ap, sym}
use Rattle.std.specs.Option.{option_map}
use Rattle.semantics.specs.Deck.{look_up}
use Rattle.deck_cards.specs.Part.{part_of}
use Rattle.deck_cards.proofs.Once.{look_up_is, look_up_map, option_copied_map}
use Rattle.deck_cards.proofs.deck.Deck.part.Goals as goal

pub returns : goal.returns
returns c =
    let n = c.args.name.now in
    let parts = c.parts.result.now.entries in
    option_copied_map part_of c.get.result ∙ ap (option_map part_of) (c.get.ensures.value ∙ look_up_is n parts) ∙ look_up_map part_of n parts ∙ ap (look_up n) (c.parts.ensures ∙ ap (λ d. d.parts) (c.deref.ensures ∙ c.self.view_is))
