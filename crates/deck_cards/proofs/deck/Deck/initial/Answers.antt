use Rattle.std.proofs.Common.{◌∙◌, ap, sym}
use Rattle.semantics.specs.Deck.{look_up}
use Rattle.deck_cards.proofs.Once.{look_up_is}
use Rattle.deck_cards.proofs.deck.Deck.initial.Goals as goal

pub returns : goal.returns
returns c =
    let n = c.args.node.now in
    c.copied.ensures ∙ c.get.ensures.value ∙ look_up_is n c.voltages.result.now.entries ∙ ap (look_up n) (c.voltages.ensures ∙ ap (λ d. d.initial) (c.deref.ensures ∙ c.self.view_is))
