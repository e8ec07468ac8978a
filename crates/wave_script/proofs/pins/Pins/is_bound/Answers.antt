use Rattle.std.proofs.Common.{◌∙◌, ap, false, unwrap_or}
use Rattle.semantics.specs.Deck.{look_up}
use Rattle.deck_cards.proofs.Once.{look_up_is}
use Rattle.wave_script.proofs.pins.Pins.is_bound.Goals as goal

pub returns : goal.returns
returns c =
    let n = c.args.name.now in
    c.unwrap_or.ensures
    ∙ ap (λ o. unwrap_or o false) (c.copied.ensures ∙ c.get.ensures.value ∙ look_up_is n c.self.inside.names.entries ∙ ap (look_up n) c.self.view_is)
