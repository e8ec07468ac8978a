use Rattle.std.proofs.Common.{◌∙◌, map, ap, sym}
use Rattle.semantics.specs.Deck.{name_of}
use Rattle.semantics.specs.Valid.{differ}
use Rattle.deck_cards.specs.Edits.{edited}
use Rattle.deck_cards.proofs.Accepted.{fits}
use Rattle.deck_cards.proofs.apply.remake.Goals as goal

pub names_of-requires : goal.names_of-requires
names_of-requires c =
    let new = edited c.args.kept.now c.args.edit.now in
    ap (λ es. differ (map name_of es)) (c.deref-3.ensures.value ∙ sym (ap (λ d. d.elements) c.requires.elements)) ∙ (fits new c.in_ok-check_remade.ensures.valid).names
