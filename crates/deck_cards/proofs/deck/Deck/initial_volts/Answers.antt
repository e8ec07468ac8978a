use Rattle.std.proofs.Common.{◌≡◌, ◌∙◌, ap, subst, sym, pos, w64, to_z, of_z, unwrap_or, IfSome, rules}
use Rattle.std.proofs.lemmas.Int.{to_z-of_z}
use Rattle.semantics.specs.Deck.{initial_of}
use Rattle.deck_cards.proofs.deck.Deck.initial_volts.Goals as goal

pub returns : goal.returns
unfolding initial_of
returns c =
    let r = c.unwrap_or.result in
    subst (λ o. IfSome o (λ n. to_z w64 (of_z w64 r) ≡ initial_of c.args.self.now n)) (sym c.node.ensures)
    (to_z-of_z w64 r (search rules) ∙ c.unwrap_or.ensures ∙ ap (λ o. unwrap_or o (pos 0)) c.initial.ensures)
