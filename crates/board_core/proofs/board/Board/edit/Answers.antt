-- The board with the edit behind the others.
use Rattle.std.proofs.Common.{◌≡◌, List, [], ◌∷◌, ◌++◌, None, sym, ap, ◌∙◌, subst}
use Rattle.std.specs.Arc.{arc_value}
use Rattle.deck_cards.specs.declared.edit.Edit.{Edit}
use Rattle.board_core.specs.Board.{IsBoard}
use Rattle.board_core.proofs.Edited.{board_more}
use Rattle.board_core.proofs.board.Board.edit.Goals as goal

pub invariant_of-self-2 : goal.invariant_of-self-2
invariant_of-self-2 c =
    let base = c.self.inside.base in
    let es = c.self.inside.edits in
    let d = c.self.inside.deck in
    let e = c.args.edit.now in
    let own = c.in_ok-own.ensures {u = tt} in
    let pushed : c.push.new.self ≡ es ++ e ∷ [] = c.in_ok-push.ensures.pushed ∙ ap (λ (x : Edit). es ++ x ∷ []) own in
    subst (λ (xs : List Edit). IsBoard base xs c.in_ok-deck.deck (arc_value c.self.inside.shown)) (sym pushed)
    (board_more base es e d c.in_ok-deck.deck (arc_value c.self.inside.shown) c.self.invariant c.in_ok-deck.ensures.cause c.in_ok-deck.ensures.deck)
