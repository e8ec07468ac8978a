use Rattle.std.proofs.Common.{◌≡◌, List, [], true, refl, sym, ap, ◌∙◌}
use Rattle.deck_cards.specs.declared.edit.Edit.{Edit}
use Rattle.deck_cards.specs.Edits.{accepts, after}
use Rattle.board_core.proofs.Edited.{accepts_none, after_none}
use Rattle.board_core.proofs.board.Board.new.Goals as goal

pub version_of-requires-clause-accepted : goal.version_of-requires-clause-accepted
version_of-requires-clause-accepted c = ap (accepts c.in_ok-first.first) c.new-none.ensures ∙ accepts_none c.in_ok-first.first

pub version_of-requires-clause-after : goal.version_of-requires-clause-after
version_of-requires-clause-after c =
    let share = c.in_ok-share.ensures {u = tt} in
    let deck = c.in_ok-deck.ensures {u = tt} in
    let first = c.in_ok-first.ensures {u = tt} in
    share ∙ deck ∙ sym first ∙ sym (after_none c.in_ok-first.first) ∙ sym (ap (after c.in_ok-first.first) c.new-none.ensures)
