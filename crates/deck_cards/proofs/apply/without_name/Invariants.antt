use Rattle.std.proofs.Common.{◌≡◌, take}
use Rattle.deck_cards.specs.Edits.{without_name}
use Rattle.deck_cards.proofs.apply.without_name.Given as goal

abbrev pub invariant-loop-element : goal.invariant-loop-element
invariant-loop-element l = l.new.items ≡ without_name l.name (take l.element-index l.elements)
