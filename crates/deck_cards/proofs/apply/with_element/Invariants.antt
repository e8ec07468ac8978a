use Rattle.std.proofs.Common.{◌≡◌, take}
use Rattle.deck_cards.proofs.apply.with_element.Given as goal

abbrev pub invariant-loop-old : goal.invariant-loop-old
invariant-loop-old l = l.new.items ≡ take l.old-index l.elements
