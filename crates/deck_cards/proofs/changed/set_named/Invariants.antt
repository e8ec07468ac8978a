use Rattle.std.proofs.Common.{◌≡◌, take}
use Rattle.deck_cards.specs.Edits.{changed, set_named}
use Rattle.deck_cards.proofs.changed.set_named.Given as goal

abbrev pub invariant-loop-element : goal.invariant-loop-element
invariant-loop-element l = l.new.items ≡ set_named l.name (changed l.edit) (take l.element-index l.elements)
