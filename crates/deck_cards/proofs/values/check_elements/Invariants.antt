use Rattle.std.proofs.Common.{◌≡◌, true, take, drop}
use Rattle.std.specs.List.{list_all}
use Rattle.semantics.specs.Deck.{name_of, first_some}
use Rattle.semantics.specs.Valid.{in_limits}
use Rattle.deck_cards.specs.Causes.{limited, element_limit}
use Rattle.deck_cards.proofs.values.check_elements.Given as goal

abbrev pub invariant-loop-element : goal.invariant-loop-element
invariant-loop-element l = record {
  first : first_some (λ e. limited (name_of e) (element_limit e)) l.elements ≡ first_some (λ e. limited (name_of e) (element_limit e)) (drop l.element-index l.elements);
  all : list_all in_limits (take l.element-index l.elements) ≡ true;
}
