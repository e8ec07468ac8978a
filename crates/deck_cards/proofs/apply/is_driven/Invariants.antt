use Rattle.std.proofs.Common.{◌≡◌, drop}
use Rattle.std.specs.List.{list_any}
use Rattle.std.specs.Str.{bytes_eq}
use Rattle.semantics.specs.Valid.{driven_of}
use Rattle.deck_cards.proofs.apply.is_driven.Given as goal

abbrev pub invariant-loop-element : goal.invariant-loop-element
invariant-loop-element l = list_any (λ e. list_any (bytes_eq l.node) (driven_of e)) l.elements ≡ list_any (λ e. list_any (bytes_eq l.node) (driven_of e)) (drop l.element-index l.elements)
