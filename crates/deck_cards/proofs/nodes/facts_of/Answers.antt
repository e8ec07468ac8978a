use Rattle.std.proofs.Common.{◌≤◌, ◌∙◌, ℕ, List, [], replicate, unsigned_abs, ap, arith}
use Rattle.deck_cards.specs.Facts.{farads_of, known}
use Rattle.deck_cards.proofs.Known.{nothing, known-none}
use Rattle.deck_cards.proofs.Named.{one_value}
use Rattle.deck_cards.proofs.nodes.facts_of.Goals as goal

no_farads : (n : List ℕ) → unsigned_abs (farads_of n []) ≤ 0
unfolding farads_of
no_farads n = omega arith

pub loop-place-init : goal.loop-place-init
loop-place-init c = record {
  facts = c.in_ok-facts.ensures.items_if_clones_equal (λ y e. e) ∙ ap (λ count. replicate count nothing) c.len.ensures.len ∙ one_value (known []) nothing known-none c.args.names.now.keys;
  small = no_farads;
}
