use Rattle.std.proofs.Common.{◌≡◌, ℕ, List, ◌*◌, ◌^◌, ◌≤◌, unsigned_abs, take, map}
use Rattle.deck_cards.specs.Facts.{known, farads_of}
use Rattle.deck_cards.proofs.nodes.facts_of.Given as goal

abbrev pub invariant-loop-place : goal.invariant-loop-place
invariant-loop-place l = record {
  facts : l.facts.items ≡ map (known (take l.place l.elements)) l.names.keys;
  small : (n : List ℕ) → unsigned_abs (farads_of n (take l.place l.elements)) ≤ 2 ^ 63 * l.place;
}
