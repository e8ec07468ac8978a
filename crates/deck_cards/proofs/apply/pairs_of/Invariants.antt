use Rattle.std.proofs.Common.{◌≡◌, ◌++◌}
use Rattle.deck_cards.proofs.apply.pairs_of.Given as goal

abbrev pub invariant-loop-name : goal.invariant-loop-name
invariant-loop-name l = l.pairs.items ++ l.name-iterator ≡ l.voltages.entries
