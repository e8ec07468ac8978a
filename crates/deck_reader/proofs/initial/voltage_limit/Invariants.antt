use Rattle.std.proofs.Common.{◌≤◌, drop, length}
use Rattle.std.specs.Option.{option_map}
use Rattle.deck_cards.specs.declared.which.Which.TheVariants.{Volts}
use Rattle.deck_reader.specs.declared.why.DeckWhy.TheVariants.{Limit}
use Rattle.deck_reader.specs.Voltages.{IsSeen}
use Rattle.deck_reader.proofs.initial.voltage_limit.Given as goal

abbrev pub invariant-loop-left : goal.invariant-loop-left
invariant-loop-left l = record {
  within : l.left ≤ length l.voltages;
  seen : IsSeen (drop l.left l.voltages) l.later.keys (option_map (λ n. Limit Volts n.now) l.found);
}

abbrev pub decreases-loop-left : goal.decreases-loop-left
decreases-loop-left l = l.left
