use Rattle.std.proofs.Common.{◌≡◌, ◌&&◌, true, take, drop}
use Rattle.std.specs.List.{list_all}
use Rattle.semantics.specs.Deck.{first_some}
use Rattle.semantics.specs.Valid.{short_time, small_volts}
use Rattle.deck_cards.specs.Causes.{point_limit}
use Rattle.deck_cards.proofs.values.wave_limit.Given as goal

abbrev pub invariant-loop-point : goal.invariant-loop-point
invariant-loop-point l = record {
  first : first_some point_limit l.wave ≡ first_some point_limit (drop l.point-index l.point-items);
  all : list_all (λ p. short_time p.0 && small_volts p.1) (take l.point-index l.point-items) ≡ true;
}
