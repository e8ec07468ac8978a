use Rattle.std.proofs.Common.{◌≡◌, ◌+◌, ◌≤◌, ◌++◌, length, take, drop, IsPermutation, vec_capacity}
use Rattle.event_order.specs.Ticks.{due, without}
use Rattle.event_order.proofs.queue.Queue.take_tick.Given as goal

abbrev pub invariant-loop-device : goal.invariant-loop-device
invariant-loop-device l = record {
  room : length l.out.items + length (due l.self l.tick) ≤ vec_capacity l.out;
  capacity : vec_capacity l.out ≡ vec_capacity l.fn.out;
  before : take l.start l.out.items ≡ l.fn.out.items;
  taken : IsPermutation (drop l.start l.out.items ++ due l.self l.tick) (due l.fn.self l.tick);
  rest : without l.self l.tick ≡ without l.fn.self l.tick;
}

abbrev pub decreases-loop-device : goal.decreases-loop-device
decreases-loop-device l = length (due l.self l.tick)
