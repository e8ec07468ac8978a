-- The sum and the least of the first so many.
use Rattle.std.proofs.Common.{◌≡◌, ◌*◌, ◌<◌, ◌≤◌, ◌^◌, ℕ, get_or, take}
use Rattle.std.specs.Prelude.{unsigned_abs}
use Rattle.fault_sweep.specs.Stretches.{AreOn, no_hold, total}
use Rattle.fault_sweep.proofs.inflow.Inflow.over.Given as goal

abbrev pub invariant-loop-hold : goal.invariant-loop-hold
invariant-loop-hold l = record {
  current : l.inflow.current ≡ total (take l.hold-index l.holds);
  small : unsigned_abs l.inflow.current ≤ 10 ^ 12 * l.hold-index;
  by_end : l.inflow.until ≤ l.end;
  by_holds : (k : ℕ) → k < l.hold-index → l.inflow.until ≤ (get_or l.holds k no_hold).until;
  later : (now : ℕ) → now < l.end → AreOn l.hold-index now l.holds → now < l.inflow.until;
}
