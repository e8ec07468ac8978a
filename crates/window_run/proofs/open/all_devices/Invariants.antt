-- The devices before this one.
use Rattle.std.proofs.Common.{◌≡◌, ◌<◌, ℕ}
use Rattle.std.specs.Prelude.{Contains}
use Rattle.window_run.specs.Circuit.{net_of}
use Rattle.window_run.proofs.open.all_devices.Given as goal

abbrev pub invariant-loop-device : goal.invariant-loop-device
invariant-loop-device l = record {
  inside : (k : ℕ) → Contains l.devices.items k → k < (net_of l.circuit).devices;
  all : (k : ℕ) → k < l.device → Contains l.devices.items k;
}
