-- A hold that is over is renewed, and another one lasts.
use Rattle.std.proofs.Common.{ℕ, ◌+◌, ◌<◌, List, length, ap, arith}
use Rattle.fault_sweep.specs.Stretches.{AreHolds, AreOn}
use Rattle.fault_sweep.proofs.Holds.{kept, renewed}
use Rattle.fault_sweep.proofs.hold.renew.Goals.{then-holds-k, else-holds-k}
use Rattle.fault_sweep.proofs.hold.renew.Goals as goal

pub loop-k-preserved : goal.loop-k-preserved
loop-k-preserved c =
    let k : ℕ = c.loop-k.k in
    let holds : AreHolds c.args.circuit.now c.args.past.now c.args.node c.args.now c.loop-k.holds = c.loop-k.invariant.holds in
    let inside : k < length c.loop-k.holds = omega (arith, c.loop-k-test.true, ap (λ (ks : List ℕ). length ks) c.near-near.ensures.devices, holds.count) in
    let both : (AreHolds c.args.circuit.now c.args.past.now c.args.node c.args.now c.if-holds-k.holds) × (AreOn (k + 1) c.args.now c.if-holds-k.holds) =
    elim c.if-holds-k.branch [
      | then-holds-k w ↦ renewed c.args.circuit.now c.args.past.now c.args.node c.args.now k c.loop-k.holds c.if-holds-k.holds w.of.result holds c.loop-k.invariant.on inside
          (rw c.near-near.ensures.devices at w.of.ensures.hold) w.of.ensures.on w.holds-is
      | else-holds-k w ↦ kept c.args.circuit.now c.args.past.now c.args.node c.args.now k c.loop-k.holds c.if-holds-k.holds holds c.loop-k.invariant.on (omega (arith, w.if-holds-k.false)) w.holds-is
    ] in
    record { holds = both.0; on = both.1 }
