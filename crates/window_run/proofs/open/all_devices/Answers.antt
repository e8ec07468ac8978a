-- One device more.
use Rattle.std.proofs.Common.{◌≡◌, ◌<◌, ℕ, arith}
use Rattle.window_run.specs.Circuit.{net_of}
use Rattle.window_run.specs.Net.{Net}
use Rattle.window_run.proofs.Noted.{pushed, up_to_pushed}
use Rattle.window_run.proofs.Waiting.{all_of}
use Rattle.window_run.proofs.open.all_devices.Goals as goal

pub loop-device-preserved : goal.loop-device-preserved
loop-device-preserved c =
    let net : Net = net_of c.args.circuit.now in
    rw c.in_ok-push.ensures.items (record {
      inside = pushed (λ k. k < net.devices) c.loop-device.devices.items c.loop-device.device c.loop-device.invariant.inside (omega (arith, c.loop-device-test.true, c.device_count-device-end.ensures));
      all = λ k h. up_to_pushed (λ _. Unit {0}) c.loop-device.devices.items c.loop-device.device (λ j g _. c.loop-device.invariant.all j g) k h tt;
    })

pub returns-clause-inside : goal.returns-clause-inside
returns-clause-inside c = all_of _ c.loop-device.devices.items c.loop-device.invariant.inside

pub returns-clause-all : goal.returns-clause-all
returns-clause-all c = λ k h. c.loop-device.invariant.all k (omega (arith, h, c.loop-device-test.false, c.device_count-device-end.ensures))
