-- One device more is looked at, and in the end all are.
use Rattle.std.proofs.Common.{◌≡◌, ◌<◌, ℕ, get_or, refl}
use Rattle.std.specs.FinMap as map
use Rattle.window_run.specs.Net.{Net}
use Rattle.window_run.specs.Stage.{KnowsDue, no_cells}
use Rattle.window_run.specs.Circuit.{net_of}
use Rattle.window_run.proofs.Due.{look_more}
use Rattle.window_run.proofs.Lines.{all_done}
use Rattle.window_run.proofs.Waiting.{inside_more, later_more}
use Rattle.window_run.proofs.look.look.Goals as goal

pub loop-device-preserved : goal.loop-device-preserved
loop-device-preserved c =
    let net : Net = net_of c.args.circuit.now in
    let k : ℕ = get_or c.args.todo.now c.loop-device.device-index 0 in
    let inside : k < net.devices = c.requires.todo c.loop-device.device-index 0 c.loop-device-test.true in
    record {
      dues = look_more net c.args.lines.now c.args.now c.args.end c.args.cells.now c.loop-device.dues c.schedule.new.queue c.args.todo.now c.loop-device.device-index k c.next_due-due.result c.loop-device-test.true refl c.in_ok-schedule.ensures c.next_due-due.ensures.knows c.loop-device.invariant.dues;
      later = later_more c.loop-device.dues c.schedule.new.queue c.args.now k c.next_due-due.result c.in_ok-schedule.ensures c.next_due-due.ensures.later c.loop-device.invariant.later;
      inside = inside_more c.loop-device.dues c.schedule.new.queue net.devices k c.next_due-due.result c.in_ok-schedule.ensures inside c.loop-device.invariant.inside;
    }

pub returns-clause-dues : goal.returns-clause-dues
returns-clause-dues c =
    let net : Net = net_of c.args.circuit.now in
    all_done (λ k. KnowsDue net k c.args.lines.now c.args.now c.args.end (get_or c.args.cells.now k no_cells) (map.get c.loop-device.dues k)) (λ k. k < net.devices) c.args.todo.now c.loop-device.device-index c.loop-device-test.false c.loop-device.invariant.dues
