-- What is taken from the queues is what is due.
use Rattle.std.proofs.Common.{◌≡◌, ◌<◌, ℕ, true, List, arith, inl, inr, ⊎_elim, sym, ap, ◌∙◌}
use Rattle.std.specs.FinMap as map
use Rattle.window_run.specs.Net.{Net}
use Rattle.window_run.specs.Stage.{IsSteady, Takes}
use Rattle.window_run.specs.Circuit.{net_of}
use Rattle.window_run.proofs.Due.{dues_taken}
use Rattle.window_run.proofs.Lines.{bends_taken}
use Rattle.window_run.proofs.Waiting.{all_of, driven_taken, inside_of, inside_taken, later_taken}
use Rattle.window_run.proofs.stage.Stage.step.Goals as goal

pub take_due-requires : goal.take_due-requires
take_due-requires g c = let at = c.requires.steady.2 in inside_of (net_of c.args.circuit.now).devices _ c.args.self.now.dues (sym c.device_count-devices.ensures) at.due_inside

pub take_due-requires-2 : goal.take_due-requires-2
take_due-requires-2 g c = let at = c.requires.steady.2 in inside_of (net_of c.args.circuit.now).nodes _ c.args.self.now.bends (sym c.node_count-nodes.ensures) (λ k d e. (at.bend_driven k d e).0)

pub tick-requires-clause-due : goal.tick-requires-clause-due
tick-requires-clause-due g c = let at = c.requires.steady.2 in all_of _ c.take_due.new.out.items (λ k has. at.due_inside k c.args.now (c.in_ok-take_due.ensures.only k has))

pub tick-requires-clause-bent : goal.tick-requires-clause-bent
tick-requires-clause-bent g c = let at = c.requires.steady.2 in all_of _ c.take_due-2.new.out.items (λ k has. at.bend_driven k c.args.now (c.in_ok-take_due-2.ensures.only k has))

pub tick-requires-clause-arrives : goal.tick-requires-clause-arrives
tick-requires-clause-arrives g c =
    let net : Net = net_of c.args.circuit.now in
    let before : ℕ = c.requires.steady.0 in
    let at : IsSteady net c.args.self.now before c.args.end = c.requires.steady.2 in (
      before,
      c.requires.steady.1,
      record {
        count_lines = at.count_lines;
        count_rates = at.count_rates;
        count_cells = at.count_cells;
        count_amps = at.count_amps;
        lines = at.lines;
        nums = at.nums;
        slow = at.slow;
        amps = at.amps;
        flows = at.flows;
        goes = at.goes;
        stay = dues_taken net c.args.self.now.lines.items before c.args.now c.args.end c.args.self.now.cells.items c.args.self.now.dues c.take_due.new.queue c.take_due.new.out.items c.in_ok-take_due.ensures at.stay;
        trust = bends_taken net c.args.self.now.lines.items before c.args.now c.args.end c.args.self.now.bends c.take_due-2.new.queue c.take_due-2.new.out.items c.in_ok-take_due-2.ensures at.trust;
        due_later = later_taken c.args.now c.args.self.now.dues c.take_due.new.queue c.take_due.new.out.items c.in_ok-take_due.ensures c.requires.dues;
        bend_later = later_taken c.args.now c.args.self.now.bends c.take_due-2.new.queue c.take_due-2.new.out.items c.in_ok-take_due-2.ensures c.requires.bends;
        due_inside = inside_taken net.devices c.args.now c.args.self.now.dues c.take_due.new.queue c.take_due.new.out.items c.in_ok-take_due.ensures at.due_inside;
        bend_driven = driven_taken net c.args.now c.args.self.now.bends c.take_due-2.new.queue c.take_due-2.new.out.items c.in_ok-take_due-2.ensures at.bend_driven;
      },
    )
