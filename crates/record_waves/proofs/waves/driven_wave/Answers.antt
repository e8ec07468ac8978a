-- Each turn of the source adds its line.
use Rattle.std.proofs.Common.{sym, ◌∙◌, arith}
use Rattle.circuit_model.specs.Numbers.{name_at}
use Rattle.record_waves.proofs.DrivenWaves.{first_line, stays_to_stop, turned_once}
use Rattle.record_waves.proofs.NodeNames.{driven_is}
use Rattle.record_waves.proofs.waves.driven_wave.Goals as goal

pub loop-turn-init : goal.loop-turn-init
loop-turn-init c =
    let s = driven_is c.args.circuit.now c.args.node c.requires in
    record {
      inside = omega arith;
      lines = (c.in_ok-push.ensures {u = tt}).items ∙ rw (c.new-lines.ensures.items, c.drive.ensures.line) (first_line c.args.circuit.now.deck (name_at c.args.circuit.now c.args.node) s.0 s.1);
    }

pub loop-turn-preserved : goal.loop-turn-preserved
loop-turn-preserved c =
    let s = driven_is c.args.circuit.now c.args.node c.requires in
    let turns = c.in-Some.ensures {u = tt} in
    record {
      inside = omega (arith, turns.1);
      lines = (c.in_ok-push-2.ensures {u = tt}).items
          ∙ rw (c.loop-turn.invariant.lines, c.drive-in-Some.ensures.line) (sym (turned_once c.args.circuit.now.deck (name_at c.args.circuit.now c.args.node) s.0 c.args.circuit.now.deck.stop c.loop-turn.tick c.in-Some.turn s.1 turns.0));
    }

pub returns : goal.returns
returns c =
    let s = driven_is c.args.circuit.now c.args.node c.requires in
    c.loop-turn.invariant.lines
    ∙ stays_to_stop c.args.circuit.now.deck (name_at c.args.circuit.now c.args.node) s.0 c.loop-turn.tick s.1 c.loop-turn.invariant.inside (c.in_default.ensures {u = tt})
