-- A valid deck stops in time, and a free node has a number below the number of names.
use Rattle.std.proofs.Common.{arith}
use Rattle.semantics.proofs.Limits.{limits}
use Rattle.fault_sweep.proofs.Nodes.{free_inside}
use Rattle.worked_decks.proofs.circuits.kept.Goals as goal

pub new-past-requires : goal.new-past-requires
new-past-requires c = rw (c.stop.ensures.stop) ((limits c.args.circuit.now.deck c.stop.ensures.valid).stop)

pub returns : goal.returns
returns c =
    let count = c.node_count-node-end.ensures.count in
    let past = c.loop-node-test.false in
    record {
      stop = c.loop-node.invariant.stop;
      keeps_free = λ i free. let inside = free_inside c.args.circuit.now i free in c.loop-node.invariant.kept i (omega (arith, inside, count, past)) free;
    }
