-- The second end of a device is real, and its cells stay as they do on both axes.
use Rattle.std.proofs.Common.{arith}
use Rattle.fault_sweep.specs.Records.{IsBasis}
use Rattle.fault_sweep.proofs.CellStays.{cells_stay}
use Rattle.fault_sweep.proofs.Nodes.{ends_real}
use Rattle.fault_sweep.proofs.cells.cells_from.Goals as goal

pub of-second-requires-clause-real : goal.of-second-requires-clause-real
of-second-requires-clause-real c =
    let basis : IsBasis c.args.circuit.now c.args.past.now = record { valid = c.known.ensures.valid; named = c.known.ensures.names; has_nodes = c.known.ensures.nodes; recorded = c.requires.record } in
    rw c.ends.ensures (ends_real c.args.circuit.now c.args.past.now c.args.device basis c.requires.device).second

pub returns : goal.returns
returns c =
    let basis : IsBasis c.args.circuit.now c.args.past.now = record { valid = c.known.ensures.valid; named = c.known.ensures.names; has_nodes = c.known.ensures.nodes; recorded = c.requires.record } in
    let gates = c.gate_stay-gate.ensures in
    let drains = c.drain_stay-drain.ensures in
    cells_stay c.args.circuit.now c.args.past.now c.args.device c.args.now c.gate_stay-gate.result c.drain_stay-drain.result _ basis c.requires.device gates drains.stay drains.by_stop c.axes.ensures
    (omega (arith, c.min.ensures, gates.later, drains.stay.later)) (omega (arith, c.min.ensures)) (omega (arith, c.min.ensures))
