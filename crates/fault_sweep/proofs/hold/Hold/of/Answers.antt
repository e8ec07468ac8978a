-- Where the cells of a device stay, so does what flows through it.
use Rattle.std.proofs.Common.{◌≡◌, FitsSigned, ℤ, arith}
use mir.Syntax.{w64}
use Rattle.std.proofs.lemmas.Int.{to_z-of_z}
use Rattle.circuit_model.specs.Ends.{ends_in}
use Rattle.circuit_model.specs.Numbers.{device_of}
use Rattle.circuit_model.specs.Wiring.{inflow}
use Rattle.fault_sweep.proofs.Holds.{device_hold, stays_have}
use Rattle.fault_sweep.proofs.Nodes.{ends_real}
use Rattle.fault_sweep.proofs.hold.Hold.of.Goals as goal

pub of-second-requires-clause-real : goal.of-second-requires-clause-real
of-second-requires-clause-real c = rw c.ends-ends.ensures (ends_real c.args.circuit.now c.args.past.now c.args.device c.requires.basis c.requires.device).second

pub device_current-amps-requires-clause-cells : goal.device_current-amps-requires-clause-cells
device_current-amps-requires-clause-cells c = stays_have c.args.circuit.now c.args.past.now c.args.device c.args.now c.gate_stay-gate.result c.drain_stay-drain.result c.gate_stay-gate.ensures c.drain_stay-drain.ensures.stay

pub returns-clause-hold : goal.returns-clause-hold
returns-clause-hold c =
    let amps : ℤ = c.device_current-amps.result in
    let amps_fit : FitsSigned w64 amps = record { sfits = c.device_current-amps.type_inv } in
    let fits : FitsSigned w64 c.gain.result = record { sfits = c.gain.type_inv } in
    let flow : c.gain.result ≡ inflow c.args.node (ends_in c.args.circuit.now.names (device_of c.args.circuit.now.deck c.args.device)) amps = rw (to_z-of_z w64 amps amps_fit, c.ends-ends.ensures) at c.gain.ensures.value in
    rw (to_z-of_z w64 c.gain.result fits) (device_hold c.args.circuit.now c.args.past.now c.args.node c.args.device c.args.now c.gate_stay-gate.result c.drain_stay-drain.result amps _
    c.gate_stay-gate.ensures c.drain_stay-drain.ensures.stay c.device_current-amps.ensures.value flow c.gain.ensures.small (omega (arith, c.min.ensures)) (omega (arith, c.min.ensures)))
