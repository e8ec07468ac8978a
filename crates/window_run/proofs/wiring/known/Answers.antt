use Rattle.std.proofs.Common.{◌≡◌, arith}
use Rattle.window_run.proofs.Known.{is_net}
use Rattle.window_run.proofs.wiring.known.Goals as goal

pub returns-clause-net : goal.returns-clause-net
returns-clause-net c = is_net c.args.circuit.now c.stop.ensures.valid c.node_count.ensures.names c.node_count.ensures.nodes (let e = c.device_count.ensures.count in let h = c.device_count.ensures.few in omega (arith, e, h))

pub returns-clause-numbered : goal.returns-clause-numbered
returns-clause-numbered c = record { valid = c.stop.ensures.valid; names = c.node_count.ensures.names; has = c.node_count.ensures.nodes }
