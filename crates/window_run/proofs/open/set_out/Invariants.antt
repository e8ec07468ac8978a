-- The nodes before this one have set out.
use Rattle.std.proofs.Common.{map}
use Rattle.window_run.specs.Circuit.{net_of}
use Rattle.window_run.proofs.Begin.{Out}
use Rattle.window_run.proofs.open.set_out.Given as goal

abbrev pub invariant-loop-node : goal.invariant-loop-node
invariant-loop-node g l = Out (net_of l.circuit) l.from l.end l.node l.rates l.initial.lines l.lines (map (λ v. v.items) l.pieces.items) l.initial.steps l.steps
