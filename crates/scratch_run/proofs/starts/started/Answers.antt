-- A valid deck stops in time.
use Rattle.semantics.proofs.Limits.{limits}
use Rattle.scratch_run.proofs.starts.started.Goals as goal

pub new-past-requires : goal.new-past-requires
new-past-requires c = rw (c.stop.ensures.stop) ((limits c.args.circuit.now.deck c.stop.ensures.valid).stop)
