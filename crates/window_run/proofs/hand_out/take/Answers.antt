-- The other numbers keep their ramps.
use Rattle.window_run.proofs.Spliced.{others_left}
use Rattle.window_run.proofs.hand_out.take.Goals as goal

pub returns-clause-others : goal.returns-clause-others
returns-clause-others c = λ i other. others_left c.args.ramps.now.items c.args.place i c.replace.new.dest other
