use Rattle.std.proofs.Common.{rules, ◌≡◌, ◌∙◌, FitsSigned}
use Rattle.std.specs.Int.{w128}
use Rattle.std.proofs.lemmas.Int.{to_z-of_z}
use Rattle.node_ramps.proofs.Sums.{same_line}
use Rattle.node_ramps.proofs.ramp.Ramp.rebase.Goals as goal

pub returns-clause-same : goal.returns-clause-same
returns-clause-same c later h =
    let fits : FitsSigned w128 c.self.inside.line.rate = search rules in
    let is : c.self.inside.line.rate ≡ c.args.self.now.rate = cc in
    rw c.turned.ensures (same_line c.args.self.now c.args.tick later _ (to_z-of_z w128 c.self.inside.line.rate fits ∙ is) c.requires.in_bounds.started h)
