-- A threshold of a kept grid is the one at its place, and is small.
use Rattle.std.proofs.Common.{rules, ◌<◌, sym, ◌∙◌, ap, Some, ℤ, FitsSigned, w64, length, arith, refl}
use Rattle.std.proofs.lemmas.Int.{to_z-of_z}
use Rattle.std.proofs.lemmas.Option.{slice_get_read}
use Rattle.device_tables.specs.Kept.{thresholds_of}
use Rattle.device_tables.proofs.Laws.{kept_rises, kept_small, uniform_at, uniform_length}
use Rattle.device_tables.proofs.grid.Grid.threshold.Goals as goal

pub returns-in-Uniform-clause-rising : goal.returns-in-Uniform-clause-rising
returns-in-Uniform-clause-rising c = rw (← c.self.view_is) (kept_rises c.self.inside.thresholds c.self.invariant)

pub returns-in-Uniform-clause-size : goal.returns-in-Uniform-clause-size
returns-in-Uniform-clause-size c =
    let θ : ℤ = c.uniform_threshold.result in
    let fits : FitsSigned w64 θ = search rules in
    let inside : c.args.place < length (thresholds_of c.self.inside.thresholds) = rw c.self.view_is c.requires in
    let uniform = c.in-Uniform.is in
    rw (to_z-of_z w64 θ fits) (kept_small c.self.inside.thresholds c.args.place θ c.self.invariant inside (rw uniform (uniform_at c.in-Uniform.grain c.in-Uniform.half c.args.place (omega (arith, rw uniform at inside, uniform_length c.in-Uniform.grain c.in-Uniform.half)) ∙ ap Some (sym c.uniform_threshold.ensures))))

pub returns-in-Listed-clause-value : goal.returns-in-Listed-clause-value
returns-in-Listed-clause-value c =
    let θ : ℤ = c.index.result.now in
    let fits : FitsSigned w64 θ = search rules in
    let inside : c.args.place < length (thresholds_of c.self.inside.thresholds) = rw c.self.view_is c.requires in
    let listed = c.in-Listed.is in
    rw (to_z-of_z w64 θ fits, ← c.self.view_is, listed) (slice_get_read c.in-Listed.thresholds.items (length c.in-Listed.thresholds.items) c.args.place θ refl (rw listed at inside) c.index.ensures)
