-- The lesser of the two first ticks, or the end.
use Rattle.std.proofs.Common.{◌≡◌, ◌≤◌, ◌<◌, ◌∙◌, ℕ, min, sym, ap, arith, inl, inr, ⊎_elim, Some}
use Rattle.window_run.specs.Stage.{Waits}
use Rattle.window_run.proofs.Waiting.{first_before, first_waits, frontier_first, frontier_none}
use Rattle.window_run.proofs.stage.Stage.next_tick.Goals as goal

pub returns-in-Some-clause-dues : goal.returns-in-Some-clause-dues
returns-in-Some-clause-dues c = frontier_first c.args.self.now.dues c.first.result c.earlier.result c.in-Some.tick c.min.result c.args.end c.first.ensures.none c.first.ensures.some (λ s early. (c.earlier.ensures.before_both s early).0) c.in-Some.is c.min.ensures

pub returns-in-Some-clause-bends : goal.returns-in-Some-clause-bends
returns-in-Some-clause-bends c = frontier_first c.args.self.now.bends c.first-2.result c.earlier.result c.in-Some.tick c.min.result c.args.end c.first-2.ensures.none c.first-2.ensures.some (λ s early. (c.earlier.ensures.before_both s early).1) c.in-Some.is c.min.ensures

pub returns-in-None-clause-dues : goal.returns-in-None-clause-dues
returns-in-None-clause-dues c = frontier_none c.args.self.now.dues c.first.result c.earlier.result c.args.end c.first.ensures.none c.first.ensures.some (λ s early. (c.earlier.ensures.before_both s early).0) c.in-None.is

pub returns-in-None-clause-bends : goal.returns-in-None-clause-bends
returns-in-None-clause-bends c = frontier_none c.args.self.now.bends c.first-2.result c.earlier.result c.args.end c.first-2.ensures.none c.first-2.ensures.some (λ s early. (c.earlier.ensures.before_both s early).1) c.in-None.is

pub returns-in-Some-clause-waits : goal.returns-in-Some-clause-waits
returns-in-Some-clause-waits c = λ h.
    let same : c.in-Some.tick ≡ c.min.result = omega (arith, h, c.min.ensures) in
    let is = c.in-Some.is ∙ ap Some same in
    ⊎_elim (λ e. inl (first_waits c.args.self.now.dues c.first.result c.min.result c.first.ensures.some (sym e ∙ is))) (λ e. inr (first_waits c.args.self.now.bends c.first-2.result c.min.result c.first-2.ensures.some (sym e ∙ is))) c.earlier.ensures.one_of
