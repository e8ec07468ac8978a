-- One waits for its new tick, and the others as before.
use Rattle.std.proofs.Common.{◌≡◌, ℕ, Option, cond, eqb, sym, ap, ◌∙◌}
use Rattle.std.specs.FinMap as map
use Rattle.window_run.proofs.Waiting.{inserted, removed, untouched}
use Rattle.window_run.proofs.wait.schedule.Goals as goal

pub returns-in_ok-move_to-in-Some-Some : goal.returns-in_ok-move_to-in-Some-Some
returns-in_ok-move_to-in-Some-Some c = λ k.
    inserted c.args.queue.now c.move_to.new.self c.args.k c.in-Some-Some.tick c.in_ok-move_to-in-Some-Some.ensures.ok k ∙ ap (λ (o : Option ℕ). cond (eqb k c.args.k) o (map.get c.args.queue.now k)) (sym c.in-Some-Some.is-1)

pub returns-in-Some-None : goal.returns-in-Some-None
returns-in-Some-None c = λ k.
    removed c.args.queue.now c.remove.new.self c.args.k c.remove.ensures k ∙ ap (λ (o : Option ℕ). cond (eqb k c.args.k) o (map.get c.args.queue.now k)) (sym c.in-Some-None.is-1)

pub returns-in_ok-put-in-None-Some : goal.returns-in_ok-put-in-None-Some
returns-in_ok-put-in-None-Some c = λ k.
    inserted c.args.queue.now c.put.new.self c.args.k c.in-None-Some.tick c.in_ok-put-in-None-Some.ensures.ok k ∙ ap (λ (o : Option ℕ). cond (eqb k c.args.k) o (map.get c.args.queue.now k)) (sym c.in-None-Some.is-1)
