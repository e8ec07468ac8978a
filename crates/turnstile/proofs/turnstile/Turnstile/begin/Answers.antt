use Rattle.std.proofs.Common.{◌≡◌, ◌∙◌, ◌++◌, ◌-◌, Some, ap, sym, refl, subst, arith, take, drop, vec_len}
use Rattle.std.specs.Prelude.{slice_get}
use Rattle.turnstile.specs.Steps.{number_of}
use Rattle.turnstile.proofs.Making.{first_new, new_at, rotated}
use Rattle.turnstile.proofs.turnstile.Turnstile.begin.Goals as goal

pub invariant_of-first : goal.invariant_of-first
invariant_of-first g c =
    let laid = c.in-Ok-lay.ensures.first in
    record { numbered = sym (ap (λ m. number_of m.0) (c.number_others.ensures.maker (g.V.Turns.label c.args.value) laid)) }

pub returns-in-Ok-lay-clause-passes : goal.returns-in-Ok-lay-clause-passes
returns-in-Ok-lay-clause-passes g c i p e =
    let lab = g.V.Turns.label c.args.value in
    let others = c.number_others.new.passes.items in
    let laid = c.in-Ok-lay.ensures.first in
    let k = vec_len c.push_reserved.new.self - 1 in
    let same = c.rotate_right.ensures.items ∙ ap (λ l. drop k l ++ take k l) c.push_reserved.ensures.items ∙ rotated k others _ (omega (arith, c.push_reserved.ensures.len, c.number_others.new.passes.ok)) in
    new_at c.in-Ok-lay.turnstile lab _ others i p (c.number_others.ensures.same ∙ c.in-Ok-lay.ensures.of)
    (first_new lab c.args.seats _ (c.number_others.ensures.maker lab laid) refl) (c.number_others.ensures.passes lab laid) (subst (λ l. slice_get l i ≡ Some p) same e)
