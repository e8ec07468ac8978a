use Rattle.std.proofs.Common.{◌≡◌, ◌∙◌, ap, sym, refl, subst, arith, []}
use Rattle.turnstile.specs.Steps.{maker_of, number_of}
use Rattle.turnstile.specs.Making.{AreNew}
use Rattle.turnstile.proofs.Making.{made_new, are_new_snoc}
use Rattle.turnstile.proofs.turnstile.Turnstile.number_others.Goals as goal

pub number-seat-requires-clause-maker : goal.number-seat-requires-clause-maker
number-seat-requires-clause-maker g c =
    let m = c.requires.maker in
    (m.0, c.loop-number.number, (c.loop-number.invariant.4 m.0 m.1).0)

pub invariant_of-push_reserved : goal.invariant_of-push_reserved
invariant_of-push_reserved g c =
    let m = c.requires.maker in
    let made = c.number-seat.ensures.made m.0 c.loop-number.number (c.loop-number.invariant.4 m.0 m.1).0 in
    record { numbered = sym (ap (λ m. number_of m.0) made.1) }

pub loop-number-preserved : goal.loop-number-preserved
loop-number-preserved g c =
    let i = c.loop-number.invariant in
    let n = c.loop-number.number in
    let of = c.number-seat.ensures.same.1 ∙ i.1 ∙ c.requires.of in
    let place = i.2 in
    let ok = c.loop-number.passes.ok in
    let pushed = c.push_reserved.ensures.items in (
      refl,
      c.number-seat.ensures.same.0 ∙ i.1,
      omega (arith, c.push_reserved.ensures.len, place),
      c.push_reserved.ensures.capacity ∙ i.3,
      λ lab is.
          let so_far = i.4 lab is in
          let made = c.number-seat.ensures.made lab n so_far.0 in (
            made.0,
            subst (AreNew c.args.self.now lab 1) (sym pushed)
                (are_new_snoc c.args.self.now lab 1 c.loop-number.passes.items _ so_far.1 of
                (made_new lab n _ _ made.1 refl (omega (arith, place, ok)))),
          ),
    )

pub returns-clause-maker : goal.returns-clause-maker
returns-clause-maker g c lab is =
    let auto = c.loop-number.auto in
    let room = c.requires.room.2 in
    let end = c.loop-number-test.false in
    (c.loop-number.invariant.4 lab is).0 ∙ ap (λ n. (maker_of lab n, [])) (omega (arith, end, room, auto.number, auto.number-end))
