-- From point to point, as long as the gait is that of the tick.
use Rattle.std.proofs.Common.{◌≡◌, ◌≤◌, ◌<◌, ◌+◌, ℕ, ℤ, List, length, sym, ◌∙◌, ap, subst, arith}
use Rattle.circuit_model.specs.Drive.{course, TurnsAt}
use Rattle.circuit_model.specs.Points.{stretch_at, time_at}
use Rattle.circuit_model.proofs.Sources.{IsLimited, limited}
use Rattle.circuit_model.proofs.Turns.{HasPassed, gait, gait_is, gait_there, goes_first, goes_next, pair_apart, pair_same, stays, turns_there}
use Rattle.circuit_model.proofs.source.next_turn.Goals as goal

-- so many points are passed at the tick
counted : (ps points : List (ℕ × ℤ)) (t passed : ℕ) → points ≡ ps → passed ≤ length points → ((i : ℕ) → i < passed → time_at points i ≤ t) → ((i : ℕ) → passed ≤ i → i < length points → t < time_at points i) → HasPassed ps t passed
counted ps points t passed same bound before ahead = subst (λ xs. HasPassed xs t passed) same (record { bound = bound; passed_all = before; ahead = ahead })

pub loop-place-init : goal.loop-place-init
loop-place-init c =
    let ps : List (ℕ × ℤ) = c.args.wave.now in
    goes_first ps c.args.tick c.passed_at-passed.result (limited ps c.requires.source)
    (counted ps c.points-points.result.now c.args.tick c.passed_at-passed.result c.points-points.ensures.points c.passed_at-passed.ensures.bound c.passed_at-passed.ensures.passed c.passed_at-passed.ensures.ahead)

pub returns-then-next-stop : goal.returns-then-next-stop
returns-then-next-stop c =
    let ps : List (ℕ × ℤ) = c.args.wave.now in
    let l : IsLimited ps = limited ps c.requires.source in
    let ahead : c.args.stop < time_at ps c.loop-place.place = subst (λ xs. c.args.stop < time_at xs c.loop-place.place) c.points-points.ensures.points c.if-next-stop.true in
    λ s after up_to. stays ps c.args.tick s l.rising after (λ u low high. c.loop-place.invariant u low (λ inside. omega (arith, ahead, high, up_to)))

pub returns : goal.returns
returns c =
    let ps : List (ℕ × ℤ) = c.args.wave.now in
    let l : IsLimited ps = limited ps c.requires.source in
    let end : length ps ≤ c.loop-place.place = subst (λ (xs : List (ℕ × ℤ)). length xs ≤ c.loop-place.place) c.points-points.ensures.points c.loop-place-test.false in
    λ s after up_to. stays ps c.args.tick s l.rising after (λ u low high. c.loop-place.invariant u low (λ inside. absurd (omega (arith, inside, end))))

pub returns-then-ne : goal.returns-then-ne
returns-then-ne c =
    let ps : List (ℕ × ℤ) = c.args.wave.now in
    let points : List (ℕ × ℤ) = c.points-points.result.now in
    let place : ℕ = c.loop-place.place in
    let t : ℕ = c.args.tick in
    let same : points ≡ ps = c.points-points.ensures.points in
    let l : IsLimited ps = limited ps c.requires.source in
    let passed = counted ps points t c.passed_at-passed.result same c.passed_at-passed.ensures.bound c.passed_at-passed.ensures.passed c.passed_at-passed.ensures.ahead in
    let inside : place < length ps = rw same at c.loop-place-test.true in
    let now : c.stretch_at-now.result ≡ gait ps t = c.stretch_at-now.ensures ∙ ap (λ xs. stretch_at xs c.passed_at-passed.result) same ∙ sym (gait_is ps t c.passed_at-passed.result l passed) in
    let there : c.stretch_at.result ≡ gait ps (time_at ps place) = c.stretch_at.ensures ∙ ap (λ xs. stretch_at xs (place + 1)) same ∙ sym (gait_there ps place l inside) in
    let next : time_at ps place ≤ c.args.stop = subst (λ xs. time_at xs place ≤ c.args.stop) same c.if-next-stop.false in
    subst (λ xs. TurnsAt (course ps) c.args.stop t (time_at xs place)) (sym same) (record {
      later = passed.ahead place c.loop-place.auto.place inside;
      up_to = next;
      stays = λ s after before. stays ps t s l.rising after (λ u low high. c.loop-place.invariant u low (λ within. omega (arith, high, before)));
      turns = turns_there ps t (time_at ps place) (λ e. pair_apart c.stretch_at.result c.stretch_at-now.result c.ne.result c.ne.ensures c.if-ne.true (there ∙ e ∙ sym now));
    })

pub loop-place-preserved : goal.loop-place-preserved
loop-place-preserved c =
    let ps : List (ℕ × ℤ) = c.args.wave.now in
    let points : List (ℕ × ℤ) = c.points-points.result.now in
    let place : ℕ = c.loop-place.place in
    let t : ℕ = c.args.tick in
    let same : points ≡ ps = c.points-points.ensures.points in
    let l : IsLimited ps = limited ps c.requires.source in
    let passed = counted ps points t c.passed_at-passed.result same c.passed_at-passed.ensures.bound c.passed_at-passed.ensures.passed c.passed_at-passed.ensures.ahead in
    let inside : place < length ps = rw same at c.loop-place-test.true in
    let now : c.stretch_at-now.result ≡ gait ps t = c.stretch_at-now.ensures ∙ ap (λ xs. stretch_at xs c.passed_at-passed.result) same ∙ sym (gait_is ps t c.passed_at-passed.result l passed) in
    let there : c.stretch_at.result ≡ stretch_at ps (place + 1) = c.stretch_at.ensures ∙ ap (λ xs. stretch_at xs (place + 1)) same in
    goes_next ps t place l inside (sym there ∙ pair_same c.stretch_at.result c.stretch_at-now.result c.ne.result c.ne.ensures c.if-ne.false ∙ now) c.loop-place.invariant
