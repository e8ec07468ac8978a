-- By where the tick lies among the points.
use Rattle.std.proofs.Common.{◌≡◌, ◌∙◌, ◌+◌, ◌^◌, ◌<◌, ◌≤◌, sym, refl, ⊎_elim, ℕ, List, length, get_or, arith, ℤ, ◌-ℤ◌, to_z, of_z}
use mir.Syntax.{w64, w128}
use Rattle.std.specs.Prelude.{unsigned_abs}
use Rattle.std.proofs.lemmas.Int.{ints}
use Rattle.circuit_model.specs.declared.source.Span.TheVariants.{Before, Past}
use Rattle.circuit_model.specs.Points.{time_at}
use Rattle.circuit_model.proofs.Sources.{IsLimited, limited, none, slope_before, pair_inside, pair_past}
use Rattle.circuit_model.proofs.source.slope_at.Goals as goal

-- what the code computes of two small voltages
rise_kept : (p q x : ℤ) → unsigned_abs p ≤ 10 ^ 9 → unsigned_abs q ≤ 10 ^ 9 → x ≡ to_z w64 (of_z w64 (to_z w64 (of_z w64 q) -ℤ to_z w64 (of_z w64 p))) → to_z w128 (of_z w128 x) ≡ q -ℤ p
rise_kept p q x low high is = omega (arith, ints)

pub returns-in-From : goal.returns-in-From
returns-in-From c =
    let ps : List (ℕ × ℤ) = c.args.wave.now in
    let l : IsLimited ps = limited ps c.requires in
    let place : ℕ = c.in-From.place in
    let at : (place + 1 < length ps) × (time_at ps place ≤ c.args.tick) × (c.args.tick < time_at ps (place + 1)) = rw c.points-points.ensures.points at c.in-From.ensures in
    rise_kept (get_or ps place none).1 (get_or ps (place + 1) none).1 c.from.result (l.small place (omega (arith, at.0))) (l.small (place + 1) at.0) (c.from.ensures ∙ rw c.points-points.ensures.points refl)
    ∙ sym (pair_inside ps c.args.tick place l.rising at.0 at.1 at.2).1

pub returns-in-Before : goal.returns-in-Before
returns-in-Before c =
    let ps : List (ℕ × ℤ) = c.args.wave.now in
    let l : IsLimited ps = limited ps c.requires in
    let same : c.points-points.result.now ≡ ps = c.points-points.ensures.points in
    ⊎_elim
    (λ (before : c.span_at.result ≡ Before). sym (slope_before ps c.args.tick l.some (rw (before, same) at c.span_at.ensures)))
    (λ (past : c.span_at.result ≡ Past). sym (pair_past ps c.args.tick l.some l.rising (rw (past, same) at c.span_at.ensures)).1)
    c.in-Before.is
