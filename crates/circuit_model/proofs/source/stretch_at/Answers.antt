-- A source that has passed no point, or all, is level; otherwise it is between two points.
use Rattle.std.proofs.Common.{◌≡◌, ◌≢◌, ◌-◌, ◌<◌, ◌≤◌, ◌^◌, ℕ, suc, List, length, get_or, sym, ◌∙◌, ap, arith, ℤ, ◌-ℤ◌, to_z, of_z, FitsSigned}
use mir.Syntax.{w64, w128}
use Rattle.std.specs.Prelude.{unsigned_abs}
use Rattle.std.proofs.lemmas.Int.{ints}
use Rattle.circuit_model.specs.Points.{stretch_at, time_at}
use Rattle.circuit_model.proofs.Sources.{IsLimited, in_order, limited, none}
use Rattle.circuit_model.proofs.Turns.{stretch_first, stretch_inside, stretch_last}
use Rattle.circuit_model.proofs.source.stretch_at.Goals as goal
use Rattle.circuit_model.proofs.source.stretch_at.Goals.{then-passed-eq0-via-then-passed-eq0, then-passed-eq0-via-else-passed-eq0+then-passed-points}

pub returns-then-passed-eq0 : goal.returns-then-passed-eq0
returns-then-passed-eq0 c =
    elim c.then-passed-eq0.branch [
      | then-passed-eq0-via-then-passed-eq0 w ↦ rw w.if-passed-eq0.true (sym (stretch_first c.args.points.now))
      | then-passed-eq0-via-else-passed-eq0+then-passed-points w ↦ sym (stretch_last c.args.points.now c.args.passed w.if-passed-points.true)
    ]

-- both are small
rise_fits : (p q : ℤ) → unsigned_abs p ≤ 10 ^ 9 → unsigned_abs q ≤ 10 ^ 9 → FitsSigned w64 (to_z w64 (of_z w64 q) -ℤ to_z w64 (of_z w64 p))
rise_fits p q low high = omega (arith, ints)

rise_kept : (p q x : ℤ) → unsigned_abs p ≤ 10 ^ 9 → unsigned_abs q ≤ 10 ^ 9 → x ≡ to_z w64 (of_z w64 (to_z w64 (of_z w64 q) -ℤ to_z w64 (of_z w64 p))) → to_z w128 (of_z w128 x) ≡ q -ℤ p
rise_kept p q x low high is = omega (arith, ints)

pub overflow_sub-to : goal.overflow_sub-to
overflow_sub-to c =
    let ps : List (ℕ × ℤ) = c.args.points.now in
    let l : IsLimited ps = limited ps c.requires.source in
    let inside : c.args.passed < length ps = omega (arith, c.requires.passed) in
    rise_fits (get_or ps (c.args.passed - 1) none).1 (get_or ps c.args.passed none).1 (l.small (c.args.passed - 1) (omega (arith, inside))) (l.small c.args.passed inside)

pub overflow_sub-result : goal.overflow_sub-result
overflow_sub-result c =
    let ps : List (ℕ × ℤ) = c.args.points.now in
    let l : IsLimited ps = limited ps c.requires.source in
    let inside : c.args.passed < length ps = omega (arith, c.requires.passed) in
    in_order ps l.rising (c.args.passed - 1) c.args.passed none (omega arith) inside

pub returns : goal.returns
returns c =
    let ps : List (ℕ × ℤ) = c.args.points.now in
    let passed : ℕ = c.args.passed in
    let l : IsLimited ps = limited ps c.requires.source in
    let inside : passed < length ps = omega (arith, c.requires.passed) in
    let before : suc (passed - 1) ≡ passed = omega arith in
    let apart : suc (passed - 1) ≢ length ps = omega arith in
    let rise = rise_kept (get_or ps (passed - 1) none).1 (get_or ps passed none).1 c.from.result (l.small (passed - 1) (omega (arith, inside))) (l.small passed inside) c.from.ensures in
    (λ i. (rise i, time_at ps passed - time_at ps (passed - 1)))
    ∙ sym (ap (stretch_at ps) (sym before) ∙ stretch_inside ps (passed - 1) apart ∙ (λ i. ((get_or ps (before i) none).1 -ℤ (get_or ps (passed - 1) none).1, time_at ps (before i) - time_at ps (passed - 1))))
