-- By where the tick lies among the points.
use Rattle.std.proofs.Common.{◌+◌, ◌-◌, ◌<◌, ◌≤◌, sym, ℕ, List, length, get_or, rules, ℤ, FitsSigned}
use mir.Syntax.{w64}
use Rattle.std.proofs.lemmas.Int.{to_z-of_z}
use Rattle.circuit_model.specs.Points.{time_at}
use Rattle.circuit_model.proofs.Sources.{IsLimited, limited, none, pair_before, pair_inside, pair_past}
use Rattle.circuit_model.proofs.source.pair_at.Goals as goal

pub returns-in-Before : goal.returns-in-Before
returns-in-Before c =
    let ps : List (ℕ × ℤ) = c.args.wave.now in
    let l : IsLimited ps = limited ps c.requires in
    let fits : FitsSigned w64 (get_or c.points-points.result.now 0 none).1 = search rules in
    let before : c.args.tick < time_at ps 0 = rw c.points-points.ensures.points at c.in-Before.ensures in
    rw (c.level.ensures, to_z-of_z w64 (get_or c.points-points.result.now 0 none).1 fits, c.points-points.ensures.points) (sym (pair_before ps c.args.tick l.some before))

pub returns-in-From : goal.returns-in-From
returns-in-From c =
    let ps : List (ℕ × ℤ) = c.args.wave.now in
    let l : IsLimited ps = limited ps c.requires in
    let place : ℕ = c.in-From.place in
    let at : (place + 1 < length ps) × (time_at ps place ≤ c.args.tick) × (c.args.tick < time_at ps (place + 1)) = rw c.points-points.ensures.points at c.in-From.ensures in
    rw (c.between.ensures, c.points-points.ensures.points) (sym (pair_inside ps c.args.tick place l.rising at.0 at.1 at.2).0)

pub returns-in-Past : goal.returns-in-Past
returns-in-Past c =
    let ps : List (ℕ × ℤ) = c.args.wave.now in
    let l : IsLimited ps = limited ps c.requires in
    let last : ℕ × ℤ = get_or c.points-points.result.now (length c.points-points.result.now - 1) none in
    let fits : FitsSigned w64 last.1 = search rules in
    let past : time_at ps (length ps - 1) ≤ c.args.tick = rw c.points-points.ensures.points at c.in-Past.ensures in
    rw (c.level-in-Past.ensures, to_z-of_z w64 last.1 fits, c.points-points.ensures.points) (sym (pair_past ps c.args.tick l.some l.rising past).0)
