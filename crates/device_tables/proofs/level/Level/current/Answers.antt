-- The channel says whether voltages and current are turned.
use Rattle.std.proofs.Common.{rules, ◌≤◌, ◌-ℤ◌, ◌^◌, ℤ, pos, unsigned_abs, FitsSigned, w64, ap, ◌∙◌, arith}
use Rattle.std.proofs.lemmas.Int.{ints, to_z-of_z}
use Rattle.std.proofs.lemmas.Bool.{leb-true}
use borrow.Author.Differences.{abs_is}
use Rattle.device_tables.specs.Level.{LevelValue}
use Rattle.device_tables.proofs.Levels.{zero_less, n_channel_is, p_channel_is}
use Rattle.device_tables.proofs.level.Level.current.Goals as goal

pub returns-in-N-clause-value : goal.returns-in-N-clause-value
returns-in-N-clause-value c =
    let t = c.self.inside in
    let r : ℤ = c.n_current.result in
    let vgs : ℤ = c.middle-vgs.result in
    let vds : ℤ = c.middle-vds.result in
    let fits : FitsSigned w64 r = search rules in
    let vto_fits : FitsSigned w64 t.vto = omega (arith, ints, abs_is t.vto, leb-true (unsigned_abs t.vto) (10 ^ 8) c.self.invariant.vto_small) in
    let vgs_fits : FitsSigned w64 vgs = omega (arith, ints, abs_is vgs, c.middle-vgs.ensures.size) in
    let vds_fits : FitsSigned w64 vds = omega (arith, ints, abs_is vds, c.middle-vds.ensures.size) in
    let r_is = rw (to_z-of_z w64 t.vto vto_fits, to_z-of_z w64 vgs vgs_fits, to_z-of_z w64 vds vds_fits) at c.n_current.ensures.value in
    to_z-of_z w64 r fits
    ∙ n_channel_is c.args.self.now t.vto vgs vds r c.args.gate_cell c.args.drain_cell (rw (← c.self.view_is) c.in-N.is) (ap (λ (m : LevelValue). m.vto) c.self.view_is) c.middle-vgs.ensures.value c.middle-vds.ensures.value r_is

pub returns-in-P-clause-value : goal.returns-in-P-clause-value
returns-in-P-clause-value c =
    let t = c.self.inside in
    let r : ℤ = c.n_current-in-P.result in
    let vgs : ℤ = c.middle-vgs.result in
    let vds : ℤ = c.middle-vds.result in
    let vto_small : unsigned_abs t.vto ≤ 10 ^ 8 = leb-true (unsigned_abs t.vto) (10 ^ 8) c.self.invariant.vto_small in
    let fits : FitsSigned w64 r = search rules in
    let vto_fits : FitsSigned w64 t.vto = omega (arith, ints, abs_is t.vto, vto_small) in
    let vgs_fits : FitsSigned w64 vgs = omega (arith, ints, abs_is vgs, c.middle-vgs.ensures.size) in
    let vds_fits : FitsSigned w64 vds = omega (arith, ints, abs_is vds, c.middle-vds.ensures.size) in
    let vto_turns : FitsSigned w64 (pos 0 -ℤ t.vto) = omega (arith, ints, abs_is t.vto, vto_small) in
    let vgs_turns : FitsSigned w64 (pos 0 -ℤ vgs) = omega (arith, ints, abs_is vgs, c.middle-vgs.ensures.size) in
    let vds_turns : FitsSigned w64 (pos 0 -ℤ vds) = omega (arith, ints, abs_is vds, c.middle-vds.ensures.size) in
    let back_fits : FitsSigned w64 (pos 0 -ℤ r) = omega (arith, ints, abs_is r, c.n_current-in-P.ensures.size) in
    let r_is =
    rw (to_z-of_z w64 t.vto vto_fits, to_z-of_z w64 vgs vgs_fits, to_z-of_z w64 vds vds_fits, to_z-of_z w64 (pos 0 -ℤ t.vto) vto_turns, to_z-of_z w64 (pos 0 -ℤ vgs) vgs_turns, to_z-of_z w64 (pos 0 -ℤ vds) vds_turns, zero_less t.vto, zero_less vgs, zero_less vds) at c.n_current-in-P.ensures.value in
    rw (to_z-of_z w64 r fits, to_z-of_z w64 (pos 0 -ℤ r) back_fits, zero_less r)
    (p_channel_is c.args.self.now t.vto vgs vds r c.args.gate_cell c.args.drain_cell (rw (← c.self.view_is) c.in-P.is) (ap (λ (m : LevelValue). m.vto) c.self.view_is) c.middle-vgs.ensures.value c.middle-vds.ensures.value r_is)
