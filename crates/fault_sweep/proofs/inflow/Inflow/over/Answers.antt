-- One hold more.
use Rattle.std.proofs.Common.{◌≡◌, ◌≢◌, ℕ, ◌≤◌, ◌^◌, get_or, length, sym, ap, ◌∙◌, arith, ⊎_elim, ℤ, ◌+ℤ◌, FitsSigned}
use mir.Syntax.{w64}
use Rattle.std.specs.Prelude.{unsigned_abs}
use Rattle.std.proofs.lemmas.Bool.{cases_eq}
use Rattle.std.proofs.lemmas.Int.{fits_signed_from_abs, ints, to_z-of_z}
use Rattle.fault_sweep.specs.declared.hold.Hold.{Hold}
use Rattle.fault_sweep.specs.Stretches.{no_hold}
use Rattle.fault_sweep.proofs.Holds.{sum_is, total_more}
use Rattle.fault_sweep.proofs.inflow.Inflow.over.Goals as goal

pub loop-hold-preserved : goal.loop-hold-preserved
loop-hold-preserved c =
    let k : ℕ = c.loop-hold.hold-index in
    let hold : Hold = get_or c.args.holds.now k no_hold in
    let x : ℤ = c.loop-hold.inflow.current in
    let small : unsigned_abs hold.inflow ≤ 10 ^ 12 = c.requires.small k no_hold c.loop-hold-test.true in
    let fits : FitsSigned w64 hold.inflow = fits_signed_from_abs w64 hold.inflow (omega (arith, small)) in
    let y_is : c.from.result ≡ hold.inflow = c.from.ensures ∙ to_z-of_z w64 hold.inflow fits in
    let few : length c.args.holds.now ≤ 100000 = c.requires.few in
    let sum = sum_is x hold.inflow (omega (arith, c.loop-hold.invariant.small, c.loop-hold-test.true, few)) (omega (arith, small)) in
    rw (y_is, sum) (record {
      current = ap (λ z. z +ℤ hold.inflow) c.loop-hold.invariant.current ∙ sym (total_more c.args.holds.now k c.loop-hold-test.true);
      small = omega (arith, ints, c.loop-hold.invariant.small, small);
      by_end = omega (arith, c.min.ensures, c.loop-hold.invariant.by_end);
      by_holds = λ j below. ⊎_elim
          (λ (here : j ≡ k). rw here (omega (arith, c.min.ensures)))
          (λ (apart : j ≢ k). let one = c.loop-hold.invariant.by_holds j (omega (arith, below, apart)) in omega (arith, c.min.ensures, one))
          (cases_eq j k);
      later = λ now early on.
          let one = c.loop-hold.invariant.later now early (λ j below. on j (omega (arith, below))) in
          let two = on k (omega arith) in
          omega (arith, c.min.ensures, one, two);
    })
