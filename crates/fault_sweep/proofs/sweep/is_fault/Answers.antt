-- The pairs of the tick and of the next tell.
use Rattle.std.proofs.Common.{◌≢◌, ◌⊎◌, ℕ, arith, inl, inr, sym, ap, ⊎_elim, ◌∙◌, not, ℤ, ◌+ℤ◌}
use mir.Syntax.{w128}
use Rattle.std.specs.Prelude.{unsigned_abs, ◌≤◌, ◌^◌}
use Rattle.std.specs.Ordering.{int_eq}
use Rattle.std.proofs.lemmas.Int.{ints, to_z-of_z}
use Rattle.semantics.specs.Deck.{capacity}
use Rattle.semantics.proofs.Limits.{limits}
use Rattle.circuit_model.specs.Numbers.{name_at}
use Rattle.fault_sweep.proofs.Stretch.{den_fault, num_fault, test_is}
use Rattle.fault_sweep.proofs.Holds.{fits_small}
use Rattle.fault_sweep.proofs.sweep.is_fault.Goals as goal

pub overflow_add-now : goal.overflow_add-now
overflow_add-now c = omega (arith, c.requires.tick, (limits c.args.circuit.now.deck c.requires.basis.valid).stop)

pub returns-then-den-capacity : goal.returns-then-den-capacity
returns-then-den-capacity c =
    let full : ℕ = capacity c.args.circuit.now.deck (name_at c.args.circuit.now c.args.node) in
    let wrong : (c.at-num.result.1 ≢ full) ⊎ (c.at-next_num.result.1 ≢ full) = ⊎_elim
    (λ first. inl (λ is. first (is ∙ sym c.capacity-capacity.ensures.value)))
    (λ second. inr (λ is. second.1 (is ∙ sym c.capacity-capacity.ensures.value)))
    c.then-den-capacity.either in
    sym (den_fault c.args.circuit.now c.args.past.now c.args.node c.requires.basis c.requires.free c.args.now c.at-num.result.0 c.at-next_num.result.0 c.at-num.result.1 c.at-next_num.result.1
    c.requires.tick c.at-num.ensures.pair c.at-next_num.ensures.pair wrong)

pub returns : goal.returns
returns c =
    let num : ℤ = c.at-num.result.0 in
    let next : ℤ = c.at-next_num.result.0 in
    let stop = (limits c.args.circuit.now.deck c.requires.basis.valid).stop in
    let num_small : unsigned_abs num ≤ 10 ^ 26 = omega (arith, c.at-num.ensures.num, c.requires.tick, stop) in
    let next_small : unsigned_abs next ≤ 10 ^ 26 = omega (arith, c.at-next_num.ensures.num, c.requires.tick, stop) in
    let sum_small : unsigned_abs (num +ℤ c.args.current) ≤ 10 ^ 27 = omega (arith, ints, num_small, c.requires.small) in
    let sum = to_z-of_z w128 num (fits_small num (omega (arith, num_small))) in
    let same = to_z-of_z w128 c.args.current (fits_small c.args.current (omega (arith, c.requires.small))) in
    rw (sum, same, test_is next (num +ℤ c.args.current) (fits_small next (omega (arith, next_small))) (fits_small (num +ℤ c.args.current) (omega (arith, sum_small))))
    (ap (λ z. not (int_eq next (num +ℤ z))) c.requires.current
    ∙ sym (num_fault c.args.circuit.now c.args.past.now c.args.node c.requires.basis c.requires.free c.args.now num next c.at-num.result.1 c.at-next_num.result.1 c.requires.tick c.at-num.ensures.pair c.at-next_num.ensures.pair
    (c.if-den-capacity.false ∙ c.capacity-capacity.ensures.value) (c.if-next_den-capacity.false ∙ c.capacity-capacity.ensures.value)))
