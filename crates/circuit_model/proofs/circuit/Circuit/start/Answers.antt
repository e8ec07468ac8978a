-- Capacitance and initial voltage are in their limits.
use Rattle.std.proofs.Common.{◌≡◌, ◌≤◌, ◌^◌, ℕ, ℤ, List, pos, ◌*ℤ◌, arith, rules, lit<, FitsSigned}
use mir.Syntax.{w64, w128}
use Rattle.std.specs.Prelude.{unsigned_abs}
use Rattle.std.proofs.lemmas.Int.{to_z-of_z, unsigned_abs-mul}
use Rattle.std.proofs.lemmas.Nat.{mul-le}
use Rattle.semantics.specs.Deck.{capacity, initial_of}
use Rattle.semantics.proofs.Limits.{initial_small, limits}
use Rattle.circuit_model.specs.Numbers.{CircuitValue, name_at}
use Rattle.circuit_model.proofs.NodeKinds.{at_name, held_here}
use Rattle.circuit_model.proofs.Products.{fits_small}
use Rattle.circuit_model.proofs.circuit.Circuit.start.Goals as goal

product_small : (farads : ℕ) (volts : ℤ) → farads ≤ 10 ^ 12 → unsigned_abs volts ≤ 10 ^ 9 → unsigned_abs (pos farads *ℤ volts) ≤ 10 ^ 21
product_small farads volts most small = rw (unsigned_abs-mul (pos farads) volts) (omega (arith, mul-le farads (unsigned_abs volts) (10 ^ 12) (10 ^ 9) most small))

pub returns-clause-small : goal.returns-clause-small
returns-clause-small c =
    let here : CircuitValue = record { deck = c.self.inside.deck; names = c.self.inside.names } in
    let n : List ℕ = name_at here c.args.node in
    let free = rw (← c.self.view_is) at c.requires.free in
    let place = rw (← c.self.view_is) at c.place-place.ensures in
    let l = limits here.deck c.self.invariant.valid in
    let farads : c.capacity.result ≡ capacity here.deck n = at_name here.deck n c.place-place.result (λ m. c.capacity.result ≡ capacity here.deck m) place c.capacity.ensures in
    let volts : c.initial_volts.result ≡ initial_of here.deck n = at_name here.deck n c.place-place.result (λ m. c.initial_volts.result ≡ initial_of here.deck m) place c.initial_volts.ensures in
    let most : c.capacity.result ≤ 10 ^ 12 = rw farads (held_here here c.args.node l free).most in
    let small : unsigned_abs c.initial_volts.result ≤ 10 ^ 9 = rw volts (initial_small here.deck n l) in
    let fits : FitsSigned w64 c.initial_volts.result = search rules in
    let charge : ℤ = pos c.capacity.result *ℤ c.initial_volts.result in
    let bound : unsigned_abs charge ≤ 10 ^ 21 = product_small c.capacity.result c.initial_volts.result most small in
    rw (c.charged.ensures, to_z-of_z w64 c.initial_volts.result fits, to_z-of_z w128 charge (fits_small charge (10 ^ 21) bound (lit< tt))) bound
