-- A free node of a valid deck has a capacitance in the limits.
use Rattle.std.proofs.Common.{◌≡◌}
use Rattle.semantics.specs.Deck.{capacity}
use Rattle.semantics.proofs.Limits.{limits}
use Rattle.circuit_model.specs.Numbers.{CircuitValue, name_at}
use Rattle.circuit_model.proofs.NodeKinds.{at_name, held_here}
use Rattle.circuit_model.proofs.circuit.Circuit.capacity.Goals as goal

pub returns-clause-some : goal.returns-clause-some
returns-clause-some c =
    let here : CircuitValue = record { deck = c.self.inside.deck; names = c.self.inside.names } in
    let free = rw (← c.self.view_is) at c.requires.free in
    let place = rw (← c.self.view_is) at c.place.ensures in
    let value = at_name here.deck (name_at here c.args.node) c.place.result (λ n. c.capacity.result ≡ capacity here.deck n) place c.capacity.ensures in
    rw value (held_here here c.args.node (limits here.deck c.self.invariant.valid) free).some

pub returns-clause-most : goal.returns-clause-most
returns-clause-most c =
    let here : CircuitValue = record { deck = c.self.inside.deck; names = c.self.inside.names } in
    let free = rw (← c.self.view_is) at c.requires.free in
    let place = rw (← c.self.view_is) at c.place.ensures in
    let value = at_name here.deck (name_at here c.args.node) c.place.result (λ n. c.capacity.result ≡ capacity here.deck n) place c.capacity.ensures in
    rw value (held_here here c.args.node (limits here.deck c.self.invariant.valid) free).most
