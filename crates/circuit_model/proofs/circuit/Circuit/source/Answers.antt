-- A driven node has a driver, which is a source of a valid deck.
use Rattle.std.proofs.Common.{◌≡◌, ℕ, ℤ, Bool, List, Some}
use Rattle.semantics.specs.Deck.{driver}
use Rattle.semantics.proofs.Limits.{driver_source, limits}
use Rattle.circuit_model.specs.Numbers.{CircuitValue, name_at}
use Rattle.circuit_model.proofs.NodeKinds.{driven_some, driver_is, some_from}
use Rattle.circuit_model.proofs.circuit.Circuit.source.Goals as goal

pub unwrap-requires : goal.unwrap-requires
unwrap-requires c =
    let here : CircuitValue = record { deck = c.self.inside.deck; names = c.self.inside.names } in
    let driven = rw (← c.self.view_is) at c.requires in
    let place = rw (← c.self.view_is) at c.place.ensures in
    let is = driver_is here.deck (name_at here c.args.node) c.place.result (λ s. (s.0.now, s.1)) c.drive.result place c.drive.ensures in
    some_from (λ s. (s.0.now, s.1)) c.drive.result (driver here.deck (name_at here c.args.node)) is (driven_some here c.args.node driven)

pub returns-clause-source : goal.returns-clause-source
returns-clause-source c =
    let here : CircuitValue = record { deck = c.self.inside.deck; names = c.self.inside.names } in
    let place = rw (← c.self.view_is) at c.place.ensures in
    let is = driver_is here.deck (name_at here c.args.node) c.place.result (λ s. (s.0.now, s.1)) c.drive.result place c.drive.ensures in
    let source : List (ℕ × ℤ) × Bool = (c.unwrap.result.0.now, c.unwrap.result.1) in
    let found : driver here.deck (name_at here c.args.node) ≡ Some source = rw c.unwrap.ensures at is in
    driver_source here.deck (name_at here c.args.node) source (limits here.deck c.self.invariant.valid) found
