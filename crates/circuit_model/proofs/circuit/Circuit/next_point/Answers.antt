-- The node turns where its source does.
use Rattle.std.proofs.Common.{◌≡◌, ◌∙◌, ℕ, ℤ, Bool, List, ap, subst}
use Rattle.circuit_model.specs.Drive.{course, IsNextTurn}
use Rattle.circuit_model.specs.Numbers.{CircuitValue, name_at}
use Rattle.circuit_model.proofs.Turns.{drive_turns}
use Rattle.circuit_model.proofs.circuit.Circuit.next_point.Goals as goal

pub returns : goal.returns
returns c =
    let source : List (ℕ × ℤ) × Bool = (c.source.result.0.now, c.source.result.1) in
    let stop : c.stop.result ≡ c.args.self.now.deck.stop = c.stop.ensures.value ∙ ap (λ (x : CircuitValue). x.deck.stop) c.self.view_is in
    drive_turns c.args.self.now.deck (name_at c.args.self.now c.args.node) source c.args.self.now.deck.stop c.args.tick c.next_turn.result c.source.ensures.driver
    (subst (λ s. IsNextTurn (course source.0) s c.args.tick c.next_turn.result) stop c.next_turn.ensures)
