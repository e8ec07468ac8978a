-- The names of a circuit that is the first of its names are the nodes of its deck.
use Rattle.std.proofs.Common.{◌≡◌, ℕ, List, length, refl, ap, ◌∙◌, arith}
use Rattle.semantics.proofs.Limits.{limits}
use Rattle.circuit_model.proofs.Named.{with_nodes_none}
use Rattle.wave_shell.proofs.run.run_text.Goals as goal

pub of-requires : goal.of-requires
of-requires c =
    let none : length c.new-names.result ≡ 0 = ap (λ (ns : List (List ℕ)). length ns) c.new-names.ensures in
    record { room = omega (arith, none, (limits c.args.deck.now c.stop.ensures.valid).few_nodes) }

pub event_text-requires-clause-circuit : goal.event_text-requires-clause-circuit
event_text-requires-clause-circuit c =
    let made = c.in_ok-circuit.ensures {u = tt} in
    made.circuit ∙ rw (made.names, c.new-names.ensures, with_nodes_none c.args.deck.now) refl
