-- The record is the run, so its events are those of the run.
use Rattle.std.proofs.Common.{◌≡◌, ap, ◌∙◌}
use Rattle.semantics.specs.Event.{events}
use Rattle.histories.specs.Record.{pair_at}
use Rattle.circuit_model.specs.Numbers.{CircuitValue}
use Rattle.circuit_model.specs.Records.{record_of}
use Rattle.record_laws.proofs.Waves.{same_events}
use Rattle.version_book.proofs.version.Version.of.Goals as goal

pub invariant_of-result : goal.invariant_of-result
invariant_of-result c =
    let circuit : CircuitValue = c.args.circuit.now in
    let same : circuit.deck ≡ c.args.deck = ap (λ (x : CircuitValue). x.deck) c.requires.circuit in
    record {
      edited = record { accepted = c.requires.accepted; deck_is = c.requires.after; valid = c.in_ok-waves.ensures.valid };
      waves_are = c.in_ok-waves.ensures.waves;
      events_are = c.in_ok-events.ensures {u = tt} ∙ same_events circuit.deck (record_of circuit (pair_at c.args.past.now)) c.requires.run.run ∙ ap events same;
    }
