-- Sorted, the changes of all devices are those of the record in order, and as events they are its events.
use Rattle.std.proofs.Common.{◌≡◌, ◌∙◌, List, IfOk, map, sym, ap, subst}
use Rattle.std.specs.List.{All, flat_map}
use Rattle.semantics.specs.declared.event.Event.{Event}
use Rattle.semantics.specs.RecordWave.{record_events}
use Rattle.circuit_model.specs.Numbers.{CircuitValue}
use Rattle.histories.specs.Record.{RecordValue, pair_at}
use Rattle.fault_sweep.specs.Records.{IsBasis}
use Rattle.circuit_model.specs.Records.{record_of}
use Rattle.record_events.specs.Changes.{IsChange, event_by}
use Rattle.record_events.proofs.Pairs.{are_changes, merged_is}
use Rattle.record_events.proofs.Told.{told_are}
use Rattle.record_events.proofs.event_list.events.Goals as goal

pub told-requires-clause-changes : goal.told-requires-clause-changes
told-requires-clause-changes c =
    let circuit : CircuitValue = c.args.circuit.now in
    let past : RecordValue = c.args.past.now in
    let are = ap (flat_map (λ changes. changes.items)) c.deref.ensures.value ∙ c.in_ok-lists.ensures in
    let same = merged_is circuit past (flat_map (λ changes. changes.items) c.deref.result.now) c.in_ok-merged.merged.items are c.in_ok-merged.ensures.all c.in_ok-merged.ensures.sorted in
    subst (All (IsChange circuit)) (sym (c.deref-2.ensures.value ∙ same)) (are_changes circuit past)

pub returns : goal.returns
returns c =
    let circuit : CircuitValue = c.args.circuit.now in
    let past : RecordValue = c.args.past.now in
    let basis : IsBasis circuit past = record { valid = c.known.ensures.valid; named = c.known.ensures.names; has_nodes = c.known.ensures.nodes; recorded = c.requires } in
    let are = ap (flat_map (λ changes. changes.items)) c.deref.ensures.value ∙ c.in_ok-lists.ensures in
    let same = merged_is circuit past (flat_map (λ changes. changes.items) c.deref.result.now) c.in_ok-merged.merged.items are c.in_ok-merged.ensures.all c.in_ok-merged.ensures.sorted in
    let events : map (event_by circuit past) c.deref-2.result.now ≡ record_events circuit.deck (record_of circuit (pair_at past)) = ap (map (event_by circuit past)) (c.deref-2.ensures.value ∙ same) ∙ told_are circuit past basis in
    subst (λ (es : List Event). IfOk c.told.result (λ found. found.items ≡ es)) events c.told.ensures
