-- The events of a run rise, and each is one of a device.
use Rattle.std.proofs.Common.{sym, subst, ap, ◌∙◌}
use Rattle.std.specs.List.{All}
use Rattle.std.specs.List.Sorted.{IsNonDecreasingBy}
use Rattle.semantics.specs.declared.event.Event.{Event}
use Rattle.wave_text.specs.Body.{IsEventOf}
use Rattle.wave_text.specs.Happened.{happened}
use Rattle.wave_text.proofs.Events.{events_are, events_rise}
use Rattle.wave_text.proofs.event_lines.events_of_deck.Goals as goal

pub happened-told-requires : goal.happened-told-requires
happened-told-requires c = subst (IsNonDecreasingBy (λ (e : Event). e.tick)) (sym c.requires) (events_rise c.args.deck.now)

pub push_events-requires : goal.push_events-requires
push_events-requires c =
    subst (All (IsEventOf c.args.deck.now)) (sym (c.happened-told.ensures ∙ ap (happened c.args.range) c.requires)) (events_are c.args.deck.now c.args.range)
