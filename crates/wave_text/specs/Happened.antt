-- What `events` tells: the events of the run, or those whose ticks are in a range.
use Rattle.std.specs.Prelude.{ℕ, List, [], ◌++◌, length, Option, Some, None, filter, slice_get, codes}
use Rattle.std.specs.Fmt.{decimal}
use Rattle.std.specs.List.{flat_map}
use Rattle.semantics.specs.declared.element.Element.{Element}
use Rattle.semantics.specs.declared.element.Element.TheVariants.{Resistor, Capacitor, Source, Mos}
use Rattle.semantics.specs.declared.event.Event.{Event}
use Rattle.semantics.specs.Deck.{DeckValue}
use Rattle.semantics.specs.Event.{events}
use Rattle.wave_text.specs.Range.{is_in}

-- of a resistor TICK NAME OLD NEW; of a MOS device TICK NAME OLDGATE OLDDRAIN NEWGATE NEWDRAIN; what has no cells has no events
unfoldable pub event_text : Element → Event → List ℕ
event_text (Resistor name first second ohms) e =
    decimal e.tick ++ (codes " " ++ (name ++ (codes " " ++ (decimal e.old.0 ++ (codes " " ++ (decimal e.new.0 ++ codes "\n"))))))
event_text (Mos name drain gate source bulk part len width) e =
    decimal e.tick ++ (codes " " ++ (name ++ (codes " " ++ (decimal e.old.0 ++ (codes " " ++ (decimal e.old.1
    ++ (codes " " ++ (decimal e.new.0 ++ (codes " " ++ (decimal e.new.1 ++ codes "\n"))))))))))
event_text (Capacitor name plus minus farads) e = []
event_text (Source name plus minus wave) e = []

-- the line of an event, with the name of the element at its place
unfoldable pub event_line : DeckValue → Event → List ℕ
event_line d event = elim (slice_get d.elements event.place) [ None ↦ [] | Some e ↦ event_text e event ]

-- all events, or those whose ticks are in the range
unfoldable pub happened : Option (ℕ × ℕ) → List Event → List Event
happened None all = all
happened (Some range) all = filter (λ event. is_in range event.tick) all

-- events COUNT, and the line of each of these
unfoldable pub events_text : DeckValue → Option (ℕ × ℕ) → List ℕ
events_text d range =
    codes "events " ++ (decimal (length (happened range (events d))) ++ (codes "\n"
    ++ flat_map (event_line d) (happened range (events d))))
