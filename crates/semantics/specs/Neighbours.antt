-- Which names are free nodes, and which nodes one device joins.
use Rattle.std.specs.Prelude.{Bool, true, false, ◌&&◌}
use Rattle.std.specs.List.{list_any}
use Rattle.std.specs.Str.{bytes_eq}
use Rattle.semantics.specs.declared.element.Element.{Element}
use Rattle.semantics.specs.declared.element.Element.TheVariants.{Resistor, Capacitor, Source, Mos}
use Rattle.semantics.specs.Deck.{Name, DeckValue, free_nodes, ends_of}

-- a node of the deck that no source drives
unfoldable pub is_free : DeckValue → Name → Bool
is_free d n = list_any (bytes_eq n) (free_nodes d)

-- a resistor or a MOS device: what lets a current flow between its ends
abbrev pub is_device : Element → Bool
is_device (Resistor name first second ohms) = true
is_device (Mos name drain gate source bulk part len width) = true
is_device (Capacitor name plus minus farads) = false
is_device (Source name plus minus wave) = false

-- the name is at an end of the element, a gate included
abbrev pub is_end : Name → Element → Bool
is_end n e = list_any (bytes_eq n) (ends_of e)

-- the element is one of the devices of the node
abbrev pub is_near : Name → Element → Bool
is_near n e = is_device e && is_end n e

-- the element is a device with both names among its ends
abbrev pub joins : Name → Name → Element → Bool
joins m n e = is_device e && (is_end m e && is_end n e)

-- two names are neighbours: one device has both among its ends
unfoldable pub share : DeckValue → Name → Name → Bool
share d m n = list_any (joins m n) d.elements
