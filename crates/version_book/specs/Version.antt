-- A version: a deck that edits have made, with the waves and events of its run.
use Rattle.std.specs.Prelude.{◌≡◌, ℕ, nat_le, Bool, true, if◌then◌else◌, List, map, Option, Some, None, option_and_then}
use Rattle.std.specs.List.{list_any}
use Rattle.std.specs.Str.{bytes_eq}
use Rattle.semantics.specs.declared.event.Event.{Event}
use Rattle.semantics.specs.declared.fraction.Fraction.{Fraction}
use Rattle.semantics.specs.declared.line.Line.{Line}
use Rattle.semantics.specs.Deck.{DeckValue, nodes}
use Rattle.semantics.specs.Event.{events}
use Rattle.semantics.specs.Valid.{is_valid}
use Rattle.semantics.specs.Wave.{wave}
use Rattle.deck_cards.specs.declared.edit.Edit.{Edit}
use Rattle.deck_cards.specs.Edits.{accepts, after}
use Rattle.circuit_model.specs.Carried.{voltage_at}

pub record VersionValue : Type 0 where
  pub base : DeckValue
  pub edits : List Edit
  pub deck : DeckValue

-- the edits, each accepted in its turn, have made the deck of the base deck, and it is valid
pub record IsEdited (v : VersionValue) : Type 0 where
  pub accepted : accepts v.base v.edits ≡ true
  pub deck_is : v.deck ≡ after v.base v.edits
  pub valid : is_valid v.deck ≡ true

-- these are the waves of the deck's nodes, in the order of the nodes, and its events
pub record IsVersion (v : VersionValue) (lines : List (List Line)) (found : List Event) : Type 0 where
  pub edited : IsEdited v
  pub waves_are : lines ≡ map (wave v.deck) (nodes v.deck)
  pub events_are : found ≡ events v.deck

abbrev pub is_node : DeckValue → List ℕ → Bool
is_node d n = list_any (bytes_eq n) (nodes d)

-- the wave of a name; None where it is no node of the deck
abbrev pub wave_of : DeckValue → List ℕ → Option (List Line)
wave_of d n = if is_node d n then Some (wave d n) else None

-- the voltage of a name at a tick, by its wave; None where it is no node of the deck, or the tick is after the stop
abbrev pub voltage_of : DeckValue → List ℕ → ℕ → Option Fraction
voltage_of d n t = if nat_le t d.stop then option_and_then (λ lines. voltage_at lines t) (wave_of d n) else None
