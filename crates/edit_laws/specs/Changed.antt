-- What an edit changes in a deck that accepts it: the element that goes, the one that comes, and the initial voltage.
use Rattle.std.specs.Prelude.{◌≡◌, ◌≢◌, ℤ, Option, Some, None, option_and_then}
use Rattle.semantics.specs.declared.element.Element.{Element}
use Rattle.semantics.specs.Deck.{Name, DeckValue, ends_of, initial_of, name_of}
use Rattle.semantics.specs.Edit.{is_voltage_source}
use Rattle.deck_cards.specs.declared.edit.Edit.{Edit}
use Rattle.deck_cards.specs.declared.edit.Edit.TheVariants.{SetR, SetC, SetWave, SetModel, SetIc, Add, Remove}
use Rattle.deck_cards.specs.Edits.{named, with_ohms, with_farads, with_wave, with_part}

-- the element that the edit sets or takes out, as the deck has it
unfoldable pub element_before : DeckValue → Edit → Option Element
element_before d (SetR name ohms) = named name d.elements
element_before d (SetC name farads) = named name d.elements
element_before d (SetWave name wave) = named name d.elements
element_before d (SetModel name part) = named name d.elements
element_before d (SetIc node volts) = None
element_before d (Add e) = None
element_before d (Remove name) = named name d.elements

-- the element as the edit sets it, or the one that it puts in
unfoldable pub element_after : DeckValue → Edit → Option Element
element_after d (Add e) = Some e
element_after d (SetR name ohms) = option_and_then (with_ohms ohms) (named name d.elements)
element_after d (SetC name farads) = option_and_then (with_farads farads) (named name d.elements)
element_after d (SetWave name wave) = option_and_then (with_wave wave) (named name d.elements)
element_after d (SetModel name part) = option_and_then (with_part part) (named name d.elements)
element_after d (SetIc node volts) = None
element_after d (Remove name) = None

-- two elements with one name and the same ends, both sources or neither
pub record KeepsEnds (x y : Element) : Type 0 where
  pub name : name_of y ≡ name_of x
  pub ends : ends_of y ≡ ends_of x
  pub source : is_voltage_source y ≡ is_voltage_source x

-- the element is taken out, or is set to another one
abbrev pub Goes : DeckValue → Edit → Element → Type 0
Goes d e x = (element_before d e ≡ Some x) × (element_after d e ≢ Some x)

-- the element is put in, or another one is set to it
abbrev pub Comes : DeckValue → Edit → Element → Type 0
Comes d e x = (element_after d e ≡ Some x) × (element_before d e ≢ Some x)

-- the edit gives the name another initial voltage
pub record Gives (d : DeckValue) (e : Edit) (n : Name) : Type 0 where
  pub volts : ℤ
  pub is : e ≡ SetIc n volts
  pub other : initial_of d n ≢ volts
