-- What an edit makes of a deck, and why a deck refuses it.
use Rattle.std.specs.Prelude.{ℕ, ℤ, Bool, true, not, ◌&&◌, ◌==◌, if◌then◌else◌, List, [], ◌∷◌, ◌++◌, length, filter, fold, map, Option, Some, None, is_none, unwrap_or, Result, Ok, Err}
use Rattle.std.specs.Option.{option_or}
use Rattle.std.specs.Str.{bytes_eq}
use Rattle.semantics.specs.declared.element.Element.{Element}
use Rattle.semantics.specs.declared.element.Element.TheVariants.{Resistor, Capacitor, Source, Mos}
use Rattle.semantics.specs.Points.{rising_times}
use Rattle.semantics.specs.Deck.{DeckValue, name_of, first_some}
use Rattle.semantics.specs.Valid.{small_volts, some_ohms, some_farads, has_part}
use Rattle.deck_cards.specs.declared.which.Which.TheVariants.{Volts, Farads, Ohms}
use Rattle.deck_cards.specs.declared.edit_refusal.EditRefusal.{EditRefusal}
use Rattle.deck_cards.specs.declared.edit_refusal.EditRefusal.TheVariants.{NoSuchName, WrongKind, NoSuchModel}
use Rattle.deck_cards.specs.declared.edit.Edit.{Edit}
use Rattle.deck_cards.specs.declared.edit.Edit.TheVariants.{SetR, SetC, SetWave, SetModel, SetIc, Add, Remove}
use Rattle.deck_cards.specs.Settled.{put}
use Rattle.deck_cards.specs.Causes.{when, first_that, part_name, add_cause, limit, limited, point_limit, element_limit, whole_with}

-- ---- elements by name

abbrev pub has_name : List ℕ → Element → Bool
has_name n e = bytes_eq n (name_of e)

-- the element of this name
abbrev pub named : List ℕ → List Element → Option Element
named n es = first_that (has_name n) es

-- ---- an element with another value; None where it is of another kind

abbrev pub with_ohms : ℤ → Element → Option Element
with_ohms ohms (Resistor name first second old) = Some (Resistor name first second ohms)
with_ohms ohms (Capacitor name plus minus farads) = None
with_ohms ohms (Source name plus minus wave) = None
with_ohms ohms (Mos name drain gate source bulk part len width) = None

abbrev pub with_farads : ℤ → Element → Option Element
with_farads farads (Capacitor name plus minus old) = Some (Capacitor name plus minus farads)
with_farads farads (Resistor name first second ohms) = None
with_farads farads (Source name plus minus wave) = None
with_farads farads (Mos name drain gate source bulk part len width) = None

abbrev pub with_wave : List (ℕ × ℤ) → Element → Option Element
with_wave wave (Source name plus minus old) = Some (Source name plus minus wave)
with_wave wave (Resistor name first second ohms) = None
with_wave wave (Capacitor name plus minus farads) = None
with_wave wave (Mos name drain gate source bulk part len width) = None

abbrev pub with_part : List ℕ → Element → Option Element
with_part part (Mos name drain gate source bulk old len width) = Some (Mos name drain gate source bulk part len width)
with_part part (Resistor name first second ohms) = None
with_part part (Capacitor name plus minus farads) = None
with_part part (Source name plus minus wave) = None

-- an element with the value that an edit gives; None where it is of another kind, or the edit gives no value
abbrev pub changed : Edit → Element → Option Element
changed (SetR name ohms) = with_ohms ohms
changed (SetC name farads) = with_farads farads
changed (SetWave name wave) = with_wave wave
changed (SetModel name part) = with_part part
changed (SetIc node volts) = λ e. None
changed (Add element) = λ e. None
changed (Remove name) = λ e. None

-- ---- the deck after an edit

-- the element of this name with the value, in its place
abbrev pub set_named : List ℕ → (Element → Option Element) → List Element → List Element
set_named n with_value es = map (λ e. if has_name n e then unwrap_or (with_value e) e else e) es

-- the elements but the one of this name
abbrev pub without_name : List ℕ → List Element → List Element
without_name n es = filter (λ e. not (has_name n e)) es

-- the deck after an edit that is accepted: an element keeps its place, a new one stands last, and so does a new initial voltage
unfoldable pub edited : DeckValue → Edit → DeckValue
edited d (SetR name ohms) = record d { elements = set_named name (with_ohms ohms) d.elements }
edited d (SetC name farads) = record d { elements = set_named name (with_farads farads) d.elements }
edited d (SetWave name wave) = record d { elements = set_named name (with_wave wave) d.elements }
edited d (SetModel name part) = record d { elements = set_named name (with_part part) d.elements }
edited d (SetIc node volts) = record d { initial = put d.initial (node, volts) }
edited d (Add e) = record d { elements = d.elements ++ e ∷ [] }
edited d (Remove name) = record d { elements = without_name name d.elements }

-- ---- why a deck refuses an edit

-- the element to be set is not there, is of another kind, or would have a part that is not there
abbrev pub set_cause : DeckValue → List ℕ → (Element → Option Element) → Option EditRefusal
set_cause d name with_value = elim (named name d.elements) [
  | None ↦ Some (NoSuchName name)
  | Some e ↦ elim (with_value e) [
    | None ↦ Some (WrongKind name)
    | Some x ↦ when (not (has_part d x)) (NoSuchModel (part_name x))
  ]
]

-- what the deck as it is has against the edit
unfoldable pub place_cause : DeckValue → Edit → Option EditRefusal
place_cause d (SetR name ohms) = set_cause d name (with_ohms ohms)
place_cause d (SetC name farads) = set_cause d name (with_farads farads)
place_cause d (SetWave name wave) = set_cause d name (with_wave wave)
place_cause d (SetModel name part) = set_cause d name (with_part part)
place_cause d (SetIc node volts) = None
place_cause d (Add e) = add_cause d d.elements e
place_cause d (Remove name) = when (is_none (named name d.elements)) (NoSuchName name)

-- the first value of the edit outside its limit
unfoldable pub edit_limit : Edit → Option EditRefusal
edit_limit (SetR name ohms) = limit (some_ohms ohms) Ohms name
edit_limit (SetC name farads) = limit (some_farads farads) Farads name
edit_limit (SetWave name wave) = limited name (first_some point_limit wave)
edit_limit (SetModel name part) = None
edit_limit (SetIc node volts) = limit (small_volts volts) Volts node
edit_limit (Add e) = limited (name_of e) (element_limit e)
edit_limit (Remove name) = None

-- the first cause against an edit: what the deck has against it, then what the deck that it would give has
unfoldable pub edit_cause : DeckValue → Edit → Option EditRefusal
edit_cause d e = option_or (place_cause d e) (whole_with (edit_limit e) (edited d e))

-- the deck after the edit, or the first cause
abbrev pub apply : DeckValue → Edit → Result DeckValue EditRefusal
apply d e = elim (edit_cause d e) [ None ↦ Ok (edited d e) | Some cause ↦ Err cause ]

-- the deck after these edits, in turn
unfoldable pub after : DeckValue → List Edit → DeckValue
after d es = fold edited d es

-- each of these edits in turn is accepted
unfoldable pub accepts : DeckValue → List Edit → Bool
accepts d [] = true
accepts d (e ∷ es) = is_none (edit_cause d e) && accepts (edited d e) es

-- ---- what the type of a wave says

-- it has a point, and its ticks rise
abbrev pub has_rising : List (ℕ × ℤ) → Bool
has_rising wave = not (length wave == 0) && rising_times wave

abbrev pub element_rises : Element → Bool
element_rises (Source name plus minus wave) = has_rising wave
element_rises (Resistor name first second ohms) = true
element_rises (Capacitor name plus minus farads) = true
element_rises (Mos name drain gate source bulk part len width) = true

-- a source that the edit brings
abbrev pub edit_rises : Edit → Bool
edit_rises (SetWave name wave) = has_rising wave
edit_rises (Add e) = element_rises e
edit_rises (SetR name ohms) = true
edit_rises (SetC name farads) = true
edit_rises (SetModel name part) = true
edit_rises (SetIc node volts) = true
edit_rises (Remove name) = true
