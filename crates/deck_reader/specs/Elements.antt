-- What the card of an element says.
use Rattle.std.specs.Prelude.{◌^◌, pos, List, [], ◌∷◌, Bool, ◌||◌, if◌then◌else◌, Option, Some, None, Result, Ok, Err, codes}
use Rattle.std.specs.Str.{bytes_eq}
use Rattle.spice_num.specs.declared.units.Unit.TheVariants.{Ohm, Farad, Length}
use Rattle.semantics.specs.declared.element.Element.{Element}
use Rattle.semantics.specs.declared.element.Element.TheVariants.{Resistor, Capacitor, Source, Mos}
use Rattle.deck_lexer.specs.Cards.{begins_with}
use Rattle.deck_reader.specs.declared.why.DeckWhy.{DeckWhy}
use Rattle.deck_reader.specs.declared.why.DeckWhy.TheVariants.{Unsupported, WrongWords}
use Rattle.deck_reader.specs.declared.device.Size.{Size}
use Rattle.deck_reader.specs.Words.{Word, node, are_pairs}
use Rattle.deck_reader.specs.Numbers.{number, ◌>>=◌}
use Rattle.deck_reader.specs.Sources.{source_points, wave_of}

-- ---- resistor, capacitor, source

-- rNAME NODE NODE OHMS
unfoldable pub resistor : List Word → Result Element DeckWhy
resistor (name ∷ first ∷ second ∷ ohms ∷ []) = do
  z ← number Ohm ohms
  Ok (Resistor name (node first) (node second) z)
resistor _ = Err WrongWords

-- cNAME NODE NODE FARADS
unfoldable pub capacitor : List Word → Result Element DeckWhy
capacitor (name ∷ plus ∷ minus ∷ farads ∷ []) = do
  z ← number Farad farads
  Ok (Capacitor name (node plus) (node minus) z)
capacitor _ = Err WrongWords

-- vNAME NODE NODE, and the words of its voltage
unfoldable pub source : List Word → Result Element DeckWhy
source (name ∷ plus ∷ minus ∷ volts) = do
  points ← source_points volts
  Ok (Source name (node plus) (node minus) (wave_of points))
source _ = Err WrongWords

-- ---- device

abbrev pub is_length : Word → Bool
is_length key = bytes_eq key (codes "l")

abbrev pub is_width : Word → Bool
is_width key = bytes_eq key (codes "w")

-- what is skipped with its value: areas, perimeters and squares of drain and source
abbrev pub is_skipped : Word → Bool
is_skipped key =
    (bytes_eq key (codes "ad") || bytes_eq key (codes "as")) || (bytes_eq key (codes "pd") || bytes_eq key (codes "ps"))
    || (bytes_eq key (codes "nrd") || bytes_eq key (codes "nrs"))

abbrev pub is_key : Word → Bool
is_key key = is_length key || is_width key || is_skipped key

-- the first key that is none of a device
unfoldable pub foreign_key : List Word → Option Word
foreign_key [] = None
foreign_key (key ∷ []) = if is_key key then None else Some key
foreign_key (key ∷ value ∷ words) = if is_key key then foreign_key words else Some key

-- 100 µm each
abbrev pub default_size : Size
default_size = record { length = pos (10 ^ 8); width = pos (10 ^ 8) }

-- the size after one more key
unfoldable pub with_key : Size → Word → Word → Result Size DeckWhy
with_key size key value =
    if is_length key then (do
      z ← number Length value
      Ok (record size { length = z }))
    else if is_width key then (do
      z ← number Length value
      Ok (record size { width = z }))
    else Ok size

-- the size after these keys: of two equal ones the last holds
unfoldable pub with_keys : Size → List Word → Result Size DeckWhy
with_keys size (key ∷ value ∷ words) = do
  next ← with_key size key value
  with_keys next words
with_keys size _ = Ok size

-- the device of a size
abbrev pub mos : Word → Word → Word → Word → Word → Word → Size → Element
mos name drain gate source bulk part size = Mos name (node drain) (node gate) (node source) (node bulk) part size.length size.width

-- mNAME DRAIN GATE SOURCE BULK PART, and pairs of a key and its value
unfoldable pub device : List Word → Result Element DeckWhy
device (name ∷ drain ∷ gate ∷ source ∷ bulk ∷ part ∷ keys) = elim (foreign_key keys) [
  | Some key ↦ Err (Unsupported key)
  | None ↦ if are_pairs keys then (do
    size ← with_keys default_size keys
    Ok (mos name drain gate source bulk part size)) else Err WrongWords
]
device _ = Err WrongWords

-- ---- any element

-- the first letter of its name says its kind: r, c, v or m
unfoldable pub element : List Word → Result Element DeckWhy
element [] = Err WrongWords
element (name ∷ words) =
    if begins_with 114 name then resistor (name ∷ words)
    else if begins_with 99 name then capacitor (name ∷ words)
    else if begins_with 118 name then source (name ∷ words)
    else if begins_with 109 name then device (name ∷ words)
    else Err (Unsupported name)
