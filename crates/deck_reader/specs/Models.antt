-- What a `.model` card says, from the words behind its name.
use Rattle.std.specs.Prelude.{ℤ, pos, ◌||◌, Bool, true, false, if◌then◌else◌, List, [], ◌∷◌, fold, Option, Some, None, Result, Ok, Err, codes}
use Rattle.std.specs.List.{list_any}
use Rattle.std.specs.Option.{option_or}
use Rattle.std.specs.Ordering.{int_eq}
use Rattle.std.specs.Str.{bytes_eq}
use Rattle.spice_num.specs.declared.units.Unit.{Unit as NumUnit}
use Rattle.spice_num.specs.declared.units.Unit.TheVariants.{Volt, Gain, Plain}
use Rattle.semantics.specs.declared.channel.Channel.{Channel}
use Rattle.semantics.specs.declared.channel.Channel.TheVariants.{N, P}
use Rattle.semantics.specs.Part as part
use Rattle.semantics.specs.Valid.{small_vto, some_gain}
use Rattle.deck_cards.specs.declared.which.Which.{Which}
use Rattle.deck_cards.specs.declared.which.Which.TheVariants as which_of
use Rattle.deck_cards.specs.Causes.{outside}
use Rattle.deck_reader.specs.declared.why.DeckWhy.{DeckWhy}
use Rattle.deck_reader.specs.declared.why.DeckWhy.TheVariants.{WrongWords, BadLevel}
use Rattle.deck_reader.specs.declared.settings.Key.{Key}
use Rattle.deck_reader.specs.declared.settings.Key.TheVariants.{Vto, Kp, Level}
use Rattle.deck_reader.specs.Words.{Word, are_pairs}
use Rattle.deck_reader.specs.Numbers.{number, ◌>>=◌}

-- the channel that a word names
unfoldable pub channel_of : Word → Option Channel
channel_of word = if bytes_eq word (codes "nmos") then Some N else if bytes_eq word (codes "pmos") then Some P else None

-- ---- settings

-- the key that a word is; `vto` and `vt0` are one. None for any other word: it is skipped with its value
unfoldable pub key_of : Word → Option Key
key_of word =
    if bytes_eq word (codes "vto") || bytes_eq word (codes "vt0") then Some Vto
    else if bytes_eq word (codes "kp") then Some Kp
    else if bytes_eq word (codes "level") then Some Level
    else None

abbrev pub same_key : Key → Key → Bool
same_key Vto Vto = true
same_key Kp Kp = true
same_key Level Level = true
same_key _ _ = false

-- a threshold voltage is in microvolts, a gain in picoamperes per square volt, and a level is rounded to a whole number
abbrev pub unit_of : Key → NumUnit
unit_of Vto = Volt
unit_of Kp = Gain
unit_of Level = Plain

-- the keys of pairs of a key and its value, each with its value, in the order of the card
unfoldable pub settings_of : List Word → Result (List (Key × ℤ)) DeckWhy
settings_of (word ∷ value ∷ words) = elim (key_of word) [
  | None ↦ settings_of words
  | Some key ↦ do
    z ← number (unit_of key) value
    settings ← settings_of words
    Ok ((key, z) ∷ settings)
]
settings_of _ = Ok []

-- the last value of a key, and where there is none, this one
abbrev pub last_of : Key → ℤ → List (Key × ℤ) → ℤ
last_of key none settings = fold (λ before s. if same_key key s.0 then s.1 else before) none settings

-- the level is 1, and so it is where none is set
abbrev pub is_level_one : List (Key × ℤ) → Bool
is_level_one settings = int_eq (last_of Level (pos 1) settings) (pos 1)

-- ---- limits

-- what a setting is of, where it is outside its limit
abbrev pub setting_limit : Key × ℤ → Option Which
setting_limit (Vto, volts) = outside (small_vto volts) which_of.Volts
setting_limit (Kp, gain) = outside (some_gain gain) which_of.Gain
setting_limit (Level, level) = None

-- what the first setting outside its limit is of; one whose key is set again behind it is not looked at
unfoldable pub settings_limit : List (Key × ℤ) → Option Which
settings_limit [] = None
settings_limit (s ∷ settings) =
    if list_any (λ later. same_key s.0 later.0) settings then settings_limit settings else option_or (setting_limit s) (settings_limit settings)

-- ---- the model

-- a model, and what its first value outside its limit is of
pub record ModelSaid : Type 0 where
  pub part : part.Part
  pub limit : Option Which

-- a model of this channel: a threshold voltage of 0 and a gain of 20 µA per square volt, where none is set
abbrev pub model : Channel → List (Key × ℤ) → ModelSaid
model channel settings = record {
  part = part.Level channel (last_of Vto (pos 0) settings) (last_of Kp (pos 20000000) settings);
  limit = settings_limit settings;
}

-- the settings of a model of level 1
abbrev pub with_settings : Channel → List (Key × ℤ) → Result ModelSaid DeckWhy
with_settings channel settings = if is_level_one settings then Ok (model channel settings) else Err BadLevel

-- nmos or pmos, and pairs of a key and its value
unfoldable pub model_of : List Word → Result ModelSaid DeckWhy
model_of [] = Err WrongWords
model_of (word ∷ words) = elim (channel_of word) [
  | None ↦ Err WrongWords
  | Some channel ↦ if are_pairs words then (do
    settings ← settings_of words
    with_settings channel settings) else Err WrongWords
]
