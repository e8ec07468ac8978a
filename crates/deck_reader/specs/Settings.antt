-- What the body keeps of the settings of a model while it reads them. It defines nothing of a deck.
use Rattle.std.specs.Prelude.{ℤ, pos, false, true, if◌then◌else◌, List, fold, Option, Some, None, Result, Ok, Err}
use Rattle.std.specs.Option.{option_or}
use Rattle.std.specs.Ordering.{int_eq}
use Rattle.semantics.specs.declared.channel.Channel.{Channel}
use Rattle.semantics.specs.Part as part
use Rattle.semantics.specs.Valid.{small_vto, some_gain}
use Rattle.deck_cards.specs.declared.which.Which.{Which}
use Rattle.deck_cards.specs.declared.which.Which.TheVariants as which_of
use Rattle.deck_cards.specs.Causes.{outside}
use Rattle.deck_reader.specs.declared.why.DeckWhy.{DeckWhy}
use Rattle.deck_reader.specs.declared.why.DeckWhy.TheVariants.{BadLevel}
use Rattle.deck_reader.specs.declared.settings.Key.{Key}
use Rattle.deck_reader.specs.declared.settings.Key.TheVariants.{Vto, Kp, Level}
use Rattle.deck_reader.specs.declared.settings.Settings.{Settings}
use Rattle.deck_reader.specs.Words.{Word}
use Rattle.deck_reader.specs.Numbers.{number, ◌>>=◌}
use Rattle.deck_reader.specs.Models.{key_of, unit_of, settings_of, ModelSaid}

-- nothing is set
abbrev pub unset : Settings
unset = record { vto = pos 0; kp = pos 20000000; level = pos 1; kp_first = false }

-- one more setting
abbrev pub set : Settings → Key × ℤ → Settings
set kept (Vto, z) = record kept { vto = z; kp_first = true }
set kept (Kp, z) = record kept { kp = z; kp_first = false }
set kept (Level, z) = record kept { level = z }

-- the word of a key and that of its value
unfoldable pub with_setting : Settings → Word → Word → Result Settings DeckWhy
with_setting kept word value = elim (key_of word) [
  | None ↦ Ok kept
  | Some key ↦ do
    z ← number (unit_of key) value
    Ok (set kept (key, z))
]

-- pairs of a key and its value
unfoldable pub with_pairs : Settings → List Word → Result Settings DeckWhy
with_pairs kept words = do
  settings ← settings_of words
  Ok (fold set kept settings)

-- what the first of the two values that is outside its limit is of
abbrev pub limit_of : Settings → Option Which
limit_of kept =
    let volts = outside (small_vto kept.vto) which_of.Volts in
    let gain = outside (some_gain kept.kp) which_of.Gain in
    if kept.kp_first then option_or gain volts else option_or volts gain

-- the model of these settings
abbrev pub said : Channel → Settings → ModelSaid
said channel kept = record { part = part.Level channel kept.vto kept.kp; limit = limit_of kept }

abbrev pub level_one : Channel → Settings → Result ModelSaid DeckWhy
level_one channel kept = if int_eq kept.level (pos 1) then Ok (said channel kept) else Err BadLevel
