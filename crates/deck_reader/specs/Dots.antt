-- What the cards `.ic`, `.options` and `.tran` say, from the words behind the first.
use Rattle.std.specs.Prelude.{◌-◌, nat_lt, ℤ, pos, List, [], ◌∷◌, length, take, Bool, true, false, ◌&&◌, ◌||◌, if◌then◌else◌, fold, Option, Some, None, Result, Ok, Err, codes}
use Rattle.std.specs.Option.{option_map}
use Rattle.std.specs.Str.{bytes_eq}
use Rattle.spice_num.specs.declared.units.Unit.TheVariants.{Time, Volt}
use Rattle.deck_reader.specs.declared.why.DeckWhy.{DeckWhy}
use Rattle.deck_reader.specs.declared.why.DeckWhy.TheVariants.{WrongWords}
use Rattle.deck_reader.specs.declared.tran.Span.{Span}
use Rattle.deck_reader.specs.Words.{Word, node, ends_with}
use Rattle.deck_reader.specs.Numbers.{number, numbers, ◌>>=◌}

-- ---- .ic

-- triples `v` NODE VOLTS
unfoldable pub are_triples : List Word → Bool
are_triples [] = true
are_triples (key ∷ []) = false
are_triples (key ∷ name ∷ []) = false
are_triples (key ∷ name ∷ volts ∷ words) = bytes_eq key (codes "v") && are_triples words

-- a node and its voltage
unfoldable pub voltage : Word → Word → Result (Word × ℤ) DeckWhy
voltage name volts = do
  z ← number Volt volts
  Ok (node name, z)

-- the voltages that triples say
unfoldable pub voltages_of : List Word → Result (List (Word × ℤ)) DeckWhy
voltages_of (key ∷ name ∷ volts ∷ words) = do
  v ← voltage name volts
  voltages ← voltages_of words
  Ok (v ∷ voltages)
voltages_of _ = Ok []

unfoldable pub initial : List Word → Result (List (Word × ℤ)) DeckWhy
initial words = if are_triples words then voltages_of words else Err WrongWords

-- ---- .options

abbrev pub is_grain_key : Word → Bool
is_grain_key word = bytes_eq word (codes "grain")

-- the values of `grain`, each the word behind one; None where the last has none. Every other word is skipped
unfoldable pub grain_values : List Word → Option (List Word)
grain_values [] = Some []
grain_values (word ∷ []) = if is_grain_key word then None else Some []
grain_values (word ∷ next ∷ words) =
    if is_grain_key word then option_map (λ values. next ∷ values) (grain_values words) else grain_values (next ∷ words)

-- the last of these
abbrev pub last_of : List ℤ → Option ℤ
last_of zs = fold (λ before z. Some z) None zs

-- the last grain, where there is one
unfoldable pub options : List Word → Result (Option ℤ) DeckWhy
options words = elim (grain_values words) [
  | None ↦ Err WrongWords
  | Some values ↦ do
    grains ← numbers Volt values
    Ok (last_of grains)
]

-- ---- .tran

-- the second of these times; there is one
abbrev pub second : List ℤ → ℤ
second [] = pos 0
second (step ∷ []) = pos 0
second (step ∷ stop ∷ times) = stop

-- TSTEP TSTOP, TSTART and TMAX or not, and `uic` or not
abbrev pub times_of : List Word → List Word
times_of words = if ends_with words (codes "uic") then take (length words - 1) words else words

unfoldable pub tran : List Word → Result Span DeckWhy
tran words =
    if nat_lt (length (times_of words)) 2 || nat_lt 4 (length (times_of words)) then Err WrongWords
    else (do
      times ← numbers Time (times_of words)
      Ok (record { stop = second times; uic = ends_with words (codes "uic") }))
