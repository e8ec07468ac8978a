-- What the card of a source says: its points, from the words behind its nodes.
use Rattle.std.specs.Prelude.{ℕ, ◌+◌, ◌^◌, ℤ, pos, int_le, int_lt, unsigned_abs, List, [], ◌∷◌, map, drop, find, Bool, not, ◌||◌, if◌then◌else◌, Option, Some, None, Result, Ok, Err, codes, is_ok}
use Rattle.std.specs.List.{before_first, list_all, zip}
use Rattle.std.specs.Option.{option_map}
use Rattle.std.specs.Str.{bytes_eq}
use Rattle.spice_num.specs.declared.units.Unit.TheVariants.{Time, Volt}
use Rattle.spice_num.specs.Number.{number_of}
use Rattle.deck_reader.specs.declared.why.DeckWhy.{DeckWhy}
use Rattle.deck_reader.specs.declared.why.DeckWhy.TheVariants.{Unsupported, WrongWords, TimesNotRising}
use Rattle.deck_reader.specs.declared.source.Form.{Form}
use Rattle.deck_reader.specs.Words.{Word, is_empty, are_pairs}
use Rattle.deck_reader.specs.Numbers.{number, ◌>>=◌}

abbrev pub is_dc : Word → Bool
is_dc word = bytes_eq word (codes "dc")

abbrev pub is_pwl : Word → Bool
is_pwl word = bytes_eq word (codes "pwl")

-- ---- the form

abbrev pub before_pwl : List Word → List Word
before_pwl words = before_first is_pwl words

-- a word with the one in front of it: it is neither `dc` nor directly behind one, and is no voltage
abbrev pub is_foreign : Word × Word → Bool
is_foreign (front, word) = not (is_dc word || (is_dc front || is_ok (number_of Volt word)))

-- the first such word before `pwl`; the first word of all has an empty one in front of it
unfoldable pub foreign_word : List Word → Option Word
foreign_word words = option_map (λ pair. pair.1) (find is_foreign (zip ([] ∷ before_pwl words) (before_pwl words)))

-- a value, and the words of at least one point
abbrev pub with_points : Option Word → List Word → Option Form
with_points value words = if is_empty words || not (are_pairs words) then None else Some (record { value = value; points = words })

-- what may stand behind a value: nothing, or `pwl` and points
abbrev pub behind_value : Word → List Word → Option Form
behind_value value [] = Some (record { value = Some value; points = [] })
behind_value value (word ∷ words) = if is_pwl word then with_points (Some value) words else None

abbrev pub behind_dc : List Word → Option Form
behind_dc [] = None
behind_dc (value ∷ words) = behind_value value words

-- VOLTS, or `dc` VOLTS, or either of these or nothing followed by `pwl` T1 V1 T2 V2 ..
unfoldable pub form_of : List Word → Option Form
form_of [] = None
form_of (word ∷ words) =
    if is_pwl word then with_points None words else if is_dc word then behind_dc words else behind_value word words

-- ---- the points

-- a time and a voltage
unfoldable pub point : Word → Word → Result (ℤ × ℤ) DeckWhy
point time volts = do
  t ← number Time time
  v ← number Volt volts
  Ok (t, v)

-- the points that words say
unfoldable pub points_of : List Word → Result (List (ℤ × ℤ)) DeckWhy
points_of (time ∷ volts ∷ words) = do
  p ← point time volts
  points ← points_of words
  Ok (p ∷ points)
points_of _ = Ok []

-- the value of a form; 0 where it has none
unfoldable pub level_of : Option Word → Result ℤ DeckWhy
level_of None = Ok (pos 0)
level_of (Some word) = number Volt word

-- the points of a form: those behind `pwl`, and else its value from time 0 on; a value before `pwl` has no effect
unfoldable pub form_points : Form → Result (List (ℤ × ℤ)) DeckWhy
form_points form = do
  level ← level_of form.value
  if is_empty form.points then Ok ((pos 0, level) ∷ []) else points_of form.points

-- each time is above the one before it
abbrev pub are_rising : List (ℤ × ℤ) → Bool
are_rising points = list_all (λ pair. int_lt pair.0.0 pair.1.0) (zip points (drop 1 points))

-- the points that the words behind the nodes of a source say; their times may be below 0
unfoldable pub source_points : List Word → Result (List (ℤ × ℤ)) DeckWhy
source_points words = elim (foreign_word words) [
  | Some word ↦ Err (Unsupported word)
  | None ↦ elim (form_of words) [
    | None ↦ Err WrongWords
    | Some form ↦ do
      points ← form_points form
      if are_rising points then Ok points else Err TimesNotRising
  ]
]

-- ---- the wave

-- the one point that no deck takes, since it stands above the last tick
abbrev pub late_points : List (ℕ × ℤ)
late_points = (10 ^ 10 + 1, pos 0) ∷ []

-- the voltage of these points; a time below 0 is no tick
unfoldable pub wave_of : List (ℤ × ℤ) → List (ℕ × ℤ)
wave_of points =
    if list_all (λ p. int_le (pos 0) p.0) points then map (λ p. (unsigned_abs p.0, p.1)) points else late_points
