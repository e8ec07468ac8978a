-- What a `.table` card says, from the words behind its name.
use Rattle.std.specs.Prelude.{◌+◌, ◌*◌, nat_lt, ◌==◌, ℤ, List, [], ◌∷◌, length, take, drop, not, ◌||◌, if◌then◌else◌, Option, Some, None, Result, Ok, Err, codes}
use Rattle.std.specs.Str.{bytes_eq}
use Rattle.spice_num.specs.declared.units.Unit.TheVariants.{Volt, Amp}
use Rattle.semantics.specs.Valid.{rising}
use Rattle.device_tables.specs.Table.{TableValue}
use Rattle.deck_reader.specs.declared.why.DeckWhy.{DeckWhy}
use Rattle.deck_reader.specs.declared.why.DeckWhy.TheVariants.{WrongWords, TooManyThresholds, NotRising, WrongCount}
use Rattle.deck_reader.specs.declared.table.Lists.{Lists}
use Rattle.deck_reader.specs.Words.{Word, place_of}
use Rattle.deck_reader.specs.Numbers.{numbers, ◌>>=◌}

-- the currents stand behind the first `amps`
abbrev pub with_amps : List Word → List Word → Option Lists
with_amps gate words = elim (place_of (codes "amps") words) [
  | None ↦ None
  | Some j ↦ Some (record { gate = gate; drain = take j words; amps = drop (j + 1) words })
]

-- gate THRESHOLD .. drain THRESHOLD .. amps CURRENT ..: the first `drain` behind `gate`, and the first `amps` behind that
unfoldable pub lists_of : List Word → Option Lists
lists_of [] = None
lists_of (word ∷ words) =
    if bytes_eq word (codes "gate")
    then elim (place_of (codes "drain") words) [
      | None ↦ None
      | Some i ↦ with_amps (take i words) (drop (i + 1) words)
    ]
    else None

-- why these thresholds and currents are no table
unfoldable pub table_fault : List ℤ → List ℤ → List ℤ → Option DeckWhy
table_fault gate drain amps =
    if nat_lt 256 (length gate) || nat_lt 256 (length drain) then Some TooManyThresholds
    else if not (rising gate) || not (rising drain) then Some NotRising
    else if not (length amps == (length gate + 1) * (length drain + 1)) then Some WrongCount
    else None

-- the table, where these make one
abbrev pub table_or : Option DeckWhy → TableValue → Result TableValue DeckWhy
table_or None table = Ok table
table_or (Some why) table = Err why

-- the table that these words say
unfoldable pub table_of : List Word → Result TableValue DeckWhy
table_of words = elim (lists_of words) [
  | None ↦ Err WrongWords
  | Some lists ↦ do
    gate ← numbers Volt lists.gate
    drain ← numbers Volt lists.drain
    amps ← numbers Amp lists.amps
    table_or (table_fault gate drain amps) (record { gate = gate; drain = drain; amps = amps })
]
