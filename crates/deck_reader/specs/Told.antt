-- What the cards of a deck have said so far, and what one more card makes of it.
use Rattle.std.specs.Prelude.{ℕ, ℤ, pos, int_le, unsigned_abs, List, [], ◌∷◌, ◌++◌, Bool, ◌&&◌, ◌||◌, if◌then◌else◌, fold, Option, Some, None, is_some, Result, Ok, Err, codes}
use Rattle.std.specs.Str.{bytes_eq}
use Rattle.semantics.specs.Part.{Part, Listed}
use Rattle.semantics.specs.Deck.{look_up}
use Rattle.semantics.specs.Valid.{small_volts, some_grain, short_time}
use Rattle.deck_cards.specs.declared.which.Which.{Which}
use Rattle.deck_cards.specs.declared.which.Which.TheVariants.{Volts, Seconds, Grain}
use Rattle.deck_cards.specs.Causes.{part_limit}
use Rattle.deck_cards.specs.Settled.{put}
use Rattle.deck_reader.specs.declared.why.DeckWhy.{DeckWhy}
use Rattle.deck_reader.specs.declared.why.DeckWhy.TheVariants.{WrongWords, DuplicateModel, SecondTran, Limit}
use Rattle.deck_reader.specs.declared.tran.Span.{Span}
use Rattle.deck_reader.specs.declared.told.Told.{Told}
use Rattle.deck_reader.specs.Words.{Word}
use Rattle.deck_reader.specs.Numbers.{◌>>=◌}
use Rattle.deck_reader.specs.Elements.{element}
use Rattle.deck_reader.specs.Tables.{table_of}
use Rattle.deck_reader.specs.Models.{model_of}
use Rattle.deck_reader.specs.Dots.{initial, options, tran}
use Rattle.deck_reader.specs.Circuit.{with_element}

-- before the first card: the grain is 50 mV
abbrev pub nothing : Told
nothing = record { circuit = []; parts = []; initial = []; grain = 50000; span = None }

-- these parts and one more: its name is new, and no value of it is outside its limit
abbrev pub with_part : List (Word × Part) → Word → Part → Option Which → Result (List (Word × Part)) DeckWhy
with_part parts name part limit =
    if is_some (look_up name parts) then Err (DuplicateModel name) else elim limit [
      | Some which ↦ Err (Limit which name)
      | None ↦ Ok (parts ++ (name, part) ∷ [])
    ]

-- a table has the limits of a deck
abbrev pub with_listed : List (Word × Part) → Word → Part → Result (List (Word × Part)) DeckWhy
with_listed parts name part = with_part parts name part (part_limit part)

-- .table NAME and its lists
unfoldable pub with_table : List (Word × Part) → List Word → Result (List (Word × Part)) DeckWhy
with_table parts [] = Err WrongWords
with_table parts (name ∷ words) = do
  table ← table_of words
  with_listed parts name (Listed table.gate table.drain table.amps)

-- .model NAME, its channel and its keys
unfoldable pub with_model : List (Word × Part) → List Word → Result (List (Word × Part)) DeckWhy
with_model parts [] = Err WrongWords
with_model parts (name ∷ words) = do
  model ← model_of words
  with_part parts name model.part model.limit

-- the first voltage outside its limit; one whose node stands again behind it is not looked at
unfoldable pub voltage_limit : List (Word × ℤ) → Option DeckWhy
voltage_limit [] = None
voltage_limit (p ∷ voltages) =
    if is_some (look_up p.0 voltages) || small_volts p.1 then voltage_limit voltages else Some (Limit Volts p.0)

-- .ic: the last voltage of a node holds, at the place of its first
unfoldable pub with_initial : List (Word × ℤ) → List Word → Result (List (Word × ℤ)) DeckWhy
with_initial before words = do
  voltages ← initial words
  elim (voltage_limit voltages) [ Some why ↦ Err why | None ↦ Ok (fold put before voltages) ]

abbrev pub is_grain : ℤ → Bool
is_grain z = int_le (pos 0) z && some_grain (unsigned_abs z)

-- .options: the last grain holds
abbrev pub grain_after : ℕ → Word → Option ℤ → Result ℕ DeckWhy
grain_after before word None = Ok before
grain_after before word (Some z) = if is_grain z then Ok (unsigned_abs z) else Err (Limit Grain word)

unfoldable pub with_options : ℕ → Word → List Word → Result ℕ DeckWhy
with_options before word words = do
  grain ← options words
  grain_after before word grain

-- .tran: the stop tick, which is at most 10 ms, and whether there is `uic`
abbrev pub is_stop : ℤ → Bool
is_stop t = int_le (pos 0) t && short_time (unsigned_abs t)

abbrev pub span_after : Option (ℕ × Bool) → Word → Span → Result (Option (ℕ × Bool)) DeckWhy
span_after before word span =
    if is_some before then Err SecondTran
    else if is_stop span.stop then Ok (Some (unsigned_abs span.stop, span.uic))
    else Err (Limit Seconds word)

unfoldable pub with_tran : Option (ℕ × Bool) → Word → List Word → Result (Option (ℕ × Bool)) DeckWhy
with_tran before word words = do
  span ← tran words
  span_after before word span

-- what is printed and plotted has no effect
abbrev pub is_output : Word → Bool
is_output word =
    (bytes_eq word (codes ".print") || bytes_eq word (codes ".plot")) || (bytes_eq word (codes ".probe") || bytes_eq word (codes ".save"))

abbrev pub is_options : Word → Bool
is_options word = bytes_eq word (codes ".options") || bytes_eq word (codes ".option")

-- what the words of a card make of what is told
abbrev pub table_told : Told → List Word → Result Told DeckWhy
table_told told words = do
  parts ← with_table told.parts words
  Ok (record told { parts = parts })

abbrev pub model_told : Told → List Word → Result Told DeckWhy
model_told told words = do
  parts ← with_model told.parts words
  Ok (record told { parts = parts })

abbrev pub initial_told : Told → List Word → Result Told DeckWhy
initial_told told words = do
  voltages ← with_initial told.initial words
  Ok (record told { initial = voltages })

abbrev pub grain_told : Told → Word → List Word → Result Told DeckWhy
grain_told told word words = do
  grain ← with_options told.grain word words
  Ok (record told { grain = grain })

abbrev pub span_told : Told → Word → List Word → Result Told DeckWhy
span_told told word words = do
  span ← with_tran told.span word words
  Ok (record told { span = span })

abbrev pub circuit_told : Told → ℕ → List Word → Result Told DeckWhy
circuit_told told line words = do
  e ← element words
  circuit ← with_element told.circuit line e
  Ok (record told { circuit = circuit })

-- what one more card of this line makes of what is told, or its first fault
unfoldable pub with_words : Told → ℕ → List Word → Result Told DeckWhy
with_words told line [] = Err WrongWords
with_words told line (word ∷ words) =
    if bytes_eq word (codes ".table") then table_told told words
    else if bytes_eq word (codes ".model") then model_told told words
    else if bytes_eq word (codes ".ic") then initial_told told words
    else if is_options word then grain_told told word words
    else if bytes_eq word (codes ".tran") then span_told told word words
    else if is_output word then Ok told
    else circuit_told told line (word ∷ words)
