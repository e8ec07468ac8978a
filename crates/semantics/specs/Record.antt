-- Records: what is kept of a run, right or wrong, and where it is at fault.
use Rattle.std.specs.Prelude.{◌≡◌, ℕ, suc, ◌==◌, ◌<◌, ◌≤◌, nat_lt, Bool, true, false, not, ◌&&◌, ℤ, pos, ◌+ℤ◌, ◌*ℤ◌, List}
use Rattle.std.specs.List.{position_or_len}
use Rattle.std.specs.Ordering.{int_eq}
use Rattle.std.specs.Str.{bytes_eq}
use Rattle.semantics.specs.declared.fraction.Fraction.{Fraction}
use Rattle.semantics.specs.Deck.{Name, DeckValue, capacity, initial_of}
use Rattle.semantics.specs.Neighbours.{is_free}
use Rattle.semantics.specs.Run.{voltages, node_current, charge, run}

-- a voltage for each name at each tick; those of free nodes up to the stop count
abbrev pub Record : Type 0
Record = Name → ℕ → Fraction

-- the voltages of all nodes at a tick, where the free ones have what the record says
abbrev pub record_voltages : DeckValue → Record → ℕ → Name → Fraction
record_voltages d w t = voltages d t (λ m. w m t)

-- what flows into a node at the voltages of the record
abbrev pub record_current : DeckValue → Record → ℕ → Name → ℤ
record_current d w t n = node_current d (record_voltages d w t) n

-- ---- the run

-- the run as a record: the charge of a node over its capacitance. The voltages of a tick of the run are those of this record
abbrev pub run_record : DeckValue → Record
run_record d n t = record { num = charge d t n; den = capacity d n }

-- the record has the run's voltage of this node
abbrev pub HasRun : DeckValue → Record → Name → ℕ → Type 0
HasRun d w n t = w n t ≡ run d t n

-- the record is the run up to a tick
abbrev pub IsRunTo : DeckValue → Record → ℕ → Type 0
IsRunTo d w t = (n : Name) (s : ℕ) → is_free d n ≡ true → s ≤ t → HasRun d w n s

-- ---- faults

-- a free node at tick 0: its capacitance at its initial voltage
abbrev pub start_pair : DeckValue → Name → Fraction
start_pair d n = record { num = pos (capacity d n) *ℤ initial_of d n; den = capacity d n }

-- each free node begins so
abbrev pub Starts : DeckValue → Record → Type 0
Starts d w = (n : Name) → is_free d n ≡ true → w n 0 ≡ start_pair d n

-- from a tick to the next a node's voltages are over its capacitance, and its charge gains what flows in
unfoldable pub follows : DeckValue → Record → Name → ℕ → Bool
follows d w n t =
    ((w n t).den == capacity d n)
    && (((w n (suc t)).den == capacity d n) && int_eq (w n (suc t)).num ((w n t).num +ℤ record_current d w t n))

-- a free node at a tick below the stop, from which the record does not go on so
unfoldable pub is_fault : DeckValue → Record → Name → ℕ → Bool
is_fault d w n t = (is_free d n && nat_lt t d.stop) && not (follows d w n t)

-- no fault at a tick below this one
abbrev pub NoFaultBelow : DeckValue → Record → ℕ → Type 0
NoFaultBelow d w t = (n : Name) (s : ℕ) → s < t → is_fault d w n s ≡ false

-- ---- records by numbers

-- the number of a name is its place among these names
abbrev pub place_among : List Name → Name → ℕ
place_among names n = position_or_len (bytes_eq n) names

-- voltages that are kept by numbers, as a record: those of a name are those of its number
abbrev pub named : List Name → (ℕ → ℕ → Fraction) → Record
named names pairs n t = pairs (place_among names n) t
