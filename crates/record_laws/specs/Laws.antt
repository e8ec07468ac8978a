-- The words of the laws: where two records are the same, families of nodes that close, straight lines, and windows that leave no fault.
use Rattle.std.specs.Prelude.{◌≡◌, ◌⊎◌, None, ℕ, suc, ◌+◌, ◌-◌, ◌<◌, ◌≤◌, ◌==◌, nat_lt, nat_le, Bool, true, false, not, ◌&&◌, ◌||◌, ℤ, pos, ◌+ℤ◌, ◌*ℤ◌, count_by}
use Rattle.std.specs.Ordering.{int_eq}
use Rattle.semantics.specs.declared.element.Element.{Element}
use Rattle.semantics.specs.Ground.{is_ground}
use Rattle.semantics.specs.Deck.{Name, DeckValue, capacity, driver, free_nodes}
use Rattle.semantics.specs.Valid.{is_valid}
use Rattle.semantics.specs.Neighbours.{is_free, is_end, share}
use Rattle.semantics.specs.Record.{Record, Starts, is_fault, start_pair, NoFaultBelow, HasRun, record_current}
use Rattle.semantics.specs.Edit.{IsEdit, IsNear}
use Rattle.semantics.specs.Pending.{IsBoundedAt, Pending}

-- ---- two records

-- they have the same voltages, but for these nodes after the tick `from` and up to the tick `until`
abbrev pub SameBeside : DeckValue → (Name → Bool) → ℕ → ℕ → Record → Record → Type 0
SameBeside d among from until v w =
    (n : Name) (t : ℕ) → is_free d n ≡ true → t ≤ d.stop → (among n ≡ false) ⊎ ((t ≤ from) ⊎ (until < t)) → v n t ≡ w n t

-- both have a fault of the node at the tick, or neither has
abbrev pub SameFault : DeckValue → Record → Record → Name → ℕ → Type 0
SameFault d v w n t = is_fault d v n t ≡ is_fault d w n t

-- they have the same voltages at a tick of the free ends of an element
abbrev pub SameEnds : DeckValue → Record → Record → ℕ → Element → Type 0
SameEnds d v w t e = (m : Name) → is_end m e ≡ true → is_ground m ≡ false → driver d m ≡ None → v m t ≡ w m t

-- they have the same voltages at a tick of the free neighbours of a node
abbrev pub SameBy : DeckValue → Record → Record → ℕ → Name → Type 0
SameBy d v w t n = (m : Name) → is_free d m ≡ true → share d m n ≡ true → v m t ≡ w m t

-- ---- nodes that a change or an edit does not reach

-- a node is none of these, and no device joins it to a free one of them
pub record IsApart (d : DeckValue) (among : Name → Bool) (n : Name) : Type 0 where
  pub outside : among n ≡ false
  pub unjoined : (m : Name) → is_free d m ≡ true → share d m n ≡ true → among m ≡ false

-- an edit between two valid decks
pub record IsValidEdit (old new : DeckValue) : Type 0 where
  pub old_valid : is_valid old ≡ true
  pub new_valid : is_valid new ≡ true
  pub edit : IsEdit old new

-- a free node of the deck after an edit that is not near the edit
pub record IsFar (old new : DeckValue) (n : Name) : Type 0 where
  pub free : is_free new n ≡ true
  pub beyond : IsNear old new n → ⊥

-- ---- families of nodes

-- a set of nodes for each tick
abbrev pub Family : Type 0
Family = ℕ → Name → Bool

-- a node of a tick is one of the tick before too, and so are its free neighbours
pub record Closes (d : DeckValue) (among : Family) : Type 0 where
  pub stays : (t : ℕ) (n : Name) → among (suc t) n ≡ true → among t n ≡ true
  pub spreads : (t : ℕ) (n m : Name) → among (suc t) n ≡ true → is_free d m ≡ true → share d m n ≡ true → among t m ≡ true

-- on the family the record has no fault below this tick: its free nodes of tick 0 begin right, and no node of a tick has a fault at the tick before
pub record IsFaultless (d : DeckValue) (w : Record) (among : Family) (t : ℕ) : Type 0 where
  pub starts : (n : Name) → is_free d n ≡ true → among 0 n ≡ true → w n 0 ≡ start_pair d n
  pub none : (n : Name) (s : ℕ) → s < t → among (suc s) n ≡ true → is_fault d w n s ≡ false

-- the set has the free neighbours of its nodes
abbrev pub HasNeighbours : DeckValue → (Name → Bool) → Type 0
HasNeighbours d among = (n m : Name) → among n ≡ true → is_free d m ≡ true → share d m n ≡ true → among m ≡ true

-- all nodes up to a tick, these at the next, and none later
abbrev pub and_then : ℕ → (Name → Bool) → Family
and_then from among t n = nat_le t from || ((t == suc from) && among n)

-- a distance of nodes: a free neighbour is at most one device nearer
abbrev pub IsDistance : DeckValue → (Name → ℕ) → Type 0
IsDistance d distance = (n m : Name) → is_free d m ≡ true → share d m n ≡ true → distance n ≤ distance m + 1

-- the nodes that a change has not reached which is at distance 0 until the tick p, and comes one device farther with each tick from there
abbrev pub beyond : ℕ → (Name → ℕ) → Family
beyond p distance t n = nat_le t (p + distance n)

-- ---- lines

-- a node's voltages from one tick to another lie on a straight line
abbrev pub IsStraight : Record → Name → ℕ → ℕ → ℤ → ℤ → ℕ → Type 0
IsStraight w n from until num rate den =
    (s : ℕ) → from ≤ s → s ≤ until → w n s ≡ record { num = num +ℤ (rate *ℤ pos (s - from)); den = den }

-- of a free node below the stop: the denominator is not its capacitance, or the rate is not the current into it
abbrev pub is_wrong_line : DeckValue → Record → Name → ℕ → ℤ → ℕ → Bool
is_wrong_line d w n t rate den =
    (is_free d n && nat_lt t d.stop) && not ((den == capacity d n) && int_eq rate (record_current d w t n))

-- ---- windows

-- the voltages of these nodes, after the tick `from` and up to the tick `until`, are such as calls on lines can hold
abbrev pub IsBoundedWithin : (Name → Bool) → ℕ → ℕ → Record → Type 0
IsBoundedWithin among from until x = (n : Name) (t : ℕ) → among n ≡ true → from < t → t ≤ until → IsBoundedAt t (x n t)

-- a window made the record `x` of `w`, and wrote some nodes: on those of its task it left no fault from `from` on, and on others only what was there
pub record IsClean (d : DeckValue) (w x : Record) (task among : Name → Bool) (from until : ℕ) : Type 0 where
  pub beside : SameBeside d among from until w x
  pub up_to : until ≤ d.stop
  pub starts : Starts d w
  pub before : NoFaultBelow d w from
  pub clean : (n : Name) (t : ℕ) → task n ≡ true → from ≤ t → t < until → is_fault d x n t ≡ false
  pub others : (n : Name) (t : ℕ) → task n ≡ false → t < until → is_fault d x n t ≡ true → is_fault d w n t ≡ true

-- the free nodes of these are swept
abbrev pub AreSwept : DeckValue → (Name → Bool) → (Name → Bool) → Type 0
AreSwept d task swept = (n : Name) → is_free d n ≡ true → task n ≡ true → swept n ≡ true

-- at how many free nodes a tick is pending
abbrev pub pending_at : DeckValue → Pending → ℕ → ℕ
pending_at d p t = count_by (λ n. p n t) (free_nodes d)

-- no node beside the task was at fault within the window
abbrev pub IsAlone : DeckValue → Record → (Name → Bool) → ℕ → ℕ → Type 0
IsAlone d w task from until = (n : Name) (t : ℕ) → task n ≡ false → from ≤ t → t < until → is_fault d w n t ≡ false

-- the free nodes have the run up to the stop, but for those that are touched
abbrev pub HasRunBeside : DeckValue → Record → (Name → Bool) → Type 0
HasRunBeside d w touched = (n : Name) (t : ℕ) → is_free d n ≡ true → touched n ≡ false → t ≤ d.stop → HasRun d w n t
