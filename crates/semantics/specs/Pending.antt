-- The faults that are still to be mended: what an edit and a commit make of a record and of them, and what always holds of both.
use Rattle.std.specs.Prelude.{◌≡◌, ℕ, ◌+◌, ◌*◌, ◌^◌, ◌≤◌, nat_lt, nat_le, Bool, true, false, ◌&&◌, ◌||◌, if◌then◌else◌, unsigned_abs}
use Rattle.semantics.specs.declared.fraction.Fraction.{Fraction}
use Rattle.semantics.specs.Deck.{Name, DeckValue}
use Rattle.semantics.specs.Neighbours.{is_free, share}
use Rattle.semantics.specs.Record.{Record, Starts, is_fault}
use Rattle.semantics.specs.Edit.{KeepsFree}

-- the nodes and ticks that are still to be looked at
abbrev pub Pending : Type 0
Pending = Name → ℕ → Bool

abbrev pub NothingPending : Pending → Type 0
NothingPending p = (n : Name) (t : ℕ) → p n t ≡ false

-- every fault is pending, and only free nodes are, at ticks below the stop
pub record Covers (d : DeckValue) (w : Record) (p : Pending) : Type 0 where
  pub faults : (n : Name) (t : ℕ) → is_fault d w n t ≡ true → p n t ≡ true
  pub real : (n : Name) (t : ℕ) → p n t ≡ true → (is_free d n && nat_lt t d.stop) ≡ true

-- ---- an edit

-- what was pending of nodes that are free, and all faults
abbrev pub after_edit : DeckValue → Record → Pending → Pending
after_edit new w p n t = (is_free new n && p n t) || is_fault new w n t

-- ---- a commit

-- the record with the voltages of another one at these nodes, after the tick `from` and up to the tick `until`
abbrev pub spliced : Record → Record → (Name → Bool) → ℕ → ℕ → Record
spliced w x among from until n t = if among n && (nat_lt from t && nat_le t until) then x n t else w n t

-- at the swept nodes and ticks exactly the faults, and elsewhere what was pending
abbrev pub after_commit : DeckValue → Record → (Name → Bool) → ℕ → ℕ → Pending → Pending
after_commit d w swept from until p n t =
    if swept n && ((nat_le from t && nat_le t until) && nat_lt t d.stop) then is_fault d w n t else p n t

-- of the nodes that are written the free ones are swept, and their free neighbours
pub record Sweeps (d : DeckValue) (among swept : Name → Bool) : Type 0 where
  pub written : (n : Name) → is_free d n ≡ true → among n ≡ true → swept n ≡ true
  pub beside : (n m : Name) → is_free d n ≡ true → is_free d m ≡ true → among m ≡ true → share d m n ≡ true → swept n ≡ true

-- ---- bounds

-- a voltage at a tick that the calls on lines can hold
pub record IsBoundedAt (t : ℕ) (v : Fraction) : Type 0 where
  pub den_low : 1 ≤ v.den
  pub den_high : v.den ≤ 10 ^ 12
  pub num : unsigned_abs v.num ≤ 10 ^ 21 + 10 ^ 15 * t

-- the names that a record keeps have such voltages up to the stop
abbrev pub IsBounded : DeckValue → (Name → Bool) → Record → Type 0
IsBounded d keeps w = (n : Name) (t : ℕ) → keeps n ≡ true → t ≤ d.stop → IsBoundedAt t (w n t)

-- ---- what always holds

-- a record keeps each free node, is bounded, begins as the deck says, and has no fault that is not pending
pub record IsSound (d : DeckValue) (keeps : Name → Bool) (w : Record) (p : Pending) : Type 0 where
  pub kept : KeepsFree d keeps
  pub bounded : IsBounded d keeps w
  pub starts : Starts d w
  pub covers : Covers d w p
