-- Which nodes the edits between two decks can have changed in the run, and what they leave of a record.
use Rattle.std.specs.Prelude.{◌≡◌, ◌≢◌, ◌⊎◌, ℕ, suc, ◌≤◌, true}
use Rattle.semantics.specs.Deck.{Name, DeckValue, initial_of}
use Rattle.semantics.specs.Neighbours.{is_free, share}
use Rattle.semantics.specs.Run.{run}
use Rattle.semantics.specs.Record.{Record, Starts}
use Rattle.semantics.specs.Edit.{AtChange}

-- at some tick the node has another voltage in the one run than in the other
pub record Differs (old new : DeckValue) (n : Name) : Type 0 where
  pub tick : ℕ
  pub up_to : tick ≤ new.stop
  pub other : run old tick n ≢ run new tick n

-- a device of the new deck joins the node to one that differs
pub record BesideDifference (old new : DeckValue) (n : Name) : Type 0 where
  pub other : Name
  pub joined : share new other n ≡ true
  pub differs : Differs old new other

-- the node is an end of a changed element, or has another initial voltage, or differs, or is beside one that differs
abbrev pub IsTouched : DeckValue → DeckValue → Name → Type 0
IsTouched old new n =
    AtChange old new n ⊎ ((initial_of old n ≢ initial_of new n) ⊎ (Differs old new n ⊎ BesideDifference old new n))

-- what edits make of a record: each free node of the new deck begins as that says, and one that was free before has its later voltages still
pub record IsEdited (old new : DeckValue) (w x : Record) : Type 0 where
  pub stop : new.stop ≡ old.stop
  pub starts : Starts new x
  pub later : (n : Name) (t : ℕ) → is_free old n ≡ true → x n (suc t) ≡ w n (suc t)
