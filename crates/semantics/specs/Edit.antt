-- How the decks before and after one edit differ, which nodes that can put at fault, and what an edit makes of a record.
use Rattle.std.specs.Prelude.{◌≡◌, ◌≢◌, ◌⊎◌, zero, suc, Bool, true, false, not, ◌&&◌, ◌||◌, if◌then◌else◌, List, ◌++◌, All, Contains}
use Rattle.semantics.specs.declared.element.Element.{Element}
use Rattle.semantics.specs.declared.element.Element.TheVariants.{Resistor, Capacitor, Source, Mos}
use Rattle.semantics.specs.Ground.{is_ground}
use Rattle.semantics.specs.Deck.{Name, DeckValue, initial_of}
use Rattle.semantics.specs.Neighbours.{is_free, is_end, share}
use Rattle.semantics.specs.Record.{Record, start_pair}

-- ---- one edit

-- an element of the one deck that is not, in the same form, in the other
abbrev pub IsOnlyIn : DeckValue → DeckValue → Element → Type 0
IsOnlyIn one other e = Contains one.elements e × (Contains other.elements e → ⊥)

abbrev pub IsChanged : DeckValue → DeckValue → Element → Type 0
IsChanged old new e = IsOnlyIn old new e ⊎ IsOnlyIn new old e

-- what no edit changes
pub record SameFrame (old new : DeckValue) : Type 0 where
  pub stop : new.stop ≡ old.stop
  pub grain : new.grain ≡ old.grain
  pub parts : new.parts ≡ old.parts

-- one deck comes from the other by an edit: one stretch of elements, which may be empty, gives way to another, and initial voltages may change
pub record IsEdit (old new : DeckValue) : Type 0 where
  pub frame : SameFrame old new
  pub before : List Element
  pub gone : List Element
  pub come : List Element
  pub after : List Element
  pub was : old.elements ≡ before ++ (gone ++ after)
  pub now : new.elements ≡ before ++ (come ++ after)
  pub lost : All (IsChanged old new) gone
  pub made : All (IsChanged old new) come

-- ---- what is near an edit

abbrev pub is_voltage_source : Element → Bool
is_voltage_source (Source name plus minus wave) = true
is_voltage_source (Resistor name first second ohms) = false
is_voltage_source (Capacitor name plus minus farads) = false
is_voltage_source (Mos name drain gate source bulk part len width) = false

-- the node is an end of a changed element
pub record AtChange (old new : DeckValue) (n : Name) : Type 0 where
  pub element : Element
  pub changed : IsChanged old new element
  pub end : is_end n element ≡ true

-- the node is an end of a changed source
pub record AtChangedSource (old new : DeckValue) (n : Name) : Type 0 where
  pub element : Element
  pub changed : IsChanged old new element
  pub source : is_voltage_source element ≡ true
  pub end : is_end n element ≡ true

-- a device of the new deck joins the node to another one, which has another initial voltage or is an end of a changed source
pub record BesideChange (old new : DeckValue) (n : Name) : Type 0 where
  pub other : Name
  pub real : is_ground other ≡ false
  pub joined : share new other n ≡ true
  pub change : (initial_of old other ≢ initial_of new other) ⊎ AtChangedSource old new other

-- the edit can make the node's voltages or its current other than they were
abbrev pub IsNear : DeckValue → DeckValue → Name → Type 0
IsNear old new n = AtChange old new n ⊎ ((initial_of old n ≢ initial_of new n) ⊎ BesideChange old new n)

-- ---- what an edit makes of a record

-- a record keeps these names, and each free node of the deck is one of them
abbrev pub KeepsFree : DeckValue → (Name → Bool) → Type 0
KeepsFree d keeps = (n : Name) → is_free d n ≡ true → keeps n ≡ true

-- the record after an edit: each free node of the new deck begins anew, and one that was not kept stays where it begins
abbrev pub restarted : DeckValue → (Name → Bool) → Record → Record
restarted new keeps w n zero = if is_free new n then start_pair new n else w n zero
restarted new keeps w n (suc t) = if is_free new n && not (keeps n) then start_pair new n else w n (suc t)

-- the names that it keeps then
abbrev pub kept_after : DeckValue → (Name → Bool) → Name → Bool
kept_after new keeps n = keeps n || is_free new n
