-- The words of the public contracts: what is known of a pass.
use Rattle.std.specs.Prelude.{◌≡◌, ◌≢◌, ◌⊎◌, ℕ, List, [], ◌∷◌, ◌++◌, Option, Some, None, slice_get}
use Rattle.turnstile.specs.Lists.{Has, entries_of}
use Rattle.turnstile.specs.Steps.{IsIdle, found_of, seen_of, numbers_of, label_of}
use Rattle.turnstile.specs.declared.view.Known.{Known}
use Rattle.turnstile.specs.declared.view.Stage.TheVariants.{Holds}
use Rattle.turnstile.specs.declared.view.View.TheVariants.{Live}
use Rattle.turnstile.specs.declared.turns.Turns.{Ghosts}
use Rattle.turnstile.specs.declared.pass.Pass.{Pass}
use Rattle.turnstile.specs.declared.turnstile.Turnstile.{Turnstile}

module _ {V E L : Type 0} {g : Ghosts V E L} where
  -- the pass was made with this turnstile
  abbrev pub IsOf : Turnstile V E L → Pass V E L g → Type 0
  IsOf lock pass = pass.seat.table_id ≡ lock.board.shared.table_id

  -- it waits for nothing, and does not have the value
  abbrev pub IsReady : Pass V E L g → Type 0
  IsReady pass = IsIdle pass.seat.me

  -- the turns that it has seen, which are the first ones
  abbrev pub seen : Pass V E L g → List E
  seen pass = seen_of pass.seat.me.0

  abbrev pub number : Pass V E L g → ℕ
  number pass = pass.number

  -- its number, and then the numbers of the passes that were joined to it
  abbrev pub numbers : Pass V E L g → List ℕ
  numbers pass = numbers_of pass.seat.me.0

  -- the label of the value; a pass that is in a caller's hands always has one
  abbrev pub label : Pass V E L g → Option L
  label pass = label_of pass.seat.me.0

  -- the turns that the value had when the pass got it
  abbrev pub found : Pass V E L g → List E
  found pass = found_of pass.seat.me.0

  -- it has taken the value, which is in its Held
  abbrev pub HasTurn : Pass V E L g → Type 0
  HasTurn pass = (t : ℕ) × (v : Known E L) × (v.stage ≡ Holds t (found pass)) × (pass.seat.me ≡ (Live v, (0, None) ∷ []))

  -- a pass as the turnstile's maker hands it out
  pub record IsNew (lab : L) (n : ℕ) (pass : Pass V E L g) : Type 0 where
    pub ready : IsReady pass
    pub number : number pass ≡ n
    pub numbers : numbers pass ≡ n ∷ []
    pub label : label pass ≡ Some lab
    pub seen : seen pass ≡ []

  -- each pass has its place in the list as its number
  abbrev pub AreNumbered : Turnstile V E L → L → List (Pass V E L g) → Type 0
  AreNumbered lock lab passes = (i : ℕ) (p : Pass V E L g) → slice_get passes i ≡ Some p → IsOf lock p × IsNew lab i p

  -- what no turn changes of a pass
  pub record IsSame (before after : Pass V E L g) : Type 0 where
    pub lock : after.seat.table_id ≡ before.seat.table_id
    pub number : number after ≡ number before
    pub numbers : numbers after ≡ numbers before
    pub label : label after ≡ label before

  module _ (maker : E → ℕ) where
    -- the entries of a number among the turns that the pass has seen
    abbrev pub own : ℕ → Pass V E L g → List E
    own k pass = entries_of maker k (seen pass)

    -- the own list of each number that the one pass has or keeps is the same for the other
    abbrev pub KeepsOwn : Pass V E L g → Pass V E L g → Type 0
    KeepsOwn before after = (k : ℕ) → Has (numbers before) k → own k after ≡ own k before

    -- the turns are as found, and so are the own lists; or they have one entry more, and only the own list of the pass's number has grown, by that entry
    abbrev pub OwnGrows : List E → Pass V E L g → Pass V E L g → Type 0
    OwnGrows turns before after =
        ((turns ≡ found before) × KeepsOwn before after)
        ⊎ ((e : E) × (turns ≡ found before ++ e ∷ []) × (own (number before) after ≡ own (number before) before ++ e ∷ [])
        × ((k : ℕ) → Has (numbers before) k → k ≢ number before → own k after ≡ own k before))
