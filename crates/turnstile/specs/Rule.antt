-- The rule of the table that lies under a turnstile.
-- Its first word counts the tickets that were drawn, its second the turns that are finished, and its slot holds the value unless a seat has taken it.
use Rattle.std.specs.Prelude.{◌≡◌, ◌≢◌, ℕ, ◌+◌, ◌^◌, ◌<◌, ◌≤◌, List, [], ◌∷◌, length, slice_index, Option, Some, None}
use mathlib.Core.Option.{some, none}
use mathlib.Core.Option as maybe
use lib.ListN.{get_elem?}
use Rattle.atomic_table.specs.Table.{State}
use Rattle.turnstile.specs.Lists.{Has, Begins, AllBelow}
use Rattle.turnstile.specs.declared.view.Past.{Past}
use Rattle.turnstile.specs.declared.view.Known.{Known}
use Rattle.turnstile.specs.declared.view.Stage.{Stage}
use Rattle.turnstile.specs.declared.view.Stage.TheVariants.{Idle, Joined, Waits, Holds}
use Rattle.turnstile.specs.declared.view.View.{View}
use Rattle.turnstile.specs.declared.view.View.TheVariants.{Spent, Live}

-- the number that a pass has, and those that it keeps
abbrev pub numbers : {E L : Type 0} → Known E L → List ℕ
numbers v = v.number ∷ v.joined

-- what the rule says of a seat's stage
module _ {E : Type 0} (maker : E → ℕ) (served drawn count : ℕ) (list : List E) (owner drawer : ℕ → ℕ) (holder : maybe.Option ℕ) (seat : ℕ) where
  -- what a pass knew before it was joined, still holds of its numbers
  abbrev pub PastOk : Past E → Type 0
  PastOk p = Begins maker list p.seen p.numbers × ((k : ℕ) → Has p.numbers k → (owner k ≡ seat) × (k < count))

  abbrev pub StageOk : Stage E → Type 0
  StageOk Idle = holder ≢ some seat
  StageOk (Joined p q) = (holder ≢ some seat) × PastOk p × PastOk q
  StageOk (Waits t) = (holder ≢ some seat) × (served ≤ t) × (t < drawn) × (drawer t ≡ seat)
  StageOk (Holds t found) = (holder ≡ some seat) × (t ≡ served) × (t < drawn) × (drawer t ≡ seat) × (found ≡ list)

pub record KnownOk {E L : Type 0} (maker : E → ℕ) (served drawn count : ℕ) (list : List E) (lab : L) (owner drawer : ℕ → ℕ) (holder : maybe.Option ℕ) (seat : ℕ) (v : Known E L) : Type 0 where
  pub label : v.label ≡ lab
  pub stage : StageOk maker served drawn count list owner drawer holder seat v.stage
  pub seen : Begins maker list v.seen (numbers v)
  pub numbered : (k : ℕ) → Has (numbers v) k → (owner k ≡ seat) × (k < count)
  pub counts : Has (numbers v) 0 → v.given ≡ count
  pub limit : v.given ≤ count

-- what the rule says of the seat's view
abbrev pub ViewOk : {E L : Type 0} → (E → ℕ) → ℕ → ℕ → ℕ → List E → L → (ℕ → ℕ) → (ℕ → ℕ) → maybe.Option ℕ → ℕ → View E L → Type 0
ViewOk maker served drawn count list lab owner drawer holder seat Spent = holder ≢ some seat
ViewOk maker served drawn count list lab owner drawer holder seat (Live v) = KnownOk maker served drawn count list lab owner drawer holder seat v

-- the turn of a view, if it has the slot
abbrev pub IsHolding : {E L : Type 0} → View E L → Type 0
IsHolding {E} {L} w = (t : ℕ) × (found : List E) × (v : Known E L) × (w ≡ Live record v { stage = Holds t found })

module _ {V E L : Type 0} (turns : V → List E) (label : V → L) (views : List (View E L)) (list : List E) (lab : L) where
  -- the slot is at home, or a seat has it
  abbrev pub SlotOk : maybe.Option ℕ → maybe.Option (maybe.Option (Option V)) → Type 0
  SlotOk none slot = (x : V) × (slot ≡ some (some (Some x))) × (turns x ≡ list) × (label x ≡ lab)
  SlotOk (some p) slot = (slot ≡ some none) × ((w : View E L) × (get_elem? views p ≡ some w) × IsHolding w)

-- the rule, of how many turns are served, how many tickets are drawn, the slot and all views
pub record Kept {V E L : Type 0} (turns : V → List E) (maker : E → ℕ) (label : V → L) (served drawn : ℕ) (home : maybe.Option (maybe.Option (Option V))) (views : List (View E L)) : Type 0 where
  pub list : List E
  pub lab : L
  pub count : ℕ
  pub owner : ℕ → ℕ
  pub drawer : ℕ → ℕ
  pub holder : maybe.Option ℕ
  pub order : served ≤ drawn
  pub fits : drawn < 2 ^ 64
  pub slot : SlotOk turns label views list lab holder home
  pub each : (seat : ℕ) (w : View E L) → get_elem? views seat ≡ some w → ViewOk maker served drawn count list lab owner drawer holder seat w
  pub below : AllBelow maker count list

abbrev pub Ruled : {V E L : Type 0} → (V → List E) → (E → ℕ) → (V → L) → State (Option V) (View E L) → Type 0
Ruled turns maker label s = (length s.words ≡ 2) × Kept turns maker label (slice_index s.words 1) (slice_index s.words 0) (get_elem? s.homes 0) s.views

abbrev pub opener : {E L : Type 0} → L → View E L
opener lab = Live record { label = lab; stage = Idle; seen = []; number = 0; joined = []; given = 1 }
