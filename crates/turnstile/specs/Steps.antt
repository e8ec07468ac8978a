-- What each step on the table does to a seat's view, and what it tells.
use Rattle.std.specs.Prelude.{if◌then◌else◌, ◌≡◌, ◌≢◌, ◌⊎◌, ℕ, ◌+◌, ◌==◌, max, List, [], ◌∷◌, ◌++◌, Option, Some, None}
use Rattle.atomic_table.specs.Table.{Me, Step}
use Rattle.turnstile.specs.Lists.{Begins, OneMore, longer}
use Rattle.turnstile.specs.Rule.{numbers}
use Rattle.turnstile.specs.declared.view.Past.{Past}
use Rattle.turnstile.specs.declared.view.Known.{Known}
use Rattle.turnstile.specs.declared.view.Stage.{Stage}
use Rattle.turnstile.specs.declared.view.Stage.TheVariants.{Idle, Joined, Waits, Holds}
use Rattle.turnstile.specs.declared.view.View.{View}
use Rattle.turnstile.specs.declared.view.View.TheVariants.{Spent, Live}

module _ {E : Type 0} where
  abbrev pub stage_ticket : Stage E → ℕ
  stage_ticket Idle = 0
  stage_ticket (Joined p q) = 0
  stage_ticket (Waits t) = t
  stage_ticket (Holds t found) = t

  abbrev pub stage_found : Stage E → List E
  stage_found Idle = []
  stage_found (Joined p q) = []
  stage_found (Waits t) = []
  stage_found (Holds t found) = found

module _ {E L : Type 0} where
  abbrev pub ticket_of : View E L → ℕ
  ticket_of Spent = 0
  ticket_of (Live v) = stage_ticket v.stage

  -- the turns that the value had when it was taken
  abbrev pub found_of : View E L → List E
  found_of Spent = []
  found_of (Live v) = stage_found v.stage

  abbrev pub seen_of : View E L → List E
  seen_of Spent = []
  seen_of (Live v) = v.seen

  abbrev pub number_of : View E L → ℕ
  number_of Spent = 0
  number_of (Live v) = v.number

  abbrev pub numbers_of : View E L → List ℕ
  numbers_of Spent = []
  numbers_of (Live v) = numbers v

  abbrev pub label_of : View E L → Option L
  label_of Spent = None
  label_of (Live v) = Some v.label

  -- the view at another stage
  abbrev pub staged : Stage E → View E L → View E L
  staged stage Spent = Spent
  staged stage (Live v) = Live record v { stage = stage }

  -- it is idle, and has seen these turns
  abbrev pub at_rest : List E → View E L → View E L
  at_rest seen Spent = Spent
  at_rest seen (Live v) = Live record v { stage = Idle; seen = seen }

  -- the first pass, which has given so many numbers
  abbrev pub maker_of : L → ℕ → View E L
  maker_of lab n = Live record { label = lab; stage = Idle; seen = []; number = 0; joined = []; given = n }

  -- a pass with a number that was given just now
  abbrev pub pass_of : L → ℕ → View E L
  pass_of lab n = Live record { label = lab; stage = Idle; seen = []; number = n; joined = []; given = 0 }

  abbrev pub opener : L → View E L
  opener lab = maker_of lab 1

  -- a new pass has the next number, and the maker counts it
  abbrev pub counted : View E L → View E L
  counted Spent = Spent
  counted (Live v) = Live record v { given = v.given + 1 }

  abbrev pub newcomer : View E L → View E L
  newcomer Spent = Spent
  newcomer (Live v) = pass_of v.label v.given

  abbrev pub past : Known E L → Past E
  past v = record { seen = v.seen; numbers = numbers v }

  abbrev pub both : Known E L → Known E L → Known E L
  both v w = record { label = v.label; stage = Idle; seen = longer v.seen w.seen; number = v.number; joined = v.joined ++ numbers w; given = max v.given w.given }

  -- both passes in one, which keeps what each had seen
  abbrev pub merged : View E L → View E L → View E L
  merged Spent w = Spent
  merged (Live v) Spent = Live v
  merged (Live v) (Live w) = Live record (both v w) { stage = Joined (past v) (past w) }

  -- the same once it has looked
  abbrev pub joined_of : View E L → View E L → View E L
  joined_of v w = staged Idle (merged v w)

module _ {E L : Type 0} (maker : E → ℕ) where
  -- of the turns that it found, the pass had seen its own
  abbrev pub HadOwn : View E L → Type 0
  HadOwn w = Begins maker (found_of w) (seen_of w) (numbers_of w)

-- a seat of the table: its view, and the slot where it has taken it
abbrev pub Sat : Type 0 → Type 0 → Type 0 → Type 0
Sat V E L = Me (Option V) (View E L)

module _ {V E L : Type 0} where
  abbrev pub IsIdle : Sat V E L → Type 0
  IsIdle me = (v : Known E L) × (v.stage ≡ Idle) × (me ≡ (Live v, []))

  abbrev pub IsWaiting : ℕ → Sat V E L → Type 0
  IsWaiting t me = (v : Known E L) × (v.stage ≡ Waits t) × (me ≡ (Live v, []))

  -- it has drawn this ticket
  abbrev pub Drawn : Sat V E L → ℕ → Sat V E L → Type 0
  Drawn me t after = after ≡ (staged (Waits t) me.0, [])

  -- the pass has the ticket that it found, or nothing changed
  abbrev pub Draws : Step (Option V) → Sat V E L → ℕ → Sat V E L → Type 0
  Draws s me found after = after ≡ (if found == s.first then staged (Waits found) me.0 else me.0, me.1)

  module _ (turns : V → List E) (maker : E → ℕ) (label : V → L) where
    -- the value may be handed to who has this view
    abbrev pub Follows : View E L → V → Type 0
    Follows w x = Begins maker (turns x) (seen_of w) (numbers_of w) × (label_of w ≡ Some (label x))

    -- the value was taken out of the slot
    abbrev pub Taken : Sat V E L → ℕ → V → Sat V E L → Type 0
    Taken me t x after = (after ≡ (staged (Holds t (turns x)) me.0, (0, None) ∷ [])) × Follows me.0 x

    -- where its ticket is served, the pass has the slot
    abbrev pub Takes : Step (Option V) → Sat V E L → ℕ → Sat V E L → Type 0
    Takes s me found after =
        ((found ≡ ticket_of me.0) × ((x : V) × (after ≡ (staged (Holds found (turns x)) me.0, (0, Some x) ∷ [])) × Follows me.0 x))
        ⊎ ((found ≢ ticket_of me.0) × (after ≡ me))

    -- the slot is given back, and the pass has seen its turns; of those that it found it had seen its own
    abbrev pub Serves : Step (Option V) → Sat V E L → ℕ → Sat V E L → Type 0
    Serves s me found after = (x : V) → me.1 ≡ (0, Some x) ∷ [] → (after ≡ (at_rest (turns x) me.0, [])) × HadOwn maker me.0

    -- the seat holds the slot, and the value is as it was found or has one turn more
    abbrev pub MayLeave : View E L → V → Type 0
    MayLeave w x = (t : ℕ) × (found : List E) × (v : Known E L) × (w ≡ Live v) × (v.stage ≡ Holds t found) × OneMore maker v.number found (turns x) × (label x ≡ v.label)

  module _ (maker : E → ℕ) where
    abbrev pub LooksAtStage : Known E L → Stage E → Sat V E L → Type 0
    LooksAtStage v Idle after = Unit {0}
    LooksAtStage v (Waits t) after = Unit {0}
    LooksAtStage v (Holds t found) after = Unit {0}
    LooksAtStage v (Joined p q) after = (after ≡ (Live record v { stage = Idle }, [])) × Begins maker v.seen p.seen p.numbers × Begins maker v.seen q.seen q.numbers

    abbrev pub LooksAt : View E L → Sat V E L → Type 0
    LooksAt Spent after = Unit {0}
    LooksAt (Live v) after = LooksAtStage v v.stage after

    -- both old lists begin the seen list, which goes on without the numbers that came with each
    abbrev pub Looks : Step (Option V) → Sat V E L → ℕ → Sat V E L → Type 0
    Looks s me found after = LooksAt me.0 after
