-- The steps of a board, each as what holds between the board before and after it.
use Rattle.std.specs.Prelude.{◌≡◌, ◌⊎◌, ℕ, ◌<◌, ◌≤◌, true, false, [], ◌∷◌, ◌++◌, Some, None}
use Rattle.semantics.specs.Deck.{Name}
use Rattle.semantics.specs.Edit.{kept_after, restarted}
use Rattle.semantics.specs.Pending.{after_commit, after_edit}
use Rattle.deck_cards.specs.declared.edit_refusal.EditRefusal.{EditRefusal}
use Rattle.deck_cards.specs.declared.edit.Edit.{Edit}
use Rattle.deck_cards.specs.Edits.{edit_cause, edit_rises, edited}
use Rattle.board_laws.specs.Board.{BoardValue, SameDeck, SameRecord, SameWork, Shows}
use Rattle.board_laws.specs.Regions.{HasRegions, Regroups, Returns, SameOthers}
use Rattle.board_laws.specs.Windows.{IsWindow, WindowValue, gathered, is_swept, written}

-- ---- edits

-- the deck accepts the edit: it is put behind the others, the free nodes of the deck that it gives begin anew, and all
-- faults are pending, besides what was
pub record Edits (e : Edit) (b c : BoardValue) : Type 0 where
  pub rises : edit_rises e ≡ true
  pub accepted : edit_cause b.deck e ≡ None
  pub base : c.base ≡ b.base
  pub edits : c.edits ≡ b.edits ++ e ∷ []
  pub deck : c.deck ≡ edited b.deck e
  pub keeps : (n : Name) → c.keeps n ≡ kept_after c.deck b.keeps n
  pub past : SameRecord c.deck c.keeps c.past (restarted c.deck b.keeps b.past)
  pub pending : (n : Name) (t : ℕ) → c.pending n t ≡ after_edit c.deck c.past b.pending n t
  pub regions : Regroups b c
  pub shown : Shows b c

-- the deck refuses the edit for this cause, and the board stays
pub record Refuses (e : Edit) (cause : EditRefusal) (b c : BoardValue) : Type 0 where
  pub refused : edit_cause b.deck e ≡ Some cause
  pub same : c ≡ b

-- ---- a region is lent

-- of the nodes of idle regions this tick is the first that is pending, and of the regions with a node that is pending
-- there this one has the least number
pub record IsFirst (r : ℕ) (b : BoardValue) : Type 0 where
  pub tick : ℕ
  pub node : Name
  pub has : b.owner node ≡ Some r
  pub pending : b.pending node tick ≡ true
  pub least : (n : Name) (t q : ℕ) → b.owner n ≡ Some q → b.is_out q ≡ false → b.pending n t ≡ true
      → (tick < t) ⊎ ((tick ≡ t) × (r ≤ q))

-- the idle region that is to be mended first is lent
pub record Takes (r : ℕ) (b c : BoardValue) : Type 0 where
  pub idle : b.is_out r ≡ false
  pub first : IsFirst r b
  pub work : SameWork b c
  pub owner : HasRegions b.owner c
  pub lent : c.is_out r ≡ true
  pub others : SameOthers r b c

-- ---- a region comes back

-- with a window: its pieces are written into the record; of the swept nodes exactly the faults are pending at its
-- ticks; and the region gathers the idle ones that it met
pub record Commits (r : ℕ) (w : WindowValue) (b c : BoardValue) : Type 0 where
  pub lent : b.is_out r ≡ true
  pub window : IsWindow b.deck w
  pub deck : SameDeck b c
  pub past : SameRecord b.deck b.keeps c.past (written b r w)
  pub pending : (n : Name) (t : ℕ)
      → c.pending n t ≡ after_commit b.deck c.past (is_swept b r w) w.from w.until b.pending n t
  pub regions : Returns r (gathered b c r w) b c
  pub shown : Shows b c

-- without one: it is given up
pub record GivesUp (r : ℕ) (b c : BoardValue) : Type 0 where
  pub lent : b.is_out r ≡ true
  pub work : SameWork b c
  pub regions : Returns r b.owner b c
