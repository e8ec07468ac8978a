-- What a step leaves of a board: the accepted edits, the version that is shown, and the regions of pending nodes.
use Rattle.std.proofs.Common.{◌≡◌, ◌≢◌, ℕ, ◌==◌, Bool, true, false, cond, List, [], ◌++◌, Option, Some, None, refl, sym, ap, ◌∙◌, inl, inr, ⊎_elim}
use Rattle.std.specs.List.{list_all}
use Rattle.std.proofs.lemmas.Bool.{false≢true, eqb-true}
use Rattle.std.proofs.lemmas.List.{append-nil}
use Rattle.std.proofs.lemmas.Option.{none-some}
use Rattle.semantics.specs.Deck.{Name}
use Rattle.semantics.specs.Valid.{is_valid}
use Rattle.deck_cards.specs.declared.edit.Edit.{Edit}
use Rattle.deck_cards.specs.Edits.{accepts, after, edit_rises}
use Rattle.edit_laws.specs.Accepted.{AreAccepted}
use Rattle.board_laws.specs.Board.{BoardValue, IsSettled, SameDeck, SameWork, Shows, ShowsAll, Sound}
use Rattle.board_laws.specs.Regions.{HasRegions, IsQuiet, Returns, without}
use Rattle.board_laws.proofs.Same.{moved_to, same_record}
use Rattle.semantics.specs.Pending.{IsSound}

-- ---- the deck

pub stays_accepted : (b c : BoardValue) → SameDeck b c → Sound b → AreAccepted c.base c.edits
stays_accepted b c same s = record {
  valid = ap is_valid same.base ∙ s.accepted.valid;
  rise = ap (list_all edit_rises) same.edits ∙ s.accepted.rise;
  taken = (λ i. accepts (same.base i) (same.edits i)) ∙ s.accepted.taken;
}

pub stays_after : (b c : BoardValue) → SameDeck b c → Sound b → c.deck ≡ after c.base c.edits
stays_after b c same s = same.deck ∙ (s.deck ∙ sym (λ i. after (same.base i) (same.edits i)))

-- ---- the version that is shown

-- its edits are the first of all
pub shown_first : (b c : BoardValue) → ((more : List Edit) × (c.edits ≡ b.shown ++ more)) → Shows b c
    → (more : List Edit) × (c.edits ≡ c.shown ++ more)
shown_first b c first (inl all) = ([], sym all.1 ∙ sym (append-nil c.shown))
shown_first b c first (inr kept) = (first.0, first.1 ∙ ap (λ xs. xs ++ first.0) (sym kept.1))

pub shown_all : (b c : BoardValue) → Shows b c → IsSettled c → ShowsAll c
shown_all b c (inl all) settled = all.1
shown_all b c (inr kept) settled = absurd (false≢true (sym (settled kept.0.0 kept.0.1) ∙ kept.0.2))

-- ---- regions

pub none_not_some : (r : ℕ) → Some r ≢ None
none_not_some r same = none-some r (sym same)

pub returned : (r : ℕ) (owner : Name → Option ℕ) (b c : BoardValue) → Returns r owner b c → (n : Name) (t : ℕ)
    → c.pending n t ≡ true → owner n ≢ None → c.owner n ≢ None
returned r owner b c back n t pending owned = ⊎_elim
    (λ (idle : HasRegions owner c). λ none. owned (sym (idle n) ∙ none))
    (λ (gone : IsQuiet r owner c × HasRegions (λ m. without r (owner m)) c). λ none.
    by (owner n) refl (sym (gone.1 n) ∙ none) gone.0)
    back.regions
  where
    by : (o : Option ℕ) → owner n ≡ o → without r o ≡ None → IsQuiet r owner c → ⊥
    by None is none quiet = owned is
    by (Some q) is none quiet = at (q == r) refl none
      where
        at : (x : Bool) → (q == r) ≡ x → cond x None (Some q) ≡ None → ⊥
        at true same none' = false≢true (sym (quiet n t (is ∙ ap Some (eqb-true q r same))) ∙ pending)
        at false same none' = none_not_some q none'

-- ---- where the work stays

pub work_sound : (b c : BoardValue) → SameWork b c → Sound b → IsSound c.deck c.keeps c.past c.pending
work_sound b c same s =
    moved_to b.deck c.deck b.keeps c.keeps c.past b.pending c.pending same.deck.deck same.deck.keeps same.pending
    (same_record b.deck b.keeps c.past b.past b.pending same.past s.repaired)

pub work_stays : (b c : BoardValue) → SameWork b c → Sound b
    → ((n : Name) (t : ℕ) → c.pending n t ≡ true → c.owner n ≢ None) → Sound c
work_stays b c same s owned = record {
  accepted = stays_accepted b c same.deck s;
  deck = stays_after b c same.deck s;
  repaired = work_sound b c same s;
  owned = owned;
  shown = (s.shown.0, same.deck.edits ∙ (s.shown.1 ∙ ap (λ xs. xs ++ s.shown.0) (sym same.shown)));
  settled = λ quiet. same.shown ∙ (s.settled (λ n t. sym (same.pending n t) ∙ quiet n t) ∙ sym same.deck.edits);
}
