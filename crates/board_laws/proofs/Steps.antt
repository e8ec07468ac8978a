-- Each step keeps a board sound.
use Rattle.std.proofs.Common.{◌≡◌, ℕ, ◌<◌, nat_lt, nat_le, Bool, true, ◌&&◌, ◌||◌, cond, [], ◌∷◌, ◌++◌, refl, sym, ap, ◌∙◌, subst}
use Rattle.std.proofs.lemmas.Bool.{and_parts, ltb-true}
use Rattle.std.proofs.lemmas.List.{append_assoc}
use Rattle.semantics.specs.Deck.{Name, DeckValue}
use Rattle.semantics.specs.Valid.{is_valid}
use Rattle.semantics.specs.Edit.{kept_after, restarted}
use Rattle.semantics.specs.Neighbours.{is_free}
use Rattle.semantics.specs.Pending.{IsSound, Pending, after_commit, after_edit}
use Rattle.semantics.specs.Record.{Record}
use Rattle.record_laws.proofs.Sound.{sound_commit, sound_edit, sound_settled}
use Rattle.deck_cards.specs.declared.edit_refusal.EditRefusal.{EditRefusal}
use Rattle.deck_cards.specs.declared.edit.Edit.{Edit}
use Rattle.deck_cards.specs.Edits.{after, edit_cause, edited}
use Rattle.edit_laws.specs.Accepted.{AreAccepted}
use Rattle.edit_laws.proofs.After.{after_more, further, valid_after}
use Rattle.edit_laws.proofs.Edited.{keeps_frame}
use Rattle.board_laws.specs.Board.{BoardValue, IsRepaired, IsSettled, Sound}
use Rattle.board_laws.specs.Steps.{Commits, Edits, GivesUp, Refuses, Takes}
use Rattle.board_laws.specs.Windows.{WindowValue, gathered, is_swept, is_written, written}
use Rattle.board_laws.proofs.Same.{alike, moved_to, same_record}
use Rattle.board_laws.proofs.Stays.{returned, shown_all, shown_first, stays_accepted, stays_after, work_stays}
use Rattle.board_laws.proofs.Sweeping.{has_region, met, sweeps}

-- ---- a sound board

pub valid_deck : (b : BoardValue) → Sound b → is_valid b.deck ≡ true
valid_deck b s = ap is_valid s.deck ∙ valid_after b.base b.edits s.accepted

pub repaired_run : (b : BoardValue) → Sound b → IsSettled b → IsRepaired b
repaired_run b s quiet = sound_settled b.deck b.keeps b.past b.pending s.repaired quiet

-- ---- regions

pub takes : (r : ℕ) (b c : BoardValue) → Takes r b c → Sound b → Sound c
takes r b c h s = work_stays b c h.work s
    (λ n t pending none. s.owned n t (sym (h.work.pending n t) ∙ pending) (sym (h.owner n) ∙ none))

pub gives_up : (r : ℕ) (b c : BoardValue) → GivesUp r b c → Sound b → Sound c
gives_up r b c h s = work_stays b c h.work s
    (λ n t pending. returned r b.owner b c h.regions n t pending (s.owned n t (sym (h.work.pending n t) ∙ pending)))

-- ---- a commit

pub commits : (r : ℕ) (w : WindowValue) (b c : BoardValue) → Commits r w b c → Sound b → Sound c
commits r w b c h s = record {
  accepted = stays_accepted b c h.deck s;
  deck = stays_after b c h.deck s;
  repaired = repaired;
  owned = λ n t pending. returned r (gathered b c r w) b c h.regions n t pending
      (has_region b c r w n (met (c.pending n) c.deck.stop t (below n t pending) pending));
  shown = shown_first b c (s.shown.0, h.deck.edits ∙ s.shown.1) h.shown;
  settled = shown_all b c h.shown;
}
  where
    left : Pending
    left = after_commit b.deck (written b r w) (is_swept b r w) w.from w.until b.pending

    written_sound : IsSound b.deck b.keeps (written b r w) left
    written_sound =
        sound_commit b.deck b.keeps b.past w.pairs (is_written b r w) (is_swept b r w) w.from w.until b.pending
        (sweeps b r w) (λ n t here. h.window.bounded n t (and_parts _ _ here).0) s.repaired

    is_here : Name → ℕ → Bool
    is_here n t = is_swept b r w n && ((nat_le w.from t && nat_le t w.until) && nat_lt t b.deck.stop)

    same_pending : (n : Name) (t : ℕ) → c.pending n t ≡ left n t
    same_pending n t = h.pending n t ∙ ap (λ x. cond (is_here n t) x (b.pending n t))
        (alike b.deck b.keeps c.past (written b r w) s.repaired.kept h.past n t)

    repaired : IsSound c.deck c.keeps c.past c.pending
    repaired = moved_to b.deck c.deck b.keeps c.keeps c.past left c.pending h.deck.deck h.deck.keeps same_pending
        (same_record b.deck b.keeps c.past (written b r w) left h.past written_sound)

    below : (n : Name) (t : ℕ) → c.pending n t ≡ true → t < c.deck.stop
    below n t pending =
        let real = and_parts (is_free c.deck n) (nat_lt t c.deck.stop) (repaired.covers.real n t pending) in
        ltb-true t c.deck.stop real.1

-- ---- an edit

pub refuses : (e : Edit) (cause : EditRefusal) (b c : BoardValue) → Refuses e cause b c → Sound b → Sound c
refuses e cause b c h s = subst Sound (sym h.same) s

more_accepted : (e : Edit) (b c : BoardValue) → Edits e b c → Sound b → AreAccepted c.base c.edits
more_accepted e b c h s = moved ((further b.base b.edits e).1 (
  s.accepted,
  record {
    valid = valid_after b.base b.edits s.accepted;
    rises = h.rises;
    free = ap (λ d. edit_cause d e) (sym s.deck) ∙ h.accepted;
  },
))
  where
    moved : AreAccepted b.base (b.edits ++ e ∷ []) → AreAccepted c.base c.edits
    moved all = subst (λ d. AreAccepted d c.edits) (sym h.base) (subst (AreAccepted b.base) (sym h.edits) all)

more_after : (e : Edit) (b c : BoardValue) → Edits e b c → Sound b → c.deck ≡ after c.base c.edits
more_after e b c h s =
    h.deck ∙ (ap (λ d. edited d e) s.deck
    ∙ (sym (after_more b.base b.edits e) ∙ sym (λ i. after (h.base i) (h.edits i))))

pub edits : (e : Edit) (b c : BoardValue) → Edits e b c → Sound b → Sound c
edits e b c h s = record {
  accepted = more_accepted e b c h s;
  deck = more_after e b c h s;
  repaired = repaired;
  owned = h.regions.owned;
  shown = shown_first b c (s.shown.0 ++ e ∷ [], longer) h.shown;
  settled = shown_all b c h.shown;
}
  where
    valid : is_valid c.deck ≡ true
    valid = ap is_valid (more_after e b c h s) ∙ valid_after c.base c.edits (more_accepted e b c h s)

    stop : c.deck.stop ≡ b.deck.stop
    stop = ap (λ (d : DeckValue). d.stop) h.deck ∙ (keeps_frame b.deck e).frame.stop

    longer : c.edits ≡ b.shown ++ (s.shown.0 ++ e ∷ [])
    longer = h.edits ∙ (ap (λ es. es ++ e ∷ []) s.shown.1 ∙ append_assoc b.shown s.shown.0 (e ∷ []))

    now : Record
    now = restarted c.deck b.keeps b.past

    begun : IsSound c.deck (kept_after c.deck b.keeps) now (after_edit c.deck now b.pending)
    begun = sound_edit b.deck c.deck b.keeps b.past b.pending valid stop s.repaired

    first : IsSound c.deck c.keeps now (after_edit c.deck now b.pending)
    first = moved_to c.deck c.deck (kept_after c.deck b.keeps) c.keeps now _ (after_edit c.deck now b.pending)
        refl h.keeps (λ n t. refl) begun

    same_pending : (n : Name) (t : ℕ) → c.pending n t ≡ after_edit c.deck now b.pending n t
    same_pending n t = h.pending n t ∙ ap (λ x. (is_free c.deck n && b.pending n t) || x)
        (alike c.deck c.keeps c.past now first.kept h.past n t)

    repaired : IsSound c.deck c.keeps c.past c.pending
    repaired = moved_to c.deck c.deck c.keeps c.keeps c.past _ c.pending refl (λ n. refl) same_pending
        (same_record c.deck c.keeps c.past now _ h.past first)
