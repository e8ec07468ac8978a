-- The board of a deck without edits is sound, where its record is the run.
use Rattle.std.proofs.Common.{◌≡◌, ℕ, ◌≤◌, true, ◌++◌, refl, sym, ap, ◌∙◌, subst, arith}
use Rattle.std.specs.List.{list_all}
use Rattle.std.proofs.lemmas.Bool.{false≢true}
use Rattle.semantics.specs.Deck.{Name, DeckValue}
use Rattle.semantics.specs.Valid.{is_valid}
use Rattle.semantics.specs.Neighbours.{is_free}
use Rattle.semantics.specs.Pending.{IsBoundedAt, IsSound, NothingPending, Pending}
use Rattle.semantics.specs.Record.{IsRunTo, Record, run_record}
use Rattle.semantics.proofs.Limits.{Held, Limits, charge_small, limits}
use Rattle.semantics.proofs.Free.{free_held}
use Rattle.record_laws.specs.Laws.{SameFault}
use Rattle.record_laws.proofs.Unique.{run_charged, run_faultless, run_starts}
use Rattle.deck_cards.specs.Edits.{accepts, after, edit_rises}
use Rattle.board_laws.specs.Board.{Begins, BoardValue, Sound}
use Rattle.board_laws.proofs.Same.{alike, moved_to}

run_bounded : (d : DeckValue) → is_valid d ≡ true → (n : Name) (t : ℕ) → is_free d n ≡ true
    → IsBoundedAt t (run_record d n t)
run_bounded d valid n t free =
    let l : Limits d = limits d valid in
    let h : Held d n = free_held d l n free in
    record { den_low = h.some; den_high = h.most; num = charge_small d n t l h }

run_sound : (d : DeckValue) (w : Record) (p : Pending) → is_valid d ≡ true → IsRunTo d w d.stop → NothingPending p
    → IsSound d (is_free d) w p
run_sound d w p valid is quiet = record {
  kept = λ n free. free;
  bounded = λ n t free up_to. subst (IsBoundedAt t) (sym (at n t free up_to)) (run_bounded d valid n t free);
  starts = λ n free. at n 0 free (omega arith) ∙ run_starts d n free;
  covers = record {
    faults = λ n t fault.
        absurd (false≢true (sym (run_faultless d n t) ∙ (sym (same n t) ∙ fault)));
    real = λ n t pending. absurd (false≢true (sym (quiet n t) ∙ pending));
  };
}
  where
    at : (n : Name) (t : ℕ) → is_free d n ≡ true → t ≤ d.stop → w n t ≡ run_record d n t
    at n t free up_to = is n t free up_to ∙ run_charged d t n free

    same : (n : Name) (t : ℕ) → SameFault d w (run_record d) n t
    same n t = alike d (is_free d) w (run_record d) (λ m free. free) at n t

pub fresh : (d : DeckValue) (b : BoardValue) → is_valid d ≡ true → Begins d b → Sound b
unfolding accepts after
fresh d b valid h = record {
  accepted = record {
    valid = ap is_valid h.base ∙ valid;
    rise = ap (list_all edit_rises) h.edits;
    taken = λ i. accepts (h.base i) (h.edits i);
  };
  deck = h.deck ∙ sym (λ i. after (h.base i) (h.edits i));
  repaired = moved_to d b.deck (is_free d) b.keeps b.past b.pending b.pending h.deck h.keeps (λ n t. refl)
      (run_sound d b.past b.pending valid h.past h.pending);
  owned = λ n t pending. absurd (false≢true (sym (h.pending n t) ∙ pending));
  shown = (b.edits, sym (ap (λ es. es ++ b.edits) h.shown));
  settled = λ quiet. h.shown ∙ sym h.edits;
}
