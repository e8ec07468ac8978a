-- Records that are the same up to the stop have the same faults, and one is sound where the other is.
use Rattle.std.proofs.Common.{◌≡◌, ℕ, Bool, false, refl, sym, ◌∙◌, subst, arith, inr}
use Rattle.semantics.specs.Deck.{Name, DeckValue}
use Rattle.semantics.specs.Edit.{KeepsFree}
use Rattle.semantics.specs.Pending.{IsBoundedAt, IsSound, Pending}
use Rattle.semantics.specs.Record.{Record}
use Rattle.record_laws.specs.Laws.{SameFault}
use Rattle.record_laws.proofs.Faults.{changes}
use Rattle.board_laws.specs.Board.{SameRecord}

pub alike : (d : DeckValue) (keeps : Name → Bool) (v w : Record) → KeepsFree d keeps → SameRecord d keeps v w
    → (n : Name) (t : ℕ) → SameFault d v w n t
alike d keeps v w kept same n t =
    changes d (λ m. false) 0 0 v w (λ m u free up other. same m u (kept m free) up) n t
    (inr (inr (record { outside = refl; unjoined = λ m free joined. refl })))

pub same_record : (d : DeckValue) (keeps : Name → Bool) (v w : Record) (p : Pending) → SameRecord d keeps v w
    → IsSound d keeps w p → IsSound d keeps v p
same_record d keeps v w p same s = record {
  kept = s.kept;
  bounded = λ n t kept up. subst (IsBoundedAt t) (sym (same n t kept up)) (s.bounded n t kept up);
  starts = λ n free. same n 0 (s.kept n free) (omega arith) ∙ s.starts n free;
  covers = record {
    faults = λ n t fault. s.covers.faults n t (sym (alike d keeps v w s.kept same n t) ∙ fault);
    real = s.covers.real;
  };
}

-- the same deck, names that are kept, and pending nodes and ticks
pub moved_to : (d e : DeckValue) (k l : Name → Bool) (w : Record) (p q : Pending) → e ≡ d
    → ((n : Name) → l n ≡ k n) → ((n : Name) (t : ℕ) → q n t ≡ p n t) → IsSound d k w p → IsSound e l w q
moved_to d e k l w p q deck keeps pending s =
    let first : IsSound e k w p = subst (λ x. IsSound x k w p) (sym deck) s in
    let second : IsSound e l w p = subst (λ x. IsSound e x w p) (λ i n. sym (keeps n) i) first in
    subst (λ x. IsSound e l w x) (λ i n t. sym (pending n t) i) second
