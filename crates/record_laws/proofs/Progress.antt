-- A commit of a clean window leaves fewer pending nodes at the window's first tick, and before it all as it was.
use Rattle.std.proofs.Common.{◌≡◌, ℕ, ◌+◌, ◌<◌, ◌≤◌, Bool, true, false, ◌&&◌, cond, List, [], ◌∷◌, sym, ap, ◌∙◌, arith, ⊎_elim, nat_lt, nat_le, count_by}
use Rattle.std.specs.List.{list_any}
use Rattle.std.specs.Str.{bytes_eq}
use Rattle.std.proofs.lemmas.Bool.{false≢true, and_left, and_right, and_from, or_cases, cases_Bool, cond-true, cond-false, cond_both, le-leb, lt-ltb, lt-leb}
use Rattle.std.proofs.lemmas.List.Sums.{sum_by-cons}
use Rattle.semantics.specs.Deck.{DeckValue, free_nodes}
use Rattle.semantics.specs.Neighbours.{is_free}
use Rattle.semantics.specs.Pending.{Pending, Covers, after_commit}
use Rattle.semantics.specs.Record.{Record, is_fault}
use Rattle.semantics.proofs.Nodes.{same-bytes_eq}
use Rattle.record_laws.specs.Laws.{AreSwept, IsClean, pending_at}
use Rattle.record_laws.proofs.Stale.{at_most, sums_below}

pub before_window : (d : DeckValue) (w : Record) (swept : List ℕ → Bool) (from until : ℕ) (p : Pending) (n : List ℕ) (t : ℕ) → t < from → after_commit d w swept from until p n t ≡ p n t
before_window d w swept from until p n t early =
    cond-false (swept n && ((nat_le from t && nat_le t until) && nat_lt t d.stop)) (is_fault d w n t) (p n t)
    (and_right (swept n) _ (and_left _ (nat_lt t d.stop) (and_left _ (nat_le t until) (lt-leb from t early))))

some_counted : (p : List ℕ → Bool) (ns : List (List ℕ)) → list_any p ns ≡ true → 1 ≤ count_by p ns
some_counted p [] h = absurd (false≢true h)
some_counted p (n ∷ ns) h = ⊎_elim
    (λ (here : p n ≡ true). let one : cond {A = ℕ} (p n) 1 0 ≡ 1 = ap (λ b. cond {A = ℕ} b 1 0) here in omega (arith, one, sum_by-cons (λ m. cond (p m) 1 0) n ns))
    (λ (later : list_any p ns ≡ true). omega (arith, some_counted p ns later, sum_by-cons (λ m. cond (p m) 1 0) n ns))
    (or_cases (p n) (list_any p ns) h)

pub fewer_pending : (d : DeckValue) (w x : Record) (task among swept : List ℕ → Bool) (from until : ℕ) (p : Pending) → from < until → IsClean d w x task among from until → AreSwept d task swept → Covers d w p
    → (n : List ℕ) → is_free d n ≡ true → task n ≡ true → p n from ≡ true → pending_at d (after_commit d x swept from until p) from < pending_at d p from
unfolding is_free
fewer_pending d w x task among swept from until p some clean swept_all c n free inside pending =
    let one : 1 ≤ count_by (bytes_eq n) (free_nodes d) = some_counted (bytes_eq n) (free_nodes d) free in
    let all : count_by (bytes_eq n) (free_nodes d) + count_by (λ m. after m) (free_nodes d) ≤ count_by (λ m. p m from) (free_nodes d) =
    sums_below _ _ _ (free_nodes d) (λ m free'. at_most (bytes_eq n m) (after m) (p m from)
    (λ same. let is : n ≡ m = same-bytes_eq n m same in (ap (λ k. p k from) (sym is) ∙ pending, ap after (sym is) ∙ gone n free inside))
    (λ h. still m free' h)) in
    omega (arith, one, all)
  where
    after : List ℕ → Bool
    after m = after_commit d x swept from until p m from

    in_window : (nat_le from from && nat_le from until) && nat_lt from d.stop ≡ true
    in_window = let up_to : until ≤ d.stop = clean.up_to in and_from _ _ (and_from _ _ (le-leb from from (omega arith)) (le-leb from until (omega arith))) (lt-ltb from d.stop (omega arith))

    -- a node of the task has no fault left there
    gone : (m : List ℕ) → is_free d m ≡ true → task m ≡ true → after m ≡ false
    gone m free' in' =
        cond-true (swept m && ((nat_le from from && nat_le from until) && nat_lt from d.stop)) (is_fault d x m from) (p m from) (and_from _ _ (swept_all m free' in') in_window)
        ∙ clean.clean m from in' (omega arith) some

    -- and what is pending afterwards was pending
    still : (m : List ℕ) → is_free d m ≡ true → after m ≡ true → p m from ≡ true
    still m free' = cond_both (swept m && ((nat_le from from && nat_le from until) && nat_lt from d.stop)) (is_fault d x m from) (p m from) (λ b. b ≡ true → p m from ≡ true)
        (λ _ fault. ⊎_elim
        (λ (in' : task m ≡ true). absurd (false≢true (sym (clean.clean m from in' (omega arith) some) ∙ fault)))
        (λ (out : task m ≡ false). c.faults m from (clean.others m from out some fault))
        (cases_Bool (task m)))
        (λ _ h. h)
