-- What the laws give for a window: which families close, and where its record is the run.
use Rattle.std.proofs.Common.{zero, ◌≡◌, ℕ, suc, ◌+◌, ◌<◌, ◌≤◌, ◌==◌, ◌&&◌, nat_le, Bool, true, false, List, refl, sym, subst, ◌∙◌, arith, ⊎_elim, inl, inr}
use Rattle.std.proofs.lemmas.Bool.{false≢true, and_parts, and_from, or_left, or_right, or_cases, cases_lt, cases_Bool, false_from_ne_true, le-leb, leb-true, eq-eqb, eqb-true}
use Rattle.semantics.specs.Deck.{DeckValue}
use Rattle.semantics.specs.Neighbours.{is_free}
use Rattle.semantics.specs.Record.{Record, Starts, is_fault, HasRun, NoFaultBelow}
use Rattle.record_laws.specs.Laws.{Closes, Family, HasNeighbours, IsAlone, IsClean, IsDistance, IsFaultless, SameBeside, and_then, beyond}
use Rattle.record_laws.proofs.Faults.{changes}
use Rattle.record_laws.proofs.Stale.{IsRight}
use Rattle.record_laws.proofs.Unique.{all_close, all_nodes, unique_on}

-- ---- families that close

pub closes_set : (d : DeckValue) (among : List ℕ → Bool) → HasNeighbours d among → Closes d (λ t n. among n)
closes_set d among closed = record { stays = λ t n h. h; spreads = λ t n m h free near. closed n m h free near }

pub closes_and_then : (d : DeckValue) (from : ℕ) (among : List ℕ → Bool) → Closes d (and_then from among)
closes_and_then d from among = record { stays = λ t n h. down t n n h; spreads = λ t n m h free near. down t n m h }
  where
    down : (t : ℕ) (n m : List ℕ) → and_then from among (suc t) n ≡ true → and_then from among t m ≡ true
    down t n m h = or_left _ _ (le-leb t from (⊎_elim
        (λ (early : nat_le (suc t) from ≡ true). let under : suc t ≤ from = leb-true (suc t) from early in omega arith)
        (λ (last : ((suc t == suc from) && among n) ≡ true). let at : suc t ≡ suc from = eqb-true (suc t) (suc from) (and_parts _ _ last).0 in omega arith)
        (or_cases (nat_le (suc t) from) ((suc t == suc from) && among n) h)))

pub closes_beyond : (d : DeckValue) (p : ℕ) (distance : List ℕ → ℕ) → IsDistance d distance → Closes d (beyond p distance)
closes_beyond d p distance one = record {
  stays = λ t n h. let under : suc t ≤ p + distance n = leb-true (suc t) (p + distance n) h in le-leb t (p + distance n) (omega arith);
  spreads = λ t n m h free near.
      let under : suc t ≤ p + distance n = leb-true (suc t) (p + distance n) h in
      let step : distance n ≤ distance m + 1 = one n m free near in
      le-leb t (p + distance m) (omega arith);
}

-- ---- the record of a window

starts_beside : (d : DeckValue) (w x : Record) (among : List ℕ → Bool) (from until : ℕ) → SameBeside d among from until w x → Starts d w → Starts d x
starts_beside d w x among from until beside starts n free = sym (beside n 0 free (omega arith) (inr (inl (omega arith)))) ∙ starts n free

-- a family that closes has the nodes of a tick at each tick before it
stays_down : (d : DeckValue) (k : Family) → Closes d k → (s t : ℕ) (n : List ℕ) → s ≤ t → k t n ≡ true → k s n ≡ true
stays_down d k closes s zero n below in' = let same : zero ≡ s = omega arith in subst (λ u. k u n ≡ true) same in'
stays_down d k closes s (suc t) n below in' = ⊎_elim
    (λ (less : s < suc t). stays_down d k closes s t n (omega arith) (closes.stays t n in'))
    (λ (at : suc t ≤ s). let same : suc t ≡ s = omega arith in subst (λ u. k u n ≡ true) same in')
    (cases_lt s (suc t))

-- the record of a window is the run where a family that closes has the written nodes at its end, and no fault
pub right_on : (d : DeckValue) (w x : Record) (among : List ℕ → Bool) (from until : ℕ) (k : Family) → SameBeside d among from until w x → until ≤ d.stop
    → Closes d k → IsFaultless d x k until → ((n : List ℕ) → among n ≡ true → k until n ≡ true) → IsRight d w x among from until
right_on d w x among from until k beside up_to closes faultless inside = record {
  beside = beside;
  up_to = up_to;
  below = λ n t free in' early. right n t free (omega arith) (stays_down d k closes t until n (omega arith) (inside n in'));
  near = λ n m t free in' free' near early. right m t free' (omega arith) (closes.spreads t n m (stays_down d k closes (suc t) until n (omega arith) (inside n in')) free' near);
  last = λ n free in'. right n until free (omega arith) (inside n in');
}
  where
    right : (n : List ℕ) (t : ℕ) → is_free d n ≡ true → t ≤ until → k t n ≡ true → HasRun d x n t
    right n t free below in' = unique_on d x k t (omega arith) closes
        (record { starts = faultless.starts; none = λ m s early in''. faultless.none m s (omega arith) in'' }) n free in'

no_fault_from : (d : DeckValue) (w x : Record) (task among : List ℕ → Bool) (from until : ℕ) → IsClean d w x task among from until → NoFaultBelow d x from
no_fault_from d w x task among from until c n t early = sym (changes d among from until w x c.beside n t (inl early)) ∙ c.before n t early

-- where no other node was at fault in it
pub right_whole : (d : DeckValue) (w x : Record) (task among : List ℕ → Bool) (from until : ℕ) → IsClean d w x task among from until → IsAlone d w task from until → IsRight d w x among from until
unfolding all_nodes
right_whole d w x task among from until c none = right_on d w x among from until all_nodes c.beside c.up_to (all_close d)
    (record { starts = λ n free _. starts_beside d w x among from until c.beside c.starts n free; none = λ n t early _. clean n t early }) (λ _ _. refl)
  where
    clean : NoFaultBelow d x until
    clean n t early = ⊎_elim
        (λ (old : t < from). no_fault_from d w x task among from until c n t old)
        (λ (new : from ≤ t). ⊎_elim
        (λ (in' : task n ≡ true). c.clean n t in' new early)
        (λ (out : task n ≡ false). false_from_ne_true (is_fault d x n t) (λ fault. false≢true (sym (none n t out new early) ∙ c.others n t out early fault)))
        (cases_Bool (task n)))
        (cases_lt t from)

-- and of a window of one tick that took no node in
pub right_step : (d : DeckValue) (w x : Record) (task : List ℕ → Bool) (from : ℕ) → IsClean d w x task task from (suc from) → IsRight d w x task from (suc from)
right_step d w x task from c = right_on d w x task from (suc from) (and_then from task) c.beside c.up_to (closes_and_then d from task)
    (record { starts = λ n free _. starts_beside d w x task from (suc from) c.beside c.starts n free; none = none })
    (λ n in'. or_right _ _ (and_from _ _ (eq-eqb (suc from) (suc from) refl) in'))
  where
    none : (m : List ℕ) (s : ℕ) → s < suc from → and_then from task (suc s) m ≡ true → is_fault d x m s ≡ false
    none m s early h = ⊎_elim
        (λ (before : nat_le (suc s) from ≡ true). let under : suc s ≤ from = leb-true (suc s) from before in no_fault_from d w x task task from (suc from) c m s (omega arith))
        (λ (last : ((suc s == suc from) && task m) ≡ true).
        let at : suc s ≡ suc from = eqb-true (suc s) (suc from) (and_parts _ _ last).0 in
        c.clean m s (and_parts (suc s == suc from) (task m) last).1 (omega arith) early)
        (or_cases (nat_le (suc s) from) ((suc s == suc from) && task m) h)
