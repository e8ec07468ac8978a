-- A record that begins right and has no fault is the run.
use Rattle.std.proofs.Common.{◌≡◌, ℕ, zero, suc, ◌≤◌, Bool, true, false, not, ◌&&◌, List, refl, sym, ap, ◌∙◌, arith, nat_lt, ◌+ℤ◌}
use Rattle.semantics.specs.Deck.{DeckValue}
use Rattle.semantics.specs.Run.{node_current, charge, run}
use Rattle.semantics.specs.Neighbours.{is_free, share}
use Rattle.semantics.specs.Record.{Record, Starts, HasRun, IsRunTo, NoFaultBelow, record_voltages, record_current, follows, is_fault, run_record}
use Rattle.semantics.proofs.Limits.{run_free}
use Rattle.semantics.proofs.Steps.{charge_next, start_free}
use Rattle.semantics.proofs.Free.{free_real, free_undriven}
use Rattle.semantics.proofs.Neighbours.{free_suffices}
use Rattle.record_laws.specs.Laws.{Family, Closes, IsFaultless}
use Rattle.record_laws.proofs.Faults.{Goes, goes, goes_unfaulted}

-- the voltages of a tick of the run are those of its record
pub run_voltages : (d : DeckValue) (t : ℕ) → record_voltages d (run_record d) t ≡ run d t
unfolding run
run_voltages d t = refl

pub run_charged : (d : DeckValue) (t : ℕ) (n : List ℕ) → is_free d n ≡ true → run d t n ≡ run_record d n t
run_charged d t n free = run_free d t n (free_real d n free) (free_undriven d n free)

pub run_starts : (d : DeckValue) → Starts d (run_record d)
run_starts d n free = sym (run_charged d 0 n free) ∙ start_free d n (free_real d n free) (free_undriven d n free)

-- the current into a node is that of the run where its free neighbours have the run's voltages
pub run_current : (d : DeckValue) (w : Record) (t : ℕ) (n : List ℕ) → ((m : List ℕ) → is_free d m ≡ true → share d m n ≡ true → w m t ≡ run_record d m t) → record_current d w t n ≡ node_current d (run d t) n
unfolding run
run_current d w t n same = free_suffices d t (λ m. w m t) (λ m. run_record d m t) n same

-- the run's voltages, by induction on the tick
charged_on : (d : DeckValue) (w : Record) (among : Family) (t : ℕ) → Closes d among → IsFaultless d w among t → t ≤ d.stop
    → (n : List ℕ) → is_free d n ≡ true → among t n ≡ true → w n t ≡ run_record d n t
charged_on d w among zero closes right up_to n free inside = right.starts n free inside ∙ sym (run_starts d n free)
charged_on d w among (suc t) closes right up_to n free inside =
    let earlier : IsFaultless d w among t = record { starts = right.starts; none = λ m s below in'. right.none m s (omega arith) in' } in
    let before : (m : List ℕ) → is_free d m ≡ true → among t m ≡ true → w m t ≡ run_record d m t = charged_on d w among t closes earlier (omega arith) in
    let now : w n t ≡ run_record d n t = before n free (closes.stays t n inside) in
    let flows : record_current d w t n ≡ node_current d (run d t) n = run_current d w t n (λ m free' near. before m free' (closes.spreads t n m inside free' near)) in
    let step : Goes d w n t = goes d w n t free (omega arith) (right.none n t (omega arith) inside) in
    let num : (w n (suc t)).num ≡ charge d (suc t) n = step.gains ∙ (λ i. (now i).num +ℤ flows i) ∙ sym (charge_next d t n) in
    λ i. record { num = num i; den = step.next i }

pub unique_on : (d : DeckValue) (w : Record) (among : Family) (t : ℕ) → t ≤ d.stop → Closes d among → IsFaultless d w among t
    → (n : List ℕ) → is_free d n ≡ true → among t n ≡ true → HasRun d w n t
unique_on d w among t up_to closes right n free inside = charged_on d w among t closes right up_to n free inside ∙ sym (run_charged d t n free)

-- the family of all nodes
unfoldable pub all_nodes : Family
all_nodes t n = true

pub all_close : (d : DeckValue) → Closes d all_nodes
unfolding all_nodes
all_close d = record { stays = λ _ _ _. refl; spreads = λ _ _ _ _ _ _. refl }

pub unique : (d : DeckValue) (w : Record) (t : ℕ) → t ≤ d.stop → Starts d w → NoFaultBelow d w t → IsRunTo d w t
unfolding all_nodes
unique d w t up_to starts none n s free below = unique_on d w all_nodes s (omega arith) (all_close d)
    (record { starts = λ m free' _. starts m free'; none = λ m r before _. none m r (omega arith) }) n free refl

-- ---- the run has no fault

pub run_faultless : (d : DeckValue) (n : List ℕ) (t : ℕ) → is_fault d (run_record d) n t ≡ false
unfolding is_fault
run_faultless d n t = by (is_free d n) refl
  where
    good : is_free d n ≡ true → is_fault d (run_record d) n t ≡ false
    good free =
        let flows : record_current d (run_record d) t n ≡ node_current d (run d t) n = run_current d (run_record d) t n (λ m _ _. refl) in
        goes_unfaulted d (run_record d) n t refl refl (charge_next d t n ∙ (λ i. charge d t n +ℤ sym flows i))

    by : (b : Bool) → is_free d n ≡ b → is_fault d (run_record d) n t ≡ false
    by false is = ap (λ b. (b && nat_lt t d.stop) && not (follows d (run_record d) n t)) is
    by true is = good is
