-- From stay to stay of one device.
use Rattle.std.proofs.Common.{◌≡◌, ℕ, zero, suc, ◌+◌, ◌-◌, ◌<◌, ◌≤◌, true, List, [], ◌∷◌, ◌++◌, sym, ap, ◌∙◌, arith}
use Rattle.std.specs.Prelude.{if◌then◌else◌, unwrap_or}
use Rattle.std.proofs.lemmas.Bool.{and_from, eq-eqb}
use Rattle.std.proofs.lemmas.List.{append-nil}
use Rattle.semantics.specs.Event.{same_cells}
use Rattle.circuit_model.specs.Numbers.{CircuitValue}
use Rattle.histories.specs.Record.{RecordValue}
use Rattle.fault_sweep.specs.declared.cell_stay.CellStay.{CellStay}
use Rattle.fault_sweep.specs.CellStays.{IsCellStay}
use Rattle.record_events.specs.Changes.{cells_by, changes_to}

-- the device stays in these cells up to before a tick, which is at most the tick after the stop
pub record IsStayTo (c : CircuitValue) (h : RecordValue) (device : ℕ) (stay : CellStay) : Type 0 where
  pub some : 0 < stay.until
  pub by_stop : stay.until ≤ c.deck.stop + 1
  pub last : cells_by c h device (stay.until - 1) ≡ stay.cells

cells_in : (c : CircuitValue) (h : RecordValue) (device now : ℕ) (stay : CellStay) → IsCellStay c h device now stay → (t : ℕ) → now ≤ t → t < stay.until → cells_by c h device t ≡ stay.cells
cells_in c h device now stay is t after before = ap (λ o. unwrap_or o (0, 0)) (is.cells_are t after before)

-- where it begins
pub cells_now : (c : CircuitValue) (h : RecordValue) (device now : ℕ) (stay : CellStay) → IsCellStay c h device now stay → stay.cells ≡ cells_by c h device now
cells_now c h device now stay is = let l = is.later in sym (cells_in c h device now stay is now (omega arith) l)

pub stay_to : (c : CircuitValue) (h : RecordValue) (device now : ℕ) (stay : CellStay) → IsCellStay c h device now stay → IsStayTo c h device stay
stay_to c h device now stay is = record {
  some = let l = is.later in omega (arith, l);
  by_stop = is.by_stop;
  last = let l = is.later in cells_in c h device now stay is (stay.until - 1) (omega (arith, l)) (omega (arith, l));
}

same_itself : (a b : ℕ × ℕ) → a ≡ b → same_cells a b ≡ true
same_itself a b same = and_from _ _ (eq-eqb a.0 b.0 (ap (λ (p : ℕ × ℕ). p.0) same)) (eq-eqb a.1 b.1 (ap (λ (p : ℕ × ℕ). p.1) same))

-- in one stay there is no change
no_change : (c : CircuitValue) (h : RecordValue) (device now : ℕ) (stay : CellStay) → IsCellStay c h device now stay → (k : ℕ) → now + k < stay.until → changes_to c h device (now + k) ≡ changes_to c h device now
unfolding changes_to
no_change c h device now stay is zero below = let same : now + zero ≡ now = omega arith in ap (changes_to c h device) same
no_change c h device now stay is (suc k) below =
    let next : now + suc k ≡ suc (now + k) = omega arith in
    let here : cells_by c h device (now + k) ≡ stay.cells = cells_in c h device now stay is (now + k) (omega arith) (omega (arith, below)) in
    let there : cells_by c h device (suc (now + k)) ≡ stay.cells = cells_in c h device now stay is (suc (now + k)) (omega arith) (omega (arith, below)) in
    let quiet : same_cells (cells_by c h device (now + k)) (cells_by c h device (suc (now + k))) ≡ true = same_itself _ _ (here ∙ sym there) in
    ap (changes_to c h device) next ∙ ap (λ b. changes_to c h device (now + k) ++ (if b then [] else (suc (now + k), device) ∷ [])) quiet
    ∙ append-nil (changes_to c h device (now + k)) ∙ no_change c h device now stay is k (omega (arith, below))

pub first_stay : (c : CircuitValue) (h : RecordValue) (device : ℕ) (stay : CellStay) → IsCellStay c h device 0 stay → [] ≡ changes_to c h device (stay.until - 1)
unfolding changes_to
first_stay c h device stay is =
    let l = is.later in
    let last : stay.until - 1 ≡ 0 + (stay.until - 1) = omega arith in
    sym (ap (changes_to c h device) last ∙ no_change c h device 0 stay is (stay.until - 1) (omega (arith, l)))

-- the next stay begins with a change or not
pub next_stay : (c : CircuitValue) (h : RecordValue) (device : ℕ) (stay next : CellStay) (old new : List (ℕ × ℕ)) → IsStayTo c h device stay → IsCellStay c h device stay.until next
    → old ≡ changes_to c h device (stay.until - 1) → new ≡ old ++ (if same_cells stay.cells next.cells then [] else (stay.until, device) ∷ []) → new ≡ changes_to c h device (next.until - 1)
unfolding changes_to
next_stay c h device stay next old new was is so grown =
    let some = was.some in
    let l = is.later in
    let t : ℕ = stay.until - 1 in
    let here : stay.until ≡ suc t = omega (arith, some) in
    let first : cells_by c h device (suc t) ≡ next.cells = ap (cells_by c h device) (sym here) ∙ cells_in c h device stay.until next is stay.until (omega arith) l in
    let one : changes_to c h device t ++ (if same_cells stay.cells next.cells then [] else (stay.until, device) ∷ []) ≡ changes_to c h device (suc t) =
    (λ i. changes_to c h device t ++ (if same_cells (sym was.last i) (sym first i) then [] else (here i, device) ∷ [])) in
    let k : ℕ = next.until - 1 - stay.until in
    let end : stay.until + k ≡ next.until - 1 = omega (arith, l) in
    grown ∙ ap (λ xs. xs ++ (if same_cells stay.cells next.cells then [] else (stay.until, device) ∷ [])) so ∙ one ∙ ap (changes_to c h device) (sym here)
    ∙ sym (no_change c h device stay.until next is k (omega (arith, l, end))) ∙ ap (changes_to c h device) end
