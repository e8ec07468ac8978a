-- The record in which b stays at 0 V.
use Rattle.std.proofs.Common.{◌≡◌, ℕ, Bool, true, false, not, ◌&&◌, ◌||◌, cond, List, [], ◌∷◌, refl, sym, ap, ◌∙◌, lit<, nat_lt, codes, pos, ◌==◌, ◌⊎◌, ◌<◌, ◌≤◌, arith, inl, inr}
use Rattle.std.specs.Str.{bytes_eq}
use Rattle.std.proofs.lemmas.Bool.{false≢true, cond-false, ne_eqb}
use Rattle.semantics.specs.declared.element.Element.TheVariants.{Resistor}
use Rattle.semantics.specs.Grid.{difference, cell, uniform}
use Rattle.semantics.specs.Deck.{nodes, driver, free_nodes, total_farads, capacity, initial_of}
use Rattle.semantics.specs.Source.{pair_at, level}
use Rattle.semantics.specs.Device.{cells, current, current_in, resistor_current}
use Rattle.semantics.specs.Run.{voltages, flow, node_current}
use Rattle.semantics.proofs.Nodes.{same-bytes_eq}
use Rattle.device_tables.proofs.Counts.{uniform_cell_is}
use Rattle.semantics.specs.Neighbours.{is_free}
use Rattle.semantics.specs.Record.{Starts, record_voltages, record_current, start_pair, follows, is_fault}
use Rattle.record_laws.specs.Laws.{SameBeside}
use Rattle.worked_records.specs.Rc.{rc, kept, bumped}

or_false : (b : Bool) → (b || false) ≡ b
or_false true = refl
or_false false = refl

free_b : (n : List ℕ) → is_free rc n ≡ bytes_eq n (codes "b")
unfolding is_free free_nodes nodes driver
free_b n = or_false (bytes_eq n (codes "b"))

farads_b : capacity rc (codes "b") ≡ 1000000
unfolding total_farads
farads_b = refl

initial_b : initial_of rc (codes "b") ≡ pos 0
unfolding initial_of
initial_b = refl

pub starts : Starts rc kept
starts n free =
    let is : n ≡ codes "b" = same-bytes_eq n (codes "b") (sym (free_b n) ∙ free) in
    (λ i. record { num = pos 0; den = 1000000 }) ∙ first ∙ ap (start_pair rc) (sym is)
  where
    first : kept (codes "b") 0 ≡ start_pair rc (codes "b")
    first = rw (farads_b, initial_b) refl

-- ---- the current through the resistor

pair_a : (t : ℕ) → pair_at ((0, pos 1000000) ∷ []) t ≡ level (pos 1000000)
unfolding pair_at
pair_a t = by (nat_lt t 0)
  where
    by : (b : Bool) → cond b (level (pos 1000000)) (level (pos 1000000)) ≡ level (pos 1000000)
    by true = refl
    by false = refl

volts_a : (t : ℕ) → record_voltages rc kept t (codes "a") ≡ level (pos 1000000)
unfolding voltages driver
volts_a t = λ i. record { num = (pair_a t i).num; den = (pair_a t i).den }

volts_b : (t : ℕ) → record_voltages rc kept t (codes "b") ≡ record { num = pos 0; den = 1000000 }
unfolding voltages driver
volts_b t = refl

cell_ab : cell (uniform 100000 4096) (record { num = pos 1000000000000; den = 1000000 }) ≡ 4106
cell_ab = uniform_cell_is 100000 4096 1000000 (pos 1000000000000) (pos 10) 4106 (lit< tt) refl refl

amps : (t : ℕ) → current rc (record_voltages rc kept t) (Resistor (codes "r1") (codes "a") (codes "b") (pos 1000000)) ≡ resistor_current 100000 (pos 1000000) 4106
unfolding current cells current_in
amps t =
    (λ i. resistor_current 100000 (pos 1000000) (cell (uniform 100000 4096) (difference (volts_a t i) (volts_b t i))))
    ∙ ap (resistor_current 100000 (pos 1000000)) cell_ab

milliamp : resistor_current 100000 (pos 1000000) 4106 ≡ pos 1000000000
unfolding resistor_current
milliamp = refl

current_b : (t : ℕ) → record_current rc kept t (codes "b") ≡ pos 1000000000
unfolding node_current flow
current_b t = rw (amps t, milliamp) refl

-- ---- the faults

follows_b : (t : ℕ) → follows rc kept (codes "b") t ≡ false
unfolding follows
follows_b t = rw (farads_b, current_b t) refl

pub faults : (n : List ℕ) (t : ℕ) → is_fault rc kept n t ≡ (bytes_eq n (codes "b") && nat_lt t 1000)
unfolding is_fault
faults n t = (λ i. (free_b n i && nat_lt t 1000) && not (follows rc kept n t)) ∙ by (bytes_eq n (codes "b")) refl (nat_lt t 1000)
  where
    by : (b : Bool) → bytes_eq n (codes "b") ≡ b → (c : Bool) → ((b && c) && not (follows rc kept n t)) ≡ (b && c)
    by false is c = refl
    by true is false = refl
    by true is true = ap (λ m. not (follows rc kept m t)) (same-bytes_eq n (codes "b") is) ∙ ap not (follows_b t)

pub free_there : is_free rc (codes "b") ≡ true
free_there = free_b (codes "b")

-- the other record is the same but at tick 500
pub bumped_beside : SameBeside rc (λ n. true) 499 500 bumped kept
bumped_beside n t free up_to aside = cond-false (t == 500) (record { num = pos 7; den = 1000000 }) (kept n t) (ne_eqb t 500 (λ at. by at aside))
  where
    by : t ≡ 500 → (true ≡ false) ⊎ ((t ≤ 499) ⊎ (500 < t)) → ⊥
    by at (inl out) = false≢true (sym out)
    by at (inr (inl early)) = absurd (omega arith)
    by at (inr (inr late)) = absurd (omega arith)
