-- Which nodes are near two edits.
use Rattle.std.proofs.Common.{◌≡◌, ◌≢◌, ℕ, zero, suc, ◌<◌, Bool, true, false, ◌||◌, List, [], ◌∷◌, get_or, Contains, refl, sym, ap, subst, arith, ⊎_elim, inl, inr, codes, ℤ, pos, lit<}
use Rattle.std.specs.Ordering.{int_eq}
use Rattle.std.specs.Str.{bytes_eq}
use Rattle.std.proofs.lemmas.Bool.{false≢true, or_cases, and_parts}
use Rattle.semantics.specs.declared.element.Element.{Element}
use Rattle.semantics.specs.declared.element.Element.TheVariants.{Resistor, Capacitor, Source, Mos}
use Rattle.semantics.specs.Deck.{nodes, driver, free_nodes, initial_of}
use Rattle.semantics.proofs.Nodes.{same-bytes_eq}
use Rattle.semantics.specs.Neighbours.{is_free, share}
use Rattle.semantics.specs.Edit.{IsChanged, IsNear, AtChangedSource}
use Rattle.worked_records.specs.Rc.{r1, v1, rc, rc_resistor, rc_source, rc_initial}

-- ---- changed elements

-- the value of a resistor, and the first voltage of a source
ohms_of : Element → ℤ
ohms_of (Resistor name first second ohms) = ohms
ohms_of (Capacitor name plus minus farads) = pos 0
ohms_of (Source name plus minus wave) = pos 0
ohms_of (Mos name drain gate source bulk part len width) = pos 0

volts_of : Element → ℤ
volts_of (Resistor name first second ohms) = pos 0
volts_of (Capacitor name plus minus farads) = pos 0
volts_of (Source name plus minus []) = pos 0
volts_of (Source name plus minus (p ∷ ps)) = p.1
volts_of (Mos name drain gate source bulk part len width) = pos 0

resistor_gone : Contains rc_resistor.elements (r1 (pos 1000000)) → ⊥
unfolding ohms_of
resistor_gone at = by at.0 at.1 at.2
  where
    by : (k : ℕ) → k < 3 → get_or rc_resistor.elements k (r1 (pos 1000000)) ≡ r1 (pos 1000000) → ⊥
    by zero below is = absurd (cc)
    by (suc zero) below is = false≢true (ap (λ e. int_eq (ohms_of e) (pos 2000000)) (sym is))
    by (suc (suc zero)) below is = absurd (cc)
    by (suc (suc (suc k))) below is = absurd (omega arith)

source_gone : Contains rc_source.elements (v1 (pos 1000000)) → ⊥
unfolding volts_of
source_gone at = by at.0 at.1 at.2
  where
    by : (k : ℕ) → k < 3 → get_or rc_source.elements k (v1 (pos 1000000)) ≡ v1 (pos 1000000) → ⊥
    by zero below is = false≢true (ap (λ e. int_eq (volts_of e) (pos 2000000)) (sym is))
    by (suc zero) below is = absurd (cc)
    by (suc (suc zero)) below is = absurd (cc)
    by (suc (suc (suc k))) below is = absurd (omega arith)

pub near_resistor : IsNear rc rc_resistor (codes "b")
near_resistor = inl (record { element = r1 (pos 1000000); changed = inl ((1, lit< tt, refl), resistor_gone); end = refl })

-- b is beside a, which is an end of the source
pub near_source : IsNear rc rc_source (codes "b")
unfolding share
near_source = inr (inr (record {
  other = codes "a";
  real = refl;
  joined = refl;
  change = inr (record { element = v1 (pos 1000000); changed = inl ((0, lit< tt, refl), source_gone); source = refl; end = refl });
}))

-- ---- no change

unchanged : (x : Element) → IsChanged rc rc_initial x → ⊥
unchanged x (inl lost) = lost.1 lost.0
unchanged x (inr made) = made.1 made.0

or_false : (b : Bool) → (b || false) ≡ true → b ≡ true
or_false true h = refl
or_false false h = h

free_b : (n : List ℕ) → is_free rc_initial n ≡ true → n ≡ codes "b"
unfolding is_free free_nodes nodes driver
free_b n free = same-bytes_eq n (codes "b") (or_false (bytes_eq n (codes "b")) free)

same_a : initial_of rc (codes "a") ≡ initial_of rc_initial (codes "a")
unfolding initial_of
same_a = refl

same_b : initial_of rc (codes "b") ≡ initial_of rc_initial (codes "b")
unfolding initial_of
same_b = refl

-- what a device joins to b is a or b
beside_b : (m : List ℕ) → share rc_initial m (codes "b") ≡ true → initial_of rc m ≡ initial_of rc_initial m
unfolding share
beside_b m joined = ⊎_elim
    (λ (a : bytes_eq m (codes "a") ≡ true). subst (λ k. initial_of rc k ≡ initial_of rc_initial k) (sym (same-bytes_eq m (codes "a") a)) same_a)
    (λ (b : (bytes_eq m (codes "b") || false) ≡ true). subst (λ k. initial_of rc k ≡ initial_of rc_initial k) (sym (same-bytes_eq m (codes "b") (or_false _ b))) same_b)
    (or_cases (bytes_eq m (codes "a")) (bytes_eq m (codes "b") || false) (and_parts (bytes_eq m (codes "a") || (bytes_eq m (codes "b") || false)) true (or_false _ joined)).0)

pub far_initial : (n : List ℕ) → is_free rc_initial n ≡ true → IsNear rc rc_initial n → ⊥
far_initial n free (inl at) = unchanged at.element at.changed
far_initial n free (inr (inl other)) = other (subst (λ k. initial_of rc k ≡ initial_of rc_initial k) (sym (free_b n free)) same_b)
far_initial n free (inr (inr beside)) = ⊎_elim
    (λ (voltage : initial_of rc beside.other ≢ initial_of rc_initial beside.other). voltage (beside_b beside.other (subst (λ k. share rc_initial beside.other k ≡ true) (free_b n free) beside.joined)))
    (λ (source : AtChangedSource rc rc_initial beside.other). unchanged source.element source.changed)
    beside.change
