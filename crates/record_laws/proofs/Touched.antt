-- A record that was the run of a deck is, after edits, that of the new deck at each node that they did not touch.
use Rattle.std.proofs.Common.{◌≡◌, ◌≢◌, ℕ, zero, suc, ◌<◌, ◌≤◌, Bool, true, false, ◌==◌, ◌||◌, cond, List, [], ◌∷◌, length, get_or, Contains, Option, Some, None, refl, sym, ap, ◌∙◌, subst, arith, ⊎_elim, inl, inr, ℤ, sum_by}
use Rattle.std.specs.List.{list_any}
use Rattle.std.specs.Ordering.{int_eq}
use Rattle.std.specs.Str.{bytes_eq}
use Rattle.std.proofs.lemmas.Bool.{false≢true, and_parts, or_cases, or_left, or_right, true_from_ne_false, eqb-true}
use Rattle.std.proofs.lemmas.Bool.Decides.{Decides-int_eq}
use Rattle.semantics.specs.declared.fraction.Fraction.{Fraction}
use Rattle.semantics.specs.declared.element.Element.{Element}
use Rattle.semantics.specs.declared.element.Element.TheVariants.{Resistor, Capacitor, Source, Mos}
use Rattle.semantics.specs.Deck.{DeckValue, driver, drives, first_some, free_nodes}
use Rattle.semantics.specs.Edit.{AtChange, KeepsFree, restarted}
use Rattle.semantics.specs.Neighbours.{is_free, is_end}
use Rattle.semantics.specs.Record.{Record, HasRun, IsRunTo}
use Rattle.semantics.specs.Run.{run}
use Rattle.semantics.specs.Stale.{same_pair, stale}
use Rattle.semantics.specs.Wave.{wave}
use Rattle.semantics.proofs.Free.{free_real, free_undriven, free_ends, free_from}
use Rattle.semantics.proofs.Limits.{first_cases}
use Rattle.semantics.proofs.Steps.{start_free}
use Rattle.record_laws.specs.Touched.{IsTouched, IsEdited}
use Rattle.record_laws.proofs.Damage.{restarted_first, restarted_later}
use Rattle.record_laws.proofs.Stale.{same_itself, stale_touched}

-- ---- elements of a list

found_any : (p : Element → Bool) (xs : List Element) (e : Element) → Contains xs e → p e ≡ true → list_any p xs ≡ true
found_any p xs e at good = by xs at.0 at.1 at.2
  where
    by : (ys : List Element) (k : ℕ) → k < length ys → get_or ys k e ≡ e → list_any p ys ≡ true
    by [] k below is = absurd (omega arith)
    by (y ∷ ys) zero below is = or_left _ _ (ap p is ∙ good)
    by (y ∷ ys) (suc k) below is = or_right _ _ (by ys k (omega arith) is)

-- an element of a list that has a property
pub record Found (xs : List Element) (P : Element → Type 0) : Type 0 where
  pub element : Element
  pub inside : Contains xs element
  pub has : P element

found_here : (P : Element → Type 0) (x : Element) (xs : List Element) → P x → Found (x ∷ xs) P
found_here P x xs h = record { element = x; inside = (zero, omega arith, refl); has = h }

found_later : (P : Element → Type 0) (x : Element) (xs : List Element) → Found xs P → Found (x ∷ xs) P
found_later P x xs f = record { element = f.element; inside = (suc f.inside.0, omega (arith, f.inside.1), f.inside.2); has = f.has }

any_found : (p : Element → Bool) (xs : List Element) → list_any p xs ≡ true → Found xs (λ e. p e ≡ true)
any_found p [] h = absurd (false≢true h)
any_found p (x ∷ xs) h = ⊎_elim
    (λ (here : p x ≡ true). found_here (λ e. p e ≡ true) x xs here)
    (λ (later : list_any p xs ≡ true). found_later (λ e. p e ≡ true) x xs (any_found p xs later))
    (or_cases (p x) (list_any p xs) h)

some_found : {B : Type 0} (f : Element → Option B) (xs : List Element) (y : B) → first_some f xs ≡ Some y → Found xs (λ e. f e ≡ Some y)
some_found f [] y h = absurd (cc)
some_found f (x ∷ xs) y h = ⊎_elim
    (λ (here : f x ≡ Some y). found_here (λ e. f e ≡ Some y) x xs here)
    (λ (later : first_some f xs ≡ Some y). found_later (λ e. f e ≡ Some y) x xs (some_found f xs y later))
    (first_cases f x xs y h)

none_found : {B : Type 0} (f : Element → Option B) (xs : List Element) (e : Element) (y : B) → first_some f xs ≡ None → Contains xs e → f e ≡ Some y → ⊥
none_found {B} f xs e y none at some = by xs at.0 none at.1 at.2
  where
    split : (o : Option B) (rest : Option B) → elim o as (λ _. Option B) [ None ↦ rest | Some z ↦ Some z ] ≡ None → (o ≡ None) × (rest ≡ None)
    split None rest h = (refl, h)
    split (Some z) rest h = absurd (cc)

    by : (ys : List Element) (k : ℕ) → first_some f ys ≡ None → k < length ys → get_or ys k e ≡ e → ⊥
    by [] k bare below is = absurd (omega arith)
    by (x ∷ ys) zero bare below is =
        let first : f x ≡ None = (split (f x) (first_some f ys) bare).0 in
        let same : Some y ≡ None = sym some ∙ ap f (sym is) ∙ first in
        absurd (cc)
    by (x ∷ ys) (suc k) bare below is = by ys k (split (f x) (first_some f ys) bare).1 (omega arith) is

drives_end : (n : List ℕ) (e : Element) (s : List (ℕ × ℤ) × Bool) → drives n e ≡ Some s → is_end n e ≡ true
drives_end n (Resistor name first second ohms) s h = absurd (cc)
drives_end n (Capacitor name plus minus farads) s h = absurd (cc)
drives_end n (Mos name drain gate source bulk part len width) s h = absurd (cc)
drives_end n (Source name plus minus wave) s h = by (bytes_eq n plus) (bytes_eq n minus) h
  where
    by : (b c : Bool) → cond {A = Option (List (ℕ × ℤ) × Bool)} b (Some (wave, false)) (cond c (Some (wave, true)) None) ≡ Some s → (b || (c || false)) ≡ true
    by true c h = refl
    by false true h = refl
    by false false h = absurd (cc)

-- ---- a free node that is at no changed element

was_free : (old new : DeckValue) (n : List ℕ) → is_free new n ≡ true → (AtChange old new n → ⊥) → is_free old n ≡ true
unfolding driver
was_free old new n free off = free_from old n (free_real new n free) ends (none (driver old n) refl)
  where
    ends : list_any (is_end n) old.elements ≡ true
    ends = true_from_ne_false (list_any (is_end n) old.elements) (λ bare.
        let f : Found new.elements (λ e. is_end n e ≡ true) = any_found (is_end n) new.elements (free_ends new n free) in
        off (record { element = f.element; changed = inr (f.inside, λ there. false≢true (sym bare ∙ found_any (is_end n) old.elements f.element there f.has)); end = f.has }))

    none : (o : Option (List (ℕ × ℤ) × Bool)) → driver old n ≡ o → driver old n ≡ None
    none None is = is
    none (Some s) is =
        let f : Found old.elements (λ e. drives n e ≡ Some s) = some_found (drives n) old.elements s is in
        absurd (off (record {
          element = f.element;
          changed = inl (f.inside, λ there. none_found (drives n) new.elements f.element s (free_undriven new n free) there f.has);
          end = drives_end n f.element s f.has;
        }))

-- two voltages that are not unequal
same_voltage : (v w : Fraction) → ((v ≢ w) → ⊥) → v ≡ w
same_voltage v w h = by (same_pair v w) refl
  where
    by : (b : Bool) → same_pair v w ≡ b → v ≡ w
    by true is =
        let parts = and_parts (int_eq v.num w.num) (v.den == w.den) is in
        let num : v.num ≡ w.num = (Decides-int_eq v.num w.num).0 parts.0 in
        let den : v.den ≡ w.den = eqb-true v.den w.den parts.1 in
        λ i. record { num = num i; den = den i }
    by false is = absurd (h (λ same. false≢true (sym is ∙ same_itself v w same)))

-- ---- what edits leave

pub edited_once : (old new : DeckValue) (keeps : List ℕ → Bool) (w : Record) → new.stop ≡ old.stop → KeepsFree old keeps → IsEdited old new w (restarted new keeps w)
edited_once old new keeps w stop kept = record {
  stop = stop;
  starts = λ n free. restarted_first new keeps w n free;
  later = λ n t free. restarted_later new keeps w n t (kept n free);
}

pub edited_again : (old mid new : DeckValue) (keeps : List ℕ → Bool) (w x : Record) → new.stop ≡ mid.stop → IsEdited old mid w x → KeepsFree old keeps → IsEdited old new w (restarted new keeps x)
edited_again old mid new keeps w x stop e kept = record {
  stop = stop ∙ e.stop;
  starts = λ n free. restarted_first new keeps x n free;
  later = λ n t free. restarted_later new keeps x n t (kept n free) ∙ e.later n t free;
}

-- ---- nodes that no edit touched

pub untouched : (old new : DeckValue) (w x : Record) → IsEdited old new w x → IsRunTo old w old.stop → (n : List ℕ) (t : ℕ) → is_free new n ≡ true → (IsTouched old new n → ⊥) → t ≤ new.stop → HasRun new x n t
untouched old new w x e right n zero free far up_to = e.starts n free ∙ sym (start_free new n (free_real new n free) (free_undriven new n free))
untouched old new w x e right n (suc t) free far up_to =
    let before : is_free old n ≡ true = was_free old new n free (λ at. far (inl at)) in
    e.later n t before
    ∙ right n (suc t) before (subst (λ k. suc t ≤ k) e.stop up_to)
    ∙ same_voltage (run old (suc t) n) (run new (suc t) n) (λ other. far (inr (inr (inl (record { tick = suc t; up_to = up_to; other = other })))))

-- so no more lines are stale than the touched nodes have
pub stale_edited : (old new : DeckValue) (w x : Record) (touched : List ℕ → Bool) → IsEdited old new w x → IsRunTo old w old.stop → ((n : List ℕ) → IsTouched old new n → touched n ≡ true)
    → stale new x ≤ sum_by (λ n. cond (touched n) (length (wave new n)) 0) (free_nodes new)
stale_edited old new w x touched e right all =
    stale_touched new x touched (λ n t free out up_to. untouched old new w x e right n t free (λ is. false≢true (sym out ∙ all n is)) up_to)
