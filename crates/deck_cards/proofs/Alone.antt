-- An edit of a resistance, of a source's voltage or of a device's part has nothing against it but the element and the value, and leaves what is kept of names and nodes.
use Rattle.std.proofs.Common.{◌≡◌, ◌∙◌, ℕ, ◌+◌, ℤ, pos, ◌+ℤ◌, Bool, true, false, not, cond, List, [], ◌∷◌, ◌++◌, map, fold, Option, Some, None, is_none, is_some, refl, sym, ap, subst}
use Rattle.std.specs.Option.{option_map, option_or}
use Rattle.std.proofs.lemmas.Option.{none-some}
use Rattle.semantics.specs.declared.element.Element.{Element}
use Rattle.semantics.specs.declared.element.Element.TheVariants.{Resistor, Capacitor, Source, Mos}
use Rattle.semantics.specs.Deck.{DeckValue, name_of, nodes, drives, farads_at}
use Rattle.semantics.specs.Valid.{is_valid}
use Rattle.deck_cards.specs.declared.facts.NodeFacts.{NodeFacts}
use Rattle.deck_cards.specs.declared.edit.Edit.{Edit}
use Rattle.deck_cards.specs.declared.edit.Edit.TheVariants.{SetR, SetWave, SetModel}
use Rattle.deck_cards.specs.Alone.{IsAlone}
use Rattle.deck_cards.specs.Edits.{changed, edit_cause, edit_limit, edit_rises, edited, place_cause, set_cause, set_named, with_ohms, with_wave, with_part}
use Rattle.deck_cards.specs.Causes.{whole_with}
use Rattle.deck_cards.specs.Facts.{IsIndex, IsTable, known, place_of, source_of, farads_of}
use Rattle.deck_cards.proofs.Accepted.{placed, stays_valid}
use Rattle.deck_cards.proofs.Standing.{elements_to, some_same}
use Rattle.deck_cards.proofs.Swapped.{map_swap, fold_swap}
use Rattle.deck_cards.proofs.Touched.{Alike, SameAtNodes, Sets, sets, swapped, set_alone, same_ohms, same_wave, same_part}

pub place_swap : (p : Element → Bool) (x y : Element) (before after : List Element) → p x ≡ p y → place_of p (before ++ (x ∷ after)) ≡ place_of p (before ++ (y ∷ after))
place_swap p x y [] after same = λ i. cond (same i) (Some 0) (option_map (λ k. k + 1) (place_of p after))
place_swap p x y (b ∷ bs) after same = λ i. cond (p b) (Some 0) (option_map (λ k. k + 1) (place_swap p x y bs after same i))

some_by : {A B : Type 0} (a : Option A) (b : Option B) → is_none a ≡ is_none b → is_some a ≡ is_some b
some_by None None h = refl
some_by None (Some y) h = absurd (cc)
some_by (Some x) None h = absurd (cc)
some_by (Some x) (Some y) h = refl

known_same : (x y : Element) (before after : List Element) → SameAtNodes x y → (n : List ℕ) → known (before ++ (x ∷ after)) n ≡ known (before ++ (y ∷ after)) n
unfolding source_of farads_of
known_same x y before after same n = λ i. record {
  source = place_swap (λ e. is_some (drives n e)) x y before after (some_by (drives n x) (drives n y) (same.0.drives n)) i;
  farads = fold_swap (λ total e. total +ℤ farads_at n e) x y before after (λ t. ap (λ z. t +ℤ z) (same.1 n)) (pos 0) i;
}

alone : (d : DeckValue) (n : List ℕ) (e : Edit) → is_valid d ≡ true → edit_rises e ≡ true → place_cause d e ≡ set_cause d n (changed e)
    → edited d e ≡ elements_to d (set_named n (changed e) d.elements)
    → ((x y : Element) → changed e x ≡ Some y → SameAtNodes x y) → ((x y : Element) → changed e x ≡ Some y → name_of x ≡ name_of y) → IsAlone d n e
unfolding edit_cause
alone d n e valid rises place made same named = record {
  cause = (λ i. option_or (place i) (whole_with (edit_limit e) (made i))) ∙ set_alone d n (changed e) (edit_limit e) valid same;
  sets = made;
  index = λ none.
      let s = sets d n (changed e) valid (sym place ∙ placed d e none) in
      let a = same s.old s.new s.set in
      let now = elements_to d (s.before ++ (s.new ∷ s.after)) in
      let nodes_same = sym (swapped d s.before s.after s.old s.new s.was a.0).names in
      let is = made ∙ ap (elements_to d) s.made in
      subst (λ x. IsIndex x (map name_of d.elements) (nodes d) (map (known d.elements) (nodes d))) (sym is) record {
        valid = subst (λ x. is_valid x ≡ true) is (stays_valid d e valid rises none);
        names = ap (map name_of) s.was ∙ map_swap name_of s.old s.new s.before s.after (named s.old s.new s.set);
        table = record {
          names = nodes_same;
          facts = λ i. map (λ m. (ap (λ es. known es m) s.was ∙ known_same s.old s.new s.before s.after a m) i) (nodes_same i);
        };
      };
}

name_ohms : (ohms : ℤ) (x y : Element) → with_ohms ohms x ≡ Some y → name_of x ≡ name_of y
name_ohms ohms (Resistor name first second old) y is = ap name_of (some_same _ y is)
name_ohms ohms (Capacitor name plus minus farads) y is = absurd (none-some y is)
name_ohms ohms (Source name plus minus wave) y is = absurd (none-some y is)
name_ohms ohms (Mos name drain gate source bulk part len width) y is = absurd (none-some y is)

name_wave : (wave : List (ℕ × ℤ)) (x y : Element) → with_wave wave x ≡ Some y → name_of x ≡ name_of y
name_wave wave (Source name plus minus old) y is = ap name_of (some_same _ y is)
name_wave wave (Resistor name first second ohms) y is = absurd (none-some y is)
name_wave wave (Capacitor name plus minus farads) y is = absurd (none-some y is)
name_wave wave (Mos name drain gate source bulk part len width) y is = absurd (none-some y is)

name_part : (part : List ℕ) (x y : Element) → with_part part x ≡ Some y → name_of x ≡ name_of y
name_part part (Mos name drain gate source bulk old len width) y is = ap name_of (some_same _ y is)
name_part part (Resistor name first second ohms) y is = absurd (none-some y is)
name_part part (Capacitor name plus minus farads) y is = absurd (none-some y is)
name_part part (Source name plus minus wave) y is = absurd (none-some y is)

pub ohms_alone : (d : DeckValue) (n : List ℕ) (ohms : ℤ) → is_valid d ≡ true → IsAlone d n (SetR n ohms)
unfolding place_cause edited
ohms_alone d n ohms valid = alone d n (SetR n ohms) valid refl refl refl (same_ohms ohms) (name_ohms ohms)

pub wave_alone : (d : DeckValue) (n : List ℕ) (wave : List (ℕ × ℤ)) → is_valid d ≡ true → edit_rises (SetWave n wave) ≡ true → IsAlone d n (SetWave n wave)
unfolding place_cause edited
wave_alone d n wave valid rises = alone d n (SetWave n wave) valid rises refl refl (same_wave wave) (name_wave wave)

pub part_alone : (d : DeckValue) (n part : List ℕ) → is_valid d ≡ true → IsAlone d n (SetModel n part)
unfolding place_cause edited
part_alone d n part valid = alone d n (SetModel n part) valid refl refl refl (same_part part) (name_part part)
