-- An element that is set keeps its name and its ends.
use Rattle.std.proofs.Common.{◌≡◌, ℕ, ℤ, List, Option, Some, option_and_then, refl, sym, ap, ◌∙◌, subst}
use Rattle.std.proofs.lemmas.Option.{none-some}
use Rattle.semantics.specs.declared.element.Element.{Element}
use Rattle.semantics.specs.declared.element.Element.TheVariants.{Resistor, Capacitor, Source, Mos}
use Rattle.semantics.specs.Deck.{DeckValue}
use Rattle.deck_cards.specs.declared.edit.Edit.{Edit}
use Rattle.deck_cards.specs.declared.edit.Edit.TheVariants.{SetR, SetC, SetWave, SetModel, SetIc, Add, Remove}
use Rattle.deck_cards.specs.Edits.{with_ohms, with_farads, with_wave, with_part}
use Rattle.deck_cards.proofs.Standing.{some_same}
use Rattle.edit_laws.specs.Changed.{KeepsEnds, element_after, element_before}

kept : (x z y : Element) → Some z ≡ Some y → KeepsEnds x z → KeepsEnds x y
kept x z y is k = subst (KeepsEnds x) (some_same z y is) k

kept_ohms : (ohms : ℤ) (x y : Element) → with_ohms ohms x ≡ Some y → KeepsEnds x y
kept_ohms ohms (Resistor name first second old) y is = kept _ _ y is (record { name = refl; ends = refl; source = refl })
kept_ohms ohms (Capacitor name plus minus farads) y is = absurd (none-some y is)
kept_ohms ohms (Source name plus minus wave) y is = absurd (none-some y is)
kept_ohms ohms (Mos name drain gate source bulk part len width) y is = absurd (none-some y is)

kept_farads : (farads : ℤ) (x y : Element) → with_farads farads x ≡ Some y → KeepsEnds x y
kept_farads farads (Capacitor name plus minus old) y is = kept _ _ y is (record { name = refl; ends = refl; source = refl })
kept_farads farads (Resistor name first second ohms) y is = absurd (none-some y is)
kept_farads farads (Source name plus minus wave) y is = absurd (none-some y is)
kept_farads farads (Mos name drain gate source bulk part len width) y is = absurd (none-some y is)

kept_wave : (wave : List (ℕ × ℤ)) (x y : Element) → with_wave wave x ≡ Some y → KeepsEnds x y
kept_wave wave (Source name plus minus old) y is = kept _ _ y is (record { name = refl; ends = refl; source = refl })
kept_wave wave (Resistor name first second ohms) y is = absurd (none-some y is)
kept_wave wave (Capacitor name plus minus farads) y is = absurd (none-some y is)
kept_wave wave (Mos name drain gate source bulk part len width) y is = absurd (none-some y is)

kept_part : (part : List ℕ) (x y : Element) → with_part part x ≡ Some y → KeepsEnds x y
kept_part part (Mos name drain gate source bulk old len width) y is = kept _ _ y is (record { name = refl; ends = refl; source = refl })
kept_part part (Resistor name first second ohms) y is = absurd (none-some y is)
kept_part part (Capacitor name plus minus farads) y is = absurd (none-some y is)
kept_part part (Source name plus minus wave) y is = absurd (none-some y is)

-- what is made of an element is made of the one that is found
of_found : (f : Element → Option Element) (o : Option Element) (x y : Element) → o ≡ Some x → option_and_then f o ≡ Some y → f x ≡ Some y
of_found f o x y is made = ap (option_and_then f) (sym is) ∙ made

pub keeps_ends : (d : DeckValue) (e : Edit) (x y : Element) → element_before d e ≡ Some x → element_after d e ≡ Some y → KeepsEnds x y
unfolding element_before element_after
keeps_ends d (SetR name ohms) x y is made = kept_ohms ohms x y (of_found (with_ohms ohms) _ x y is made)
keeps_ends d (SetC name farads) x y is made = kept_farads farads x y (of_found (with_farads farads) _ x y is made)
keeps_ends d (SetWave name wave) x y is made = kept_wave wave x y (of_found (with_wave wave) _ x y is made)
keeps_ends d (SetModel name part) x y is made = kept_part part x y (of_found (with_part part) _ x y is made)
keeps_ends d (SetIc node volts) x y is made = absurd (none-some x is)
keeps_ends d (Add e) x y is made = absurd (none-some x is)
keeps_ends d (Remove name) x y is made = absurd (none-some y made)
