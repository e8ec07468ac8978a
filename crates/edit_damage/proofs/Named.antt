-- What an accepted edit changes has the name that the edit tells.
use Rattle.std.proofs.Common.{◌≡◌, ◌∙◌, ℕ, zero, suc, Bool, true, false, not, ◌&&◌, ◌||◌, cond, List, [], ◌∷◌, map, slice_get, Option, Some, None, unwrap_or, option_and_then, refl, sym, ap, ◌⊎◌, inl, inr}
use Rattle.std.specs.List.{list_any}
use Rattle.std.specs.Option.{option_map}
use Rattle.std.specs.Str.{bytes_eq}
use Rattle.std.proofs.lemmas.Bool.{false≢true, and_parts, false_from_ne_true}
use Rattle.std.proofs.lemmas.Option.{none-some}
use Rattle.semantics.specs.declared.element.Element.{Element}
use Rattle.semantics.specs.Deck.{DeckValue, name_of}
use Rattle.semantics.specs.Edit.{IsChanged}
use Rattle.semantics.specs.Valid.{differ}
use Rattle.semantics.proofs.Nodes.{bytes_eq-same, same-bytes_eq}
use Rattle.deck_cards.specs.declared.edit.Edit.{Edit}
use Rattle.deck_cards.specs.declared.edit.Edit.TheVariants.{SetR, SetC, SetWave, SetModel, SetIc, Add, Remove}
use Rattle.deck_cards.specs.Edits.{edited, has_name, named, with_ohms, with_farads, with_wave, with_part}
use Rattle.deck_cards.proofs.Named.{from_not, not_at}
use Rattle.deck_cards.proofs.Once.{any_map}
use Rattle.edit_laws.specs.Accepted.{IsAccepted}
use Rattle.edit_laws.specs.Changed.{Comes, Goes, element_after, element_before}
use Rattle.edit_laws.proofs.Edited.{changes}
use Rattle.edit_laws.proofs.Kept.{keeps_ends}
use Rattle.edit_damage.specs.ByEdit.{is_edited}

-- ---- the name of what is changed

-- what is found by a name has it
named_has : (n : List ℕ) (es : List Element) (x : Element) → named n es ≡ Some x → has_name n x ≡ true
named_has n [] x is = absurd (none-some x is)
named_has n (y ∷ ys) x is = by (has_name n y) refl (λ later. named_has n ys x later) is
  where
    by : (b : Bool) → has_name n y ≡ b → (named n ys ≡ Some x → has_name n x ≡ true) → elim (cond b (Some y) None) [ None ↦ named n ys | Some z ↦ Some z ] ≡ Some x → has_name n x ≡ true
    by true here rest at = ap (λ o. has_name n (unwrap_or o y)) (sym at) ∙ here
    by false here rest at = rest at

-- an element that is set keeps its name
set_has : (d : DeckValue) (e : Edit) (n : List ℕ) (f : Element → Option Element) (x : Element) → element_before d e ≡ named n d.elements → element_after d e ≡ option_and_then f (named n d.elements)
    → element_after d e ≡ Some x → has_name n x ≡ true
set_has d e n f x before after is = by (named n d.elements) refl
  where
    by : (o : Option Element) → named n d.elements ≡ o → has_name n x ≡ true
    by None none = let made : None ≡ Some x = sym (ap (option_and_then f) none) ∙ (sym after ∙ is) in absurd (none-some x made)
    by (Some z) some = ap (bytes_eq n) (keeps_ends d e z x (before ∙ some) is).name ∙ named_has n d.elements z some

goes_named : (d : DeckValue) (e : Edit) (x : Element) → element_before d e ≡ Some x → is_edited e x ≡ true
unfolding element_before
goes_named d (SetR name ohms) x is = named_has name d.elements x is
goes_named d (SetC name farads) x is = named_has name d.elements x is
goes_named d (SetWave name wave) x is = named_has name d.elements x is
goes_named d (SetModel name part) x is = named_has name d.elements x is
goes_named d (SetIc node volts) x is = absurd (none-some x is)
goes_named d (Add element) x is = absurd (none-some x is)
goes_named d (Remove name) x is = named_has name d.elements x is

comes_named : (d : DeckValue) (e : Edit) (x : Element) → element_after d e ≡ Some x → is_edited e x ≡ true
unfolding element_before element_after
comes_named d (SetR name ohms) x is = set_has d (SetR name ohms) name (with_ohms ohms) x refl refl is
comes_named d (SetC name farads) x is = set_has d (SetC name farads) name (with_farads farads) x refl refl is
comes_named d (SetWave name wave) x is = set_has d (SetWave name wave) name (with_wave wave) x refl refl is
comes_named d (SetModel name part) x is = set_has d (SetModel name part) name (with_part part) x refl refl is
comes_named d (SetIc node volts) x is = absurd (none-some x is)
comes_named d (Add element) x is = bytes_eq-same (name_of element) (name_of x) (ap (λ o. name_of (unwrap_or o element)) is)
comes_named d (Remove name) x is = absurd (none-some x is)

pub changed_named : (d : DeckValue) (e : Edit) (x : Element) → IsAccepted d e → IsChanged d (edited d e) x → is_edited e x ≡ true
changed_named d e x accepted changed = by ((changes d e x accepted).0 changed)
  where
    by : Goes d e x ⊎ Comes d e x → is_edited e x ≡ true
    by (inl goes) = goes_named d e x goes.0
    by (inr comes) = comes_named d e x comes.0

-- ---- the element of a name

or_false : (b : Bool) → (b || false) ≡ b
or_false true = refl
or_false false = refl

-- where no element has the name, none of that name passes
pub none_of_name : (n : List ℕ) (q : Element → Bool) (es : List Element) → list_any (has_name n) es ≡ false → list_any (λ e. has_name n e && q e) es ≡ false
none_of_name n q [] none = refl
none_of_name n q (y ∷ ys) none = by (has_name n y) none (none_of_name n q ys)
  where
    by : (b : Bool) → (b || list_any (has_name n) ys) ≡ false → (list_any (has_name n) ys ≡ false → list_any (λ e. has_name n e && q e) ys ≡ false) → ((b && q y) || list_any (λ e. has_name n e && q e) ys) ≡ false
    by true bad rest = absurd (false≢true (sym bad))
    by false off rest = rest off

-- where names differ, what is said of the element of a name is said of the one at its place
pub one_of_name : (n : List ℕ) (q : Element → Bool) (es : List Element) (i : ℕ) (x : Element) → differ (map name_of es) ≡ true → slice_get es i ≡ Some x → name_of x ≡ n
    → list_any (λ e. has_name n e && q e) es ≡ q x
one_of_name n q [] i x apart at is = absurd (none-some x at)
one_of_name n q (y ∷ ys) zero x apart at is =
    let same : y ≡ x = ap (λ o. unwrap_or o y) at in
    let name : name_of y ≡ n = ap name_of same ∙ is in
    let others : list_any (bytes_eq (name_of y)) (map name_of ys) ≡ false = from_not _ (and_parts _ (differ (map name_of ys)) apart).0 in
    let off : list_any (has_name n) ys ≡ false = sym (any_map (bytes_eq n) name_of ys) ∙ ap (λ m. list_any (bytes_eq m) (map name_of ys)) (sym name) ∙ others in
    ap (λ b. (has_name n y && q y) || b) (none_of_name n q ys off) ∙ or_false (has_name n y && q y) ∙ ap (λ b. b && q y) (bytes_eq-same n (name_of y) (sym name)) ∙ ap q same
one_of_name n q (y ∷ ys) (suc i) x apart at is =
    let parts = and_parts (not (list_any (bytes_eq (name_of y)) (map name_of ys))) (differ (map name_of ys)) apart in
    let others : list_any (has_name (name_of y)) ys ≡ false = sym (any_map (bytes_eq (name_of y)) name_of ys) ∙ from_not _ parts.0 in
    let other : has_name (name_of y) x ≡ false = not_at (has_name (name_of y)) ys i x others at in
    let here : has_name n y ≡ false = false_from_ne_true (has_name n y) (λ h. false≢true (sym other ∙ bytes_eq-same (name_of y) (name_of x) (sym (same-bytes_eq n (name_of y) h) ∙ sym is))) in
    ap (λ b. (b && q y) || list_any (λ e. has_name n e && q e) ys) here ∙ one_of_name n q ys i x parts.1 at is

-- an edit of no element
pub none_edited : (p q : Element → Bool) (es : List Element) → ((e : Element) → p e ≡ false) → list_any (λ e. p e && q e) es ≡ false
none_edited p q [] none = refl
none_edited p q (y ∷ ys) none = ap (λ b. (b && q y) || list_any (λ e. p e && q e) ys) (none y) ∙ none_edited p q ys none

-- the name at a place is that of the element there
pub name_there : (es : List Element) (i : ℕ) (x : Element) (n : List ℕ) → slice_get es i ≡ Some x → option_map name_of (slice_get es i) ≡ Some n → name_of x ≡ n
name_there es i x n at found = ap (λ o. unwrap_or o (name_of x)) (sym (ap (option_map name_of) at) ∙ found)
