-- The element of a name among elements whose names differ: what stands before and behind it, and what an edit leaves of them.
use Rattle.std.proofs.Common.{◌≡◌, ◌∙◌, ℕ, Bool, true, false, not, ◌||◌, cond, List, [], ◌∷◌, ◌++◌, map, filter, Option, Some, None, unwrap_or, refl, sym, ap, subst}
use Rattle.std.specs.List.{list_any}
use Rattle.std.specs.Str.{bytes_eq}
use Rattle.std.proofs.lemmas.Bool.{false≢true}
use Rattle.std.proofs.lemmas.Option.{none-some}
use Rattle.semantics.specs.declared.element.Element.{Element}
use Rattle.semantics.specs.Deck.{DeckValue, name_of}
use Rattle.semantics.specs.Valid.{differ}
use Rattle.deck_cards.specs.Edits.{has_name, named, set_named, without_name}
use Rattle.deck_cards.proofs.Named.{and_both, from_not, same_name}

abbrev pub names : List Element → List (List ℕ)
names es = map name_of es

pub head_alone : (e : Element) (es : List Element) → differ (names (e ∷ es)) ≡ true → list_any (bytes_eq (name_of e)) (names es) ≡ false
head_alone e es apart = from_not _ (and_both (not (list_any (bytes_eq (name_of e)) (names es))) (differ (names es)) apart).0

-- where no element has the name, nothing is set or taken out
pub set_none : (n : List ℕ) (f : Element → Option Element) (es : List Element) → list_any (bytes_eq n) (names es) ≡ false → set_named n f es ≡ es
set_none n f [] off = refl
set_none n f (e ∷ es) off = by (bytes_eq n (name_of e)) off (set_none n f es)
  where
    by : (x : Bool) → (x || list_any (bytes_eq n) (names es)) ≡ false → (list_any (bytes_eq n) (names es) ≡ false → set_named n f es ≡ es)
        → cond x (unwrap_or (f e) e) e ∷ set_named n f es ≡ e ∷ es
    by true bad rest = absurd (false≢true (sym bad))
    by false off' rest = ap (λ r. e ∷ r) (rest off')

pub filter_none : (n : List ℕ) (es : List Element) → list_any (bytes_eq n) (names es) ≡ false → without_name n es ≡ es
filter_none n [] off = refl
filter_none n (e ∷ es) off = by (bytes_eq n (name_of e)) off (filter_none n es)
  where
    by : (x : Bool) → (x || list_any (bytes_eq n) (names es)) ≡ false → (list_any (bytes_eq n) (names es) ≡ false → without_name n es ≡ es)
        → cond (not x) (e ∷ without_name n es) (without_name n es) ≡ e ∷ es
    by true bad rest = absurd (false≢true (sym bad))
    by false off' rest = ap (λ r. e ∷ r) (rest off')

-- the element of the name, and what stands before and behind it
pub record Stands (n : List ℕ) (es : List Element) (x : Element) : Type 0 where
  pub before : List Element
  pub after : List Element
  pub was : es ≡ before ++ (x ∷ after)
  pub set : (f : Element → Option Element) → set_named n f es ≡ before ++ (unwrap_or (f x) x ∷ after)
  pub out : without_name n es ≡ before ++ after

pub found : (n : List ℕ) (es : List Element) (x : Element) → differ (names es) ≡ true → named n es ≡ Some x → Stands n es x
found n [] x apart is = absurd (none-some x is)
found n (e ∷ es) x apart is = by (bytes_eq n (name_of e)) refl is (λ later. found n es x (and_both (not (list_any (bytes_eq (name_of e)) (names es))) (differ (names es)) apart).1 later)
  where
    alone : bytes_eq n (name_of e) ≡ true → list_any (bytes_eq n) (names es) ≡ false
    alone here = ap (λ m. list_any (bytes_eq m) (names es)) (same_name n (name_of e) here) ∙ head_alone e es apart

    by : (b : Bool) → bytes_eq n (name_of e) ≡ b → elim (cond b (Some e) None) [ None ↦ named n es | Some y ↦ Some y ] ≡ Some x → (named n es ≡ Some x → Stands n es x) → Stands n (e ∷ es) x
    by true here at rest =
        let same : e ≡ x = ap (λ o. unwrap_or o e) at in
        subst (λ y. Stands n (e ∷ es) y) same (record {
          before = [];
          after = es;
          was = refl;
          set = λ f. (λ i. cond (here i) (unwrap_or (f e) e) e ∷ set_named n f es) ∙ ap (λ r. unwrap_or (f e) e ∷ r) (set_none n f es (alone here));
          out = (λ i. cond (not (here i)) (e ∷ without_name n es) (without_name n es)) ∙ filter_none n es (alone here);
        })
    by false here at rest =
        let r = rest at in
        record {
          before = e ∷ r.before;
          after = r.after;
          was = ap (λ ys. e ∷ ys) r.was;
          set = λ f. (λ i. cond (here i) (unwrap_or (f e) e) e ∷ set_named n f es) ∙ ap (λ ys. e ∷ ys) (r.set f);
          out = (λ i. cond (not (here i)) (e ∷ without_name n es) (without_name n es)) ∙ ap (λ ys. e ∷ ys) r.out;
        }

abbrev pub elements_to : DeckValue → List Element → DeckValue
elements_to d es = record d { elements = es }

pub some_same : (y z : Element) → Some y ≡ Some z → y ≡ z
some_same y z is = ap (λ o. unwrap_or o y) is
