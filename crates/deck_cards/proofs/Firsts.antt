-- The first of some causes: in a list of them, and over the items of a list one after another.
use Rattle.std.proofs.Common.{◌≡◌, ℕ, ◌+◌, ◌<◌, ◌≤◌, zero, suc, Bool, true, false, not, ◌&&◌, if◌then◌else◌, List, [], ◌∷◌, ◌++◌, length, drop, get_or, Option, Some, None, is_none, Result, Ok, Err, refl, sym, ◌∙◌, ap, subst, arith}
use Rattle.std.specs.Option.{option_or, option_map}
use Rattle.std.specs.List.{list_all}
use Rattle.std.specs.Result.{IsErrAnd}
use Rattle.semantics.specs.Deck.{first_some}
use Rattle.deck_cards.specs.declared.edit_refusal.EditRefusal.{EditRefusal}
use Rattle.deck_cards.specs.declared.edit_refusal.EditRefusal.TheVariants.{Memory}
use Rattle.deck_cards.specs.Answers.{Refuses, Answers}
use Rattle.deck_cards.specs.Causes.{when, first_that}

-- what is refused for the first of two causes is refused for both
pub refuses_first : (e : EditRefusal) (a b : Option EditRefusal) → Refuses e a → Refuses e (option_or a b)
refuses_first Memory a b h = tt
refuses_first e a b h = ap (λ o. option_or o b) h

-- and for the second, where the first is none
pub refuses_next : (e : EditRefusal) (a b : Option EditRefusal) → a ≡ None → Refuses e b → Refuses e (option_or a b)
refuses_next e a b none h = subst (λ o. Refuses e (option_or o b)) (sym none) h

pub answers_next : {A : Type 0} (r : Result A EditRefusal) (a b : Option EditRefusal) → a ≡ None → Answers r b → Answers r (option_or a b)
answers_next r a b none h = subst (λ o. Answers r (option_or o b)) (sym none) h

pub or_none : {A : Type 0} (o : Option A) → option_or o None ≡ o
or_none None = refl
or_none (Some x) = refl

-- ---- over the items of a list

pub first_some-cons : {A B : Type 0} (f : A → Option B) (x : A) (xs : List A) → first_some f (x ∷ xs) ≡ option_or (f x) (first_some f xs)
first_some-cons {B = B} f x xs = by (f x)
  where
    by : (o : Option B) → elim o [ None ↦ first_some f xs | Some y ↦ Some y ] ≡ option_or o (first_some f xs)
    by None = refl
    by (Some y) = refl

pub or_in : {A : Type 0} (a b c : Option A) → option_or a (option_or b c) ≡ option_or (option_or a b) c
or_in None b c = refl
or_in (Some x) b c = refl

-- what is found behind a list with one thing more
pub first_some-push : {A B : Type 0} (f : A → Option B) (xs : List A) (x : A) → first_some f (xs ++ x ∷ []) ≡ option_or (first_some f xs) (f x)
first_some-push f [] x = first_some-cons f x [] ∙ or_none (f x)
first_some-push f (y ∷ ys) x =
    first_some-cons f y (ys ++ x ∷ [])
    ∙ ap (option_or (f y)) (first_some-push f ys x)
    ∙ or_in (f y) (first_some f ys) (f x)
    ∙ ap (λ o. option_or o (f x)) (sym (first_some-cons f y ys))

drop_at : {A : Type 0} (xs : List A) (i : ℕ) (d : A) → i < length xs → drop i xs ≡ get_or xs i d ∷ drop (suc i) xs
drop_at [] i d within = absurd (omega arith)
drop_at (x ∷ xs) zero d within = refl
drop_at (x ∷ xs) (suc i) d within = drop_at xs i d (omega arith)

-- the item at a place, and those behind it
pub dropped : {A : Type 0} (xs : List A) (i : ℕ) (x d : A) → i < length xs → x ≡ get_or xs i d → drop i xs ≡ x ∷ drop (i + 1) xs
dropped xs i x d within at = drop_at xs i d within ∙ (λ k. sym at k ∷ drop (plus_one i k) xs)
  where
    plus_one : (i : ℕ) → suc i ≡ i + 1
    plus_one i = omega arith

pub none_left : {A : Type 0} (xs : List A) (i : ℕ) → length xs ≤ i → drop i xs ≡ []
none_left [] zero h = refl
none_left [] (suc i) h = refl
none_left (x ∷ xs) zero h = absurd (omega arith)
none_left (x ∷ xs) (suc i) h = none_left xs i (omega arith)

pub first_at : {A B : Type 0} (f : A → Option B) (xs : List A) (i : ℕ) (x d : A) → i < length xs → x ≡ get_or xs i d → first_some f (drop i xs) ≡ option_or (f x) (first_some f (drop (i + 1) xs))
first_at f xs i x d within at = ap (first_some f) (dropped xs i x d within at) ∙ first_some-cons f x (drop (i + 1) xs)

-- ---- exactly where there is none

pub is_none-or : {A : Type 0} (a b : Option A) → is_none (option_or a b) ≡ (is_none a && is_none b)
is_none-or None b = refl
is_none-or (Some x) b = refl

pub none-or : {A : Type 0} (a b : Option A) → option_or a b ≡ None → (a ≡ None) × (b ≡ None)
none-or None b h = (refl, h)
none-or (Some x) b h = absurd (cc)

-- no item passes
pub none_that : {A : Type 0} (p : A → Bool) (xs : List A) → first_that p xs ≡ None → list_all (λ x. not (p x)) xs ≡ true
none_that p [] h = refl
none_that {A = A} p (x ∷ xs) h = by (p x) h (none_that p xs)
  where
    by : (b : Bool) → ◌≡◌ {A = Option A} (elim (if b then Some x else None) [ None ↦ first_that p xs | Some y ↦ Some y ]) None → (first_that p xs ≡ None → list_all (λ x. not (p x)) xs ≡ true)
        → (not b && list_all (λ x. not (p x)) xs) ≡ true
    by true h ih = absurd (cc)
    by false h ih = ih h

pub that_none : {A : Type 0} (p : A → Bool) (xs : List A) → list_all (λ x. not (p x)) xs ≡ true → first_that p xs ≡ None
that_none p [] h = refl
that_none {A = A} p (x ∷ xs) h = by (p x) h (that_none p xs)
  where
    by : (b : Bool) → (not b && list_all (λ x. not (p x)) xs) ≡ true → (list_all (λ x. not (p x)) xs ≡ true → first_that p xs ≡ None)
        → ◌≡◌ {A = Option A} (elim (if b then Some x else None) [ None ↦ first_that p xs | Some y ↦ Some y ]) None
    by true h ih = absurd (cc)
    by false h ih = ih h

pub none_when : {A : Type 0} (b : Bool) (x : A) → when b x ≡ None → b ≡ false
none_when true x h = absurd (cc)
none_when false x h = refl

pub when_none : {A : Type 0} (b : Bool) (x : A) → b ≡ false → when b x ≡ None
when_none b x h = ap (λ c. when c x) h

pub none_map : {A B : Type 0} (f : A → B) (o : Option A) → option_map f o ≡ None → o ≡ None
none_map f None h = refl
none_map f (Some x) h = absurd (cc)

-- what a `?` hands on
pub handed_on : {A : Type 0} (r : Result A EditRefusal) (e : EditRefusal) (cause : Option EditRefusal) → IsErrAnd r (λ x. x ≡ e) → Refuses e cause → Answers r cause
handed_on (Ok x) e cause h g = absurd h
handed_on (Err x) e cause h g = subst (λ y. Refuses y cause) (sym h) g
