-- Marks one after another.
use Rattle.std.proofs.Common.{◌≡◌, ◌∙◌, ℕ, ◌<◌, Bool, true, false, ◌||◌, List, length, get_or, take, slice_get, Some, ◌+◌, refl, sym, ap, arith}
use Rattle.std.specs.List.{list_any}
use Rattle.std.proofs.lemmas.List.Folds.{list_any_more}
use Rattle.std.proofs.lemmas.Option.{get_or_from_slice_get}
use Rattle.edit_damage.specs.Marks.{AreMarked}

pub or_false : (b : Bool) → b ≡ (b || false)
or_false true = refl
or_false false = refl

or_or : (a b c : Bool) → ((a || b) || c) ≡ (a || (b || c))
or_or true b c = refl
or_or false b c = refl

-- where nothing passes, nothing changes
pub marked_none : (p : ℕ → Bool) (ms : List Bool) → ((i : ℕ) → i < length ms → p i ≡ false) → AreMarked p ms ms
marked_none p ms none = record {
  count = refl;
  each = λ i below. or_false (get_or ms i false) ∙ ap (λ b. get_or ms i false || b) (sym (none i below));
}

pub marked_as : (p q : ℕ → Bool) (a b : List Bool) → AreMarked p a b → ((i : ℕ) → i < length a → p i ≡ q i) → AreMarked q a b
marked_as p q a b marked same = record {
  count = marked.count;
  each = λ i below. marked.each i below ∙ ap (λ x. get_or a i false || x) (same i below);
}

pub marked_both : (p q r : ℕ → Bool) (a b c : List Bool) → AreMarked p a b → AreMarked q b c → ((i : ℕ) → i < length a → (p i || q i) ≡ r i) → AreMarked r a c
marked_both p q r a b c first second same = record {
  count = second.count ∙ first.count;
  each = λ i below.
      let inside : i < length b = omega (arith, first.count) in
      second.each i inside ∙ ap (λ x. x || q i) (first.each i below) ∙ or_or (get_or a i false) (p i) (q i) ∙ ap (λ x. get_or a i false || x) (same i below);
}

pub marked_three : (p q s r : ℕ → Bool) (a b c e : List Bool) → AreMarked p a b → AreMarked q b c → AreMarked s c e → ((i : ℕ) → i < length a → (p i || (q i || s i)) ≡ r i) → AreMarked r a e
marked_three p q s r a b c e one two three same =
    marked_both (λ i. p i || q i) s r a c e (marked_both p q (λ i. p i || q i) a b c one two (λ i below. refl)) three
    (λ i below. or_or (p i) (q i) (s i) ∙ same i below)

-- one element more
pub one_more : {X : Type 0} (p : X → Bool) (xs : List X) (place : ℕ) (x : X) → place < length xs → slice_get xs place ≡ Some x → (list_any p (take place xs) || p x) ≡ list_any p (take (place + 1) xs)
one_more p xs place x below at = ap (λ y. list_any p (take place xs) || p y) (sym (get_or_from_slice_get xs place x x at)) ∙ sym (list_any_more p xs place x below)
