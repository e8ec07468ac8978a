-- The words of a card from a place on, up to another.
use Rattle.std.proofs.Common.{◌≡◌, ℕ, suc, ◌+◌, ◌-◌, ◌<◌, ◌≤◌, List, ◌∷◌, length, drop, take, Some, ap, sym, ◌∙◌, add-one, arith}
use Rattle.std.specs.List.{slice_get}
use Rattle.std.proofs.Math.Seq.{drop-cons}
use Rattle.std.proofs.lemmas.Option.{get_or_from_slice_get}
use Rattle.std.proofs.lemmas.List.{length-take-le, get_or-take, drop-take, take-take}

-- what is left of a run begins with what stands at its place
pub drop-at : {X : Type 0} (xs : List X) (i end : ℕ) (x : X) → slice_get xs i ≡ Some x → i < end → end ≤ length xs
    → drop i (take end xs) ≡ x ∷ drop (i + 1) (take end xs)
drop-at xs i end x at before within =
    let all : length (take end xs) ≡ end = length-take-le end xs within in
    let inside : i < length (take end xs) = omega (arith, all) in
    rw (add-one, drop-cons (take end xs) i x inside)
    (ap (λ y. y ∷ drop (suc i) (take end xs)) (get_or-take end xs i x before ∙ get_or_from_slice_get xs i x x at))

-- the front of what is left of a run
pub take-drop-take : {X : Type 0} (xs : List X) (i n end : ℕ) → i + n ≤ end → drop i (take (i + n) xs) ≡ take n (drop i (take end xs))
take-drop-take xs i n end within =
    let few : n ≤ end - i = omega arith in
    let rest : i + (end - i) ≡ end = omega arith in
    drop-take i n xs
    ∙ sym (take-take n (end - i) (drop i xs) few)
    ∙ ap (take n) (sym (drop-take i (end - i) xs) ∙ ap (λ e. drop i (take e xs)) rest)
