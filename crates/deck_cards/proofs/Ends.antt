-- How many ends that carry current stand at a node by the elements so far, and by one more.
use Rattle.std.proofs.Common.{◌≡◌, ℕ, ◌+◌, ◌*◌, ◌^◌, ◌<◌, ◌≤◌, Bool, true, false, if◌then◌else◌, List, [], ◌∷◌, ◌++◌, length, map, take, fold, get_or, refl, sym, ◌∙◌, ap, arith}
use Rattle.std.specs.Str.{bytes_eq}
use Rattle.std.proofs.lemmas.List.{take_more, length-take}
use Rattle.std.proofs.lemmas.List.Sums.{fold-append}
use Rattle.semantics.specs.declared.element.Element.{Element}
use Rattle.semantics.specs.declared.element.Element.TheVariants.{Resistor, Capacitor, Source, Mos}
use Rattle.semantics.specs.Deck.{terminals_at}
use Rattle.deck_cards.specs.Facts.{terminals_of}

pub terminals-none : (n : List ℕ) → terminals_of n [] ≡ 0
unfolding terminals_of
terminals-none n = refl

-- the step of a loop over the elements
pub terminals-more : (es : List Element) (place : ℕ) (e d : Element) (names : List (List ℕ)) (counts : List ℕ) → place < length es → e ≡ get_or es place d
    → counts ≡ map (λ n. terminals_of n (take place es) + terminals_at n e) names → counts ≡ map (λ n. terminals_of n (take (place + 1) es)) names
unfolding terminals_of
terminals-more es place e d names counts within at same =
    let front : take (place + 1) es ≡ take place es ++ e ∷ [] = take_more es place d within ∙ ap (λ x. take place es ++ x ∷ []) (sym at) in
    same ∙ (λ i. map (λ n. (sym (fold-append (λ total x. total + terminals_at n x) 0 (take place es) (e ∷ [])) ∙ ap (terminals_of n) (sym front)) i) names)

-- an element without such ends
pub none_more : (k : ℕ) → k ≡ k + 0
none_more k = omega arith

-- two ends, one after another
pub two_more : (a b : Bool) (k : ℕ) → (if b then (if a then k + 1 else k) + 1 else (if a then k + 1 else k)) ≡ k + ((if a then 1 else 0) + (if b then 1 else 0))
two_more true true k = omega arith
two_more true false k = omega arith
two_more false true k = omega arith
two_more false false k = omega arith

-- ---- bounds

two_at_most : (a b : Bool) → (if a then 1 else 0) + (if b then 1 else 0) ≤ 2
two_at_most true true = omega arith
two_at_most true false = omega arith
two_at_most false true = omega arith
two_at_most false false = omega arith

at_small : (n : List ℕ) (e : Element) → terminals_at n e ≤ 2
at_small n (Resistor name first second ohms) = two_at_most (bytes_eq n first) (bytes_eq n second)
at_small n (Capacitor name plus minus farads) = omega arith
at_small n (Source name plus minus wave) = omega arith
at_small n (Mos name drain gate source bulk part len width) = two_at_most (bytes_eq n drain) (bytes_eq n source)

sum_small : {A : Type 0} (g : A → ℕ) → ((x : A) → g x ≤ 2) → (xs : List A) (a : ℕ) → fold (λ t x. t + g x) a xs ≤ a + 2 * length xs
sum_small g each [] a = omega arith
sum_small g each (x ∷ xs) a = omega (arith, sum_small g each xs (a + g x), each x)

-- as many elements as a deck may have bring fewer ends than a count can hold
pub terminals_small : (n : List ℕ) (es : List Element) (place : ℕ) → place < length es → length es ≤ 100000 → terminals_of n (take place es) + 2 < 2 ^ 32
unfolding terminals_of
terminals_small n es place within few =
    let long : length (take place es) ≡ place = omega (arith, length-take place es) in
    omega (arith, sum_small (terminals_at n) (at_small n) (take place es) 0, long)
