-- What is known of a node by the elements so far, and by one more; and that it is what the definitions say.
use Rattle.std.proofs.Common.{◌≡◌, ℕ, suc, zero, ◌+◌, ◌*◌, ◌^◌, ◌<◌, ◌≤◌, Bool, true, false, not, ◌||◌, if◌then◌else◌, List, [], ◌∷◌, ◌++◌, length, map, take, get_or, Option, Some, None, is_some, ℤ, pos, ◌+ℤ◌, unsigned_abs, SFits, w64, refl, sym, ◌∙◌, ap, subst, arith, add-one}
use Rattle.std.specs.Option.{option_map, option_or}
use Rattle.std.specs.List.{list_all}
use Rattle.std.specs.Str.{bytes_eq}
use Rattle.std.proofs.lemmas.Bool.{false≢true}
use Rattle.std.proofs.lemmas.Int.{ints}
use Rattle.std.proofs.lemmas.List.{take_more, length-take}
use Rattle.std.proofs.lemmas.List.Sums.{fold-append}
use Rattle.semantics.specs.Ground.{is_ground}
use Rattle.semantics.specs.declared.element.Element.{Element}
use Rattle.semantics.specs.declared.element.Element.TheVariants.{Resistor, Capacitor, Source, Mos}
use Rattle.semantics.specs.Deck.{drives, farads_at}
use Rattle.semantics.specs.Valid.{one_ground}
use Rattle.deck_cards.specs.declared.facts.NodeFacts.{NodeFacts}
use Rattle.deck_cards.specs.Facts.{place_of, source_of, farads_of, known}
use Rattle.deck_cards.proofs.Named.{same_name, and_both}

-- what is known of a node that no element names
abbrev pub nothing : NodeFacts
nothing = record { source = None; farads = pos 0 }

-- ---- one more element

place_of-push : {A : Type 0} (p : A → Bool) (xs : List A) (y : A) → place_of p (xs ++ y ∷ []) ≡ option_or (place_of p xs) (if p y then Some (length xs) else None)
place_of-push p [] y = by (p y)
  where
    by : (b : Bool) → (if b then Some 0 else option_map (λ i. i + 1) None) ≡ option_or None (if b then Some 0 else None)
    by true = refl
    by false = refl
place_of-push p (x ∷ xs) y = by (p x) (place_of p xs) (p y) (place_of-push p xs y)
  where
    by : (b : Bool) (o : Option ℕ) (q : Bool) → place_of p (xs ++ y ∷ []) ≡ option_or o (if q then Some (length xs) else None)
        → (if b then Some 0 else option_map (λ i. i + 1) (place_of p (xs ++ y ∷ []))) ≡ option_or (if b then Some 0 else option_map (λ i. i + 1) o) (if q then Some (suc (length xs)) else None)
    by true o q h = refl
    by false None true h = ap (option_map (λ i. i + 1)) h ∙ ap Some (add-one (length xs))
    by false None false h = ap (option_map (λ i. i + 1)) h
    by false (Some i) q h = ap (option_map (λ i. i + 1)) h

-- what an element at this place adds to what is known of a node
abbrev pub noted : ℕ → Element → List ℕ → NodeFacts → NodeFacts
noted place e n f = record {
  source = option_or f.source (if is_some (drives n e) then Some place else None);
  farads = f.farads +ℤ farads_at n e;
}

known-push : (es : List Element) (e : Element) (n : List ℕ) → known (es ++ e ∷ []) n ≡ noted (length es) e n (known es n)
unfolding source_of farads_of
known-push es e n = λ i. record {
  source = place_of-push (λ x. is_some (drives n x)) es e i;
  farads = fold-append (λ total x. total +ℤ farads_at n x) (pos 0) es (e ∷ []) i;
}

pub known-none : (n : List ℕ) → known [] n ≡ nothing
unfolding source_of farads_of
known-none n = refl

-- the step of a loop over the elements
pub known-more : (es : List Element) (place : ℕ) (e d : Element) (names : List (List ℕ)) (facts : List NodeFacts) → place < length es → e ≡ get_or es place d
    → facts ≡ map (λ n. noted place e n (known (take place es) n)) names → facts ≡ map (known (take (place + 1) es)) names
known-more es place e d names facts within at same =
    let long : length (take place es) ≡ place = omega (arith, length-take place es) in
    let front : take (place + 1) es ≡ take place es ++ e ∷ [] = take_more es place d within ∙ ap (λ x. take place es ++ x ∷ []) (sym at) in
    same ∙ (λ i. map (λ n. (ap (λ l. noted l e n (known (take place es) n)) (sym long) ∙ sym (known-push (take place es) e n) ∙ ap (λ l. known l n) (sym front)) i) names)

or_none : (o : Option ℕ) → o ≡ option_or o None
or_none None = refl
or_none (Some x) = refl

pub no_farads : (z : ℤ) → z ≡ z +ℤ pos 0
no_farads z = omega (arith, ints)

-- ---- what an element at its ends adds is what the code adds end by end

-- an element that says nothing of a node
pub untouched : (f : NodeFacts) → f ≡ record { source = option_or f.source None; farads = f.farads +ℤ pos 0 }
untouched f = λ i. record { source = or_none f.source i; farads = no_farads f.farads i }

-- the ends of a capacitor, which are not the same
pub charged : (a b : Bool) (x y : ℤ) (f : NodeFacts) → y ≡ x → (a ≡ true → b ≡ true → ⊥)
    → (if b then record (if a then record f { farads = f.farads +ℤ y } else f) { farads = (if a then record f { farads = f.farads +ℤ y } else f).farads +ℤ y } else (if a then record f { farads = f.farads +ℤ y } else f))
    ≡ record { source = option_or f.source None; farads = f.farads +ℤ (if a || b then x else pos 0) }
charged true true x y f is apart = absurd (apart refl refl)
charged true false x y f is apart = λ i. record { source = or_none f.source i; farads = f.farads +ℤ is i }
charged false true x y f is apart = λ i. record { source = or_none f.source i; farads = f.farads +ℤ is i }
charged false false x y f is apart = untouched f

-- what a source drives, by whether the name is its first and its second end
abbrev pub drives_by : Bool → Bool → List (ℕ × ℤ) → Option (List (ℕ × ℤ) × Bool)
drives_by a b wave = if a then Some (wave, false) else if b then Some (wave, true) else None

-- the ends of a source
pub sourced : (a b : Bool) (p : ℕ) (wave : List (ℕ × ℤ)) (f : NodeFacts)
    → (if b then record (if a then record f { source = option_or f.source (Some p) } else f) { source = option_or (if a then record f { source = option_or f.source (Some p) } else f).source (Some p) } else (if a then record f { source = option_or f.source (Some p) } else f))
    ≡ record { source = option_or f.source (if is_some (drives_by a b wave) then Some p else None); farads = f.farads +ℤ pos 0 }
sourced true true p wave f = λ i. record { source = again f.source i; farads = no_farads f.farads i }
  where
    again : (s : Option ℕ) → option_or (option_or s (Some p)) (Some p) ≡ option_or s (Some p)
    again None = refl
    again (Some x) = refl
sourced true false p wave f = λ i. record { source = option_or f.source (Some p); farads = no_farads f.farads i }
sourced false true p wave f = λ i. record { source = option_or f.source (Some p); farads = no_farads f.farads i }
sourced false false p wave f = untouched f

-- a name is not both ends where exactly one of them is ground
pub not_both : (n plus minus : List ℕ) → one_ground plus minus ≡ true → bytes_eq n plus ≡ true → bytes_eq n minus ≡ true → ⊥
not_both n plus minus one p m =
    let e : plus ≡ minus = sym (same_name n plus p) ∙ same_name n minus m in
    by (is_ground plus) (subst (λ x. one_ground plus x ≡ true) (sym e) one)
  where
    by : (b : Bool) → (if b then not b else b) ≡ true → ⊥
    by true h = false≢true h
    by false h = false≢true h

-- what all pass, each passes
pub each_passes : {A : Type 0} (p : A → Bool) (xs : List A) (i : ℕ) (d : A) → list_all p xs ≡ true → i < length xs → p (get_or xs i d) ≡ true
each_passes p [] i d all within = absurd (omega arith)
each_passes p (x ∷ xs) zero d all within = (and_both (p x) (list_all p xs) all).0
each_passes p (x ∷ xs) (suc i) d all within = each_passes p xs i d (and_both (p x) (list_all p xs) all).1 (omega arith)

-- ---- bounds

sum_size : (a b : ℤ) (k : ℕ) → unsigned_abs a ≤ 2 ^ 63 * k → unsigned_abs b ≤ 2 ^ 63 → unsigned_abs (a +ℤ b) ≤ 2 ^ 63 * (k + 1)
sum_size a b k ha hb = omega (arith, ints)

-- a capacitance that a card can hold
abbrev pub CanHold : Element → Type 0
CanHold (Capacitor name plus minus farads) = SFits w64 farads
CanHold (Resistor name first second ohms) = Unit {0}
CanHold (Source name plus minus wave) = Unit {0}
CanHold (Mos name drain gate source bulk part len width) = Unit {0}

farads_small : (n : List ℕ) (e : Element) → CanHold e → unsigned_abs (farads_at n e) ≤ 2 ^ 63
farads_small n (Resistor name first second ohms) h = omega arith
farads_small n (Source name plus minus wave) h = omega arith
farads_small n (Mos name drain gate source bulk part len width) h = omega arith
farads_small n (Capacitor name plus minus farads) h = by (bytes_eq n plus || bytes_eq n minus)
  where
    by : (b : Bool) → unsigned_abs (if b then farads else pos 0) ≤ 2 ^ 63
    by true = omega (arith, ints, h)
    by false = omega arith

-- one more element
pub small-more : (es : List Element) (place : ℕ) (e d : Element) → place < length es → e ≡ get_or es place d → CanHold e
    → ((n : List ℕ) → unsigned_abs (farads_of n (take place es)) ≤ 2 ^ 63 * place) → (n : List ℕ) → unsigned_abs (farads_of n (take (place + 1) es)) ≤ 2 ^ 63 * (place + 1)
unfolding farads_of
small-more es place e d within at holds before n =
    let grown : farads_of n (take (place + 1) es) ≡ farads_of n (take place es) +ℤ farads_at n e =
    ap (farads_of n) (take_more es place d within ∙ ap (λ x. take place es ++ x ∷ []) (sym at)) ∙ fold-append (λ t x. t +ℤ farads_at n x) (pos 0) (take place es) (e ∷ []) in
    subst (λ z. unsigned_abs z ≤ 2 ^ 63 * (place + 1)) (sym grown) (sum_size (farads_of n (take place es)) (farads_at n e) place (before n) (farads_small n e holds))
