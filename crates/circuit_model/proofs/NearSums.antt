-- What flows into a node flows through the devices at it.
use Rattle.std.proofs.Common.{◌≡◌, ℕ, suc, ◌+◌, ◌<◌, Bool, true, false, cond, List, [], ◌∷◌, length, get_or, refl, sym, ap, ◌∙◌, arith, ℤ, pos, ◌+ℤ◌}
use Rattle.std.specs.List.{fold, filter, range_with_len}
use Rattle.std.proofs.lemmas.Bool.{false≢true}
use Rattle.std.proofs.lemmas.Int.{ints}
use Rattle.semantics.specs.declared.element.Element.{Element}
use Rattle.semantics.specs.declared.element.Element.TheVariants.{Resistor, Capacitor, Source, Mos}
use Rattle.semantics.specs.declared.fraction.Fraction.{Fraction}
use Rattle.semantics.specs.Deck.{DeckValue}
use Rattle.semantics.specs.Neighbours.{is_device, is_end}
use Rattle.semantics.specs.Run.{flow, node_current}
use Rattle.semantics.proofs.Flows.{flow_quiet}
use Rattle.circuit_model.specs.Numbers.{devices, device_of, near_of, no_element, flows_over}

-- ---- sums

-- nothing flows through what is no device
no_device : (d : DeckValue) (v : List ℕ → Fraction) (n : List ℕ) (e : Element) → is_device e ≡ false → flow d v n e ≡ pos 0
unfolding flow
no_device d v n (Resistor name first second ohms) h = absurd (false≢true (sym h))
no_device d v n (Mos name drain gate source bulk part len width) h = absurd (false≢true (sym h))
no_device d v n (Capacitor name plus minus farads) h = refl
no_device d v n (Source name plus minus wave) h = refl

no_more : (z : ℤ) → z +ℤ pos 0 ≡ z
no_more z = omega (arith, ints)

-- a sum needs only what is not 0
needed : {X : Type 0} (h : X → ℤ) (p : X → Bool) → ((x : X) → p x ≡ false → h x ≡ pos 0) → (xs : List X) (z : ℤ) → fold (λ total x. total +ℤ h x) z xs ≡ fold (λ total x. total +ℤ h x) z (filter p xs)
needed h p none [] z = refl
needed {X} h p none (x ∷ xs) z = by (p x) refl (λ y. needed h p none xs y)
  where
    by : (b : Bool) → p x ≡ b → ((y : ℤ) → fold (λ total u. total +ℤ h u) y xs ≡ fold (λ total u. total +ℤ h u) y (filter p xs))
        → fold (λ total u. total +ℤ h u) (z +ℤ h x) xs ≡ fold (λ total u. total +ℤ h u) z (cond (p x) (x ∷ filter p xs) (filter p xs))
    by true is rest = rw is (rest (z +ℤ h x))
    by false is rest = rw (is, none x is, no_more z) (rest z)

-- the items of a list from a place on
abbrev StandFrom : List Element → ℕ → List Element → Type 0
StandFrom all k es = (j : ℕ) → j < length es → get_or es j no_element ≡ get_or all (k + j) no_element

-- a sum over items is one over their places
by_places : (h : Element → ℤ) (all es : List Element) (k : ℕ) (z : ℤ) → StandFrom all k es
    → fold (λ total e. total +ℤ h e) z es ≡ fold (λ total j. total +ℤ h (get_or all j no_element)) z (range_with_len k (length es))
by_places h all [] k z at = refl
by_places h all (e ∷ es) k z at =
    let first : e ≡ get_or all k no_element = at 0 (omega arith) ∙ ap (λ j. get_or all j no_element) (omega arith) in
    let later : StandFrom all (k + 1) es = λ j below. at (suc j) (omega (arith, below)) ∙ ap (λ i. get_or all i no_element) (omega arith) in
    by_places h all es (k + 1) (z +ℤ h e) later
    ∙ ap (λ x. fold (λ total j. total +ℤ h (get_or all j no_element)) (z +ℤ h x) (range_with_len (k + 1) (length es))) first

-- what flows into a node flows through the devices, by their numbers
pub devices_suffice : (d : DeckValue) (v : List ℕ → Fraction) (n : List ℕ) → node_current d v n ≡ flows_over d v n (range_with_len 0 (length (devices d)))
unfolding node_current devices
devices_suffice d v n =
    needed (flow d v n) is_device (λ e h. no_device d v n e h) d.elements (pos 0)
    ∙ by_places (flow d v n) (filter is_device d.elements) (filter is_device d.elements) 0 (pos 0) (λ j h. ap (λ i. get_or (filter is_device d.elements) i no_element) (omega arith))

-- and of these through the ones at it
pub near_suffices : (d : DeckValue) (v : List ℕ → Fraction) (n : List ℕ) → node_current d v n ≡ flows_over d v n (near_of d n)
unfolding near_of
near_suffices d v n =
    devices_suffice d v n ∙ needed (λ k. flow d v n (device_of d k)) (λ k. is_end n (device_of d k)) (λ k h. flow_quiet d v n (device_of d k) h) (range_with_len 0 (length (devices d))) (pos 0)
