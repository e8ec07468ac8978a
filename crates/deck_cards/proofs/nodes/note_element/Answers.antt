use Rattle.std.proofs.Common.{◌≡◌, ◌∙◌, ℕ, ◌*◌, ◌^◌, ◌<◌, ◌≤◌, ℤ, ◌+ℤ◌, unsigned_abs, SFits, to_z, of_z, w64, Bool, true, false, Some, if◌then◌else◌, map, take, sym, ap, subst, arith, rules}
use Rattle.std.specs.Int.{w128}
use Rattle.std.specs.Option.{option_or}
use Rattle.std.specs.Str.{bytes_eq}
use Rattle.std.proofs.lemmas.Int.{ints, to_z-of_z, fits_signed_from_abs}
use Rattle.semantics.specs.Valid.{is_grounded}
use Rattle.deck_cards.specs.declared.facts.NodeFacts.{NodeFacts}
use Rattle.deck_cards.specs.Facts.{known}
use Rattle.deck_cards.proofs.Known.{CanHold, known-more, small-more, untouched, charged, sourced, not_both, each_passes}
use Rattle.deck_cards.proofs.Named.{twice, every_value}
use Rattle.deck_cards.proofs.nodes.note_element.Goals as goal

-- ---- what is known of the nodes

pub returns-in-Resistor-clause-after : goal.returns-in-Resistor-clause-after
returns-in-Resistor-clause-after c =
    let es = c.args.elements.now in
    known-more es c.args.place _ _ c.args.names.now.keys _ c.requires.within (sym c.in-Resistor.is ∙ c.index-elements-place.is)
    (c.requires.before ∙ (λ i. map (λ n. untouched (known (take c.args.place es) n) i) c.args.names.now.keys))

pub returns-in-Mos-clause-after : goal.returns-in-Mos-clause-after
returns-in-Mos-clause-after c =
    let es = c.args.elements.now in
    known-more es c.args.place _ _ c.args.names.now.keys _ c.requires.within (sym c.in-Mos.is ∙ c.index-elements-place.is)
    (c.requires.before ∙ (λ i. map (λ n. untouched (known (take c.args.place es) n) i) c.args.names.now.keys))

pub returns-in-Source-clause-after : goal.returns-in-Source-clause-after
returns-in-Source-clause-after c =
    let es = c.args.elements.now in
    known-more es c.args.place _ _ c.args.names.now.keys _ c.requires.within (sym c.in-Source.is ∙ c.index-elements-place.is)
    (twice _ c.in-Source.plus c.in-Source.minus (λ f. record f { source = option_or f.source (Some c.args.place) }) _ _ _ _ _ c.requires.before c.note_source.ensures c.note_source-in-Source.ensures
    (λ n. sourced (bytes_eq n c.in-Source.plus) (bytes_eq n c.in-Source.minus) c.args.place c.in-Source.wave (known (take c.args.place es) n)))

-- a capacitance that was read, and widened
widened : (x r : ℤ) → SFits w64 x → r ≡ to_z w64 (of_z w64 x) → to_z w128 (of_z w128 r) ≡ x
widened x r fits is =
    let same : r ≡ x = is ∙ to_z-of_z w64 x fits in
    let wide : SFits w128 x = fits_signed_from_abs w128 x (omega (arith, ints, fits)) in
    ap (λ z. to_z w128 (of_z w128 z)) same ∙ to_z-of_z w128 x wide

pub returns-in-Capacitor-clause-after : goal.returns-in-Capacitor-clause-after
returns-in-Capacitor-clause-after c =
    let es = c.args.elements.now in
    let at = sym c.in-Capacitor.is ∙ c.index-elements-place.is in
    let one = subst (λ e. is_grounded e ≡ true) (sym at) (each_passes is_grounded es c.args.place _ c.requires.grounded c.requires.within) in
    let fits : SFits w64 c.in-Capacitor.farads = search rules in
    let same = widened c.in-Capacitor.farads c.from-farads.result fits c.from-farads.ensures in
    known-more es c.args.place _ _ c.args.names.now.keys _ c.requires.within at
    (twice _ c.in-Capacitor.plus c.in-Capacitor.minus (λ f. record f { farads = f.farads +ℤ to_z w128 (of_z w128 c.from-farads.result) }) _ _ _ _ _ c.requires.before c.add_farads.ensures c.add_farads-in-Capacitor.ensures
    (λ n. charged (bytes_eq n c.in-Capacitor.plus) (bytes_eq n c.in-Capacitor.minus) c.in-Capacitor.farads _ (known (take c.args.place es) n) same (not_both n c.in-Capacitor.plus c.in-Capacitor.minus one)))

-- ---- the sums stay small

pub returns-in-Resistor-clause-small : goal.returns-in-Resistor-clause-small
returns-in-Resistor-clause-small c =
    small-more c.args.elements.now c.args.place _ _ c.requires.within c.index-elements-place.is (subst CanHold (sym c.in-Resistor.is) tt) c.requires.small

pub returns-in-Mos-clause-small : goal.returns-in-Mos-clause-small
returns-in-Mos-clause-small c =
    small-more c.args.elements.now c.args.place _ _ c.requires.within c.index-elements-place.is (subst CanHold (sym c.in-Mos.is) tt) c.requires.small

pub returns-in-Source-clause-small : goal.returns-in-Source-clause-small
returns-in-Source-clause-small c =
    small-more c.args.elements.now c.args.place _ _ c.requires.within c.index-elements-place.is (subst CanHold (sym c.in-Source.is) tt) c.requires.small

pub returns-in-Capacitor-clause-small : goal.returns-in-Capacitor-clause-small
returns-in-Capacitor-clause-small c =
    let fits : SFits w64 c.in-Capacitor.farads = search rules in
    small-more c.args.elements.now c.args.place _ _ c.requires.within c.index-elements-place.is (subst CanHold (sym c.in-Capacitor.is) fits) c.requires.small

-- ---- each addition has room

-- the sum of a front, and one or two capacitors more
room : (a : Bool) (f : NodeFacts) (x y : ℤ) (place : ℕ) → unsigned_abs f.farads ≤ 2 ^ 63 * place → place < 2 ^ 63 → SFits w64 x → y ≡ x → SFits w128 ((if a then record f { farads = f.farads +ℤ y } else f).farads +ℤ y)
room true f x y place small few fits same =
    subst (λ z. SFits w128 ((f.farads +ℤ z) +ℤ z)) (sym same) (fits_signed_from_abs w128 ((f.farads +ℤ x) +ℤ x) (omega (arith, ints)))
room false f x y place small few fits same =
    subst (λ z. SFits w128 (f.farads +ℤ z)) (sym same) (fits_signed_from_abs w128 (f.farads +ℤ x) (omega (arith, ints)))

pub add_farads-requires-clause-room : goal.add_farads-requires-clause-room
add_farads-requires-clause-room c =
    let fits : SFits w64 c.in-Capacitor.farads = search rules in
    let same = widened c.in-Capacitor.farads c.from-farads.result fits c.from-farads.ensures in
    every_value _ (λ f. SFits w128 (f.farads +ℤ to_z w128 (of_z w128 c.from-farads.result))) _ _ c.requires.before
    (λ n. room false (known (take c.args.place c.args.elements.now) n) _ _ c.args.place (c.requires.small n) (omega (arith, c.requires.within, c.requires.few)) fits same)

pub add_farads-requires-in-Capacitor-clause-room : goal.add_farads-requires-in-Capacitor-clause-room
add_farads-requires-in-Capacitor-clause-room c =
    let fits : SFits w64 c.in-Capacitor.farads = search rules in
    let same = widened c.in-Capacitor.farads c.from-farads.result fits c.from-farads.ensures in
    every_value _ (λ f. SFits w128 (f.farads +ℤ to_z w128 (of_z w128 c.from-farads.result))) _ _ (c.add_farads.ensures _ c.requires.before)
    (λ n. room (bytes_eq n c.in-Capacitor.plus) (known (take c.args.place c.args.elements.now) n) _ _ c.args.place (c.requires.small n) (omega (arith, c.requires.within, c.requires.few)) fits same)
