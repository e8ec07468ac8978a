use Rattle.std.proofs.Common.{◌≡◌, ◌∙◌, ◌<◌, ◌+ℤ◌, ℤ, SFits, to_z, of_z, length, get_or, ap, rules, arith}
use Rattle.std.specs.Int.{w128}
use Rattle.std.proofs.lemmas.Int.{to_z-of_z}
use Rattle.deck_cards.proofs.Named.{changed, unchanged}
use Rattle.deck_cards.proofs.Known.{nothing}
use Rattle.deck_cards.proofs.nodes.add_farads.Goals as goal

cast_sum : (a b : ℤ) → SFits w128 a → SFits w128 b → SFits w128 (a +ℤ b) → to_z w128 (of_z w128 (to_z w128 (of_z w128 a) +ℤ to_z w128 (of_z w128 b))) ≡ a +ℤ b
cast_sum a b fits_a fits_b fits = (λ i. to_z w128 (of_z w128 (to_z-of_z w128 a fits_a i +ℤ to_z-of_z w128 b fits_b i))) ∙ to_z-of_z w128 (a +ℤ b) fits

pub returns-in-Some : goal.returns-in-Some
returns-in-Some c =
    let old = get_or c.args.facts.now c.in-Some.place nothing in
    let within : c.in-Some.place < length c.args.facts.now = omega (arith, c.in-Some.ensures.within, c.requires.size) in
    let fits_old : SFits w128 old.farads = search rules in
    let fits_farads : SFits w128 c.args.farads.now = search rules in
    changed (λ f. record f { farads = f.farads +ℤ c.args.farads.now }) c.args.names.now.keys c.args.name.now c.args.facts.now c.in-Some.place nothing _ c.requires.differ c.in-Some.ensures.index
    (ap (λ z. record old { farads = z }) (cast_sum old.farads c.args.farads.now fits_old fits_farads (c.requires.room c.in-Some.place nothing within)))

pub returns-in_default : goal.returns-in_default
returns-in_default c =
    unchanged (λ f. record f { farads = f.farads +ℤ c.args.farads.now }) _ c.args.name.now _ _ c.get_index_of.ensures.found c.in_default.is
