use Rattle.std.proofs.Common.{◌≡◌, ◌∙◌, ℤ, ◌-ℤ◌, SFits, to_z, of_z, w64, Some, ap, subst, sym, arith, rules}
use Rattle.std.specs.Int.{w128}
use Rattle.std.specs.Option.{option_map}
use Rattle.std.proofs.lemmas.Int.{ints, to_z-of_z, fits_signed_from_abs}
use Rattle.deck_cards.specs.declared.edit_refusal.EditRefusal.TheVariants.{WrongKind}
use Rattle.deck_cards.specs.AtNode.{IsAtNode}
use Rattle.deck_cards.specs.Edits.{edit_cause}
use Rattle.deck_cards.proofs.AtNode.{at_node, wrong_kind}
use Rattle.deck_cards.proofs.apply.set_capacitor.Goals as goal

-- the difference of two capacitances, widened before it is taken
difference : (x y r s : ℤ) → SFits w64 x → SFits w64 y → r ≡ to_z w64 (of_z w64 x) → s ≡ to_z w64 (of_z w64 y)
    → to_z w128 (of_z w128 (to_z w128 (of_z w128 r) -ℤ to_z w128 (of_z w128 s))) ≡ x -ℤ y
difference x y r s fits_x fits_y is_x is_y =
    let a : r ≡ x = is_x ∙ to_z-of_z w64 x fits_x in
    let b : s ≡ y = is_y ∙ to_z-of_z w64 y fits_y in
    let wide_x : SFits w128 x = fits_signed_from_abs w128 x (omega (arith, ints, fits_x)) in
    let wide_y : SFits w128 y = fits_signed_from_abs w128 y (omega (arith, ints, fits_y)) in
    let wide : SFits w128 (x -ℤ y) = fits_signed_from_abs w128 (x -ℤ y) (omega (arith, ints, fits_x, fits_y)) in
    (λ i. to_z w128 (of_z w128 ((ap (λ z. to_z w128 (of_z w128 z)) a ∙ to_z-of_z w128 x wide_x) i -ℤ (ap (λ z. to_z w128 (of_z w128 z)) b ∙ to_z-of_z w128 y wide_y) i)))
    ∙ to_z-of_z w128 (x -ℤ y) wide

pub returns-in_default-clause-cause : goal.returns-in_default-clause-cause
returns-in_default-clause-cause c =
    let d = c.args.kept.now in
    ap (edit_cause d) c.requires.edit
    ∙ wrong_kind d c.args.name.now c.args.farads c.args.element.now c.requires.named (sym c.capacitor_of.ensures ∙ ap (option_map _) c.in_default.is)
    ∙ ap (λ n. Some (WrongKind n)) (sym c.in_ok-copy.ensures)

pub set_at_node-requires : goal.set_at_node-requires
set_at_node-requires c =
    let d = c.args.kept.now in
    let n = c.args.name.now in
    let m = c.in-Some.node.now in
    let fits_farads : SFits w64 c.args.farads = search rules in
    let fits_old : SFits w64 c.in-Some.old = search rules in
    subst (IsAtNode d n m _) (sym c.requires.edit)
    (at_node d n c.args.farads _ c.args.element.now m c.in-Some.old c.known.ensures c.requires.named (sym c.capacitor_of.ensures ∙ ap (option_map _) c.in-Some.is) fits_farads fits_old
    (difference c.args.farads c.in-Some.old c.from.result c.from-2.result fits_farads fits_old c.from.ensures c.from-2.ensures))
