use Rattle.std.proofs.Common.{◌≡◌, ◌∙◌, not, None, Some, is_some, refl, sym, ap, subst}
use Rattle.semantics.specs.declared.element.Element.{Element}
use Rattle.semantics.specs.Deck.{look_up}
use Rattle.semantics.specs.Valid.{has_part}
use Rattle.deck_cards.specs.declared.edit_refusal.EditRefusal.TheVariants.{NoSuchModel}
use Rattle.deck_cards.specs.Causes.{when, part_name}
use Rattle.deck_cards.specs.Part.{part_of}
use Rattle.deck_cards.proofs.Once.{found_is}
use Rattle.deck_cards.proofs.adding.check_part.Goals as goal

pub returns-then-not-contains_key : goal.returns-then-not-contains_key
returns-then-not-contains_key c = λ d same.
    let found = ap (λ ps. is_some (look_up c.in-Mos.part ps)) (sym same) ∙ sym (found_is part_of c.in-Mos.part c.args.parts.now.entries) ∙ sym c.contains_key.ensures ∙ c.if-not-contains_key.true in
    subst (λ (e : Element). when (not (has_part d e)) (NoSuchModel (part_name e)) ≡ Some (NoSuchModel c.in_ok-copy-in-Mos.field-0)) (sym c.in-Mos.is)
    (ap (λ b. when (not b) (NoSuchModel c.in-Mos.part)) found ∙ ap (λ n. Some (NoSuchModel n)) (sym c.in_ok-copy-in-Mos.ensures))

pub returns-else-not-contains_key : goal.returns-else-not-contains_key
returns-else-not-contains_key c = λ d same.
    let found = ap (λ ps. is_some (look_up c.in-Mos.part ps)) (sym same) ∙ sym (found_is part_of c.in-Mos.part c.args.parts.now.entries) ∙ sym c.contains_key.ensures ∙ c.if-not-contains_key.false in
    subst (λ (e : Element). when (not (has_part d e)) (NoSuchModel (part_name e)) ≡ None) (sym c.in-Mos.is)
    (ap (λ b. when (not b) (NoSuchModel c.in-Mos.part)) found)

pub returns-in-Source : goal.returns-in-Source
returns-in-Source c = λ d same. subst (λ (e : Element). when (not (has_part d e)) (NoSuchModel (part_name e)) ≡ None) (sym c.in-Source.is) refl

pub returns-in-Capacitor : goal.returns-in-Capacitor
returns-in-Capacitor c = λ d same. subst (λ (e : Element). when (not (has_part d e)) (NoSuchModel (part_name e)) ≡ None) (sym c.in-Capacitor.is) refl

pub returns-in-Resistor : goal.returns-in-Resistor
returns-in-Resistor c = λ d same. subst (λ (e : Element). when (not (has_part d e)) (NoSuchModel (part_name e)) ≡ None) (sym c.in-Resistor.is) refl
