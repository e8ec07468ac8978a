use Rattle.std.proofs.Common.{◌≡◌, ◌∙◌, ℕ, ℤ, List, true, None, map, SFits, w64, ap, subst, sym, rules}
use Rattle.std.proofs.lemmas.Int.{to_z-of_z}
use Rattle.semantics.specs.Deck.{DeckValue}
use Rattle.semantics.specs.Valid.{differ, is_valid}
use Rattle.deck_cards.specs.declared.edit.Edit.{Edit}
use Rattle.deck_cards.specs.declared.edit.Edit.TheVariants.{SetIc}
use Rattle.deck_cards.specs.Answers.{Refuses}
use Rattle.deck_cards.specs.Edits.{edit_cause, edit_limit, edit_rises, edited}
use Rattle.deck_cards.specs.Settled.{put}
use Rattle.deck_cards.proofs.Accepted.{framed, stays_valid}
use Rattle.deck_cards.proofs.Firsts.{handed_on}
use Rattle.deck_cards.proofs.Touched.{set_initial}
use Rattle.deck_cards.proofs.apply.set_initial.Goals as goal

cause_is : (d : DeckValue) (e : Edit) (node : List ℕ) (volts : ℤ) → is_valid d ≡ true → e ≡ SetIc node volts → edit_cause d e ≡ edit_limit e
cause_is d e node volts valid is = ap (edit_cause d) is ∙ set_initial d node volts valid ∙ ap edit_limit (sym is)

made : (d : DeckValue) (e : Edit) (node : List ℕ) (volts : ℤ) (vs : List (List ℕ × ℤ)) → e ≡ SetIc node volts → vs ≡ put d.initial (node, volts) → edited d e ≡ record d { initial = vs }
unfolding edited
made d e node volts vs is put_is = ap (edited d) is ∙ ap (λ v. record d { initial = v }) (sym put_is)

pub returns-in_err-check_limit-clause-cause : goal.returns-in_err-check_limit-clause-cause
returns-in_err-check_limit-clause-cause c =
    let e = c.in_err-check_limit.field-0.0 in
    handed_on c.from_residual.result e _ c.from_residual.ensures.1 (subst (Refuses e) (sym (cause_is c.args.kept.now c.args.edit.now c.args.node.now c.args.volts c.known.ensures c.requires)) c.in_err-check_limit.ensures)

pub with_voltage-requires : goal.with_voltage-requires
with_voltage-requires c = ap (λ (ps : List (List ℕ × ℤ)). differ (map (λ p. p.0) ps)) c.voltages.ensures ∙ (framed c.args.kept.now c.known.ensures).initial_differ

pub returns-clause-cause : goal.returns-clause-cause
returns-clause-cause c = cause_is c.args.kept.now c.args.edit.now c.args.node.now c.args.volts c.known.ensures c.requires ∙ c.in_ok-check_limit.ensures

pub with_voltages-requires : goal.with_voltages-requires
with_voltages-requires c =
    let d = c.args.kept.now in
    let e = c.args.edit.now in
    let none = cause_is d e c.args.node.now c.args.volts c.known.ensures c.requires ∙ c.in_ok-check_limit.ensures in
    let fits : SFits w64 c.args.volts = search rules in
    let vs = c.in_ok-voltages.ensures ∙ (λ i. put (c.voltages.ensures i) (c.args.node.now, to_z-of_z w64 c.args.volts fits i)) in
    subst (λ x. is_valid x ≡ true) (made d e c.args.node.now c.args.volts c.in_ok-voltages.voltages.entries c.requires vs) (stays_valid d e c.known.ensures (ap edit_rises c.requires) none)

pub returns-clause-kept : goal.returns-clause-kept
returns-clause-kept c =
    let d = c.args.kept.now in
    let fits : SFits w64 c.args.volts = search rules in
    let vs = c.in_ok-voltages.ensures ∙ (λ i. put (c.voltages.ensures i) (c.args.node.now, to_z-of_z w64 c.args.volts fits i)) in
    c.in_ok-with_voltages.ensures ∙ sym (made d c.args.edit.now c.args.node.now c.args.volts c.in_ok-voltages.voltages.entries c.requires vs)
