use Rattle.std.proofs.Common.{◌≡◌, ◌⊎◌, ◌∙◌, inr, sym, ap, subst, true, Ok, Err, Some}
use Rattle.deck_reader.specs.Dots.{are_triples}
use Rattle.deck_reader.specs.declared.why.DeckWhy.TheVariants.{Memory}
use Rattle.deck_reader.specs.Told.{with_initial, voltage_limit}
use Rattle.deck_reader.specs.Voltages.{held}
use Rattle.deck_reader.proofs.VoltageLemmas.{hands_on, wrong_words, bad_voltages, bad_held, good_voltages, small_held, unlimited_held}
use Rattle.deck_reader.proofs.initial.Voltages.with_initial.Goals as goal
use Rattle.deck_reader.proofs.initial.Voltages.with_initial.Goals.{then-not-are_small+in_ok-list+in_ok-why+in_default, else-not-are_small}

pub returns-then-not-are_triples : goal.returns-then-not-are_triples
returns-then-not-are_triples c =
    inr (wrong_words c.args.self c.args.words.now (sym (c.are_triples.ensures ∙ ap are_triples c.copy.ensures) ∙ c.if-not-are_triples.true))

pub returns-in_err-voltages : goal.returns-in_err-voltages
returns-in_err-voltages c =
    let why = c.in_err-voltages.field-0.0 in
    let triples = sym (c.are_triples.ensures ∙ ap are_triples c.copy.ensures) ∙ c.if-not-are_triples.false in
    hands_on c.from_residual.result why (with_initial c.args.self c.args.words.now) c.from_residual.ensures.1
    (bad_held c.args.self c.args.words.now why triples
    (subst (λ r. (why ≡ Memory) ⊎ (r ≡ Err why)) (λ i. held (c.self.view_is i) true (c.copy-2.ensures i)) c.in_err-voltages.ensures))

pub returns-in_err-list : goal.returns-in_err-list
returns-in_err-list c =
    let triples = sym (c.are_triples.ensures ∙ ap are_triples c.copy.ensures) ∙ c.if-not-are_triples.false in
    hands_on c.from_residual-in_err-list.result c.in_err-list.field-0.0 (with_initial c.args.self c.args.words.now) c.from_residual-in_err-list.ensures.1
    (bad_voltages c.args.self c.args.words.now c.in_err-list.field-0.0 triples c.in_err-list.ensures)

pub returns-in-Some : goal.returns-in-Some
returns-in-Some c =
    let triples = sym (c.are_triples.ensures ∙ ap are_triples c.copy.ensures) ∙ c.if-not-are_triples.false in
    let limit = ap voltage_limit (sym c.deref.ensures.value) ∙ sym c.in_ok-why.ensures ∙ c.in-Some.is in
    inr (good_voltages c.args.self c.args.words.now c.in_ok-list.list.items (Some c.in-Some.why) triples c.in_ok-list.ensures limit)

pub returns : goal.returns
returns c =
    let triples = sym (c.are_triples.ensures ∙ ap are_triples c.copy.ensures) ∙ c.if-not-are_triples.false in
    let after = c.voltages.inside.voltages.entries in
    let small = c.voltages.inside.are_small in
    let ok : held c.args.self true c.args.words.now ≡ Ok (after, small) =
    (λ i. held (sym c.self.view_is i) true (sym c.copy-2.ensures i)) ∙ c.in_ok-voltages.ensures ∙ ap Ok (sym c.voltages.view_is) in
    elim c.if-not-are_small.branch [
      | then-not-are_small+in_ok-list+in_ok-why+in_default w ↦
          unlimited_held c.args.self c.args.words.now after w.in_ok-list.list.items small triples ok w.in_ok-list.ensures (ap voltage_limit (sym w.deref.ensures.value) ∙ sym w.in_ok-why.ensures ∙ w.in_default.is)
      | else-not-are_small w ↦ small_held c.args.self c.args.words.now after triples (ok ∙ ap (λ b. Ok (after, b)) w.if-not-are_small.false)
    ]
