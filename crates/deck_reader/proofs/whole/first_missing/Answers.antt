use Rattle.std.proofs.Common.{◌+◌, ◌∙◌, ℕ, drop, sym, ap, arith}
use Rattle.std.specs.Option.{option_or}
use Rattle.semantics.specs.declared.element.Element.{Element}
use Rattle.semantics.specs.Deck.{first_some}
use Rattle.deck_reader.specs.Reading.{missing_part}
use Rattle.deck_reader.proofs.PlacedLemmas.{first-step}
use Rattle.deck_reader.proofs.whole.first_missing.Goals as goal

pub returns-in-Some : goal.returns-in-Some
returns-in-Some c =
    let f = missing_part c.args.parts.now in
    let placed = c.args.placed.now in
    let i = c.loop-place.place in
    let x : ℕ × Element = (c.at-line.result.0, c.at-line.result.1.now) in
    sym (c.loop-place.invariant
    ∙ first-step f placed i x (omega (arith, c.loop-place-test.true, c.len-place-end.ensures)) c.at-line.ensures
    ∙ ap (λ o. option_or o (first_some f (drop (i + 1) placed))) (sym c.in_ok-refusal.ensures ∙ c.in-Some.is))

pub loop-place-preserved : goal.loop-place-preserved
loop-place-preserved c =
    let f = missing_part c.args.parts.now in
    let placed = c.args.placed.now in
    let i = c.loop-place.place in
    let x : ℕ × Element = (c.at-line.result.0, c.at-line.result.1.now) in
    c.loop-place.invariant
    ∙ first-step f placed i x (omega (arith, c.loop-place-test.true, c.len-place-end.ensures)) c.at-line.ensures
    ∙ ap (λ o. option_or o (first_some f (drop (i + 1) placed))) (sym c.in_ok-refusal.ensures ∙ c.in_default.is)
