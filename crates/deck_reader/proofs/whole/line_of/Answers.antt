use Rattle.std.proofs.Common.{◌+◌, ◌∙◌, ℕ, Some, None, if◌then◌else◌, drop, unwrap_or, sym, ap, arith}
use Rattle.std.specs.Option.{option_or}
use Rattle.semantics.specs.declared.element.Element.{Element}
use Rattle.semantics.specs.Deck.{first_some}
use Rattle.deck_reader.specs.Circuit.{end_line, line_of}
use Rattle.deck_reader.proofs.PlacedLemmas.{first-step}
use Rattle.deck_reader.proofs.whole.line_of.Goals as goal

pub returns-then-has_end : goal.returns-then-has_end
unfolding line_of
returns-then-has_end c =
    let f = end_line c.args.node.now in
    let placed = c.args.placed.now in
    let i = c.loop-place.place in
    let x : ℕ × Element = (c.at-line.result.0, c.at-line.result.1.now) in
    ap (λ o. unwrap_or o 0) (sym (c.loop-place.invariant
    ∙ first-step f placed i x (omega (arith, c.loop-place-test.true, c.len-place-end.ensures)) c.at-line.ensures
    ∙ ap (λ b. option_or (if b then Some x.0 else None) (first_some f (drop (i + 1) placed))) (sym c.has_end.ensures ∙ c.if-has_end.true)))

pub loop-place-preserved : goal.loop-place-preserved
loop-place-preserved c =
    let f = end_line c.args.node.now in
    let placed = c.args.placed.now in
    let i = c.loop-place.place in
    let x : ℕ × Element = (c.at-line.result.0, c.at-line.result.1.now) in
    c.loop-place.invariant
    ∙ first-step f placed i x (omega (arith, c.loop-place-test.true, c.len-place-end.ensures)) c.at-line.ensures
    ∙ ap (λ b. option_or (if b then Some x.0 else None) (first_some f (drop (i + 1) placed))) (sym c.has_end.ensures ∙ c.if-has_end.false)
