use Rattle.std.proofs.Common.{ap, sym, ◌∙◌}
use Rattle.deck_lexer.proofs.LeftLemmas.{scan_left-whole}
use Rattle.deck_lexer.proofs.scan.Scan.next.Goals as goal

pub returns-in-Some-clause-next : goal.returns-in-Some-clause-next
returns-in-Some-clause-next c =
    let same = sym c.loop-card.invariant.same ∙ scan_left-whole c.args.text.now c.loop-card.self c.in-Some.card c.take.new.self c.loop-card.invariant.scan (sym c.take.ensures.value ∙ c.in-Some.is) c.take.ensures.after in
    (ap (λ l. l.cards) same, sym (ap (λ l. l.end) same), sym (ap (λ l. l.fault) same))
