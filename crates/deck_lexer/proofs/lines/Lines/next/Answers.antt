use Rattle.std.proofs.Common.{◌∙◌, ◌+◌, sym, arith}
use Rattle.deck_lexer.proofs.LineLemmas.{no_lines}
use Rattle.deck_lexer.proofs.lines.Lines.next.Goals as goal

pub returns-then-self-clause-line : goal.returns-then-self-clause-line
returns-then-self-clause-line c =
    let none = sym c.self.view_is ∙ no_lines c.self.inside.text.now c.self.inside.start (c.self.inside.number + 1) (omega arith) in
    (none, none)
