use Rattle.deck_lexer.proofs.LineLemmas.{lines_of-at}
use Rattle.deck_lexer.proofs.line.line_end.Goals as goal

pub returns-clause-line : goal.returns-clause-line
returns-clause-line c = lines_of-at _ _ _ c.requires c.line_len.ensures.place
