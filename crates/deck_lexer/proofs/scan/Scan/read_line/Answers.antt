use Rattle.std.proofs.Common.{arith, sym}
use Rattle.deck_lexer.proofs.LeftLemmas.{left-none}
use Rattle.deck_lexer.proofs.scan.Scan.read_line.Goals as goal

pub returns-then-self-text-clause-left : goal.returns-then-self-text-clause-left
returns-then-self-text-clause-left c = rw c.requires.over (sym (left-none _ c.args.self.now.number c.args.text.now _ (omega arith)))
