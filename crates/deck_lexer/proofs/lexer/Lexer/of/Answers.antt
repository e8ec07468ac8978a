use Rattle.deck_lexer.proofs.LeftLemmas.{left-whole}
use Rattle.deck_lexer.proofs.lexer.Lexer.of.Goals as goal

pub returns-clause-cards : goal.returns-clause-cards
returns-clause-cards c = (left-whole c.args.text.now).cards

pub returns-clause-end : goal.returns-clause-end
returns-clause-end c = (left-whole c.args.text.now).end

pub returns-clause-fault : goal.returns-clause-fault
returns-clause-fault c = (left-whole c.args.text.now).fault
