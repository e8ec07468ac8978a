use Rattle.std.proofs.Common.{◌∙◌, arith, sym}
use Rattle.deck_reader.proofs.WordLemmas.{drop-at}
use Rattle.deck_reader.proofs.words.Words.next.Goals as goal

pub returns : goal.returns
returns c = sym c.self.view_is ∙ drop-at c.self.inside.card.now.words c.self.inside.at c.self.inside.end _ c.word-text.ensures.word (omega arith) c.self.invariant.1
