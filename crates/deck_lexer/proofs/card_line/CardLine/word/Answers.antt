use Rattle.deck_lexer.proofs.CardLemmas.{IsWord-at, length-draft_words}
use Rattle.deck_lexer.proofs.card_line.CardLine.word.Goals as goal

pub returns-clause-ascii : goal.returns-clause-ascii
returns-clause-ascii c =
    let inside = rw (← c.self.view_is, length-draft_words c.self.inside.draft) at c.requires in
    rw (c.spelled.ensures, c.deref.ensures.value) (IsWord-at c.args.i c.index.result.now c.self.invariant inside c.index.ensures).ascii

pub returns-clause-lower : goal.returns-clause-lower
returns-clause-lower c =
    let inside = rw (← c.self.view_is, length-draft_words c.self.inside.draft) at c.requires in
    rw (c.spelled.ensures, c.deref.ensures.value) (IsWord-at c.args.i c.index.result.now c.self.invariant inside c.index.ensures).lower
