use Rattle.std.proofs.Common.{◌≤◌, length, arith}
use Rattle.std.proofs.lemmas.Result.{on_ok_weaker}
use Rattle.deck_lexer.specs.declared.draft.Draft.{Draft}
use Rattle.deck_lexer.proofs.DraftLemmas.{Grows-words, Grows-draft, Grows-from, EndsBy-more, length-grown, on_ok_both}
use Rattle.deck_lexer.proofs.draft.Draft.add.Goals as goal

pub push_words-requires-clause-small : goal.push_words-requires-clause-small
push_words-requires-clause-small c =
    rw c.deref.ensures.value (omega (arith, c.requires.small, length-grown _ _ _ c.in_ok-push_lowered.ensures))

pub returns-clause-draft : goal.returns-clause-draft
returns-clause-draft c =
    let new : Draft = record { line = c.args.self.now.line; text = c.push_lowered.new.out; words = c.push_words.new.found } in
    let more : length c.args.self.now.text.items ≤ length new.text.items = omega (arith, length-grown _ _ _ c.in_ok-push_lowered.ensures) in
    on_ok_both c.push_words.result c.push_words.ensures.words (c.push_words.ensures.spans (length new.text.items) (omega arith) (EndsBy-more _ more c.requires.draft.spans))
    (λ words spans. Grows-draft c.requires.draft c.requires.ascii
    (Grows-from c.args.self.now new c.deref.result.now c.len-from.result c.len.result c.deref.ensures.value c.in_ok-push_lowered.ensures (omega arith) (omega arith) words spans))

pub returns-clause-words : goal.returns-clause-words
returns-clause-words c =
    let new : Draft = record { line = c.args.self.now.line; text = c.push_lowered.new.out; words = c.push_words.new.found } in
    let more : length c.args.self.now.text.items ≤ length new.text.items = omega (arith, length-grown _ _ _ c.in_ok-push_lowered.ensures) in
    on_ok_both c.push_words.result c.push_words.ensures.words (c.push_words.ensures.spans (length new.text.items) (omega arith) (EndsBy-more _ more c.requires.draft.spans))
    (λ words spans. Grows-words c.requires.draft
    (Grows-from c.args.self.now new c.deref.result.now c.len-from.result c.len.result c.deref.ensures.value c.in_ok-push_lowered.ensures (omega arith) (omega arith) words spans))

pub returns-clause-len : goal.returns-clause-len
returns-clause-len c = on_ok_weaker _ (λ done. length-grown _ _ _ c.in_ok-push_lowered.ensures) c.push_words.ensures.words
