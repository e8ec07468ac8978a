-- The words of a card.
use Rattle.std.proofs.Common.{◌≡◌, ℕ, ◌<◌, [], length, get_or, subst, sym, ap, ◌∙◌}
use Rattle.std.proofs.lemmas.List.{get_or-map, length-map}
use Rattle.deck_lexer.specs.declared.word.Word.{Word}
use Rattle.deck_lexer.specs.declared.draft.Draft.{Draft}
use Rattle.deck_lexer.specs.Words.{spelled, EndsBy, IsWord}
use Rattle.deck_lexer.specs.Draft.{draft_words, IsDraft}

-- the word at a place
pub IsWord-at : {draft : Draft} (i : ℕ) (word : Word) → IsDraft draft → i < length draft.words.items → word ≡ get_or draft.words.items i word → IsWord (spelled draft.text.items word)
IsWord-at {draft} i word h l e =
    subst IsWord (get_or-map (spelled draft.text.items) draft.words.items i word [] l ∙ sym (ap (spelled draft.text.items) e)) (h.words i [] (rw length-map l))

-- a span lies in the text
pub EndsBy-at : {draft : Draft} (i : ℕ) (word : Word) → IsDraft draft → i < length draft.words.items → word ≡ get_or draft.words.items i word → EndsBy (length draft.text.items) word
EndsBy-at {draft} i word h l e = subst (EndsBy (length draft.text.items)) (sym e) (h.spans i word l)

pub length-draft_words : (draft : Draft) → length (draft_words draft) ≡ length draft.words.items
length-draft_words draft = length-map draft.words.items (spelled draft.text.items)
