-- A card grows with the words of a line.
use Rattle.std.proofs.Common.{◌≡◌, ℕ, ◌+◌, ◌-◌, ◌≤◌, List, [], ◌∷◌, ◌++◌, length, take, drop, map, refl, ap, Result, Ok, Err, OnOk, ◌∙◌, sym, arith, slice_range}
use Rattle.std.specs.Char.{to_ascii_lowercase}
use Rattle.std.specs.List.{All}
use Rattle.std.proofs.lemmas.List.{take_all, drop_at, drop-append-le, take-append-le, length-map, length-drop, length-append, map-append}
use Rattle.std.proofs.lemmas.List.Elements.{All-weaker, All-head, All-tail, All-append, All-nil}
use Rattle.deck_lexer.specs.declared.word.Word.{Word}
use Rattle.deck_lexer.specs.declared.draft.Draft.{Draft}
use Rattle.deck_lexer.specs.Words.{split_words, lowered, spelled, words_at, IsWord, EndsBy}
use Rattle.deck_lexer.specs.Draft.{draft_words, IsDraft}
use Rattle.deck_lexer.proofs.WordLemmas.{IsAsciiByte, All-split_words, spelled-lowered, lowered-twice, split_words-lowered}

-- bytes that come behind a text are no part of its spans
spelled-append : (text more : List ℕ) (span : Word) → EndsBy (length text) span → spelled (text ++ more) span ≡ spelled text span
spelled-append text more span h =
    let inside : span.len ≤ length (drop span.start text) = rw length-drop (omega (arith, h.within)) in
    rw (drop-append-le span.start text more (omega (arith, h.within)), take-append-le span.len (drop span.start text) more inside) refl

spans-append : (text more : List ℕ) (spans : List Word) → All (EndsBy (length text)) spans → map (spelled (text ++ more)) spans ≡ map (spelled text) spans
spans-append text more [] h = refl
spans-append text more (span ∷ spans) h =
    rw (spelled-append text more span (All-head (EndsBy (length text)) span spans h), spans-append text more spans (All-tail (EndsBy (length text)) span spans h)) refl

-- what a card's text and spans are once the words of `code` are put behind them
pub record Grows (old new : Draft) (code : List ℕ) : Type 0 where
  pub text : new.text.items ≡ old.text.items ++ lowered code
  pub words : words_at new.text.items new.words.items ≡ words_at new.text.items old.words.items ++ split_words (slice_range new.text.items (length old.text.items) (length new.text.items))
  pub spans : All (EndsBy (length new.text.items)) new.words.items

Grows-lower : {old new : Draft} {code : List ℕ} → IsDraft old → Grows old new code → lowered new.text.items ≡ new.text.items
Grows-lower {old} {new} {code} d g =
    rw (g.text, map-append to_ascii_lowercase old.text.items (lowered code), d.lower, lowered-twice code) refl

spans-words : (text : List ℕ) (spans : List Word) → lowered text ≡ text → map (spelled text) spans ≡ words_at text spans
spans-words text spans e = ap (λ t. map (spelled t) spans) (sym e) ∙ spelled-lowered text spans

Grows-code : {old new : Draft} {code : List ℕ} → Grows old new code → split_words (slice_range new.text.items (length old.text.items) (length new.text.items)) ≡ split_words code
Grows-code {old} {new} {code} g =
    let long : length (lowered code) ≤ length new.text.items - length old.text.items = rw (g.text, length-append) (omega arith) in
    ap split_words (ap (λ t. take (length new.text.items - length old.text.items) (drop (length old.text.items) t)) g.text
    ∙ rw (drop_at old.text.items (lowered code) (length old.text.items) refl) (take_all _ (lowered code) long))
    ∙ split_words-lowered code

pub Grows-words : {old new : Draft} {code : List ℕ} → IsDraft old → Grows old new code → draft_words new ≡ draft_words old ++ split_words code
Grows-words {old} {new} {code} d g =
    let lower = Grows-lower d g in
    spans-words new.text.items new.words.items lower ∙ g.words
    ∙ rw (Grows-code g, ← spans-words new.text.items old.words.items lower, g.text, spans-append old.text.items (lowered code) old.words.items d.spans) refl

pub Grows-draft : {old new : Draft} {code : List ℕ} → IsDraft old → All IsAsciiByte code → Grows old new code → IsDraft new
Grows-draft {old} {new} {code} d ascii g = record {
  spans = g.spans;
  words = rw (Grows-words d g) (All-append IsWord (draft_words old) (split_words code) d.words (All-split_words code ascii));
  lower = Grows-lower d g;
}

pub IsDraft-new : (draft : Draft) → draft.text.items ≡ [] → draft.words.items ≡ [] → IsDraft draft
IsDraft-new draft t w = record {
  spans = rw w (All-nil (EndsBy (length draft.text.items)));
  words = rw w (All-nil IsWord);
  lower = rw t refl;
}

pub length-grown : (old new code : List ℕ) → new ≡ old ++ lowered code → length new ≡ length old + length code
length-grown old new code e = rw (e, length-append, length-map) refl

pub Grows-from : (old new : Draft) {code : List ℕ} (text : List ℕ) (from to : ℕ) → text ≡ new.text.items → new.text.items ≡ old.text.items ++ lowered code → from ≡ length old.text.items → to ≡ length new.text.items
    → words_at text new.words.items ≡ words_at text old.words.items ++ split_words (slice_range text from to) → All (EndsBy (length new.text.items)) new.words.items
    → Grows old new code
Grows-from old new text from to same grown f t words spans = record {
  text = grown;
  words = rw (same, f, t) at words;
  spans = spans;
}

pub EndsBy-more : {n m : ℕ} (spans : List Word) → n ≤ m → All (EndsBy n) spans → All (EndsBy m) spans
EndsBy-more {n} {m} spans l h = All-weaker (EndsBy n) (EndsBy m) (λ word ends. record { some = ends.some; within = omega (arith, ends.within) }) spans h

pub on_ok_both : {T E P Q R : Type 0} (r : Result T E) → OnOk r P → OnOk r Q → (P → Q → R) → OnOk r R
on_ok_both (Ok x) p q f = f p q
on_ok_both (Err e) p q f = tt
