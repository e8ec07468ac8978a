-- The words of a text whose bytes are below 128.
use Rattle.std.proofs.Common.{◌≡◌, ℕ, ◌<◌, ◌≤◌, Bool, true, false, not, List, [], ◌∷◌, length, get_or, drop, map, refl, ap, sym, arith, ◌+◌, ◌∙◌, ◌⊎◌, inl, inr}
use Rattle.std.specs.List.{slice_split, onto_first, All, filter}
use Rattle.std.specs.Char.{to_ascii_lowercase}
use Rattle.std.proofs.lemmas.List.{take-map, drop-map}
use Rattle.std.proofs.lemmas.List.Elements.{All-cons, All-nil, All-head, All-tail, All-map}
use Rattle.std.proofs.lemmas.Bool.{cond_both, cases_Bool, cases_lt}
use Rattle.std.proofs.lemmas.List.Splits.{slice_split-cons_yes, slice_split-cons_no}
use Rattle.deck_lexer.specs.declared.word.Word.{Word}
use Rattle.deck_lexer.specs.Lines.{is_empty}
use Rattle.deck_lexer.specs.Words.{is_separator, split_words, lowered, spelled, words_at, IsWord, code_of, before_comment, begins_comment, is_blank}

abbrev pub IsAsciiByte : ℕ → Type 0
IsAsciiByte b = b < 128

lower_byte-ascii : (b : ℕ) → b < 128 → to_ascii_lowercase b < 128
lower_byte-ascii b h = grind arith

lower_byte-twice : (b : ℕ) → to_ascii_lowercase (to_ascii_lowercase b) ≡ to_ascii_lowercase b
lower_byte-twice b = grind arith

pub lowered-twice : (word : List ℕ) → lowered (lowered word) ≡ lowered word
lowered-twice [] = refl
lowered-twice (b ∷ bs) = rw (lower_byte-twice b, lowered-twice bs) refl

-- ---- lowering moves no separator

lower_byte-other : (b : ℕ) → (b < 65) ⊎ (90 < b) → to_ascii_lowercase b ≡ b
lower_byte-other b h = grind arith

separator-letter : (b : ℕ) → 65 ≤ b → b ≤ 122 → is_separator b ≡ false
separator-letter b least most = grind arith

separator-lowered : (b : ℕ) → is_separator (to_ascii_lowercase b) ≡ is_separator b
separator-lowered b = elim (cases_lt b 65) [
  | inl small ↦ ap is_separator (lower_byte-other b (inl small))
  | inr least ↦ elim (cases_lt 90 b) [
    | inl large ↦ ap is_separator (lower_byte-other b (inr large))
    | inr most ↦
        let lower : to_ascii_lowercase b ≡ b + 32 = grind arith in
        rw lower (separator-letter (b + 32) (omega arith) (omega arith) ∙ sym (separator-letter b (omega arith) (omega arith)))
  ]
]

onto_first-lowered : (b : ℕ) (pieces : List (List ℕ)) → onto_first (to_ascii_lowercase b) (map lowered pieces) ≡ map lowered (onto_first b pieces)
onto_first-lowered b [] = refl
onto_first-lowered b (piece ∷ pieces) = refl

slice_split-lowered : (text : List ℕ) → slice_split is_separator (lowered text) ≡ map lowered (slice_split is_separator text)
slice_split-lowered [] = refl
slice_split-lowered (b ∷ bs) =
    let more = slice_split-lowered bs in
    elim (cases_Bool (is_separator b)) [
      | inl e ↦
          rw (slice_split-cons_yes is_separator b bs e, slice_split-cons_yes is_separator (to_ascii_lowercase b) (lowered bs) (separator-lowered b ∙ e), more) refl
      | inr e ↦
          rw (slice_split-cons_no is_separator b bs e, slice_split-cons_no is_separator (to_ascii_lowercase b) (lowered bs) (separator-lowered b ∙ e), more) (onto_first-lowered b (slice_split is_separator bs))
    ]

pieces-lowered : (pieces : List (List ℕ)) → map lowered (filter (λ piece. not (is_empty piece)) (map lowered pieces)) ≡ map lowered (filter (λ piece. not (is_empty piece)) pieces)
pieces-lowered [] = refl
pieces-lowered ([] ∷ pieces) = pieces-lowered pieces
pieces-lowered ((b ∷ bs) ∷ pieces) = rw (lowered-twice (b ∷ bs), pieces-lowered pieces) refl

pub split_words-lowered : (text : List ℕ) → split_words (lowered text) ≡ split_words text
unfolding split_words
split_words-lowered text = rw (slice_split-lowered text) (pieces-lowered (slice_split is_separator text))

-- ---- words

All-onto_first : (P : ℕ → Type 0) (b : ℕ) (pieces : List (List ℕ)) → P b → All (All P) pieces → All (All P) (onto_first b pieces)
All-onto_first P b [] h each = All-cons (All P) (b ∷ []) [] (All-cons P b [] h (All-nil P)) (All-nil (All P))
All-onto_first P b (piece ∷ pieces) h each =
    All-cons (All P) (b ∷ piece) pieces (All-cons P b piece h (All-head (All P) piece pieces each)) (All-tail (All P) piece pieces each)

All-slice_split : (P : ℕ → Type 0) (test : ℕ → Bool) (text : List ℕ) → All P text → All (All P) (slice_split test text)
All-slice_split P test [] h = All-cons (All P) [] [] (All-nil P) (All-nil (All P))
All-slice_split P test (b ∷ bs) h =
    let more = All-slice_split P test bs (All-tail P b bs h) in
    cond_both (test b) _ _ (All (All P))
    (λ e. All-cons (All P) [] _ (All-nil P) more)
    (λ e. All-onto_first P b _ (All-head P b bs h) more)

-- a piece with a byte, all of them below 128, is a word in lower case
IsWord-lowered : (piece : List ℕ) → is_empty piece ≡ false → All IsAsciiByte piece → IsWord (lowered piece)
IsWord-lowered [] e h = absurd (cc)
IsWord-lowered (b ∷ bs) e h = record {
  some = omega arith;
  ascii = All-map IsAsciiByte to_ascii_lowercase (b ∷ bs) (λ k d l. lower_byte-ascii (get_or (b ∷ bs) k d) (h k d l));
  lower = lowered-twice (b ∷ bs);
}

words_of_pieces : (pieces : List (List ℕ)) → All (All IsAsciiByte) pieces → All IsWord (map lowered (filter (λ piece. not (is_empty piece)) pieces))
words_of_pieces [] h = All-nil IsWord
words_of_pieces ([] ∷ pieces) h = words_of_pieces pieces (All-tail (All IsAsciiByte) [] pieces h)
words_of_pieces ((b ∷ bs) ∷ pieces) h =
    All-cons IsWord (lowered (b ∷ bs)) _ (IsWord-lowered (b ∷ bs) refl (All-head (All IsAsciiByte) (b ∷ bs) pieces h)) (words_of_pieces pieces (All-tail (All IsAsciiByte) (b ∷ bs) pieces h))

pub All-split_words : (text : List ℕ) → All IsAsciiByte text → All IsWord (split_words text)
unfolding split_words
All-split_words text h = words_of_pieces (slice_split is_separator text) (All-slice_split IsAsciiByte is_separator text h)

-- a span of the lowered text spells the word of the span
pub spelled-lowered : (text : List ℕ) (spans : List Word) → map (spelled (lowered text)) spans ≡ words_at text spans
spelled-lowered text [] = refl
spelled-lowered text (span ∷ spans) =
    rw (spelled-lowered text spans, drop-map to_ascii_lowercase span.start text, take-map to_ascii_lowercase span.len (drop span.start text)) refl

-- the bytes before a comment are among those of the line
All-before_comment : (P : ℕ → Type 0) (after_blank : Bool) (line : List ℕ) → All P line → All P (before_comment after_blank line)
All-before_comment P after_blank [] h = h
All-before_comment P after_blank (b ∷ bs) h =
    cond_both (begins_comment after_blank b) _ _ (All P)
    (λ e. All-nil P)
    (λ e. All-cons P b _ (All-head P b bs h) (All-before_comment P (is_blank b) bs (All-tail P b bs h)))

length-before_comment : (after_blank : Bool) (line : List ℕ) → length (before_comment after_blank line) ≤ length line
length-before_comment after_blank [] = omega arith
length-before_comment after_blank (b ∷ bs) =
    cond_both (begins_comment after_blank b) _ _ (λ xs. length xs ≤ length (b ∷ bs))
    (λ e. omega arith)
    (λ e. omega (arith, length-before_comment (is_blank b) bs))

pub All-code_of : (line : List ℕ) → All IsAsciiByte line → All IsAsciiByte (code_of line)
unfolding code_of
All-code_of line h = All-before_comment IsAsciiByte true line h

pub length-code_of : (line : List ℕ) → length (code_of line) ≤ length line
unfolding code_of
length-code_of line = length-before_comment true line
