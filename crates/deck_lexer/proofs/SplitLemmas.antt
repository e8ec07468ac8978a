-- Words found between separators, one after another.
use Rattle.std.proofs.Common.{◌≡◌, ℕ, ◌+◌, ◌-◌, ◌<◌, ◌≤◌, Bool, true, false, ltb, List, [], ◌∷◌, ◌++◌, length, get_or, take, drop, inl, inr, append-nil, append_assoc, refl, sym, subst, arith, rules, slice_range}
use Rattle.std.specs.List.{All, AllPairs, AllWithin}
use Rattle.std.proofs.lemmas.List.{places, same_lists, map-append, get_or_default, drop_more, drop_all, take_all, length_push}
use Rattle.std.proofs.lemmas.List.Elements.{All-push, All-weaker}
use Rattle.std.proofs.lemmas.List.Quantifiers.{all_pairs_push}
use Rattle.std.proofs.lemmas.Bool.{cases_eq, cases_lt, cond_both, ltb-true, ltb-false}
use Rattle.std.proofs.lemmas.List.Splits.{slice_split_none, slice_split_at}
use Rattle.deck_lexer.specs.declared.word.Word.{Word}
use Rattle.deck_lexer.specs.Words.{is_separator, split_words, lowered, span_between, word_at, words_at, EndsBy, IsBefore, before_comment, begins_comment}

-- the words of a piece without separators
abbrev pub piece_words : List ℕ → List (List ℕ)
piece_words [] = []
piece_words (b ∷ bs) = lowered (b ∷ bs) ∷ []

abbrev pub Unparted : List ℕ → ℕ → ℕ → Type 0
Unparted text from to = AllWithin (λ b. is_separator b ≡ false) text from to

split_words-piece : (piece : List ℕ) → All (λ b. is_separator b ≡ false) piece → split_words piece ≡ piece_words piece
unfolding split_words
split_words-piece [] h = refl
split_words-piece (b ∷ bs) h = rw (slice_split_none is_separator (b ∷ bs) h) refl

split_words-at : (piece : List ℕ) (y : ℕ) (rest : List ℕ) → All (λ b. is_separator b ≡ false) piece → is_separator y ≡ true
    → split_words (piece ++ y ∷ rest) ≡ piece_words piece ++ split_words rest
unfolding split_words
split_words-at [] y rest h e = rw (slice_split_at is_separator [] y rest h e) refl
split_words-at (b ∷ bs) y rest h e = rw (slice_split_at is_separator (b ∷ bs) y rest h e) refl

slice_range-cut : (xs : List ℕ) (from at to : ℕ) (d : ℕ) → from ≤ at → at < to → to ≤ length xs
    → slice_range xs from to ≡ slice_range xs from at ++ get_or xs at d ∷ slice_range xs (at + 1) to
slice_range-cut xs from at to d o l w = same_lists _ _ (search (rules, places)) (λ k e h. grind (arith, places))

slice_range-at : (xs : List ℕ) (from to k d : ℕ) → k < to - from → get_or (slice_range xs from to) k d ≡ get_or xs (from + k) d
slice_range-at xs from to k d l = grind (arith, places)

All-slice_range : (text : List ℕ) (from to : ℕ) → to ≤ length text → Unparted text from to → All (λ b. is_separator b ≡ false) (slice_range text from to)
All-slice_range text from to w h = λ k d l.
    let below : k < to - from = grind (arith, places) in
    rw (slice_range-at text from to k d below) (h (from + k) d (omega arith) (omega arith))

piece_words-some : (piece : List ℕ) → 0 < length piece → piece_words piece ≡ lowered piece ∷ []
piece_words-some [] h = absurd (omega arith)
piece_words-some (b ∷ bs) h = refl

piece_words-none : (piece : List ℕ) → length piece ≡ 0 → piece_words piece ≡ []
piece_words-none [] h = refl
piece_words-none (b ∷ bs) h = absurd (omega arith)

words_at-span : (text : List ℕ) (from to : ℕ) → from ≤ to → to ≤ length text → words_at text (span_between from to) ≡ piece_words (slice_range text from to)
words_at-span text from to o w =
    let long : length (slice_range text from to) ≡ to - from = grind (arith, places) in
    cond_both (ltb from to) _ _ (λ spans. words_at text spans ≡ piece_words (slice_range text from to))
    (λ e. let lt = ltb-true from to e in sym (piece_words-some (slice_range text from to) (omega arith)))
    (λ e. let ge = ltb-false from to e in sym (piece_words-none (slice_range text from to) (omega arith)))

All-EndsBy-span : (end from to : ℕ) (found : List Word) → to ≤ end → All (EndsBy end) found → All (EndsBy end) (found ++ span_between from to)
All-EndsBy-span end from to found o h =
    let EachEnds : List Word → Type 0 = λ spans. All (EndsBy end) (found ++ spans) in
    cond_both (ltb from to) _ _ EachEnds
    (λ e. let lt = ltb-true from to e in All-push (EndsBy end) found _ h (record { some = omega arith; within = omega arith }))
    (λ e. rw (append-nil found) h)

abbrev pub EndsBefore : ℕ → Word → Type 0
EndsBefore place word = word.start + word.len < place

AllPairs-span : (from to : ℕ) (found : List Word) → AllPairs IsBefore found → All (EndsBefore from) found → AllPairs IsBefore (found ++ span_between from to)
AllPairs-span from to found pairs each =
    let Apart : List Word → Type 0 = λ spans. AllPairs IsBefore (found ++ spans) in
    cond_both (ltb from to) _ _ Apart
    (λ e. all_pairs_push IsBefore found _ pairs each)
    (λ e. rw (append-nil found) pairs)

EndsBefore-span : (from to : ℕ) (found : List Word) → from ≤ to → All (EndsBefore from) found → All (EndsBefore (to + 1)) (found ++ span_between from to)
EndsBefore-span from to found o each =
    let later : All (EndsBefore (to + 1)) found = All-weaker (EndsBefore from) (EndsBefore (to + 1)) (λ word ends. omega (arith, ends)) found each in
    let Each : List Word → Type 0 = λ spans. All (EndsBefore (to + 1)) (found ++ spans) in
    cond_both (ltb from to) _ _ Each
    (λ e. let lt = ltb-true from to e in All-push (EndsBefore (to + 1)) found _ later (omega arith))
    (λ e. rw (append-nil found) later)

length-append-span : (from to : ℕ) (found : List Word) → (length (found ++ span_between from to) ≤ length found + 1) × (to ≤ from → length (found ++ span_between from to) ≡ length found)
length-append-span from to found =
    let Grows : List Word → Type 0 = λ spans. (length (found ++ spans) ≤ length found + 1) × (to ≤ from → length (found ++ spans) ≡ length found) in
    cond_both (ltb from to) _ _ Grows
    (λ e. let lt = ltb-true from to e in (rw length_push (omega arith), λ h. absurd (omega arith)))
    (λ e. rw (append-nil found) (omega arith, λ h. refl))

-- `found` has the words of the text from `from` up to the piece that begins at `start`, in which no separator stands before `at`
pub record IsSplitTo (text : List ℕ) (from to : ℕ) (old found : List Word) (start at : ℕ) : Type 0 where
  pub order : start ≤ at
  pub unparted : Unparted text start at
  pub words : words_at text found ++ split_words (slice_range text start to) ≡ words_at text old ++ split_words (slice_range text from to)
  pub few : length found + from ≤ length old + start
  pub apart : AllPairs IsBefore old → All (EndsBefore from) old → AllPairs IsBefore found × All (EndsBefore start) found
  pub spans : (end : ℕ) → to ≤ end → All (EndsBy end) old → All (EndsBy end) found

-- the next byte is no separator
pub IsSplitTo-byte : {text : List ℕ} {from to : ℕ} {old found : List Word} {start at : ℕ}
    → IsSplitTo text from to old found start at → is_separator (get_or text at 0) ≡ false → at < length text → IsSplitTo text from to old found start (at + 1)
IsSplitTo-byte {text} {from} {to} {old} {found} {start} {at} h e l = record {
  order = omega arith;
  unparted = λ k d s b.
      elim (cases_eq k at) [
        | inl same ↦ rw (same, get_or_default text at d 0 l) e
        | inr other ↦ h.unparted k d s (omega arith)
      ];
  words = h.words;
  few = h.few;
  apart = h.apart;
  spans = h.spans;
}

-- the words of a piece and of what follows it
split_words-cut : (text : List ℕ) (start at to : ℕ) → start ≤ at → at < to → to ≤ length text → Unparted text start at → is_separator (get_or text at 0) ≡ true
    → split_words (slice_range text start to) ≡ words_at text (span_between start at) ++ split_words (slice_range text (at + 1) to)
split_words-cut text start at to o l w u e =
    rw (slice_range-cut text start at to 0 o l w, split_words-at (slice_range text start at) (get_or text at 0) (slice_range text (at + 1) to) (All-slice_range text start at (omega arith) u) e, words_at-span text start at o (omega arith)) refl

-- the next byte is a separator: the piece ends there
pub IsSplitTo-separator : {text : List ℕ} {from to : ℕ} {old found : List Word} {start at : ℕ}
    → IsSplitTo text from to old found start at → is_separator (get_or text at 0) ≡ true → at < to → to ≤ length text
    → IsSplitTo text from to old (found ++ span_between start at) (at + 1) (at + 1)
IsSplitTo-separator {text} {from} {to} {old} {found} {start} {at} h e l w = record {
  order = omega arith;
  unparted = λ k d s b. absurd (omega arith);
  words = rw (map-append (word_at text) found (span_between start at), append_assoc, ← split_words-cut text start at to h.order l w h.unparted e) h.words;
  few = let one = length-append-span start at found in omega arith;
  apart = λ pairs each.
      let before = h.apart pairs each in
      (AllPairs-span start at found before.0 before.1, EndsBefore-span start at found h.order before.1);
  spans = λ end o each. All-EndsBy-span end start at found (omega arith) (h.spans end o each);
}

-- the text ends, and the last piece with it
pub IsSplitTo-end : {text : List ℕ} {from to : ℕ} {old found new : List Word} {start : ℕ} (at : ℕ)
    → IsSplitTo text from to old found start at → at ≡ to → to ≤ length text → new ≡ found ++ span_between start to
    → words_at text new ≡ words_at text old ++ split_words (slice_range text from to)
IsSplitTo-end {text} {from} {to} {old} {found} {new} {start} at h same w e =
    let unparted : Unparted text start to = subst (λ n. Unparted text start n) same h.unparted in
    rw (e, map-append (word_at text) found (span_between start to), words_at-span text start to (omega arith) w, ← split_words-piece (slice_range text start to) (All-slice_range text start to w unparted)) h.words

pub IsSplitTo-few : {text : List ℕ} {from to : ℕ} {old found new : List Word} {start : ℕ} (at : ℕ)
    → IsSplitTo text from to old found start at → at ≡ to → new ≡ found ++ span_between start to → length new + from ≤ length old + to
IsSplitTo-few {from = from} {to = to} {old = old} {found = found} {start = start} at h same e =
    let grown = length-append-span start to found in
    rw e (elim (cases_lt start to) [
      | inl lt ↦ omega (arith, grown.0, h.few)
      | inr ge ↦ omega (arith, grown.1 ge, h.few, h.order)
    ])

pub IsSplitTo-apart : {text : List ℕ} {from to : ℕ} {old found new : List Word} {start : ℕ} (at : ℕ)
    → IsSplitTo text from to old found start at → AllPairs IsBefore old → All (EndsBefore from) old → new ≡ found ++ span_between start to → AllPairs IsBefore new
IsSplitTo-apart {to = to} {found = found} {start = start} at h pairs each e =
    let before = h.apart pairs each in
    rw e (AllPairs-span start to found before.0 before.1)

pub IsSplitTo-spans : {text : List ℕ} {from to : ℕ} {old found new : List Word} {start : ℕ} (at : ℕ)
    → IsSplitTo text from to old found start at → (end : ℕ) → to ≤ end → All (EndsBy end) old → new ≡ found ++ span_between start to → All (EndsBy end) new
IsSplitTo-spans {to = to} {found = found} {start = start} at h end o each e = rw e (All-EndsBy-span end start to found o (h.spans end o each))

-- how far the comment was looked for
pub before_comment-stop : (line : List ℕ) (i : ℕ) (after_blank : Bool) → before_comment true line ≡ take i line ++ before_comment after_blank (drop i line)
    → i < length line → begins_comment after_blank (get_or line i 0) ≡ true → take i line ≡ before_comment true line
before_comment-stop line i after_blank h l e =
    let here : before_comment after_blank (drop i line) ≡ [] = rw (drop_more line i 0 l, e) refl in
    rw (h, here, append-nil) refl

pub before_comment-end : (line : List ℕ) (i : ℕ) (after_blank : Bool) → before_comment true line ≡ take i line ++ before_comment after_blank (drop i line)
    → length line ≤ i → line ≡ before_comment true line
before_comment-end line i after_blank h l = rw (h, take_all i line l, drop_all i line l, append-nil) refl
