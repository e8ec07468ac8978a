-- The first line of a text, and the lines after it.
use Rattle.std.proofs.Common.{◌≡◌, ℕ, ◌+◌, ◌-◌, ◌<◌, ◌≤◌, false, List, [], ◌∷◌, length, get_or, take, drop, refl, sym, inl, inr, arith, slice_range}
use Rattle.std.specs.List.{slice_split, All, position_or_len, after_first, enumerate_from}
use Rattle.std.proofs.lemmas.List.{take_all, drop_all, take_rest, drop-drop, length-drop}
use Rattle.std.proofs.lemmas.List.Sums.{fails_before_first, position_or_len_is}
use Rattle.std.proofs.lemmas.List.Splits.{slice_split_none, slice_split_first, length-slice_split}
use Rattle.std.proofs.lemmas.Bool.{cases_lt}
use Rattle.deck_lexer.specs.Lines.{lines_of, without_empty_last, ends_line}

-- a piece that others follow is a line
without_empty_last-first : (piece : List ℕ) (pieces : List (List ℕ)) → 0 < length pieces → without_empty_last (piece ∷ pieces) ≡ piece ∷ without_empty_last pieces
without_empty_last-first piece [] h = absurd (omega arith)
without_empty_last-first piece (next ∷ more) h = refl

one_line : (text : List ℕ) → 0 < length text → without_empty_last (text ∷ []) ≡ text ∷ []
one_line [] h = absurd (omega arith)
one_line (b ∷ bs) h = refl

pub lines_of-nil : lines_of [] ≡ []
unfolding lines_of
lines_of-nil = refl

pub lines_of-first : (text : List ℕ) → 0 < length text
    → lines_of text ≡ take (position_or_len ends_line text) text ∷ lines_of (drop (position_or_len ends_line text + 1) text)
unfolding lines_of
lines_of-first text some = elim (cases_lt (position_or_len ends_line text) (length text)) [
  | inl lt ↦
      let more : 0 < length (slice_split ends_line (after_first ends_line text)) = rw length-slice_split (omega arith) in
      rw (slice_split_first ends_line text 0 lt, without_empty_last-first _ _ more) refl
  | inr ge ↦
      let none : All (λ b. ends_line b ≡ false) text = λ k d l. fails_before_first ends_line text k d (omega arith) in
      rw (slice_split_none ends_line text none, one_line text some, take_all _ text ge, drop_all (position_or_len ends_line text + 1) text (omega arith)) refl
]

-- the same from a place on, where n bytes stand before the first LF
pub lines_of-at : (text : List ℕ) (start n : ℕ) → start < length text → n ≡ position_or_len ends_line (take (length text - start) (drop start text))
    → lines_of (drop start text) ≡ slice_range text start (start + n) ∷ lines_of (drop (start + n + 1) text)
lines_of-at text start n some e =
    let here : n ≡ position_or_len ends_line (drop start text) = rw take_rest at e in
    let more : 0 < length (drop start text) = rw length-drop (omega arith) in
    let first = lines_of-first (drop start text) more in
    let same : start + n - start ≡ n = omega arith in
    let next : start + (n + 1) ≡ start + n + 1 = omega arith in
    rw (first, ← here, drop-drop (n + 1) start text, next, same) refl

pub line_len-at : (text : List ℕ) (i : ℕ) → i < length text → ((k : ℕ) → k < i → ends_line (get_or text k 0) ≡ false) → get_or text i 0 ≡ 10 → i ≡ position_or_len ends_line text
line_len-at text i l before here = sym (position_or_len_is ends_line text i 0 (omega arith) before (λ h. rw here refl))

pub line_len-none : (text : List ℕ) (i : ℕ) → length text ≤ i → ((k : ℕ) → k < i → ends_line (get_or text k 0) ≡ false) → length text ≡ position_or_len ends_line text
line_len-none text i l before = sym (position_or_len_is ends_line text (length text) 0 (omega arith) (λ k b. before k (omega arith)) (λ h. absurd (omega arith)))

-- behind the end of a text there is no line
pub no_lines : (text : List ℕ) (start number : ℕ) → length text ≤ start → enumerate_from number (lines_of (drop start text)) ≡ []
no_lines text start number h = rw (drop_all start text h, lines_of-nil) refl
