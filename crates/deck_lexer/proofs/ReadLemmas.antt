-- What a line of each kind makes of the cards.
use Rattle.std.proofs.Common.{◌≡◌, ℕ, ◌<◌, Bool, true, false, List, [], ◌∷◌, length, refl, ap, ◌∙◌, arith, eqb, codes, bytes_eq, None, inl, inr, if◌then◌else◌}
use Rattle.std.specs.List.{All, list_all}
use Rattle.std.proofs.lemmas.List.Elements.{All-cons, All-nil}
use Rattle.std.proofs.lemmas.Bool.{and_parts, eqb-true, cases_Bool, true≢false, false≢true}
use Rattle.deck_lexer.specs.declared.pending.Step.{Step}
use Rattle.deck_lexer.specs.declared.pending.Step.TheVariants.{Next, End, Fault}
use Rattle.deck_lexer.specs.declared.fault.LexFault.TheVariants.{NotAscii}
use Rattle.deck_lexer.specs.Words.{words_of, code_of}
use Rattle.deck_lexer.specs.Cards.{Card, title, comment, continuation, end, new_card, begins_with, kind_by_words, kind_of, with_words, with_line_of, continued_words}
use Rattle.deck_lexer.specs.Reading.{is_allowed, is_looked_at, is_end, fault_by_kind}
use Rattle.deck_lexer.specs.Pending.{AddsCard, ContinuesCard, ReadsLine, with_card}
use Rattle.deck_lexer.proofs.WordLemmas.{IsAsciiByte}

kind_of-title : (number : ℕ) (line : List ℕ) → number ≡ 1 → kind_of (number, line) ≡ title
unfolding kind_of
kind_of-title number line e = rw e refl

kind_of-comment : (number : ℕ) (line : List ℕ) → eqb number 1 ≡ false → begins_with 42 line ≡ true → kind_of (number, line) ≡ comment
unfolding kind_of
kind_of-comment number line e s = rw (e, s) refl

kind_of-continuation : (number : ℕ) (line : List ℕ) → eqb number 1 ≡ false → begins_with 42 line ≡ false → begins_with 43 line ≡ true → kind_of (number, line) ≡ continuation
unfolding kind_of
kind_of-continuation number line e s p = rw (e, s, p) refl

kind_of-words : (number : ℕ) (line : List ℕ) → eqb number 1 ≡ false → begins_with 42 line ≡ false → begins_with 43 line ≡ false → kind_of (number, line) ≡ kind_by_words (words_of line)
unfolding kind_of
kind_of-words number line e s p = rw (e, s, p) refl

pub ReadsLine-title : (cards : List Card) (number : ℕ) (line : List ℕ) → number ≡ 1 → ReadsLine cards (number, line) Next cards
ReadsLine-title cards number line e = rw (kind_of-title number line e) (refl, refl, refl)

pub ReadsLine-comment : (cards : List Card) (number : ℕ) (line : List ℕ) → eqb number 1 ≡ false → begins_with 42 line ≡ true → ReadsLine cards (number, line) Next cards
ReadsLine-comment cards number line e s = rw (kind_of-comment number line e s) (refl, refl, refl)

-- which lines are looked at
pub record IsLookedAt (number : ℕ) (line : List ℕ) : Type 0 where
  pub number_is : eqb number 1 ≡ false
  pub begins : begins_with 42 line ≡ false

looked_at-words : (words : List (List ℕ)) → is_looked_at (kind_by_words words) ≡ true
looked_at-words [] = refl
looked_at-words (word ∷ words) = go (bytes_eq word (codes ".end"))
  where
    go : (b : Bool) → is_looked_at (if b then end else new_card) ≡ true
    go true = refl
    go false = refl

looked_at : (number : ℕ) (line : List ℕ) → IsLookedAt number line → is_looked_at (kind_of (number, line)) ≡ true
looked_at number line h = elim (cases_Bool (begins_with 43 line)) [
  | inl p ↦ rw (kind_of-continuation number line h.number_is h.begins p) refl
  | inr p ↦ rw (kind_of-words number line h.number_is h.begins p) (looked_at-words (words_of line))
]

pub ReadsLine-not_ascii : (cards : List Card) (number : ℕ) (line : List ℕ) → IsLookedAt number line → list_all is_allowed line ≡ false
    → ReadsLine cards (number, line) (Fault (NotAscii number)) cards
ReadsLine-not_ascii cards number line h bad = (rw (looked_at number line h, bad) refl, refl, refl)

-- a line that begins with `+`, with no byte that is not allowed
pub ReadsLine-continuation : (cards : List Card) (number : ℕ) (line : List ℕ) (words : List (List ℕ)) → IsLookedAt number line → list_all is_allowed line ≡ true → begins_with 43 line ≡ true
    → words ≡ continued_words line → (step : Step) (new : List Card) → ContinuesCard cards number words step new → ReadsLine cards (number, line) step new
ReadsLine-continuation cards number line words h good p e Next new r =
    rw (kind_of-continuation number line h.number_is h.begins p, good, r.0) (refl, refl, r.1 ∙ ap (with_words cards) e)
ReadsLine-continuation cards number line words h good p e End new r = absurd r
ReadsLine-continuation cards number line words h good p e (Fault fault) new r =
    rw (kind_of-continuation number line h.number_is h.begins p, good, r.0, r.1) (refl, refl, r.2)

words_next : (cards : List Card) (number : ℕ) (line : List ℕ) (words : List (List ℕ)) → words ≡ words_of line → list_all is_allowed line ≡ true → is_end (kind_by_words words) ≡ false
    → (fault_by_kind (kind_by_words words) cards (number, line) ≡ None) × (with_card cards number words ≡ with_line_of (kind_by_words words) cards (number, line))
words_next cards number line [] e good goes_on = (rw good refl, refl)
words_next cards number line (word ∷ words) e good goes_on = go (bytes_eq word (codes ".end")) goes_on
  where
    go : (b : Bool) → is_end (if b then end else new_card) ≡ false
        → (fault_by_kind (if b then end else new_card) cards (number, line) ≡ None) × (with_card cards number (word ∷ words) ≡ with_line_of (if b then end else new_card) cards (number, line))
    go true x = absurd (true≢false x)
    go false x = (rw good refl, rw e refl)

words_end : (cards : List Card) (number : ℕ) (line : List ℕ) (words : List (List ℕ)) → list_all is_allowed line ≡ true → is_end (kind_by_words words) ≡ true
    → fault_by_kind (kind_by_words words) cards (number, line) ≡ None
words_end cards number line [] good ends = absurd (false≢true ends)
words_end cards number line (word ∷ words) good ends = go (bytes_eq word (codes ".end")) ends
  where
    go : (b : Bool) → is_end (if b then end else new_card) ≡ true → fault_by_kind (if b then end else new_card) cards (number, line) ≡ None
    go true x = rw good refl
    go false x = absurd (false≢true x)

-- another line, with no byte that is not allowed
pub ReadsLine-words : (cards : List Card) (number : ℕ) (line : List ℕ) (words : List (List ℕ)) → IsLookedAt number line → list_all is_allowed line ≡ true → begins_with 43 line ≡ false
    → words ≡ words_of line → (step : Step) (new : List Card) → AddsCard cards number words step new → ReadsLine cards (number, line) step new
ReadsLine-words cards number line words h good p e Next new r =
    let next = words_next cards number line words e good r.0 in
    rw (kind_of-words number line h.number_is h.begins p, ← e) (next.0, r.0, r.1 ∙ next.1)
ReadsLine-words cards number line words h good p e End new r =
    rw (kind_of-words number line h.number_is h.begins p, ← e) (words_end cards number line words good r.0, r.0, r.1)
ReadsLine-words cards number line words h good p e (Fault fault) new r = absurd r

pub All-allowed : (line : List ℕ) → list_all is_allowed line ≡ true → All IsAsciiByte line
All-allowed [] h = All-nil IsAsciiByte
All-allowed (b ∷ bs) h =
    let both = and_parts (is_allowed b) (list_all is_allowed bs) h in
    All-cons IsAsciiByte b bs (grind (arith, both.0)) (All-allowed bs both.1)

-- the `+` of a continuation is no comment
pub length-code_of-plus : (line : List ℕ) → begins_with 43 line ≡ true → 0 < length (code_of line)
unfolding code_of
length-code_of-plus [] h = absurd (cc)
length-code_of-plus (b ∷ bs) h = rw (eqb-true b 43 h) (omega arith)
