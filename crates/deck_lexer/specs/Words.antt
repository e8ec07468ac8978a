-- The words of a line.
use Rattle.std.specs.Prelude.{◌≡◌, All, ℕ, ◌+◌, ◌-◌, nat_lt, ◌<◌, ◌≤◌, Bool, true, not, ◌&&◌, ◌||◌, ◌==◌, List, [], ◌∷◌, map, filter, take, drop, if◌then◌else◌, length}
use Rattle.std.specs.List.{slice_split}
use Rattle.std.specs.Char.{to_ascii_lowercase}
use Rattle.deck_lexer.specs.declared.word.Word.{Word}
use Rattle.deck_lexer.specs.Bytes.{tab, carriage_return, space, dollar, left_parenthesis, right_parenthesis, comma, semicolon, equals_sign}
use Rattle.deck_lexer.specs.Lines.{is_empty}

-- A tab and a CR count as a blank.
abbrev pub is_blank : ℕ → Bool
is_blank b = (b == space) || (b == tab) || (b == carriage_return)

-- What stands between words is a blank, a comma, `=`, `(` or `)`.
abbrev pub is_separator : ℕ → Bool
is_separator b = is_blank b || (b == comma) || (b == equals_sign) || (b == left_parenthesis) || (b == right_parenthesis)

-- The text in lower case.
abbrev pub lowered : List ℕ → List ℕ
lowered text = map to_ascii_lowercase text

-- The words of a text without comments: the longest runs of bytes that are no separators, in lower case.
unfoldable pub split_words : List ℕ → List (List ℕ)
split_words text = map lowered (filter (λ piece. not (is_empty piece)) (slice_split is_separator text))

-- A `;` begins a comment, and so does a `$` that stands first or after a blank.
abbrev pub begins_comment : Bool → ℕ → Bool
begins_comment after_blank b = (b == semicolon) || ((b == dollar) && after_blank)

-- What stands before the comment; `after_blank` says whether the text stands first or after a blank.
abbrev pub before_comment : Bool → List ℕ → List ℕ
before_comment after_blank [] = []
before_comment after_blank (b ∷ bs) = if begins_comment after_blank b then [] else b ∷ before_comment (is_blank b) bs

-- The bytes of a line before its comment.
unfoldable pub code_of : List ℕ → List ℕ
code_of line = before_comment true line

-- The words of a line, of which the comment is taken away first.
abbrev pub words_of : List ℕ → List (List ℕ)
words_of line = split_words (code_of line)

-- The bytes that a word of the text stands for.
abbrev pub spelled : List ℕ → Word → List ℕ
spelled text word = take word.len (drop word.start text)

-- The same in lower case.
abbrev pub word_at : List ℕ → Word → List ℕ
word_at text word = lowered (spelled text word)

-- The words that these spans stand for.
abbrev pub words_at : List ℕ → List Word → List (List ℕ)
words_at text spans = map (word_at text) spans

-- A word of a card: it has a byte, each byte is below 128, and no letter is a capital.
pub record IsWord (word : List ℕ) : Type 0 where
  pub some : 0 < length word
  pub ascii : All (λ b. b < 128) word
  pub lower : lowered word ≡ word

-- A span of at least one byte that ends at or before this place.
pub record EndsBy (place : ℕ) (word : Word) : Type 0 where
  pub some : 0 < word.len
  pub within : word.start + word.len ≤ place

-- A word ends before the next one begins, and a byte stands between them.
abbrev pub IsBefore : Word → Word → Type 0
IsBefore word next = word.start + word.len < next.start

-- The span from start to end, unless it is empty.
abbrev pub span_between : ℕ → ℕ → List Word
span_between start end = if nat_lt start end then record { start = start; len = end - start } ∷ [] else []
