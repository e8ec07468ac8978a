-- The cards of a deck while its lines are read.
use Rattle.std.specs.Prelude.{◌≡◌, ℕ, ◌<◌, false, true, List, [], ◌∷◌, ◌++◌, length, Option, Some, None, option_map, IfSome, IsSome}
use Rattle.deck_lexer.specs.declared.pending.Pending.{Pending}
use Rattle.deck_lexer.specs.declared.pending.Step.{Step}
use Rattle.deck_lexer.specs.declared.pending.Step.TheVariants.{Next, End, Fault}
use Rattle.deck_lexer.specs.declared.fault.LexFault.TheVariants.{ContinuesNothing}
use Rattle.deck_lexer.specs.Lines.{Line, is_empty}
use Rattle.deck_lexer.specs.Cards.{Card, kind_by_words, with_words, with_line}
use Rattle.deck_lexer.specs.Reading.{is_end, fault_of, ends_deck, line_of}
use Rattle.deck_lexer.specs.Draft.{draft_card, IsDraft}

abbrev pub listed : {A : Type 0} → Option A → List A
listed None = []
listed (Some x) = x ∷ []

abbrev pub pending_cards : Pending → List Card
pending_cards pending = listed pending.whole ++ listed (option_map draft_card pending.last)

-- how many bytes the last card has so far
abbrev pub last_len : Pending → ℕ
last_len pending = elim pending.last [ None ↦ 0 | Some draft ↦ length draft.text.items ]

-- each card has a word, and one is whole only where another has begun
pub record IsPending (pending : Pending) : Type 0 where
  pub last : IfSome pending.last (λ draft. IsDraft draft × (0 < length draft.words.items))
  pub whole : IfSome pending.whole (λ card. (0 < length card.words) × IsSome pending.last)

-- the cards with one more, unless it has no words
abbrev pub with_card : List Card → ℕ → List (List ℕ) → List Card
with_card cards number [] = cards
with_card cards number (word ∷ words) = cards ++ record { line = number; words = word ∷ words } ∷ []

-- what the words of a line that begins a card make of the cards
abbrev pub AddsCard : List Card → ℕ → List (List ℕ) → Step → List Card → Type 0
AddsCard cards number words Next new = (is_end (kind_by_words words) ≡ false) × (new ≡ with_card cards number words)
AddsCard cards number words End new = (is_end (kind_by_words words) ≡ true) × (new ≡ cards)
AddsCard cards number words (Fault fault) new = ⊥

-- what the words of a continuation make of the cards
abbrev pub ContinuesCard : List Card → ℕ → List (List ℕ) → Step → List Card → Type 0
ContinuesCard cards number words Next new = (is_empty cards ≡ false) × (new ≡ with_words cards words)
ContinuesCard cards number words End new = ⊥
ContinuesCard cards number words (Fault fault) new = (is_empty cards ≡ true) × (fault ≡ ContinuesNothing number) × (new ≡ cards)

-- what a line makes of the cards
abbrev pub ReadsLine : List Card → Line → Step → List Card → Type 0
ReadsLine cards line Next new = (fault_of cards line ≡ None) × (ends_deck line ≡ false) × (new ≡ with_line cards line)
ReadsLine cards line End new = (fault_of cards line ≡ None) × (ends_deck line ≡ true) × (new ≡ cards)
ReadsLine cards line (Fault fault) new = (fault_of cards line ≡ Some fault) × (line_of fault ≡ line.0) × (new ≡ cards)
