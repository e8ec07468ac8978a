-- What is left of a deck while it is read card by card.
use Rattle.std.specs.Prelude.{◌≡◌, ℕ, ◌+◌, Bool, List, [], ◌∷◌, if◌then◌else◌, Option, Some, None, Result, Ok, Err}
use Rattle.deck_lexer.specs.declared.fault.LexFault.{LexFault}
use Rattle.deck_lexer.specs.declared.fault.LexFault.TheVariants.{NoEnd}
use Rattle.deck_lexer.specs.declared.lexer.Next.{Next}
use Rattle.deck_lexer.specs.declared.lexer.Next.TheVariants as next
use Rattle.deck_lexer.specs.Cards.{Card, with_line}
use Rattle.deck_lexer.specs.Reading.{fault_of, ends_deck}

-- the cards that are still to come, the number of the line that ends the deck, or 0, and what is wrong with the text
pub record Left : Type 0 where
  pub cards : List Card
  pub end : ℕ
  pub fault : Option LexFault

-- a card comes first, or none is left and the deck ends so; what is left then is the rest
abbrev pub Hands : Left → Next → Left → Type 0
Hands old (next.Card card) new = (old.cards ≡ card ∷ new.cards) × (new.end ≡ old.end) × (new.fault ≡ old.fault)
Hands old (next.Over (Ok line)) new = (old.cards ≡ []) × (old.end ≡ line) × (old.fault ≡ None) × (new ≡ old)
Hands old (next.Over (Err fault)) new = (old.cards ≡ []) × (old.end ≡ 0) × (old.fault ≡ Some fault) × (new ≡ old)

-- these cards, where the deck ends so
abbrev pub over : List Card → Result ℕ LexFault → Left
over cards (Ok line) = record { cards = cards; end = line; fault = None }
over cards (Err fault) = record { cards = cards; end = 0; fault = Some fault }

-- what is left in front of a line of this number: these cards, where it has this fault or ends the deck, and else the rest
abbrev pub from_line : List Card → ℕ → Option LexFault → Bool → Left → Left
from_line cards number (Some fault) ends rest = over cards (Err fault)
from_line cards number None ends rest = if ends then over cards (Ok number) else rest

-- these cards and those of the lines that follow the first n
abbrev pub left : List Card → ℕ → List (List ℕ) → Left
left cards n [] = over cards (Err (NoEnd n))
left cards n (line ∷ lines) =
    from_line cards (n + 1) (fault_of cards (n + 1, line)) (ends_deck (n + 1, line)) (left (with_line cards (n + 1, line)) (n + 1) lines)
