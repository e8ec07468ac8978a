-- What the body knows of cards without a fault: they leave only causes of nodes to the whole deck. It defines nothing of a deck.
use Rattle.std.specs.Prelude.{◌≡◌, ℕ, Bool, List, Some, None, ◌⊎◌}
use Rattle.deck_cards.specs.declared.edit_refusal.EditRefusal.{EditRefusal}
use Rattle.deck_cards.specs.Causes.{deck_cause}
use Rattle.deck_cards.specs.Settled.{settled}
use Rattle.deck_reader.specs.declared.why.DeckRefusal.{DeckRefusal}
use Rattle.deck_reader.specs.declared.why.DeckWhy.TheVariants.{Memory}
use Rattle.deck_reader.specs.declared.told.Told.{Told}
use Rattle.deck_reader.specs.Words.{Word}
use Rattle.deck_reader.specs.Reading.{at, no_such_model, told_deck, node_cause, node_refusal}

-- no part and no initial voltage stands twice, and where no part is missing, the first cause why the cards make no valid deck is one of a node
pub record IsSound (told : Told) : Type 0 where
  pub once : (title : List ℕ) (span : ℕ × Bool) → settled (told_deck title told span) ≡ told_deck title told span
  pub nodes_alone : (title : List ℕ) (span : ℕ × Bool) → told.span ≡ Some span → no_such_model told ≡ None
      → deck_cause (told_deck title told span) ≡ node_cause (told_deck title told span)

-- the refusal of a cause of a node, at the line that the node has, or want of memory
abbrev pub Tells : DeckRefusal → (Word → ℕ) → EditRefusal → Type 0
Tells refusal line cause = (refusal ≡ at 0 Memory) ⊎ (node_refusal line cause ≡ Some refusal)
