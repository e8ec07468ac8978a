-- The causes of a whole deck, in the three parts in which they are looked for.
use Rattle.std.proofs.Common.{◌≡◌, Option, Some, None, refl}
use Rattle.std.specs.Option.{option_or}
use Rattle.semantics.specs.Deck.{DeckValue}
use Rattle.deck_cards.specs.declared.edit_refusal.EditRefusal.{EditRefusal}
use Rattle.deck_cards.specs.Causes.{uncapped, no_initial, free_cause, size_cause, whole_with}

pub whole_is : (d : DeckValue) (value : Option EditRefusal) → whole_with value d ≡ option_or (free_cause d) (option_or value (size_cause d))
unfolding free_cause size_cause
whole_is d value = by (uncapped d) (no_initial d) _
  where
    by : (a b rest : Option EditRefusal) → option_or a (option_or b rest) ≡ option_or (option_or a (option_or b None)) rest
    by (Some x) b rest = refl
    by None (Some y) rest = refl
    by None None rest = refl
