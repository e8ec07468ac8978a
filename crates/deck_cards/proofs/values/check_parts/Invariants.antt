use Rattle.std.proofs.Common.{◌≡◌, ℕ, List, map}
use Rattle.std.specs.List.{list_all}
use Rattle.semantics.specs.Part.{Part}
use Rattle.semantics.specs.Deck.{first_some}
use Rattle.semantics.specs.Valid.{is_part}
use Rattle.deck_cards.specs.Part.{part_of}
use Rattle.deck_cards.specs.Causes.{limited, part_limit}
use Rattle.deck_cards.proofs.values.check_parts.Given as goal

abbrev pub invariant-loop-name : goal.invariant-loop-name
invariant-loop-name l = record {
  first : first_some (λ (p : List ℕ × Part). limited p.0 (part_limit p.1)) (map (λ p. (p.0, part_of p.1)) l.parts.entries)
      ≡ first_some (λ (p : List ℕ × Part). limited p.0 (part_limit p.1)) (map (λ p. (p.0, part_of p.1)) l.name-iterator);
  all : list_all (λ p. is_part (part_of p.1)) l.parts.entries ≡ list_all (λ p. is_part (part_of p.1)) l.name-iterator;
}
