use Rattle.std.proofs.Common.{◌∙◌, ℕ, List, map, ap, sym}
use Rattle.semantics.specs.Part.{Part}
use Rattle.deck_cards.specs.Part.{part_of}
use Rattle.deck_cards.proofs.Once.{keys_stay, none_placed, part_placed, place_named}
use Rattle.deck_cards.proofs.deck.Deck.part_place.Goals as goal

pub returns-clause-name : goal.returns-clause-name
returns-clause-name c =
    let parts = c.parts.result.now.entries in
    rw (← (c.parts.ensures ∙ ap (λ d. d.parts) (c.deref.ensures ∙ c.self.view_is))) (place_named (λ (p : List ℕ × Part). p.0) c.args.name.now (map (λ p. (p.0, part_of p.1)) parts) (map (λ p. p.0) parts) c.get_index_of.result c.get_index_of.ensures.index (keys_stay part_of parts))

pub returns-clause-part : goal.returns-clause-part
returns-clause-part c = rw (← (c.parts.ensures ∙ ap (λ d. d.parts) (c.deref.ensures ∙ c.self.view_is))) (part_placed part_of c.args.name.now c.parts.result.now.entries c.get_index_of.result c.get_index_of.ensures.value)

pub returns-clause-none : goal.returns-clause-none
returns-clause-none c = rw (← (c.parts.ensures ∙ ap (λ d. d.parts) (c.deref.ensures ∙ c.self.view_is))) (none_placed part_of c.args.name.now c.parts.result.now.entries c.get_index_of.result c.get_index_of.ensures.found)
