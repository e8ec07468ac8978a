use Rattle.std.proofs.Common.{◌∙◌, map, ap, sym}
use Rattle.semantics.specs.Deck.{name_of}
use Rattle.deck_cards.proofs.Once.{place_named, no_place_named}
use Rattle.deck_cards.proofs.deck.Deck.place.Goals as goal

pub returns-clause-found : goal.returns-clause-found
returns-clause-found c =
    place_named name_of c.args.name.now c.args.self.now.elements c.element_names.result.now.keys _ c.get_index_of.ensures.index (c.element_names.ensures ∙ ap (λ d. map name_of d.elements) (c.deref.ensures ∙ c.self.view_is))

pub returns-clause-none : goal.returns-clause-none
returns-clause-none c =
    no_place_named name_of c.args.name.now c.args.self.now.elements c.element_names.result.now.keys _ c.get_index_of.ensures.found (c.element_names.ensures ∙ ap (λ d. map name_of d.elements) (c.deref.ensures ∙ c.self.view_is))
