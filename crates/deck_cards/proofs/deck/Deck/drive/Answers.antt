use Rattle.std.proofs.Common.{◌≡◌, ◌∙◌, ℕ, List, [], None, Some, ap, sym, get_or}
use Rattle.semantics.specs.Deck.{driver, nodes}
use Rattle.deck_cards.proofs.Meaning.{same_table, at_node, known_at, no_driver, driver_found, place_within}
use Rattle.deck_cards.proofs.deck.Deck.drive.Goals as goal

pub returns-in-None : goal.returns-in-None
returns-in-None c =
    let d = c.args.self.now in
    at_node d (nodes d) c.facts.result.now.items c.args.i c.index.result.now (λ n. driver d n ≡ None) (same_table c.facts.result.now.items (c.deref.ensures ∙ c.self.view_is) c.facts.ensures.known)
    c.requires c.index.ensures (λ n there is. no_driver d n (ap (λ f. f.source) (sym is) ∙ c.in-None.is))

pub element-requires : goal.element-requires
element-requires c =
    let d = c.args.self.now in
    let n = get_or (nodes d) c.args.i [] in
    let is = known_at d (nodes d) c.facts.result.now.items c.args.i c.index.result.now (same_table c.facts.result.now.items (c.deref.ensures ∙ c.self.view_is) c.facts.ensures.known) c.requires c.index.ensures in
    place_within d n c.in-Some.place (ap (λ f. f.source) (sym is) ∙ c.in-Some.is)

pub returns-in-Some : goal.returns-in-Some
returns-in-Some c =
    let d = c.args.self.now in
    at_node d (nodes d) c.facts.result.now.items c.args.i c.index.result.now _ (same_table c.facts.result.now.items (c.deref.ensures ∙ c.self.view_is) c.facts.ensures.known) c.requires c.index.ensures
    (λ n at is.
    driver_found d n c.node.result.now c.in-Some.place c.element.result.now (ap (λ f. f.source) (sym is) ∙ c.in-Some.is) c.element.ensures (one n c.node.result.now (sym at ∙ c.node.ensures))
    ∙ sym c.drive_of.ensures)
  where
    one : (n m : List ℕ) → Some n ≡ Some m → n ≡ m
    one n m e = cc
