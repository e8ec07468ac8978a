use Rattle.std.proofs.Common.{◌≡◌, ◌∙◌, SFits, [], get_or, refl, ap, subst, IsTrue, unsigned_abs, rules, arith, sym}
use Rattle.std.specs.Int.{w128}
use Rattle.std.proofs.lemmas.Int.{to_z-of_z}
use Rattle.semantics.specs.Deck.{nodes, capacity}
use Rattle.semantics.specs.Valid.{is_valid}
use Rattle.deck_cards.proofs.Meaning.{same_table, at_node, known_at, capacity_is, capacity_small}
use Rattle.deck_cards.proofs.deck.Deck.capacity.Goals as goal

size : (c : goal.After-unsigned_abs) → c.unsigned_abs.result ≡ unsigned_abs c.index.result.now.farads
size c =
    let fits : SFits w128 c.index.result.now.farads = search rules in
    c.unsigned_abs.ensures.value ∙ ap unsigned_abs (to_z-of_z w128 c.index.result.now.farads fits)

pub returns : goal.returns
returns c =
    let d = c.args.self.now in
    at_node d (nodes d) c.facts.result.now.items c.args.i c.index.result.now (λ n. c.unsigned_abs.result ≡ capacity d n) (same_table c.facts.result.now.items (c.deref.ensures ∙ c.self.view_is) c.facts.ensures.known)
    c.requires c.index.ensures (λ n there is. size c ∙ capacity_is d n c.index.result.now is)

pub overflow_cast-result : goal.overflow_cast-result
overflow_cast-result c =
    let d = c.args.self.now in
    let n = get_or (nodes d) c.args.i [] in
    let is = known_at d (nodes d) c.facts.result.now.items c.args.i c.index.result.now (same_table c.facts.result.now.items (c.deref.ensures ∙ c.self.view_is) c.facts.ensures.known) c.requires c.index.ensures in
    omega (arith, size c, capacity_is d n c.index.result.now is, capacity_small d n (subst (λ d. IsTrue (is_valid d)) (c.deref.ensures ∙ c.self.view_is) c.facts.ensures.valid))
