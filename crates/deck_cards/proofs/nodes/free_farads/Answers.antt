use Rattle.std.proofs.Common.{◌≡◌, ◌∙◌, SFits, true, false, not, is_some, is_none, Some, get_or, ap, sym, rules}
use Rattle.std.specs.Int.{w128}
use Rattle.std.specs.List.{list_any}
use Rattle.std.specs.Str.{bytes_eq}
use Rattle.std.proofs.lemmas.Int.{to_z-of_z}
use Rattle.deck_cards.specs.Causes.{when}
use Rattle.deck_cards.proofs.AtNode.{not_free, free_at}
use Rattle.deck_cards.proofs.Known.{nothing}
use Rattle.deck_cards.proofs.nodes.free_farads.Goals as goal

pub returns-in-None : goal.returns-in-None
returns-in-None c d table =
    let n = c.args.node.now in
    sym (not_free d n (ap (list_any (bytes_eq n)) (sym table.names) ∙ sym c.get_index_of.ensures.found ∙ ap is_some c.in-None.is))

pub returns-then-is_none : goal.returns-then-is_none
returns-then-is_none c d table =
    let f = get_or c.args.facts.now c.in-Some.place nothing in
    let fits : SFits w128 f.farads = search rules in
    let some = sym c.get_index_of.ensures.found ∙ ap is_some c.in-Some.is in
    let none : is_none f.source ≡ true = ap not (c.is_none.ensures ∙ ap not c.if-is_none.true) in
    ap Some (to_z-of_z w128 f.farads fits)
    ∙ sym (free_at d c.args.names.now.keys c.args.facts.now c.args.node.now c.in-Some.place nothing table c.in-Some.ensures.index some ∙ ap (λ b. when b f.farads) none)

pub returns-else-is_none : goal.returns-else-is_none
returns-else-is_none c d table =
    let f = get_or c.args.facts.now c.in-Some.place nothing in
    let some = sym c.get_index_of.ensures.found ∙ ap is_some c.in-Some.is in
    let none : is_none f.source ≡ false = ap not (c.is_none.ensures ∙ ap not c.if-is_none.false) in
    sym (free_at d c.args.names.now.keys c.args.facts.now c.args.node.now c.in-Some.place nothing table c.in-Some.ensures.index some ∙ ap (λ b. when b f.farads) none)
