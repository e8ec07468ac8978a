use Rattle.std.proofs.Common.{◌≡◌, ◌∙◌, ℕ, ◌+◌, ◌<◌, ◌≤◌, nat_le, false, [], length, drop, get_or, Some, None, sym, ap, subst, arith}
use Rattle.std.specs.Option.{option_or}
use Rattle.std.proofs.lemmas.Bool.{le-leb}
use Rattle.std.proofs.lemmas.Bool.Decides.{nat_tests}
use Rattle.semantics.specs.Deck.{name_of}
use Rattle.deck_cards.specs.declared.edit_refusal.EditRefusal.TheVariants.{Limit}
use Rattle.deck_cards.specs.declared.which.Which.TheVariants.{Nodes}
use Rattle.deck_cards.specs.Causes.{limit, many_nodes, many_nodes_from}
use Rattle.deck_cards.proofs.Counting.{few_none, nodes_step, nodes_end}
use Rattle.deck_cards.proofs.Firsts.{none_left}
use Rattle.deck_cards.proofs.counts.check_nodes.Goals as goal

pub returns-then-count-le-MOST : goal.returns-then-count-le-MOST
unfolding many_nodes
returns-then-count-le-MOST c d same = subst (λ es. many_nodes_from [] es ≡ None) same (few_none c.args.elements.now [] (omega (arith, c.requires, c.if-count-le-MOST.true)))

over : (n : ℕ) → 100000 < n → nat_le n 100000 ≡ false
over n h = grind (arith, nat_tests)

pub returns-then-len-gt-MOST : goal.returns-then-len-gt-MOST
unfolding many_nodes
returns-then-len-gt-MOST c d same =
    let es = c.args.elements.now in
    let i = c.loop-element.element-index in
    let x = c.element-item.result in
    let after = c.add_ends.new.names.keys in
    let within = c.loop-element-test.true in
    let at = c.element-item.is in
    let many = over (length after) (omega (arith, c.len.ensures.len, c.if-len-gt-MOST.true)) in
    sym (ap (many_nodes_from []) same) ∙ c.loop-element.invariant ∙ nodes_step es i x c.loop-element.names.keys after within at c.in_ok-add_ends.ensures
    ∙ ap (λ b. option_or (limit b Nodes (name_of x)) (many_nodes_from after (drop (i + 1) es))) many ∙ ap (λ n. Some (Limit Nodes n)) (sym (c.in_ok-name.ensures ∙ c.name.ensures))

pub loop-element-preserved : goal.loop-element-preserved
loop-element-preserved c =
    let es = c.args.elements.now in
    let i = c.loop-element.element-index in
    let x = c.element-item.result in
    let after = c.add_ends.new.names.keys in
    let within = c.loop-element-test.true in
    let at = c.element-item.is in
    let few = le-leb (length after) 100000 (omega (arith, c.len.ensures.len, c.if-len-gt-MOST.false)) in
    c.loop-element.invariant ∙ nodes_step es i x c.loop-element.names.keys after within at c.in_ok-add_ends.ensures
    ∙ ap (λ b. option_or (limit b Nodes (name_of x)) (many_nodes_from after (drop (i + 1) es))) few

pub returns : goal.returns
unfolding many_nodes
returns c d same =
    let es = c.args.elements.now in
    let end = c.loop-element-test.false in
    sym (ap (many_nodes_from []) same) ∙ c.loop-element.invariant ∙ ap (many_nodes_from c.loop-element.names.keys) (none_left es c.loop-element.element-index end) ∙ nodes_end c.loop-element.names.keys
