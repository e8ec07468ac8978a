use Rattle.std.proofs.Common.{◌∙◌, [], length, ap, refl, subst, sym}
use Rattle.std.specs.List.{flat_map}
use Rattle.semantics.specs.Deck.{ends_of}
use Rattle.semantics.specs.Valid.{differ}
use Rattle.deck_cards.specs.Answers.{Answers}
use Rattle.deck_cards.specs.Causes.{size_cause, many_terminals}
use Rattle.deck_cards.proofs.Differ.{differ-nodes}
use Rattle.deck_cards.proofs.Firsts.{handed_on, refuses_first, refuses_next, answers_next, or_none}
use Rattle.deck_cards.proofs.nodes.NodeTable.check_sizes.Goals as goal

pub returns-in_err-check_elements : goal.returns-in_err-check_elements
unfolding size_cause
returns-in_err-check_elements c d table same =
    let e = c.in_err-check_elements.field-0.0 in
    handed_on c.from_residual.result e _ c.from_residual.ensures.1 (refuses_first e _ _ (c.in_err-check_elements.ensures.cause d same))

pub check_nodes-requires : goal.check_nodes-requires
check_nodes-requires c = c.len.ensures.len ∙ ap length c.requires

pub returns-in_err-check_nodes : goal.returns-in_err-check_nodes
unfolding size_cause
returns-in_err-check_nodes c d table same =
    let e = c.in_err-check_nodes.field-0.0 in
    handed_on c.from_residual-in_err-check_nodes.result e _ c.from_residual-in_err-check_nodes.ensures.1
    (refuses_next e _ _ (c.in_ok-check_elements.ensures.cause d same) (refuses_first e _ _ (c.in_err-check_nodes.ensures d same)))

pub returns-in_err-check_farads : goal.returns-in_err-check_farads
unfolding size_cause
returns-in_err-check_farads c d table same =
    let e = c.in_err-check_farads.field-0.0 in
    handed_on c.from_residual-in_err-check_farads.result e _ c.from_residual-in_err-check_farads.ensures.1
    (refuses_next e _ _ (c.in_ok-check_elements.ensures.cause d same) (refuses_next e _ _ (c.in_ok-check_nodes.ensures d same) (refuses_first e _ _ (c.in_err-check_farads.ensures d table))))

pub check_terminals-requires-clause-differ : goal.check_terminals-requires-clause-differ
check_terminals-requires-clause-differ c = ap differ c.requires ∙ differ-nodes (flat_map ends_of c.args.elements.now) [] refl

pub check_terminals-requires-clause-few : goal.check_terminals-requires-clause-few
check_terminals-requires-clause-few c = c.in_ok-check_elements.ensures.few

pub returns : goal.returns
unfolding size_cause
returns c d table same =
    let r = c.check_terminals.result in
    answers_next r _ _ (c.in_ok-check_elements.ensures.cause d same) (answers_next r _ _ (c.in_ok-check_nodes.ensures d same) (answers_next r _ _ (c.in_ok-check_farads.ensures d table)
    (subst (Answers r) (sym (or_none (many_terminals d))) (c.check_terminals.ensures d table same))))
