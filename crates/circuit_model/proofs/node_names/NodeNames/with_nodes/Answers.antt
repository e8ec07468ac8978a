-- Where each node is there nothing is new; otherwise the new names stand behind.
use Rattle.std.proofs.Common.{◌≡◌, ap, subst, sym, ◌∙◌}
use Rattle.std.specs.Prelude.{Result, Ok, Err, IfOk}
use Rattle.circuit_model.specs.Names.{with_nodes, AreNames, HasNodes}
use Rattle.circuit_model.proofs.Named.{with_nodes_are, with_nodes_has, with_nodes_kept}
use Rattle.circuit_model.proofs.node_names.NodeNames.with_nodes.Goals as goal

each_ok : {A E : Type 0} (r : Result A E) (P Q : A → Type 0) → ((x : A) → P x → Q x) → IfOk r P → IfOk r Q
each_ok (Ok x) P Q each h = each x h
each_ok (Err e) P Q each h = h

pub returns-then-has_nodes-clause-names : goal.returns-then-has_nodes-clause-names
returns-then-has_nodes-clause-names c =
    let has : HasNodes c.args.deck.now c.args.self.now = c.has_nodes.ensures c.if-has_nodes.true in
    rw (with_nodes_kept c.args.deck.now c.args.self.now has) c.copy.ensures

pub returns-then-has_nodes-clause-nodes : goal.returns-then-has_nodes-clause-nodes
returns-then-has_nodes-clause-nodes c =
    let has : HasNodes c.args.deck.now c.args.self.now = c.has_nodes.ensures c.if-has_nodes.true in
    each_ok c.copy.result (λ names. names ≡ c.args.self.now) (HasNodes c.args.deck.now) (λ names same. subst (HasNodes c.args.deck.now) (sym same) has) c.copy.ensures

pub invariant_of-result : goal.invariant_of-result
invariant_of-result c =
    let made : c.in_ok-new.field-0.value.keys ≡ with_nodes c.args.self.now c.args.deck.now =
    ap (λ s. s.keys) c.in_ok-new.ensures.ok ∙ c.in_ok-add_nodes.ensures ∙ ap (λ names. with_nodes names c.args.deck.now) c.in_ok-names.ensures.set in
    subst AreNames (sym made) (with_nodes_are c.args.deck.now c.args.self.now c.in_ok-names.ensures.names c.requires)

pub returns-clause-nodes : goal.returns-clause-nodes
returns-clause-nodes c =
    let made : c.in_ok-new.field-0.value.keys ≡ with_nodes c.args.self.now c.args.deck.now =
    ap (λ s. s.keys) c.in_ok-new.ensures.ok ∙ c.in_ok-add_nodes.ensures ∙ ap (λ names. with_nodes names c.args.deck.now) c.in_ok-names.ensures.set in
    subst (HasNodes c.args.deck.now) (sym made) (with_nodes_has c.args.deck.now c.args.self.now)
