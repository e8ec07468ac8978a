-- One number more.
use Rattle.std.proofs.Common.{◌∙◌, get_or, ◌++◌, ◌∷◌, [], ◌&&◌, false, sym, ap, cond}
use Rattle.circuit_model.specs.Numbers.{kind_at}
use Rattle.edit_damage.specs.Marks.{free_marked, is_free_kind}
use Rattle.edit_damage.proofs.Ranges.{filter_next}
use Rattle.edit_damage.proofs.marks.Marks.free.Goals as goal

pub loop-node-preserved : goal.loop-node-preserved
loop-node-preserved c =
    (c.in_ok-push_if.ensures {u = tt})
    ∙ ap (λ xs. xs ++ cond c.is_found.result (c.loop-node.node ∷ []) []) c.loop-node.invariant
    ∙ ap (λ b. free_marked c.args.circuit.now c.args.self.now c.loop-node.node ++ cond b (c.loop-node.node ∷ []) []) c.is_found.ensures
    ∙ sym (filter_next (λ i. get_or c.args.self.now i false && is_free_kind (kind_at c.args.circuit.now i)) c.loop-node.node)
