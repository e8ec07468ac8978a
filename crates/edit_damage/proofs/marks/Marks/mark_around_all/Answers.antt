-- One number more.
use Rattle.std.proofs.Common.{get_or, ◌&&◌, false, sym}
use Rattle.edit_damage.specs.Marks.{is_around}
use Rattle.edit_damage.proofs.Marking.{marked_both}
use Rattle.edit_damage.proofs.Ranges.{any_more}
use Rattle.edit_damage.proofs.marks.Marks.mark_around_all.Goals as goal

pub loop-node-preserved : goal.loop-node-preserved
loop-node-preserved c =
    marked_both _ _ _ c.args.self.now c.loop-node.self c.mark_around_marked.new.self c.loop-node.invariant c.mark_around_marked.ensures
    (λ i below. sym (any_more (λ node. get_or c.args.others.now node false && is_around c.args.circuit.now.deck c.args.circuit.now.names node i) c.loop-node.node))
