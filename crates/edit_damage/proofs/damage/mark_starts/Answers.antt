-- One number more, and all of them.
use Rattle.std.proofs.Common.{◌≡◌, get_or, [], ◌&&◌, nat_eq, sym, ap, arith, length}
use Rattle.std.specs.List.{list_any, range_with_len}
use Rattle.edit_damage.specs.Marks.{starts_apart}
use Rattle.edit_damage.proofs.Marking.{marked_as, marked_both}
use Rattle.edit_damage.proofs.Ranges.{any_itself, any_more}
use Rattle.edit_damage.proofs.damage.mark_starts.Goals as goal

pub loop-node-preserved : goal.loop-node-preserved
loop-node-preserved c =
    marked_both _ _ _ c.args.marks.now c.loop-node.marks c.mark_where_apart.new.marks c.loop-node.invariant c.mark_where_apart.ensures
    (λ i below. sym (any_more (λ k. starts_apart c.args.old.now c.args.new.now (get_or c.args.names.now k []) && nat_eq i k) c.loop-node.node))

pub returns : goal.returns
returns c =
    let all : c.loop-node.node ≡ length c.args.names.now = omega (arith, c.loop-node-test.false, c.loop-node.auto.node-end, c.node_count-node-end.ensures.count, ap length c.requires.names) in
    marked_as (λ i. list_any (λ k. starts_apart c.args.old.now c.args.new.now (get_or c.args.names.now k []) && nat_eq i k) (range_with_len 0 c.loop-node.node))
    (λ i. starts_apart c.args.old.now c.args.new.now (get_or c.args.names.now i [])) c.args.marks.now c.loop-node.marks c.loop-node.invariant
    (λ i below. any_itself (λ k. starts_apart c.args.old.now c.args.new.now (get_or c.args.names.now k [])) c.loop-node.node i (omega (arith, below, all, c.requires.marks)))
