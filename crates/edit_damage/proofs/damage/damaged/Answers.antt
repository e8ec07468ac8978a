-- All marks together.
use Rattle.std.proofs.Common.{◌≡◌, length}
use Rattle.std.proofs.lemmas.Result.{IfOk-weaker}
use Rattle.edit_damage.specs.Marks.{free_marked}
use Rattle.edit_damage.specs.Near.{AreNear}
use Rattle.edit_damage.proofs.Nearness.{damage_is, MarkTurns}
use Rattle.edit_damage.proofs.damage.damaged.Goals as goal

pub returns : goal.returns
returns c =
    let turns : MarkTurns c.args.old.now c.args.new.now c.args.names.now c.node_count-count.result c.in_ok-near.near c.mark_lost.new.ends c.mark_lost-2.new.ends c.in_ok-moved.moved c.mark_lost.new.sources c.mark_lost-2.new.sources c.mark_starts.new.marks =
    record {
      near_start = c.in_ok-near.ensures;
      near_old = c.mark_lost.ensures.ends;
      near_new = c.mark_lost-2.ensures.ends;
      moved_start = c.in_ok-moved.ensures;
      moved_old = c.mark_lost.ensures.sources;
      moved_new = c.mark_lost-2.ensures.sources;
      moved_apart = c.mark_starts.ensures;
    } in
    IfOk-weaker c.free.result
    (λ numbers. numbers.items ≡ free_marked c.args.circuit.now c.mark_around_all.new.self (length c.args.circuit.now.names))
    (λ numbers. AreNear c.args.old.now c.args.new.now c.args.circuit.now numbers.items)
    (λ numbers found. damage_is c.args.old.now c.args.new.now c.args.names.now c.node_count-count.result _ _ _ c.mark_around_all.new.self _ _ _ _ turns c.args.circuit.now numbers.items c.requires
    c.node_count-count.ensures.names c.node_count-count.ensures.nodes c.node_count-count.ensures.count c.mark_around_all.ensures found)
    c.free.ensures
