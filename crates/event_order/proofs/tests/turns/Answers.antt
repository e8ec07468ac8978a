use Rattle.std.proofs.Common.{◌≤◌, ℕ, length, arith}
use Rattle.std.specs.Ordering.{nat_cmp}
use Rattle.std.specs.FinMap as map
use Rattle.event_order.specs.Ticks.{due}
use Rattle.event_order.proofs.Rising.{due_at_most, put_at_most, remove_at_most}
use Rattle.event_order.proofs.tests.turns.Goals as goal

pub take_tick-requires : goal.take_tick-requires
take_tick-requires c =
    let none : map.len c.new-queue.result ≤ 0 = rw (c.new-queue.ensures, map.len-empty nat_cmp ℕ) (omega arith) in
    let put = put_at_most _ _ _ _ _ c.in_ok-put.ensures.ok none in
    let put_2 = put_at_most _ _ _ _ _ c.in_ok-put-2.ensures.ok put in
    let put_3 = put_at_most _ _ _ _ _ c.in_ok-put-3.ensures.ok put_2 in
    let put_4 = put_at_most _ _ _ _ _ c.in_ok-put-4.ensures.ok put_3 in
    let moved = put_at_most _ _ _ _ _ c.in_ok-move_to.ensures.ok put_4 in
    let rest : map.len c.remove.new.self ≤ 5 = remove_at_most _ _ _ _ c.remove.ensures moved in
    let few : length (due c.remove.new.self 7) ≤ map.len c.remove.new.self = due_at_most c.remove.new.self 7 in
    record { room = omega (arith, c.in_ok-out.ensures.len, c.in_ok-out.ensures.exact) }
