use Rattle.std.proofs.Common.{◌<◌, ◌≤◌, length, take, ◌∙◌, sym, ap, arith}
use Rattle.std.proofs.lemmas.List.{length-append, take-append-le}
use Rattle.event_order.specs.Ticks.{due, without}
use Rattle.event_order.proofs.Rising.{fewer_due, one_more_taken, all_taken, start_within, without_less, without_none}
use Rattle.event_order.proofs.queue.Queue.take_tick.Goals as goal

pub push_reserved-requires : goal.push_reserved-requires
push_reserved-requires c =
    let count = fewer_due c.loop-device.self c.args.tick c.in-Some.device c.in-Some.ensures.0 in
    omega (arith, count, c.loop-device.invariant.room)

pub loop-device-smaller : goal.loop-device-smaller
loop-device-smaller c =
    let count = fewer_due c.loop-device.self c.args.tick c.in-Some.device c.in-Some.ensures.0 in
    let less : length (due c.pop.new.self c.args.tick) < length (due c.loop-device.self c.args.tick) = rw c.in-Some.ensures.1 (omega (arith, count)) in
    less

pub loop-device-preserved : goal.loop-device-preserved
loop-device-preserved c =
    let within : c.len-start.result ≤ length c.loop-device.out.items = start_within _ _ c.args.out.now.items c.loop-device.invariant.before (c.len-start.ensures ∙ c.args.out.now.ok.0) in
    let count = fewer_due c.loop-device.self c.args.tick c.in-Some.device c.in-Some.ensures.0 in
    record {
      room = rw (c.in-Some.ensures.1, c.push_reserved.ensures.items, c.push_reserved.ensures.capacity, length-append) (omega (arith, count, c.loop-device.invariant.room));
      capacity = c.push_reserved.ensures.capacity ∙ c.loop-device.invariant.capacity;
      before = ap (take c.len-start.result) c.push_reserved.ensures.items ∙ take-append-le c.len-start.result c.loop-device.out.items _ within ∙ c.loop-device.invariant.before;
      taken = one_more_taken c.loop-device.self _ c.args.tick c.in-Some.device _ _ _ _ c.in-Some.ensures.0 c.in-Some.ensures.1 c.push_reserved.ensures.items within c.loop-device.invariant.taken;
      rest = ap (λ m. without m c.args.tick) c.in-Some.ensures.1 ∙ without_less c.loop-device.self c.args.tick c.in-Some.device c.in-Some.ensures.0 ∙ c.loop-device.invariant.rest;
    }

pub returns-clause-taken : goal.returns-clause-taken
returns-clause-taken c = all_taken c.args.self.now c.loop-device.self c.args.tick c.len-start.result c.args.out.now.items _ _ c.in_default.ensures.0
    c.loop-device.invariant.before c.loop-device.invariant.taken c.sort_from.ensures.front c.sort_from.ensures.permutation c.sort_from.ensures.sorted

pub returns-clause-rest : goal.returns-clause-rest
returns-clause-rest c = c.in_default.ensures.1 ∙ sym (without_none c.loop-device.self c.args.tick c.in_default.ensures.0) ∙ c.loop-device.invariant.rest
