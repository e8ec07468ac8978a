use Rattle.std.proofs.Common.{◌<◌, refl, length, arith}
use Rattle.event_order.proofs.BucketLists.{pushed, unpushed, marked_change, same_marked, some_marked, on_err}
use Rattle.event_order.proofs.buckets.Buckets.push.Goals as goal

pub invariant_of-self-in_err-push : goal.invariant_of-self-in_err-push
invariant_of-self-in_err-push c =
    let there : c.args.place < length c.make_list.new.lists.items = omega (arith, c.in_ok-make_list.ensures.there) in
    same_marked c.self.inside.in_use _ _ c.self.invariant
    (unpushed _ _ _ c.args.place _ c.push.new.self refl c.make_list.ensures.same there c.index_mut-list.ensures.value c.in_err-push.ensures.items)

pub returns-in_err-push-clause-err : goal.returns-in_err-push-clause-err
returns-in_err-push-clause-err c =
    let there : c.args.place < length c.make_list.new.lists.items = omega (arith, c.in_ok-make_list.ensures.there) in
    on_err c.from_residual-in_err-push.result
    (unpushed _ _ _ c.args.place _ c.push.new.self c.self.view_is c.make_list.ensures.same there c.index_mut-list.ensures.value c.in_err-push.ensures.items)

pub invariant_of-self-2 : goal.invariant_of-self-2
invariant_of-self-2 c =
    let there : c.args.place < length c.make_list.new.lists.items = omega (arith, c.in_ok-make_list.ensures.there) in
    marked_change c.self.inside.in_use _ _ _ c.args.place _ _ c.self.invariant c.mark.ensures
    (pushed _ _ _ c.args.place c.args.device _ c.push.new.self refl c.make_list.ensures.same there c.index_mut-list.ensures.value c.in_ok-push.ensures.items)
    (some_marked _ c.args.device)

pub returns-clause-ok : goal.returns-clause-ok
returns-clause-ok c =
    let there : c.args.place < length c.make_list.new.lists.items = omega (arith, c.in_ok-make_list.ensures.there) in
    pushed _ _ _ c.args.place c.args.device _ c.push.new.self c.self.view_is c.make_list.ensures.same there c.index_mut-list.ensures.value c.in_ok-push.ensures.items
