use Rattle.std.proofs.Common.{◌≡◌, ◌<◌, ◌∙◌, sym, ap, length, rules, arith}
use Rattle.std.specs.FinMap as map
use Rattle.event_order.specs.Tables.{ticks_of}
use Rattle.event_order.proofs.Tables.{get_at, same_ticks, ticks_of-put}
use Rattle.event_order.proofs.Ordered.{HasAll-put, HasAll-same}
use Rattle.event_order.proofs.far.Far.put.Goals as goal

pub returns-in_err-make_place-clause-err : goal.returns-in_err-make_place-clause-err
returns-in_err-make_place-clause-err c =
    let same : ticks_of c.make_place.new.table.items ≡ c.args.self.now = same_ticks _ _ c.make_place.ensures.same ∙ c.self.view_is in search rules

pub returns-in_err-insert-clause-err : goal.returns-in_err-insert-clause-err
returns-in_err-insert-clause-err c =
    let same : ticks_of c.make_place.new.table.items ≡ c.args.self.now = same_ticks _ _ c.make_place.ensures.same ∙ c.self.view_is in search rules

pub invariant_of-self-2 : goal.invariant_of-self-2
invariant_of-self-2 c =
    let there : c.args.device < length c.make_place.new.table.items = omega (arith, c.in_ok-make_place.ensures.there) in
    HasAll-put _ _ _ c.args.tick c.args.device (HasAll-same _ _ _ c.make_place.ensures.same c.self.invariant) c.in_ok-insert.ensures.updates.0
    (c.make_place.ensures.same c.args.device ∙ sym (get_at _ c.args.self.now c.args.device c.self.view_is) ∙ c.requires.absent)
    there

pub returns-clause-ok : goal.returns-clause-ok
returns-clause-ok c =
    let there : c.args.device < length c.make_place.new.table.items = omega (arith, c.in_ok-make_place.ensures.there) in
    ticks_of-put _ c.args.device c.args.tick there
    ∙ ap (λ m. map.insert m c.args.device c.args.tick) (same_ticks _ _ c.make_place.ensures.same ∙ c.self.view_is)
