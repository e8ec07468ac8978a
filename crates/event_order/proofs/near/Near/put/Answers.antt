use Rattle.std.proofs.Common.{◌<◌, ap, refl, length, arith}
use Rattle.event_order.specs.declared.spot.Spot.{Spot}
use Rattle.event_order.specs.Spots.{spot_at, tick_of}
use Rattle.event_order.proofs.BucketLists.{on_err}
use Rattle.event_order.proofs.Nearby.{near_same, near_put}
use Rattle.event_order.proofs.SpotTicks.{spot_free, spot_at-set, spots-put, same_spots}
use Rattle.event_order.proofs.near.Near.put.Goals as goal

pub invariant_of-self : goal.invariant_of-self
invariant_of-self c = near_same _ _ _ _ c.self.invariant c.make_place.ensures.same (λ _. refl)

pub returns-in_err-make_place-clause-err : goal.returns-in_err-make_place-clause-err
returns-in_err-make_place-clause-err c = on_err c.from_residual.result (same_spots _ _ c.args.self.now c.self.view_is c.make_place.ensures.same)

pub invariant_of-self-in_err-index : goal.invariant_of-self-in_err-index
invariant_of-self-in_err-index c = near_same _ _ _ _ c.self.invariant c.make_place.ensures.same c.in_err-index.ensures.err

pub returns-in_err-index-clause-err : goal.returns-in_err-index-clause-err
returns-in_err-index-clause-err c = on_err c.from_residual-in_err-index.result (same_spots _ _ c.args.self.now c.self.view_is c.make_place.ensures.same)

pub invariant_of-self-2 : goal.invariant_of-self-2
invariant_of-self-2 c =
    let there : c.args.device < length c.make_place.new.table.items = omega (arith, c.in_ok-make_place.ensures.there) in
    near_put _ _ _ _ c.args.device c.args.tick c.place_of.result c.in_ok-index.index c.self.invariant c.make_place.ensures.same
    (spot_free _ c.args.self.now c.args.device c.self.view_is c.requires.absent) c.place_of.ensures c.in_ok-index.ensures.ok c.in_ok-index.ensures.index (omega arith) there

pub returns-clause-ok : goal.returns-clause-ok
returns-clause-ok c =
    let there : c.args.device < length c.make_place.new.table.items = omega (arith, c.in_ok-make_place.ensures.there) in
    let spot : Spot = record { tick = c.args.tick; index = c.in_ok-index.index } in
    spots-put _ _ c.args.self.now (spot_at c.make_place.new.table.items) c.args.device spot c.self.view_is (λ q. spot_at-set _ c.args.device q _ there) (λ q. ap tick_of (c.make_place.ensures.same q))
