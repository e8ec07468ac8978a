use Rattle.std.proofs.Common.{◌≡◌, ◌<◌, ◌∙◌, sym, ap, subst, Some, IsSome, is_some, length, arith}
use Rattle.event_order.specs.Spots.{spot_at}
use Rattle.event_order.proofs.Nearby.{known, known_left, near_left}
use Rattle.event_order.proofs.SpotTicks.{spot_waits, spot_there, spot_at-set, spots-take, reindexed_ticks}
use Rattle.event_order.proofs.near.Near.remove.Goals as goal

pub spot_of-spot-requires : goal.spot_of-spot-requires
spot_of-spot-requires c = subst (λ xs. IsSome (spot_at xs c.args.device)) (sym c.deref.ensures.value) (spot_waits _ c.args.self.now c.args.device c.self.view_is c.requires.waits)

pub leave-requires-clause-known : goal.leave-requires-clause-known
leave-requires-clause-known c index device holds = ap is_some (known _ _ _ index device c.self.invariant holds).1

pub invariant_of-self : goal.invariant_of-self
invariant_of-self c =
    let at : spot_at c.self.inside.spots.items c.args.device ≡ Some c.spot_of-spot.result = ap (λ xs. spot_at xs c.args.device) (sym c.deref.ensures.value) ∙ c.spot_of-spot.ensures in
    let before : c.args.device < length c.self.inside.spots.items = spot_there _ c.args.device _ at in
    let there : c.args.device < length c.leave.new.spots.items = omega (arith, c.leave.ensures.len) in
    near_left _ c.leave.new.spots.items _ _ _ c.args.device c.spot_of-spot.result c.self.invariant at c.leave.ensures.list c.leave.ensures.spots (λ q. spot_at-set _ c.args.device q _ there)

pub returns : goal.returns
returns c =
    let at : spot_at c.self.inside.spots.items c.args.device ≡ Some c.spot_of-spot.result = ap (λ xs. spot_at xs c.args.device) (sym c.deref.ensures.value) ∙ c.spot_of-spot.ensures in
    let before : c.args.device < length c.self.inside.spots.items = spot_there _ c.args.device _ at in
    let there : c.args.device < length c.leave.new.spots.items = omega (arith, c.leave.ensures.len) in
    spots-take _ _ c.args.self.now (spot_at c.leave.new.spots.items) c.args.device c.self.view_is (λ q. spot_at-set _ c.args.device q _ there)
    (reindexed_ticks _ _ _ c.spot_of-spot.result.index c.leave.ensures.spots (known_left _ _ c.args.device c.spot_of-spot.result c.self.invariant at))
