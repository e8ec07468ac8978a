use Rattle.std.proofs.Common.{◌<◌, refl, length, arith}
use Rattle.event_order.specs.Spots.{spot_at}
use Rattle.event_order.proofs.Nearby.{near_same, pop_same, near_none, last_spot, near_popped, popped_due, alone_from}
use Rattle.event_order.proofs.SpotTicks.{spot_there, spot_at-set, spots-take}
use Rattle.event_order.proofs.near.Near.pop.Goals as goal

pub invariant_of-self : goal.invariant_of-self
invariant_of-self c = near_same _ _ _ _ c.self.invariant (λ _. refl) (pop_same _ _ c.place_of.result c.in_err-device.ensures.last c.in_err-device.ensures.rest)

pub returns-in_err-device : goal.returns-in_err-device
returns-in_err-device c = rw c.from_residual.ensures (near_none _ _ c.args.self.now c.args.tick c.place_of.result c.self.invariant c.self.view_is c.place_of.ensures c.in_err-device.ensures.none, c.self.view_is)

pub index_mut-requires : goal.index_mut-requires
index_mut-requires c =
    let there : c.in_ok-device.device < length c.self.inside.spots.items = spot_there _ c.in_ok-device.device _ (last_spot _ _ c.place_of.result c.in_ok-device.device _ c.self.invariant c.in_ok-device.ensures.last).1 in
    omega arith

pub invariant_of-self-2 : goal.invariant_of-self-2
invariant_of-self-2 c =
    let there : c.in_ok-device.device < length c.self.inside.spots.items = spot_there _ c.in_ok-device.device _ (last_spot _ _ c.place_of.result c.in_ok-device.device _ c.self.invariant c.in_ok-device.ensures.last).1 in
    near_popped _ _ _ _ c.place_of.result c.in_ok-device.device c.self.invariant c.in_ok-device.ensures.last c.in_ok-device.ensures.rest (λ q. spot_at-set _ c.in_ok-device.device q _ there)

pub returns : goal.returns
returns c =
    let there : c.in_ok-device.device < length c.self.inside.spots.items = spot_there _ c.in_ok-device.device _ (last_spot _ _ c.place_of.result c.in_ok-device.device _ c.self.invariant c.in_ok-device.ensures.last).1 in (
      popped_due _ _ c.args.self.now c.args.tick c.place_of.result c.in_ok-device.device _ c.self.invariant c.self.view_is c.place_of.ensures c.in_ok-device.ensures.last (alone_from c.args.from c.args.self.now c.args.tick c.requires.within (c.if-not-is_near.ensures.0 refl)),
      spots-take _ _ c.args.self.now (spot_at c.self.inside.spots.items) c.in_ok-device.device c.self.view_is (λ q. spot_at-set _ c.in_ok-device.device q _ there) (λ q. refl),
    )
