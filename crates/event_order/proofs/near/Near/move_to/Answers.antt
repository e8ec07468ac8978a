use Rattle.std.proofs.Common.{◌≡◌, ◌≢◌, ◌<◌, ◌%◌, ◌∙◌, sym, ap, subst, refl, Some, IsSome, is_some, length, arith}
use Rattle.event_order.specs.declared.spot.Spot.{Spot}
use Rattle.event_order.specs.Spots.{spot_at}
use Rattle.event_order.proofs.Nearby.{known, known_left, near_again, near_moved, moved_list, moved_re}
use Rattle.event_order.proofs.SpotTicks.{spot_waits, spot_there, spot_at-set, spots-put, reindexed_ticks}
use Rattle.event_order.proofs.near.Near.move_to.Goals as goal

pub spot_of-spot-requires : goal.spot_of-spot-requires
spot_of-spot-requires c = subst (λ xs. IsSome (spot_at xs c.args.device)) (sym c.deref.ensures.value) (spot_waits _ c.args.self.now c.args.device c.self.view_is c.requires.waits)

pub invariant_of-self : goal.invariant_of-self
invariant_of-self c =
    let at : spot_at c.self.inside.spots.items c.args.device ≡ Some c.spot_of-spot.result = ap (λ xs. spot_at xs c.args.device) (sym c.deref.ensures.value) ∙ c.spot_of-spot.ensures in
    near_again _ _ _ c.args.device c.args.tick c.spot_of-spot.result c.self.invariant at (sym c.place_of.ensures ∙ c.if-place_of.true ∙ c.place_of-2.ensures)
    (λ q. spot_at-set _ c.args.device q _ (spot_there _ c.args.device _ at)) (omega arith)

pub returns-then-place_of-clause-ok : goal.returns-then-place_of-clause-ok
returns-then-place_of-clause-ok c =
    let at : spot_at c.self.inside.spots.items c.args.device ≡ Some c.spot_of-spot.result = ap (λ xs. spot_at xs c.args.device) (sym c.deref.ensures.value) ∙ c.spot_of-spot.ensures in
    let spot : Spot = record { tick = c.args.tick; index = c.spot_of-spot.result.index } in
    spots-put _ _ c.args.self.now (spot_at c.self.inside.spots.items) c.args.device spot c.self.view_is (λ q. spot_at-set _ c.args.device q _ (spot_there _ c.args.device _ at)) (λ q. refl)

pub leave-requires-clause-known : goal.leave-requires-clause-known
leave-requires-clause-known c index device holds =
    let apart : c.place_of-3.result ≢ c.spot_of-spot.result.tick % 256 = λ e. c.if-place_of.false (c.place_of.ensures ∙ sym c.place_of-3.ensures ∙ e ∙ sym c.place_of-2.ensures) in
    ap is_some (known _ _ _ index device c.self.invariant (moved_list _ _ _ c.place_of-3.result (c.spot_of-spot.result.tick % 256) index device apart c.in_ok-index.ensures.ok holds)).1

pub invariant_of-self-2 : goal.invariant_of-self-2
invariant_of-self-2 c =
    let at : spot_at c.self.inside.spots.items c.args.device ≡ Some c.spot_of-spot.result = ap (λ xs. spot_at xs c.args.device) (sym c.deref.ensures.value) ∙ c.spot_of-spot.ensures in
    let apart : c.place_of-3.result ≢ c.spot_of-spot.result.tick % 256 = λ e. c.if-place_of.false (c.place_of.ensures ∙ sym c.place_of-3.ensures ∙ e ∙ sym c.place_of-2.ensures) in
    let before : c.args.device < length c.self.inside.spots.items = spot_there _ c.args.device _ at in
    let there : c.args.device < length c.leave.new.spots.items = omega (arith, c.leave.ensures.len) in
    near_moved _ c.leave.new.spots.items _ _ c.push.new.self _ c.args.device c.args.tick c.place_of-3.result c.in_ok-index.index c.spot_of-spot.result c.self.invariant at
    c.place_of-3.ensures apart c.in_ok-index.ensures.ok c.in_ok-index.ensures.index c.leave.ensures.list c.leave.ensures.spots (λ q. spot_at-set _ c.args.device q _ there) (omega arith)

pub returns-clause-ok : goal.returns-clause-ok
returns-clause-ok c =
    let at : spot_at c.self.inside.spots.items c.args.device ≡ Some c.spot_of-spot.result = ap (λ xs. spot_at xs c.args.device) (sym c.deref.ensures.value) ∙ c.spot_of-spot.ensures in
    let apart : c.place_of-3.result ≢ c.spot_of-spot.result.tick % 256 = λ e. c.if-place_of.false (c.place_of.ensures ∙ sym c.place_of-3.ensures ∙ e ∙ sym c.place_of-2.ensures) in
    let before : c.args.device < length c.self.inside.spots.items = spot_there _ c.args.device _ at in
    let there : c.args.device < length c.leave.new.spots.items = omega (arith, c.leave.ensures.len) in
    let spot : Spot = record { tick = c.args.tick; index = c.in_ok-index.index } in
    spots-put _ _ c.args.self.now (spot_at c.leave.new.spots.items) c.args.device spot c.self.view_is (λ q. spot_at-set _ c.args.device q _ there)
    (reindexed_ticks _ _ _ c.spot_of-spot.result.index (moved_re _ _ _ _ _ c.place_of-3.result c.spot_of-spot.result apart c.in_ok-index.ensures.ok c.leave.ensures.spots) (known_left _ _ c.args.device c.spot_of-spot.result c.self.invariant at))
