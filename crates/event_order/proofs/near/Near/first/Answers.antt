use Rattle.std.proofs.Common.{◌+◌, ◌<◌, ◌^◌, ◌∙◌, sym, arith}
use Rattle.event_order.proofs.Nearby.{none_near, waits_ahead, first_ahead}
use Rattle.event_order.proofs.SpotTicks.{spot_get}
use Rattle.event_order.proofs.near.Near.first.Goals as goal

pub overflow_add-result : goal.overflow_add-result
overflow_add-result c =
    let at = waits_ahead _ _ c.args.self.now c.args.from c.place_of.result c.in-Some.ahead c.self.invariant c.self.view_is c.requires.within c.place_of.ensures c.in-Some.ensures.some in
    let small : c.args.from + c.in-Some.ahead < 2 ^ 64 = c.self.invariant.fits at.0 _ (sym (spot_get _ c.args.self.now at.0 c.self.view_is) ∙ at.1) in
    omega arith

pub returns-in-Some-clause-some : goal.returns-in-Some-clause-some
returns-in-Some-clause-some c = first_ahead _ _ c.args.self.now c.args.from c.place_of.result c.in-Some.ahead c.self.invariant c.self.view_is c.requires.within c.place_of.ensures c.in-Some.ensures.some

pub returns-in-None-clause-none : goal.returns-in-None-clause-none
returns-in-None-clause-none c = sym c.self.view_is ∙ none_near _ _ c.self.invariant c.in-None.ensures.none
