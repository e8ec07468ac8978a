use Rattle.std.proofs.Common.{◌<◌, ◌++◌, ◌∙◌, sym, ap, refl, length, arith}
use Rattle.std.proofs.Math.Dec.{eqb}
use Rattle.std.specs.Option.{option_to_list}
use Rattle.event_order.proofs.BucketLists.{changes, list_at, change_at, marked_change, marked_some}
use Rattle.event_order.proofs.buckets.Buckets.pop.Goals as goal

pub invariant_of-self : goal.invariant_of-self
invariant_of-self c =
    let there : c.args.place < length c.self.inside.lists.items = omega (arith, c.if-len-place.false) in
    let list = c.pop-device.new.self in
    marked_change c.self.inside.in_use _ _ _ c.args.place _ list.items c.self.invariant c.mark.ensures
    (changes c.self.inside.lists.items _ c.args.place list _ refl there refl)
    (marked_some c.is_empty-some.result list.items (c.is_empty-some.ensures ∙ ap (λ n. eqb n 0) list.ok.0))

pub returns-clause-last : goal.returns-clause-last
returns-clause-last c =
    let there : c.args.place < length c.self.inside.lists.items = omega (arith, c.if-len-place.false) in
    let list = c.pop-device.new.self in
    list_at _ _ c.args.place _ c.self.view_is there c.index_mut-list.ensures.value ∙ c.pop-device.ensures.items
    ∙ ap (λ xs. xs ++ option_to_list c.pop-device.result) (sym (change_at _ _ c.args.place _ (changes c.self.inside.lists.items _ c.args.place list _ refl there refl)))

pub returns-clause-rest : goal.returns-clause-rest
returns-clause-rest c =
    let there : c.args.place < length c.self.inside.lists.items = omega (arith, c.if-len-place.false) in
    let list = c.pop-device.new.self in
    changes c.self.inside.lists.items _ c.args.place list _ c.self.view_is there
    (sym (change_at _ _ c.args.place _ (changes c.self.inside.lists.items _ c.args.place list _ refl there refl)))
