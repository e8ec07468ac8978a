use Rattle.std.proofs.Common.{◌<◌, ◌∙◌, ap, refl, length}
use Rattle.std.proofs.Math.Dec.{eqb}
use Rattle.std.specs.List.{slice_get}
use Rattle.event_order.proofs.BucketLists.{changes, in_lists, removed, copied_get, marked_change, marked_some}
use Rattle.event_order.proofs.buckets.Buckets.swap_remove.Goals as goal

pub invariant_of-self : goal.invariant_of-self
invariant_of-self c =
    let there : c.args.place < length c.self.inside.lists.items = in_lists _ _ c.args.place c.args.index c.self.view_is c.requires.index in
    let list = c.swap_remove.new.self in
    marked_change c.self.inside.in_use _ _ _ c.args.place _ list.items c.self.invariant c.mark.ensures
    (changes c.self.inside.lists.items _ c.args.place list _ refl there refl)
    (marked_some c.is_empty-some.result list.items (c.is_empty-some.ensures ∙ ap (λ n. eqb n 0) list.ok.0))

pub returns-clause-rest : goal.returns-clause-rest
returns-clause-rest c =
    let there : c.args.place < length c.self.inside.lists.items = in_lists _ _ c.args.place c.args.index c.self.view_is c.requires.index in
    changes c.self.inside.lists.items _ c.args.place c.swap_remove.new.self _ c.self.view_is there
    (removed _ _ c.args.place c.args.index _ c.swap_remove.new.self _ c.self.view_is there c.index_mut-list.ensures.value c.requires.index c.swap_remove.ensures.items)

pub returns-clause-moved : goal.returns-clause-moved
returns-clause-moved c =
    let there : c.args.place < length c.self.inside.lists.items = in_lists _ _ c.args.place c.args.index c.self.view_is c.requires.index in
    c.copied-moved.ensures ∙ copied_get _ c.args.index c.get.result c.get.ensures.lookup
    ∙ ap (λ xs. slice_get xs c.args.index) (c.deref.ensures.value ∙ removed _ _ c.args.place c.args.index _ c.swap_remove.new.self _ c.self.view_is there c.index_mut-list.ensures.value c.requires.index c.swap_remove.ensures.items)
