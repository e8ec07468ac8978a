-- The ticks rise, so the events of the range stand together.
use Rattle.std.proofs.Common.{◌-◌, ℕ, List, length, ltb, leb, rules, take, drop}
use Rattle.std.specs.List.Sorted.{IsNonDecreasingBy}
use Rattle.std.proofs.lemmas.List.Sorted.{IsPartitionedBy-leb, IsPartitionedBy-ltb, IsPartitionPoint-from_clause, IsNonDecreasingBy-drop, IsNonDecreasingBy-take}
use Rattle.semantics.specs.declared.event.Event.{Event}
use Rattle.wave_text.specs.Happened.{happened}
use Rattle.wave_text.proofs.Cut.{between_kept, rest_is}
use Rattle.wave_text.proofs.event_lines.happened.Goals as goal

pub returns : goal.returns
unfolding happened
returns c =
    let all : List Event = c.args.all.now in
    let first : ℕ = c.in-Some.first in
    let last : ℕ = c.in-Some.last in
    let i : ℕ = c.partition_point.result in
    let tick : Event → ℕ = λ e. e.tick in
    let rest : List Event = take (length all - i) (drop i all) in
    let order : IsNonDecreasingBy tick rest = IsNonDecreasingBy-take tick (length all - i) (drop i all) (IsNonDecreasingBy-drop tick i all c.requires) in
    let low = IsPartitionPoint-from_clause (λ (e : Event). ltb e.tick first) _ _ c.partition_point.ensures.partitioned (IsPartitionedBy-ltb tick all first c.requires) (λ a r q k. search rules) in
    let high = IsPartitionPoint-from_clause (λ (e : Event). leb e.tick last) _ _ c.partition_point-2.ensures.partitioned (IsPartitionedBy-leb tick rest last order) (λ a r q k. search rules) in
    rw c.in-Some.is (between_kept tick first last all rest i c.partition_point-2.result low (rest_is i all) high)
