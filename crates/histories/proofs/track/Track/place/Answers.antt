-- The search finds the lines that begin at the tick or before, since they rise; the first does.
use Rattle.std.proofs.Common.{ℕ, List, leb, arith, rules}
use Rattle.std.specs.List.Sorted.{IsNonDecreasingBy}
use Rattle.std.proofs.lemmas.List.Sorted.{IsPartitionedBy-leb, IsPartitionPoint-from_clause}
use Rattle.semantics.specs.declared.line.Line.{Line}
use Rattle.histories.specs.Track.{no_line}
use Rattle.histories.proofs.Places.{in_order, place_from}
use Rattle.histories.proofs.track.Track.place.Goals as goal

pub overflow_sub-result : goal.overflow_sub-result
overflow_sub-result c =
    let ls : List Line = c.self.inside.ramps.items in
    let t : ℕ = c.args.tick in
    let order : IsNonDecreasingBy (λ (l : Line). l.start) c.deref.result.now = rw c.deref.ensures.value (in_order ls c.self.invariant.lines.rising) in
    let point = IsPartitionPoint-from_clause (λ (l : Line). leb l.start t) _ _ c.partition_point.ensures.partitioned (IsPartitionedBy-leb (λ (l : Line). l.start) c.deref.result.now t order) (λ a r q k. search rules) in
    let here = rw c.deref.ensures.value at point in
    (place_from ls t c.partition_point.result c.self.invariant.lines (let bound = rw c.deref.ensures.value at c.partition_point.ensures.bound in bound) (λ i h. here.0 i no_line (omega arith) h) (λ i h k. here.1 i no_line h k)).0

pub returns : goal.returns
returns c =
    let ls : List Line = c.self.inside.ramps.items in
    let t : ℕ = c.args.tick in
    let order : IsNonDecreasingBy (λ (l : Line). l.start) c.deref.result.now = rw c.deref.ensures.value (in_order ls c.self.invariant.lines.rising) in
    let point = IsPartitionPoint-from_clause (λ (l : Line). leb l.start t) _ _ c.partition_point.ensures.partitioned (IsPartitionedBy-leb (λ (l : Line). l.start) c.deref.result.now t order) (λ a r q k. search rules) in
    let here = rw c.deref.ensures.value at point in
    rw (← c.self.view_is) (place_from ls t c.partition_point.result c.self.invariant.lines (let bound = rw c.deref.ensures.value at c.partition_point.ensures.bound in bound) (λ i h. here.0 i no_line (omega arith) h) (λ i h k. here.1 i no_line h k)).1
