-- The lines rise.
use Rattle.std.proofs.Common.{ℕ, List, ltb, arith, rules}
use Rattle.std.specs.List.Sorted.{IsNonDecreasingBy}
use Rattle.std.proofs.lemmas.Bool.{ltb-true, ltb-false}
use Rattle.std.proofs.lemmas.List.Sorted.{IsPartitionedBy-ltb, IsPartitionPoint-from_clause}
use Rattle.semantics.specs.declared.line.Line.{Line}
use Rattle.histories.specs.Track.{no_line, line_of}
use Rattle.histories.proofs.Places.{in_order}
use Rattle.histories.proofs.track.Track.count_before.Goals as goal

pub returns-clause-before : goal.returns-clause-before
returns-clause-before c =
    let ls : List Line = c.self.inside.ramps.items in
    let t : ℕ = c.args.tick in
    let order : IsNonDecreasingBy (λ (l : Line). l.start) c.deref.result.now = rw c.deref.ensures.value (in_order ls c.self.invariant.lines.rising) in
    let point = IsPartitionPoint-from_clause (λ (l : Line). ltb l.start t) _ _ c.partition_point.ensures.partitioned (IsPartitionedBy-ltb (λ (l : Line). l.start) c.deref.result.now t order) (λ a r q k. search rules) in
    let here = rw c.deref.ensures.value at point in
    rw (← c.self.view_is) (λ k h. ltb-true (line_of ls k).start t (here.0 k no_line (omega arith) h))

pub returns-clause-after : goal.returns-clause-after
returns-clause-after c =
    let ls : List Line = c.self.inside.ramps.items in
    let t : ℕ = c.args.tick in
    let order : IsNonDecreasingBy (λ (l : Line). l.start) c.deref.result.now = rw c.deref.ensures.value (in_order ls c.self.invariant.lines.rising) in
    let point = IsPartitionPoint-from_clause (λ (l : Line). ltb l.start t) _ _ c.partition_point.ensures.partitioned (IsPartitionedBy-ltb (λ (l : Line). l.start) c.deref.result.now t order) (λ a r q k. search rules) in
    let here = rw c.deref.ensures.value at point in
    rw (← c.self.view_is) (λ k h i. ltb-false (line_of ls k).start t (here.1 k no_line h i))
