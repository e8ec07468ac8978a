-- The spans are in order.
use Rattle.std.proofs.Common.{ℕ, List, leb, arith, rules}
use Rattle.std.specs.List.Sorted.{IsNonDecreasingBy}
use Rattle.std.proofs.lemmas.Bool.{leb-true, leb-false}
use Rattle.std.proofs.lemmas.List.Sorted.{IsPartitionedBy-leb, IsPartitionPoint-from_clause}
use Rattle.regions.specs.declared.span.Span.{Span}
use Rattle.regions.specs.Spans.{no_span, span_of}
use Rattle.regions.proofs.Ticks.{untils_rise}
use Rattle.regions.proofs.spans.Spans.count_until.Goals as goal

pub returns-clause-before : goal.returns-clause-before
returns-clause-before c =
    let ls : List Span = c.self.inside.spans.items in
    let t : ℕ = c.args.tick in
    let order : IsNonDecreasingBy (λ (s : Span). s.until) c.deref.result.now = rw c.deref.ensures.value (untils_rise ls c.self.invariant) in
    let point = IsPartitionPoint-from_clause (λ (s : Span). leb s.until t) _ _ c.partition_point.ensures.partitioned (IsPartitionedBy-leb (λ (s : Span). s.until) c.deref.result.now t order) (λ a r q k. search rules) in
    let here = rw c.deref.ensures.value at point in
    rw (← c.self.view_is) (λ k h. leb-true (span_of ls k).until t (here.0 k no_span (omega arith) h))

pub returns-clause-after : goal.returns-clause-after
returns-clause-after c =
    let ls : List Span = c.self.inside.spans.items in
    let t : ℕ = c.args.tick in
    let order : IsNonDecreasingBy (λ (s : Span). s.until) c.deref.result.now = rw c.deref.ensures.value (untils_rise ls c.self.invariant) in
    let point = IsPartitionPoint-from_clause (λ (s : Span). leb s.until t) _ _ c.partition_point.ensures.partitioned (IsPartitionedBy-leb (λ (s : Span). s.until) c.deref.result.now t order) (λ a r q k. search rules) in
    let here = rw c.deref.ensures.value at point in
    rw (← c.self.view_is) (λ k h i. leb-false (span_of ls k).until t (here.1 k no_span h i))
