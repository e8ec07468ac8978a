-- Behind all, where the last ends before the tick; else by the search.
use Rattle.std.proofs.Common.{◌≡◌, ◌<◌, ◌-◌, ℕ, List, length, ltb, arith, rules, sym, ◌∙◌}
use Rattle.std.specs.List.Sorted.{IsNonDecreasingBy}
use Rattle.std.proofs.lemmas.Bool.{ltb-true, ltb-false}
use Rattle.std.proofs.lemmas.List.{get_or_default}
use Rattle.std.proofs.lemmas.List.Sorted.{IsPartitionedBy-ltb, IsPartitionPoint-from_clause}
use Rattle.regions.specs.declared.span.Span.{Span}
use Rattle.regions.specs.Spans.{no_span, span_of}
use Rattle.regions.proofs.Ticks.{until_le, untils_rise}
use Rattle.regions.proofs.spans.Spans.first_near.Goals as goal
use Rattle.regions.proofs.spans.Spans.first_near.Goals.{then-count-eq0-via-then-count-eq0, then-count-eq0-via-else-count-eq0+then-index-tick}

pub returns-then-count-eq0-clause-before : goal.returns-then-count-eq0-clause-before
returns-then-count-eq0-clause-before c =
    let ss : List Span = c.self.inside.spans.items in
    let count : c.len-count.result ≡ length ss = omega (arith, c.len-count.ensures, c.self.inside.spans.ok) in
    rw (← c.self.view_is) (elim c.then-count-eq0.branch [
      | then-count-eq0-via-then-count-eq0 w ↦ (λ k h. absurd (omega (arith, h, w.if-count-eq0.true)))
      | then-count-eq0-via-else-count-eq0+then-index-tick w ↦ (λ k h.
          let inside : c.len-count.result - 1 < length ss = omega (arith, h, count) in
          let is : w.index.result.now ≡ span_of ss (c.len-count.result - 1) = w.index.ensures ∙ sym (get_or_default ss (c.len-count.result - 1) no_span w.index.result.now inside) in
          let ends = rw is at w.if-index-tick.true in
          let by = until_le ss k (c.len-count.result - 1) c.self.invariant (omega (arith, h)) inside in
          omega (arith, ends, by))
    ])

pub returns-clause-before : goal.returns-clause-before
returns-clause-before c =
    let ls : List Span = c.self.inside.spans.items in
    let t : ℕ = c.args.tick in
    let order : IsNonDecreasingBy (λ (s : Span). s.until) c.deref.result.now = rw c.deref.ensures.value (untils_rise ls c.self.invariant) in
    let point = IsPartitionPoint-from_clause (λ (s : Span). ltb s.until t) _ _ c.partition_point.ensures.partitioned (IsPartitionedBy-ltb (λ (s : Span). s.until) c.deref.result.now t order) (λ a r q k. search rules) in
    let here = rw c.deref.ensures.value at point in
    rw (← c.self.view_is) (λ k h. ltb-true (span_of ls k).until t (here.0 k no_span (omega arith) h))

pub returns-clause-after : goal.returns-clause-after
returns-clause-after c =
    let ls : List Span = c.self.inside.spans.items in
    let t : ℕ = c.args.tick in
    let order : IsNonDecreasingBy (λ (s : Span). s.until) c.deref.result.now = rw c.deref.ensures.value (untils_rise ls c.self.invariant) in
    let point = IsPartitionPoint-from_clause (λ (s : Span). ltb s.until t) _ _ c.partition_point.ensures.partitioned (IsPartitionedBy-ltb (λ (s : Span). s.until) c.deref.result.now t order) (λ a r q k. search rules) in
    let here = rw c.deref.ensures.value at point in
    rw (← c.self.view_is) (λ k h i. ltb-false (span_of ls k).until t (here.1 k no_span h i))
