-- The spans are in order.
use Rattle.std.proofs.Common.{◌≡◌, ◌<◌, ℕ, List, length, leb, arith, rules, ◌-◌, sym, ◌∙◌}
use Rattle.std.proofs.lemmas.List.{get_or_default}
use Rattle.std.specs.List.Sorted.{IsNonDecreasingBy}
use Rattle.std.proofs.lemmas.Bool.{leb-true, leb-false}
use Rattle.std.proofs.lemmas.List.Sorted.{IsPartitionedBy-leb, IsPartitionPoint-from_clause}
use Rattle.regions.specs.declared.span.Span.{Span}
use Rattle.regions.specs.Spans.{no_span, span_of}
use Rattle.regions.proofs.Ticks.{from_le, froms_rise}
use Rattle.regions.proofs.spans.Spans.count_by.Goals as goal
use Rattle.regions.proofs.spans.Spans.count_by.Goals.{then-count-eq0-via-then-count-eq0, then-count-eq0-via-else-count-eq0+then-index-tick}

pub returns-then-count-eq0-clause-before : goal.returns-then-count-eq0-clause-before
returns-then-count-eq0-clause-before c =
    let ss : List Span = c.self.inside.spans.items in
    let count : c.len-count.result ≡ length ss = omega (arith, c.len-count.ensures, c.self.inside.spans.ok) in
    rw (← c.self.view_is) (elim c.then-count-eq0.branch [
      | then-count-eq0-via-then-count-eq0 w ↦ (λ k h. absurd (omega (arith, h, w.if-count-eq0.true)))
      | then-count-eq0-via-else-count-eq0+then-index-tick w ↦ (λ k h.
          let inside : c.len-count.result - 1 < length ss = omega (arith, h, count) in
          let is : w.index.result.now ≡ span_of ss (c.len-count.result - 1) = w.index.ensures ∙ sym (get_or_default ss (c.len-count.result - 1) no_span w.index.result.now inside) in
          let begins = rw is at w.if-index-tick.true in
          let by = from_le ss k (c.len-count.result - 1) c.self.invariant (omega (arith, h)) inside in
          omega (arith, begins, by))
    ])

pub returns-clause-before : goal.returns-clause-before
returns-clause-before c =
    let ls : List Span = c.self.inside.spans.items in
    let t : ℕ = c.args.tick in
    let order : IsNonDecreasingBy (λ (s : Span). s.from) c.deref.result.now = rw c.deref.ensures.value (froms_rise ls c.self.invariant) in
    let point = IsPartitionPoint-from_clause (λ (s : Span). leb s.from t) _ _ c.partition_point.ensures.partitioned (IsPartitionedBy-leb (λ (s : Span). s.from) c.deref.result.now t order) (λ a r q k. search rules) in
    let here = rw c.deref.ensures.value at point in
    rw (← c.self.view_is) (λ k h. leb-true (span_of ls k).from t (here.0 k no_span (omega arith) h))

pub returns-clause-after : goal.returns-clause-after
returns-clause-after c =
    let ls : List Span = c.self.inside.spans.items in
    let t : ℕ = c.args.tick in
    let order : IsNonDecreasingBy (λ (s : Span). s.from) c.deref.result.now = rw c.deref.ensures.value (froms_rise ls c.self.invariant) in
    let point = IsPartitionPoint-from_clause (λ (s : Span). leb s.from t) _ _ c.partition_point.ensures.partitioned (IsPartitionedBy-leb (λ (s : Span). s.from) c.deref.result.now t order) (λ a r q k. search rules) in
    let here = rw c.deref.ensures.value at point in
    rw (← c.self.view_is) (λ k h i. leb-false (span_of ls k).from t (here.1 k no_span h i))
