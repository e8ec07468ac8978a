-- The last span goes on, or one more is behind it.
use Rattle.std.proofs.Common.{◌≡◌, ◌<◌, ◌-◌, ℕ, List, length, sym, ◌∙◌, ap, arith}
use Rattle.std.proofs.lemmas.List.{get_or_default}
use Rattle.regions.specs.declared.span.Span.{Span}
use Rattle.regions.specs.Spans.{no_span, span_of}
use Rattle.regions.proofs.Joins.{appended_with, joined_with}
use Rattle.regions.proofs.spans.push_joined.Goals as goal
use Rattle.regions.proofs.spans.push_joined.Goals.{else-count-gt0-via-then-count-gt0+else-span-index, else-count-gt0-via-else-count-gt0}

pub returns-then-span-index : goal.returns-then-span-index
returns-then-span-index c =
    let ss : List Span = c.args.spans.now.items in
    let n : ℕ = c.len-count.result in
    let count : n ≡ length ss = omega (arith, c.len-count.ensures, c.args.spans.now.ok) in
    let inside : n - 1 < length ss = omega (arith, count, c.if-count-gt0.true) in
    let first : c.index.result.now ≡ span_of ss (n - 1) = c.index.ensures ∙ sym (get_or_default ss (n - 1) no_span c.index.result.now inside) in
    let second : c.index-then-span-index.result.now ≡ span_of ss (n - 1) = c.index-then-span-index.ensures ∙ sym (get_or_default ss (n - 1) no_span c.index-then-span-index.result.now inside) in
    let third : c.index_mut.result.now ≡ span_of ss (n - 1) = c.index_mut.ensures.value ∙ sym (get_or_default ss (n - 1) no_span c.index_mut.result.now inside) in
    joined_with ss n c.args.span _ c.requires.spans c.requires.some c.requires.order count c.if-count-gt0.true
    (rw first at c.if-span-index.true) (ap (λ (s : Span). s.from) third) (rw second at c.max-until.ensures)

pub returns-in_ok-push : goal.returns-in_ok-push
returns-in_ok-push c =
    let ss : List Span = c.args.spans.now.items in
    let n : ℕ = c.len-count.result in
    let count : n ≡ length ss = omega (arith, c.len-count.ensures, c.args.spans.now.ok) in
    let behind : 0 < length ss → (span_of ss (length ss - 1)).until < c.args.span.from = elim c.else-count-gt0.branch [
      | else-count-gt0-via-then-count-gt0+else-span-index w ↦ (λ h.
          let is : w.index.result.now ≡ span_of ss (n - 1) = w.index.ensures ∙ sym (get_or_default ss (n - 1) no_span w.index.result.now (omega (arith, count, h))) in
          rw (← count) (rw is at w.if-span-index.false))
      | else-count-gt0-via-else-count-gt0 w ↦ (λ h. absurd (omega (arith, h, count, w.if-count-gt0.false)))
    ] in
    rw (c.in_ok-push.ensures {u = tt}).items (appended_with ss c.args.span c.requires.spans c.requires.some c.requires.order behind)
