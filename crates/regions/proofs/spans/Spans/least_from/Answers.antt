-- The first span that does not end by then.
use Rattle.std.proofs.Common.{◌≡◌, ◌<◌, ◌≤◌, ℕ, List, max, length, sym, ◌∙◌, arith, ⊎_elim}
use Rattle.std.proofs.lemmas.List.{get_or_default}
use Rattle.regions.specs.declared.span.Span.{Span}
use Rattle.regions.specs.Spans.{no_span, span_of}
use Rattle.regions.proofs.Parts.{le_or_lt}
use Rattle.regions.proofs.Ticks.{from_le, has_at, has_not, some_at}
use Rattle.regions.proofs.spans.Spans.least_from.Goals as goal

pub returns-then-place-len : goal.returns-then-place-len
returns-then-place-len c =
    let ss : List Span = c.self.inside.spans.items in
    let tick : ℕ = c.args.tick in
    let k : ℕ = c.count_until-place.result in
    let inside : k < length ss = omega (arith, c.if-place-len.true, c.len.ensures, c.self.inside.spans.ok) in
    let is : c.index.result.now ≡ span_of ss k = c.index.ensures ∙ sym (get_or_default ss k no_span c.index.result.now inside) in
    let least : c.max.result ≡ max (span_of ss k).from tick = rw is at c.max.ensures in
    let before = rw (← c.self.view_is) at c.count_until-place.ensures.before in
    let after = rw (← c.self.view_is) at c.count_until-place.ensures.after in
    let ends = after k (omega arith) inside in
    let some = some_at ss k c.self.invariant inside in
    rw (← c.self.view_is) (
      omega (arith, least),
      has_at ss k c.max.result inside (omega (arith, least), omega (arith, least, ends, some)),
      (λ t h b. has_not ss t (λ j i at. ⊎_elim
          (λ (later : k ≤ j). let low = from_le ss k j c.self.invariant later i in omega (arith, least, low, h, b, at.0))
          (λ (earlier : j < k). let e = before j earlier in omega (arith, e, h, at.1))
          (le_or_lt k j))),
    )

pub returns-else-place-len : goal.returns-else-place-len
returns-else-place-len c = λ t h.
    let ss : List Span = c.self.inside.spans.items in
    let before = rw (← c.self.view_is) at c.count_until-place.ensures.before in
    rw (← c.self.view_is) (has_not ss t (λ k i at. let e = before k (omega (arith, i, c.if-place-len.false, c.len.ensures, c.self.inside.spans.ok)) in omega (arith, e, h, at.1)))
