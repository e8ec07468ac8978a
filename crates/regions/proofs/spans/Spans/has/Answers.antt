-- In the span that is the first not to end by then, or in none.
use Rattle.std.proofs.Common.{◌≡◌, ◌<◌, ℕ, List, leb, length, sym, ◌∙◌, arith, false}
use Rattle.std.proofs.lemmas.Bool.{le-leb, leb-true, le-ltb}
use Rattle.std.proofs.lemmas.List.{get_or_default}
use Rattle.regions.specs.declared.span.Span.{Span}
use Rattle.regions.specs.Spans.{has, no_span, span_of}
use Rattle.regions.proofs.Ticks.{has_at, has_not, has_where, only_there, same_answer}
use Rattle.regions.proofs.spans.Spans.has.Goals as goal

pub returns-then-place-len : goal.returns-then-place-len
returns-then-place-len c =
    let ss : List Span = c.self.inside.spans.items in
    let t : ℕ = c.args.tick in
    let k : ℕ = c.count_until-place.result in
    let inside : k < length ss = omega (arith, c.if-place-len.true, c.len.ensures, c.self.inside.spans.ok) in
    let is : c.index.result.now ≡ span_of ss k = c.index.ensures ∙ sym (get_or_default ss k no_span c.index.result.now inside) in
    let before = rw (← c.self.view_is) at c.count_until-place.ensures.before in
    let after = rw (← c.self.view_is) at c.count_until-place.ensures.after in
    let ends = after k (omega arith) inside in
    rw (← c.self.view_is, is) (same_answer (leb (span_of ss k).from t) (has ss t)
    (λ e. has_at ss k t inside (leb-true (span_of ss k).from t e, ends))
    (λ e. let w = has_where ss t e in
    let same : w.0 ≡ k = only_there ss k w.0 t c.self.invariant inside ends before w.1 w.2 in
    le-leb (span_of ss k).from t (rw same at w.2.0)))

pub returns-else-place-len : goal.returns-else-place-len
returns-else-place-len c =
    let ss : List Span = c.self.inside.spans.items in
    let t : ℕ = c.args.tick in
    let before = rw (← c.self.view_is) at c.count_until-place.ensures.before in
    let none : has ss t ≡ false = has_not ss t (λ k h at. let e = before k (omega (arith, h, c.if-place-len.false, c.len.ensures, c.self.inside.spans.ok)) in omega (arith, e, at.1)) in
    le-ltb c.count_until-place.result c.len.result c.if-place-len.false ∙ sym (rw (← c.self.view_is) none)
