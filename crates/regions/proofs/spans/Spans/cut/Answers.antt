-- What is left of the spans that it meets, in their place.
use Rattle.std.proofs.Common.{◌≡◌, ◌-◌, ℕ, List, [], ◌++◌, refl, sym, ◌∙◌, arith}
use Rattle.std.proofs.lemmas.List.{get_or_default}
use Rattle.std.proofs.lemmas.Result.{on_ok_weaker}
use Rattle.regions.specs.declared.span.Span.{Span}
use Rattle.regions.specs.Spans.{IsSpans, no_span, some_span, span_of}
use Rattle.regions.proofs.Changes.{cut_none, cut_off, either, left_of}
use Rattle.regions.proofs.Parts.{put, put_spans}
use Rattle.regions.proofs.spans.Spans.cut.Goals as goal

pub returns-then-last-first-clause-ok : goal.returns-then-last-first-clause-ok
returns-then-last-first-clause-ok c = λ t.
    let ends = rw (← c.self.view_is) at c.count_until-first.ensures.before in
    let past = rw (← c.self.view_is) at c.count_by-last.ensures.after in
    rw (← c.self.view_is) (cut_none c.self.inside.spans.items c.count_until-first.result c.count_by-last.result c.args.from c.args.until t c.if-last-first.true c.requires ends past)

made : (ss one two : List Span) (first last from until : ℕ) (f b : Span) → f ≡ span_of ss first → b ≡ span_of ss (last - 1) → one ≡ [] ++ some_span f.from from → two ≡ one ++ some_span until b.until → two ≡ left_of ss first last from until
made ss one two first last from until f b ef eb e1 e2 = rw (e2, e1, ef, eb) refl

pub invariant_of-self : goal.invariant_of-self
invariant_of-self c =
    let ss : List Span = c.self.inside.spans.items in
    let first : ℕ = c.count_until-first.result in
    let last : ℕ = c.count_by-last.result in
    let ends = rw (← c.self.view_is) at c.count_until-first.ensures in
    let by = rw (← c.self.view_is) at c.count_by-last.ensures in
    let f : c.index.result.now ≡ span_of ss first = c.index.ensures ∙ sym (get_or_default ss first no_span c.index.result.now (omega (arith, c.if-last-first.false, by.count))) in
    let b : c.index-2.result.now ≡ span_of ss (last - 1) = c.index-2.ensures ∙ sym (get_or_default ss (last - 1) no_span c.index-2.result.now (omega (arith, c.if-last-first.false, by.count))) in
    let one = rw c.new-with.ensures.items at c.in_ok-push_some.ensures in
    let with = made ss c.push_some.new.spans.items c.push_some-2.new.spans.items first last c.args.from c.args.until c.index.result.now c.index-2.result.now f b one c.in_ok-push_some-2.ensures in
    let both = cut_off ss first last c.args.from c.args.until c.if-last-first.false c.self.invariant c.requires ends.count by.count ends.before ends.after by.before by.after in
    let ok = rw with at c.replace.ensures.ok in
    either c.replace.result IsSpans c.replace.new.spans.items (put ss first last (left_of ss first last c.args.from c.args.until)) ss ok c.replace.ensures.err (put_spans ss first last (left_of ss first last c.args.from c.args.until) c.self.invariant both.0) c.self.invariant

pub returns-clause-ok : goal.returns-clause-ok
returns-clause-ok c =
    let ss : List Span = c.self.inside.spans.items in
    let first : ℕ = c.count_until-first.result in
    let last : ℕ = c.count_by-last.result in
    let ends = rw (← c.self.view_is) at c.count_until-first.ensures in
    let by = rw (← c.self.view_is) at c.count_by-last.ensures in
    let f : c.index.result.now ≡ span_of ss first = c.index.ensures ∙ sym (get_or_default ss first no_span c.index.result.now (omega (arith, c.if-last-first.false, by.count))) in
    let b : c.index-2.result.now ≡ span_of ss (last - 1) = c.index-2.ensures ∙ sym (get_or_default ss (last - 1) no_span c.index-2.result.now (omega (arith, c.if-last-first.false, by.count))) in
    let one = rw c.new-with.ensures.items at c.in_ok-push_some.ensures in
    let with = made ss c.push_some.new.spans.items c.push_some-2.new.spans.items first last c.args.from c.args.until c.index.result.now c.index-2.result.now f b one c.in_ok-push_some-2.ensures in
    let both = cut_off ss first last c.args.from c.args.until c.if-last-first.false c.self.invariant c.requires ends.count by.count ends.before ends.after by.before by.after in
    let ok = rw with at c.replace.ensures.ok in
    rw (← c.self.view_is) (on_ok_weaker c.replace.result (λ (e : c.replace.new.spans.items ≡ put ss first last (left_of ss first last c.args.from c.args.until)). λ t. rw e (both.1 t)) ok)
