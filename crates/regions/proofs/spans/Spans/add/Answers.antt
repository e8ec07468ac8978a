-- One span in place of those that it takes in.
use Rattle.std.proofs.Common.{◌≡◌, ℕ, List, [], ◌∷◌}
use Rattle.std.proofs.lemmas.Result.{on_ok_weaker}
use Rattle.regions.specs.declared.span.Span.{Span}
use Rattle.regions.specs.Spans.{IsSpans}
use Rattle.regions.proofs.Changes.{added, either}
use Rattle.regions.proofs.Parts.{put, put_spans}
use Rattle.regions.proofs.spans.Spans.add.Goals as goal

pub invariant_of-self : goal.invariant_of-self
invariant_of-self c =
    let ss : List Span = c.self.inside.spans.items in
    let first : ℕ = c.first_near-first.result in
    let last : ℕ = c.count_by-last.result in
    let span : Span = c.joined-span.result in
    let near = rw (← c.self.view_is) at c.first_near-first.ensures in
    let by = rw (← c.self.view_is) at c.count_by-last.ensures in
    let joined = rw (← c.self.view_is) at c.joined-span.ensures in
    let both = added ss first last c.args.from c.args.until span c.self.invariant c.requires near.count by.count near.before near.after by.before by.after joined in
    let ok = rw c.in_ok-with.ensures.items at c.replace.ensures.ok in
    either c.replace.result IsSpans c.replace.new.spans.items (put ss first last (span ∷ [])) ss ok c.replace.ensures.err (put_spans ss first last (span ∷ []) c.self.invariant both.0) c.self.invariant

pub returns-clause-ok : goal.returns-clause-ok
returns-clause-ok c =
    let ss : List Span = c.self.inside.spans.items in
    let first : ℕ = c.first_near-first.result in
    let last : ℕ = c.count_by-last.result in
    let span : Span = c.joined-span.result in
    let near = rw (← c.self.view_is) at c.first_near-first.ensures in
    let by = rw (← c.self.view_is) at c.count_by-last.ensures in
    let joined = rw (← c.self.view_is) at c.joined-span.ensures in
    let both = added ss first last c.args.from c.args.until span c.self.invariant c.requires near.count by.count near.before near.after by.before by.after joined in
    let ok = rw c.in_ok-with.ensures.items at c.replace.ensures.ok in
    rw (← c.self.view_is) (on_ok_weaker c.replace.result (λ (e : c.replace.new.spans.items ≡ put ss first last (span ∷ [])). λ t. rw e (both.1 t)) ok)
