-- The lines that begin later in the range are those that begin by its last tick, of those that begin after its first.
use Rattle.std.proofs.Common.{◌≡◌, ◌≤◌, ◌-◌, ◌&&◌, ℕ, Bool, true, List, length, leb, ltb, sym, ap, ◌∙◌, refl, subst}
use Rattle.std.specs.List.{All, filter}
use Rattle.std.specs.Option.{option_map}
use Rattle.std.specs.Prelude.{slice_get}
use Rattle.std.proofs.lemmas.Bool.{le-ltb, leb-true, lt-ltb}
use Rattle.std.proofs.lemmas.List.Elements.{All-filter, All-weaker, filter_passes}
use Rattle.semantics.specs.declared.line.Line.{Line}
use Rattle.wave_text.specs.Body.{IsSmall}
use Rattle.wave_text.specs.Shown.{begun, from_tick, in_force, shown}
use Rattle.wave_text.proofs.Cut.{both_kept}
use Rattle.wave_text.proofs.wave_lines.shown.Goals as goal

pub line_at-requires-clause-small : goal.line_at-requires-clause-small
line_at-requires-clause-small c =
    subst (All IsSmall) (sym c.split_after.ensures.begun) (All-filter (λ (l : Line). leb l.start c.in-Some.first) IsSmall c.args.lines.now c.requires.small)

pub line_at-requires-clause-begun : goal.line_at-requires-clause-begun
line_at-requires-clause-begun c =
    let t : ℕ = c.in-Some.first in
    let begun_by : Line → Type 0 = λ l. l.start ≤ t in
    subst (All begun_by) (sym c.split_after.ensures.begun)
    (All-weaker (λ (l : Line). leb l.start t ≡ true) begun_by (λ l h. leb-true l.start t h) (begun t c.args.lines.now) (filter_passes (λ (l : Line). leb l.start t) c.args.lines.now))

pub returns-in_default : goal.returns-in_default
unfolding shown
returns-in_default c = rw c.in_default.is refl

pub returns-then-stop-first : goal.returns-then-stop-first
unfolding shown
returns-then-stop-first c = rw (c.in-Some.is, lt-ltb c.args.stop c.in-Some.first c.if-stop-first.true) refl

pub returns : goal.returns
unfolding shown
returns c =
    let lines : List Line = c.args.lines.now in
    let first : ℕ = c.in-Some.first in
    let last : ℕ = c.in-Some.last in
    let by_last : Line → Bool = λ l. leb l.start last in
    let after : Line → Bool = λ l. ltb first l.start in
    let front : c.line_at.result ≡ option_map (from_tick first) (in_force first lines) =
    c.line_at.ensures ∙ ap (λ (ls : List Line). option_map (from_tick first) (slice_get ls (length ls - 1))) c.split_after.ensures.begun in
    let others : c.split_after-2.result.0.now ≡ filter (λ l. after l && by_last l) lines =
    c.split_after-2.ensures.begun ∙ ap (filter by_last) c.split_after.ensures.later ∙ sym (both_kept after by_last lines) in
    rw (c.in-Some.is, le-ltb c.args.stop first c.if-stop-first.false, front, others) refl
