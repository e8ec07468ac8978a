-- The lines from the next tick on.
use Rattle.std.proofs.Common.{◌≡◌, ◌≢◌, ◌+◌, ◌<◌, List, length, sym, ap, ◌∙◌, arith}
use Rattle.std.proofs.lemmas.List.{get_or_default}
use Rattle.semantics.specs.declared.line.Line.{Line}
use Rattle.node_ramps.specs.Lines.{turned}
use Rattle.histories.specs.Track.{line_of, no_line}
use Rattle.histories.proofs.Joins.{by_from, skip_first, skip_none, tail_from}
use Rattle.histories.proofs.track.skip_tick.Goals as goal
use Rattle.histories.proofs.track.skip_tick.Goals.{else-len-gt1-via-then-len-gt1+else-line-next, else-len-gt1-via-else-len-gt1}

pub returns-then-line-next-clause-tail : goal.returns-then-line-next-clause-tail
returns-then-line-next-clause-tail c =
    let ls : List Line = c.args.ramps.now.items in
    let more : 1 < length ls = omega (arith, c.if-len-gt1.true, c.len.ensures, c.args.ramps.now.ok) in
    let is : c.line.result ≡ line_of ls 1 = c.line.ensures ∙ c.index.ensures ∙ sym (get_or_default ls 1 no_line c.index.result.now more) in
    let s = skip_first c.args.from ls c.requires.track.lines more (ap (λ (l : Line). l.start) (sym is) ∙ c.if-line-next.true) in
    rw (c.remove.ensures.items, s.1) (tail_from c.args.from (c.args.from + 1) 1 ls c.requires.track s.0)

pub returns-then-line-next-clause-by : goal.returns-then-line-next-clause-by
returns-then-line-next-clause-by c = λ t h by.
    let ls : List Line = c.args.ramps.now.items in
    let more : 1 < length ls = omega (arith, c.if-len-gt1.true, c.len.ensures, c.args.ramps.now.ok) in
    let is : c.line.result ≡ line_of ls 1 = c.line.ensures ∙ c.index.ensures ∙ sym (get_or_default ls 1 no_line c.index.result.now more) in
    let s = skip_first c.args.from ls c.requires.track.lines more (ap (λ (l : Line). l.start) (sym is) ∙ c.if-line-next.true) in
    rw (c.remove.ensures.items, s.1) (by_from c.args.from 1 t ls h by)

pub returns-else-len-gt1-clause-tail : goal.returns-else-len-gt1-clause-tail
returns-else-len-gt1-clause-tail c =
    let ls : List Line = c.args.ramps.now.items in
    let other : 1 < length ls → (line_of ls 1).start ≢ c.args.from + 1 = elim c.else-len-gt1.branch [
      | else-len-gt1-via-then-len-gt1+else-line-next w ↦ (λ more e. w.if-line-next.false (ap (λ (l : Line). l.start) (w.line.ensures ∙ w.index.ensures ∙ sym (get_or_default ls 1 no_line w.index.result.now more)) ∙ e))
      | else-len-gt1-via-else-len-gt1 w ↦ (λ more e. absurd (omega (arith, more, w.if-len-gt1.false, c.len.ensures, c.args.ramps.now.ok)))
    ] in
    let s = skip_none c.args.from ls c.requires.track.lines other in
    let is : c.index-else-len-gt1.result.now ≡ line_of ls 0 = c.index-else-len-gt1.ensures ∙ sym (get_or_default ls 0 no_line c.index-else-len-gt1.result.now c.requires.track.lines.some) in
    let turn : c.rebase.result ≡ turned (line_of ls 0) (c.args.from + 1) (line_of ls 0).rate = rw is at c.rebase.ensures.line in
    rw (turn, s.1) (tail_from c.args.from (c.args.from + 1) 0 ls c.requires.track s.0)

pub returns-else-len-gt1-clause-by : goal.returns-else-len-gt1-clause-by
returns-else-len-gt1-clause-by c = λ t h by.
    let ls : List Line = c.args.ramps.now.items in
    let other : 1 < length ls → (line_of ls 1).start ≢ c.args.from + 1 = elim c.else-len-gt1.branch [
      | else-len-gt1-via-then-len-gt1+else-line-next w ↦ (λ more e. w.if-line-next.false (ap (λ (l : Line). l.start) (w.line.ensures ∙ w.index.ensures ∙ sym (get_or_default ls 1 no_line w.index.result.now more)) ∙ e))
      | else-len-gt1-via-else-len-gt1 w ↦ (λ more e. absurd (omega (arith, more, w.if-len-gt1.false, c.len.ensures, c.args.ramps.now.ok)))
    ] in
    let s = skip_none c.args.from ls c.requires.track.lines other in
    let is : c.index-else-len-gt1.result.now ≡ line_of ls 0 = c.index-else-len-gt1.ensures ∙ sym (get_or_default ls 0 no_line c.index-else-len-gt1.result.now c.requires.track.lines.some) in
    let turn : c.rebase.result ≡ turned (line_of ls 0) (c.args.from + 1) (line_of ls 0).rate = rw is at c.rebase.ensures.line in
    rw (turn, s.1) (by_from c.args.from 0 t ls h by)
