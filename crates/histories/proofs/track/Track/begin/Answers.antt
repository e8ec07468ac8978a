-- Without their first tick, or as they are.
use Rattle.std.proofs.Common.{◌≡◌, ℕ, List, sym, ap, ◌∙◌}
use Rattle.std.proofs.lemmas.List.{get_or_default}
use Rattle.semantics.specs.declared.line.Line.{Line}
use Rattle.node_ramps.specs.Lines.{voltage}
use Rattle.histories.specs.Track.{line_of, no_line}
use Rattle.histories.proofs.Joins.{equal_pairs, first_place}
use Rattle.histories.proofs.Places.{pair_at_place}
use Rattle.histories.proofs.track.Track.begin.Goals as goal

pub returns-then-eq-clause-first : goal.returns-then-eq-clause-first
returns-then-eq-clause-first c = λ e.
    let ls : List Line = c.args.ramps.now.items in
    let from : ℕ = c.args.from in
    let lines = c.requires.track.lines in
    let is : c.line.result ≡ line_of ls 0 = c.line.ensures ∙ c.index.ensures ∙ sym (get_or_default ls 0 no_line c.index.result.now lines.some) in
    let same : c.voltage.result ≡ c.at.result = equal_pairs c.voltage.result c.at.result (sym c.if-eq.ensures) in
    pair_at_place ls from 0 lines.rising (first_place from ls lines) ∙ sym (ap (λ (l : Line). voltage l from) is) ∙ sym c.voltage.ensures ∙ same ∙ c.at.ensures.pair
