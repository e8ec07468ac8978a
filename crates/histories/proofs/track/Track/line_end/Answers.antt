-- The line goes on as long as its rate is that of the line in force, and where it meets the next.
use Rattle.std.proofs.Common.{◌≡◌, ◌≢◌, ◌+◌, ℕ, ℤ, List, sym, ap, ◌∙◌, arith, of_z, to_z}
use Rattle.std.specs.Int.{w128}
use Rattle.std.proofs.lemmas.Int.{to_z-of_z, fits_signed_from_abs}
use Rattle.std.proofs.lemmas.List.{get_or_default}
use Rattle.semantics.specs.declared.line.Line.{Line}
use Rattle.histories.specs.Track.{no_line, line_of}
use Rattle.histories.proofs.Follows.{has_more, leaves}
use Rattle.histories.proofs.track.Track.line_end.Goals as goal

pub returns-then-line : goal.returns-then-line
returns-then-line c =
    let ls : List Line = c.self.inside.ramps.items in
    let at : ℕ = c.loop-end.end in
    let p = rw (← c.self.view_is) at c.loop-end.invariant.place in
    let l : Line = line_of ls c.loop-end.place in
    let is : c.line.result ≡ l = c.line.ensures ∙ c.index.ensures ∙ sym (get_or_default ls c.loop-end.place no_line c.index.result.now p.inside) in
    let rates : c.args.line.now.rate ≢ l.rate = λ r. c.if-line.true (ap (λ (z : ℤ). of_z w128 z) (r ∙ ap (λ (m : Line). m.rate) (sym is))) in
    let next = rw (← c.self.view_is) at (c.last_tick-last.ensures.stays (at + 1) (omega arith) (omega (arith, c.if-end-last.true))) in
    let here = rw (← c.self.view_is) at (c.loop-end.invariant.has at c.loop-end.invariant.begun (omega arith)) in
    record {
      from_start = c.loop-end.invariant.begun;
      by_stop = c.loop-end.invariant.by_stop;
      has = c.loop-end.invariant.has;
      greatest = λ below. rw (← c.self.view_is) (leaves ls c.args.line.now c.loop-end.place at c.self.invariant.lines.rising p next c.loop-end.invariant.begun rates here);
    }

pub loop-end-preserved-then-end-last : goal.loop-end-preserved-then-end-last
loop-end-preserved-then-end-last c =
    let ls : List Line = c.self.inside.ramps.items in
    let at : ℕ = c.loop-end.end in
    let p = rw (← c.self.view_is) at c.loop-end.invariant.place in
    let l : Line = line_of ls c.loop-end.place in
    let is : c.line.result ≡ l = c.line.ensures ∙ c.index.ensures ∙ sym (get_or_default ls c.loop-end.place no_line c.index.result.now p.inside) in
    let own : to_z w128 (of_z w128 c.args.line.now.rate) ≡ c.args.line.now.rate = to_z-of_z w128 c.args.line.now.rate (fits_signed_from_abs w128 c.args.line.now.rate (omega (arith, c.requires.line.rate))) in
    let bound = c.self.invariant.bounded c.loop-end.place no_line p.inside in
    let other : to_z w128 (of_z w128 l.rate) ≡ l.rate = to_z-of_z w128 l.rate (fits_signed_from_abs w128 l.rate (omega (arith, bound.rate))) in
    let alike = rw is at c.if-line.false in
    let rates : c.args.line.now.rate ≡ l.rate = sym own ∙ ap (λ n. to_z w128 n) alike ∙ other in
    let stays = rw (← c.self.view_is) at c.last_tick-last.ensures.stays in
    let has = rw (← c.self.view_is) at c.loop-end.invariant.has in
    record {
      begun = omega (arith, c.loop-end.invariant.begun, c.last_tick-last.ensures.order);
      by_stop = c.last_tick-last.ensures.by_stop;
      has = rw (← c.self.view_is) (has_more ls c.args.line.now c.loop-end.place at c.last_tick-last.result c.self.invariant.lines.rising p stays c.loop-end.invariant.begun rates has);
      place = c.last_tick-last.ensures.stays c.last_tick-last.result c.last_tick-last.ensures.order (omega arith);
    }
