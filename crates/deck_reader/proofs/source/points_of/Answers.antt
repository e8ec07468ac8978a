use Rattle.std.proofs.Common.{◌∙◌, ◌∷◌, ap, sym}
use Rattle.deck_reader.specs.Sources.{points_of}
use Rattle.deck_reader.proofs.BehindLemmas.{behind, behind-start, points-next}
use Rattle.deck_reader.proofs.source.points_of.Goals as goal

pub loop-time-init : goal.loop-time-init
loop-time-init c = behind-start (points_of c.args.words.now) ∙ ap (λ points. behind points (points_of c.args.words.now)) (sym c.in_ok-points.ensures.items)

pub loop-time-preserved : goal.loop-time-preserved
loop-time-preserved c =
    c.loop-time.invariant
    ∙ ap (λ words. behind c.loop-time.points.items (points_of words)) (c.in-Some.ensures ∙ ap (λ words. c.in-Some.time ∷ words) c.in-Some-next.ensures)
    ∙ points-next c.loop-time.points.items c.in-Some.time c.in-Some-next.volts c.next-in-Some.new.self _ c.in_ok-point.ensures
    ∙ ap (λ points. behind points (points_of c.next-in-Some.new.self)) (sym c.in_ok-push.ensures.items)
