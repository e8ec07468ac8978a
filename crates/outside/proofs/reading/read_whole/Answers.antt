use Rattle.std.proofs.Common.{◌∙◌, arith}
use Rattle.outside.proofs.Taken.{taken_more}
use Rattle.outside.proofs.reading.read_whole.Goals as goal

pub loop-piece-preserved : goal.loop-piece-preserved
loop-piece-preserved g c =
    let kept = c.loop-piece.invariant in
    let size = c.len-at.ensures ∙ c.loop-piece.bytes.ok.0 in (
      taken_more _ _ _ _ _ _ c.in_ok-count.count (kept.2 _) size c.in_ok-extend_from_slice.ensures.items c.in_ok-count.ensures.bound.0 kept.0 c.in_ok-count.ensures.given,
      c.read.ensures.names ∙ kept.1,
      (λ name. c.read.ensures.bytes name ∙ kept.2 name),
      omega (arith, c.read.ensures.cause.later, kept.3),
      (λ other differs. c.read.ensures.others other differs ∙ kept.4 other differs),
    )
