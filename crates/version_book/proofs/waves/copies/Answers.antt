-- One wave more.
use Rattle.std.proofs.Common.{List, Vec, Global, map, ap, ◌∙◌, arith}
use Rattle.semantics.specs.declared.line.Line.{Line}
use Rattle.version_book.proofs.KeptWaves.{all_kept, one_kept}
use Rattle.version_book.proofs.waves.copies.Goals as goal

pub loop-i-preserved : goal.loop-i-preserved
loop-i-preserved c =
    let f : Vec Line Global → List Line = λ v. v.items in
    ap (map f) (c.in_ok-push.ensures {u = tt}).items ∙ one_kept f c.loop-i.copies.items c.in_ok-from_slice.field-0 c.args.waves.now c.loop-i.i c.wave.result.now c.wave.ensures c.loop-i.invariant c.in_ok-from_slice.ensures.items

pub returns : goal.returns
returns c = c.loop-i.invariant ∙ all_kept c.args.waves.now c.loop-i.i (omega (arith, c.loop-i-test.false, c.loop-i.auto.i-end, c.len-i-end.ensures))
