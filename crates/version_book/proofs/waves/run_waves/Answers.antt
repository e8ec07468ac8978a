-- The wave of one node more.
use Rattle.std.proofs.Common.{List, Vec, Global, map, ap, ◌∙◌, arith, ◌<◌, length}
use Rattle.semantics.specs.declared.line.Line.{Line}
use Rattle.semantics.specs.Deck.{nodes}
use Rattle.semantics.specs.Wave.{wave}
use Rattle.version_book.proofs.KeptWaves.{all_kept, one_waved}
use Rattle.version_book.proofs.waves.run_waves.Goals as goal

pub loop-i-preserved : goal.loop-i-preserved
loop-i-preserved c =
    let f : Vec Line Global → List Line = λ v. v.items in
    let inside : c.loop-i.i < length (nodes c.args.deck.now) = omega (arith, c.loop-i-test.true, c.node_count-i-end.ensures) in
    ap (map f) (c.in_ok-push.ensures {u = tt}).items ∙ one_waved f c.loop-i.waves.items c.in_ok-run_wave.field-0 c.args.deck.now c.loop-i.i inside c.loop-i.invariant (c.in_ok-run_wave.ensures {u = tt})

pub returns : goal.returns
returns c = c.loop-i.invariant ∙ ap (map (wave c.args.deck.now)) (all_kept (nodes c.args.deck.now) c.loop-i.i (omega (arith, c.loop-i-test.false, c.loop-i.auto.i-end, c.node_count-i-end.ensures)))
