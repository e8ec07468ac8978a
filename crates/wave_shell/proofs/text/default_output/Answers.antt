-- The wave of one node more.
use Rattle.std.proofs.Common.{◌≡◌, ℕ, ◌<◌, List, [], length, get_or, refl, ◌∙◌, ap, arith}
use Rattle.std.proofs.lemmas.List.{get_or-map, length-map}
use Rattle.semantics.specs.declared.line.Line.{Line}
use Rattle.semantics.specs.Deck.{DeckValue, nodes}
use Rattle.semantics.specs.Text.{version_text}
use Rattle.semantics.specs.Wave.{wave}
use Rattle.wave_shell.proofs.WaveTexts.{at_place, more}
use Rattle.wave_shell.proofs.text.default_output.Goals as goal

pub push_wave-requires : goal.push_wave-requires
push_wave-requires c =
    let waves : List (List Line) = c.args.waves.now in
    let below : c.loop-node.node < length waves = omega (arith, c.node_count-node-end.ensures, ap (λ (xs : List (List Line)). length xs) c.requires.waves, length-map (nodes c.args.deck.now) (wave c.args.deck.now)) in
    rw (at_place waves c.loop-node.node c.wave.result.now [] below c.wave.ensures) (c.requires.dens c.loop-node.node [] below)

pub loop-node-preserved : goal.loop-node-preserved
loop-node-preserved c =
    let d : DeckValue = c.args.deck.now in
    let i : ℕ = c.loop-node.node in
    let below : i < length (nodes d) = omega (arith, c.node_count-node-end.ensures) in
    let n : c.node.result.now ≡ get_or (nodes d) i [] = at_place (nodes d) i c.node.result.now [] below c.node.ensures in
    let inside : i < length c.args.waves.now = omega (arith, below, ap (λ (xs : List (List Line)). length xs) c.requires.waves, length-map (nodes d) (wave d)) in
    let lines : c.wave.result.now ≡ wave d c.node.result.now =
    at_place c.args.waves.now i c.wave.result.now [] inside c.wave.ensures ∙ rw (c.requires.waves, get_or-map (wave d) (nodes d) i [] [] below, n) refl in
    more d i _ _ (version_text 0) c.node.result.now c.wave.result.now below n lines c.loop-node.invariant c.in_ok-push_wave.ensures
