-- The record of a free node is its run, whose wave goes through the pairs.
use Rattle.std.proofs.Common.{◌≡◌, List, IfOk, sym, ap, ◌∙◌, subst, ℕ}
use Rattle.semantics.specs.declared.fraction.Fraction.{Fraction}
use Rattle.semantics.specs.declared.line.Line.{Line}
use Rattle.semantics.proofs.Limits.{limits}
use Rattle.histories.specs.Pairs.{IsSmooth, wave_of}
use Rattle.histories.specs.Record.{pair_at}
use Rattle.circuit_model.specs.Numbers.{name_at}
use Rattle.record_waves.proofs.FreeWaves.{free_smooth, free_wave}
use Rattle.record_waves.proofs.NodeNames.{free_is}
use Rattle.record_waves.proofs.waves.wave.Goals as goal

pub canonical-requires-clause-smooth : goal.canonical-requires-clause-smooth
canonical-requires-clause-smooth c =
    let p : ℕ → Fraction = pair_at c.args.past.now c.args.node in
    let is = free_is c.args.circuit.now c.args.past.now c.args.node (limits c.args.circuit.now.deck c.stop-stop.ensures.valid) c.node_count.ensures.names c.requires.run (sym c.kind.ensures ∙ c.in-Free.is) in
    subst (IsSmooth p) (sym c.requires.run.recorded.stop) (free_smooth c.args.circuit.now.deck (name_at c.args.circuit.now c.args.node) p is)

pub returns-in-Free : goal.returns-in-Free
returns-in-Free c =
    let p : ℕ → Fraction = pair_at c.args.past.now c.args.node in
    let is = free_is c.args.circuit.now c.args.past.now c.args.node (limits c.args.circuit.now.deck c.stop-stop.ensures.valid) c.node_count.ensures.names c.requires.run (sym c.kind.ensures ∙ c.in-Free.is) in
    let same = ap (wave_of p) c.requires.run.recorded.stop ∙ free_wave c.args.circuit.now.deck (name_at c.args.circuit.now c.args.node) p is c.requires.stop in
    subst (λ (ws : List Line). IfOk c.canonical.result (λ lines. lines.items ≡ ws)) same c.canonical.ensures
