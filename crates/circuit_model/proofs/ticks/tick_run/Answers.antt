-- At the stop tick the waves and the events are whole.
use Rattle.std.proofs.Common.{◌≡◌, ◌<◌, ◌≤◌, ℕ, ◌+◌, List, [], length, get_or, map, refl, ◌∙◌, ap, arith}
use Rattle.std.specs.Prelude.{min, max}
use Rattle.std.specs.List.{All}
use Rattle.std.proofs.lemmas.List.{get_or_default, get_or-map}
use Rattle.std.proofs.lemmas.List.Elements.{All-map}
use Rattle.semantics.proofs.Limits.{Limits, limits}
use Rattle.semantics.proofs.Nodes.{AreNodes-nodes}
use Rattle.semantics.proofs.Waves.{HasDen, wave_dens}
use Rattle.semantics.specs.declared.event.Event.{Event}
use Rattle.semantics.specs.declared.line.Line.{Line}
use Rattle.semantics.specs.Deck.{DeckValue, nodes}
use Rattle.semantics.specs.Event.{events, events_to}
use Rattle.semantics.specs.Run.{run}
use Rattle.semantics.specs.Wave.{wave, entries_below}
use Rattle.circuit_model.specs.Carried.{HasVoltage}
use Rattle.circuit_model.proofs.Carried.{carried}
use Rattle.circuit_model.proofs.ticks.tick_run.Goals as goal

whole_waves : (d : DeckValue) (t : ℕ) (waves : List (List Line)) → t ≡ d.stop → waves ≡ map (entries_below d (min (t + 1) (max 1 d.stop))) (nodes d) → waves ≡ map (wave d) (nodes d)
unfolding wave
whole_waves d t waves end are = let all : min (t + 1) (max 1 d.stop) ≡ max 1 d.stop = omega (arith, end) in are ∙ rw all refl

whole_events : (d : DeckValue) (t : ℕ) (all : List Event) → t ≡ d.stop → all ≡ events_to d t → all ≡ events d
unfolding events
whole_events d t all end are = are ∙ ap (events_to d) end

whole_dens : (d : DeckValue) (waves : List (List Line)) → Limits d → waves ≡ map (wave d) (nodes d) → All (λ lines. All HasDen lines) waves
whole_dens d waves l are = rw are (All-map (λ (lines : List Line). All HasDen lines) (wave d) (nodes d)
    (λ i n below. rw (get_or_default (nodes d) i n [] below) (wave_dens d i l below)))

whole_voltages : (d : DeckValue) (waves : List (List Line)) → Limits d → waves ≡ map (wave d) (nodes d) → (i t : ℕ) → i < length (nodes d) → t ≤ d.stop
    → HasVoltage (get_or waves i []) t (run d t (get_or (nodes d) i []))
whole_voltages d waves l are i t inside up_to =
    rw (are, get_or-map (wave d) (nodes d) i [] [] inside) (carried d (get_or (nodes d) i []) t l ((AreNodes-nodes d).real i inside) up_to)

pub returns : goal.returns
returns c =
    let d : DeckValue = c.args.deck.now in
    let end : c.loop-tick.tick ≡ d.stop = omega (arith, c.stop-stop.ensures.value, c.loop-tick.auto.tick-end, c.loop-tick-test.false) in
    record {
      waves = whole_waves d c.loop-tick.tick c.loop-tick.ticks.waves end c.loop-tick.invariant.waves;
      voltages = whole_voltages d c.loop-tick.ticks.waves (limits d c.stop-stop.ensures.valid) (whole_waves d c.loop-tick.tick c.loop-tick.ticks.waves end c.loop-tick.invariant.waves);
      events = whole_events d c.loop-tick.tick c.loop-tick.ticks.events end c.loop-tick.invariant.events;
      denominators = whole_dens d c.loop-tick.ticks.waves (limits d c.stop-stop.ensures.valid) (whole_waves d c.loop-tick.tick c.loop-tick.ticks.waves end c.loop-tick.invariant.waves);
    }
