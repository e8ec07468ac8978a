-- Every list is that of tick 0.
use Rattle.std.proofs.Common.{◌≡◌, List, [], length, map, refl, sym, ◌∙◌, ap}
use Rattle.std.proofs.lemmas.List.{length-map, with_items_is}
use Rattle.semantics.specs.declared.fraction.Fraction.{Fraction}
use Rattle.semantics.specs.Deck.{DeckValue, nodes}
use Rattle.semantics.specs.Event.{events_to}
use Rattle.semantics.specs.Run.{run}
use Rattle.semantics.specs.Wave.{rate}
use Rattle.circuit_model.proofs.Growing.{waves_first}
use Rattle.circuit_model.proofs.ticks.Ticks.start.Goals as goal

no_events : (d : DeckValue) → events_to d 0 ≡ []
unfolding events_to
no_events d = refl

pub returns : goal.returns
returns c =
    let d : DeckValue = c.args.network.now in
    let volts : c.in_ok-volts.volts.items ≡ map (run d 0) (nodes d) = rw c.deck.ensures.deck at c.in_ok-volts.ensures in
    let rates : c.find_rates.new.rates ≡ map (rate d 0) (nodes d) = c.find_rates.ensures in
    let kept = with_items_is c.in_ok-rates.rates c.find_rates.new.rates (c.find_rates.auto.rates ∙ c.deref_mut.ensures.len) in
    let count : c.len-2.result ≡ length (nodes d) = c.len-2.ensures ∙ sym c.deref.ensures.len ∙ ap (λ (xs : List Fraction). length xs) (c.deref.ensures.value ∙ volts) ∙ length-map (nodes d) (run d 0) in
    record {
      volts = volts;
      cells = c.in_ok-cells.ensures;
      rates = kept ∙ rates;
      waves = waves_first d c.in_ok-waves.waves c.add_lines.new.waves c.deref-3.result.now c.deref-4.result.now (c.in_ok-waves.ensures ∙ rw count refl) (c.deref-3.ensures.value ∙ volts) (c.deref-4.ensures.value ∙ kept ∙ rates) c.in_ok-add_lines.ensures.count c.in_ok-add_lines.ensures.lines;
      events = c.new.ensures ∙ sym (no_events d);
    }
