-- The tick fits, and the waves go on with its lines.
use Rattle.std.proofs.Common.{◌≡◌, ℕ, ◌+◌, map, ◌∙◌, ap, arith}
use Rattle.std.proofs.lemmas.List.{with_items_is}
use Rattle.semantics.specs.Deck.{DeckValue, nodes}
use Rattle.semantics.specs.Run.{run}
use Rattle.semantics.proofs.Limits.{Limits, limits}
use Rattle.circuit_model.specs.State.{IsAt}
use Rattle.circuit_model.proofs.Growing.{waves_then}
use Rattle.circuit_model.proofs.ticks.Ticks.step.Goals as goal

pub overflow_add-next : goal.overflow_add-next
overflow_add-next c = let l : Limits c.args.network.now = limits c.args.network.now c.deck.ensures.valid in omega (arith, c.requires.before, l.stop)

pub returns-in_ok-add_lines : goal.returns-in_ok-add_lines
returns-in_ok-add_lines c =
    let d : DeckValue = c.args.network.now in
    let t : ℕ = c.args.tick in
    let at : IsAt d t c.args.self.now = c.requires.at in
    let volts : c.advance.new.volts ≡ map (run d (t + 1)) (nodes d) = rw c.deck.ensures.deck at c.advance.ensures in
    let stop : c.deck-2.result.now.stop ≡ d.stop = ap (λ (e : DeckValue). e.stop) c.deck-2.ensures.deck in
    let volts_kept = with_items_is c.args.self.now.volts c.advance.new.volts (c.advance.auto.volts ∙ c.deref_mut.ensures.len) in
    let cells_kept = with_items_is c.args.self.now.cells c.enter_cells.new.cells (c.enter_cells.auto.cells ∙ c.deref_mut-2.ensures.len) in
    let rates_kept = with_items_is c.args.self.now.rates c.find_rates.new.rates (c.find_rates.auto.rates ∙ c.deref_mut-3.ensures.len) in
    record {
      volts = volts_kept ∙ volts;
      cells = cells_kept ∙ c.in_ok-enter_cells.ensures.cells;
      rates = rates_kept ∙ c.find_rates.ensures;
      waves = waves_then d t c.args.self.now.waves c.add_lines.new.waves c.deref-then-next-stop.result.now c.deref-then-next-stop-2.result.now (omega (arith, c.if-next-stop.true, c.stop.ensures.value, stop))
          at.waves (c.deref-then-next-stop.ensures.value ∙ volts_kept ∙ volts) (c.deref-then-next-stop-2.ensures.value ∙ rates_kept ∙ c.find_rates.ensures) c.in_ok-add_lines.ensures.count c.in_ok-add_lines.ensures.lines;
      events = c.in_ok-enter_cells.ensures.events;
    }
