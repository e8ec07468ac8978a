-- Each phase begins with all still to do.
use Rattle.std.proofs.Common.{◌≡◌, ◌<◌, ◌≤◌, ℕ, List, [], length, map, refl, sym, ap, ◌∙◌, arith, inl, inr, Vec, Global}
use Rattle.std.specs.List.{Contains}
use Rattle.std.specs.Vec.{with_items}
use Rattle.std.proofs.lemmas.List.{with_items_is}
use Rattle.semantics.specs.declared.line.Line.{Line}
use Rattle.node_ramps.specs.declared.ramp.Ramp.{Ramp}
use Rattle.node_ramps.specs.Lines.{voltage}
use Rattle.window_run.specs.Circuit.{net_of}
use Rattle.window_run.specs.Net.{Net}
use Rattle.histories.specs.Track.{line_of}
use Rattle.window_run.specs.Stage.{SameFree}
use Rattle.window_run.proofs.Due.{cells_kept}
use Rattle.window_run.proofs.Lines.{free_nums, free_slow, trust_kept}
use Rattle.window_run.proofs.Runs.{held_small}
use Rattle.window_run.proofs.Waiting.{none_wait}
use Rattle.window_run.proofs.open.open_stage.Goals as goal

pub bend-requires-clause-later : goal.bend-requires-clause-later
bend-requires-clause-later g c =
    none_wait (λ k d. c.args.from < d) _ c.new-bends.ensures

pub bend-requires-clause-driven : goal.bend-requires-clause-driven
bend-requires-clause-driven g c =
    none_wait _ _ c.new-bends.ensures

pub set_out-requires-clause-rates : goal.set_out-requires-clause-rates
set_out-requires-clause-rates g c =
    let net : Net = net_of c.args.circuit.now in
    let was : c.deref_mut.result.now ≡ c.args.lines.items = c.deref_mut.ensures.value in
    let free : SameFree net c.args.lines.items c.bend.new.lines = rw was at c.in_ok-bend.ensures.free in
    let bent : c.deref-2.result.now ≡ c.bend.new.lines = c.deref-2.ensures.value ∙ with_items_is c.args.lines c.bend.new.lines (c.bend.auto.lines ∙ c.deref_mut.ensures.len) in
    let bent_lines : c.deref_mut-3.result.now ≡ c.bend.new.lines = c.deref_mut-3.ensures.value ∙ with_items_is c.args.lines c.bend.new.lines (c.bend.auto.lines ∙ c.deref_mut.ensures.len) in
    let found_rates : c.deref-3.result.now ≡ c.first_cells.new.rates = c.deref-3.ensures.value ∙ with_items_is c.in_ok-rates.rates c.first_cells.new.rates (c.first_cells.auto.rates ∙ c.deref_mut-2.ensures.len) in
    rw found_rates (held_small net c.bend.new.lines c.first_cells.new.cells.items c.first_cells.new.amps.items c.first_cells.new.rates c.args.from c.requires.net (rw bent at c.in_ok-first_cells.ensures.cells) c.in_ok-first_cells.ensures.amps c.in_ok-first_cells.ensures.rates)

pub set_out-requires-clause-nums : goal.set_out-requires-clause-nums
set_out-requires-clause-nums g c =
    let net : Net = net_of c.args.circuit.now in
    let was : c.deref_mut.result.now ≡ c.args.lines.items = c.deref_mut.ensures.value in
    let free : SameFree net c.args.lines.items c.bend.new.lines = rw was at c.in_ok-bend.ensures.free in
    let bent_lines : c.deref_mut-3.result.now ≡ c.bend.new.lines = c.deref_mut-3.ensures.value ∙ with_items_is c.args.lines c.bend.new.lines (c.bend.auto.lines ∙ c.deref_mut.ensures.len) in
    let found_rates : c.deref-3.result.now ≡ c.first_cells.new.rates = c.deref-3.ensures.value ∙ with_items_is c.in_ok-rates.rates c.first_cells.new.rates (c.first_cells.auto.rates ∙ c.deref_mut-2.ensures.len) in
    rw bent_lines (free_nums net c.args.lines.items c.bend.new.lines c.args.from free c.requires.nums)

pub set_out-requires-clause-slow : goal.set_out-requires-clause-slow
set_out-requires-clause-slow g c =
    let net : Net = net_of c.args.circuit.now in
    let was : c.deref_mut.result.now ≡ c.args.lines.items = c.deref_mut.ensures.value in
    let free : SameFree net c.args.lines.items c.bend.new.lines = rw was at c.in_ok-bend.ensures.free in
    let bent_lines : c.deref_mut-3.result.now ≡ c.bend.new.lines = c.deref_mut-3.ensures.value ∙ with_items_is c.args.lines c.bend.new.lines (c.bend.auto.lines ∙ c.deref_mut.ensures.len) in
    let found_rates : c.deref-3.result.now ≡ c.first_cells.new.rates = c.deref-3.ensures.value ∙ with_items_is c.in_ok-rates.rates c.first_cells.new.rates (c.first_cells.auto.rates ∙ c.deref_mut-2.ensures.len) in
    rw bent_lines (free_slow net c.args.lines.items c.bend.new.lines free c.requires.slow)

pub set_out-requires-clause-begin : goal.set_out-requires-clause-begin
set_out-requires-clause-begin g c =
    let net : Net = net_of c.args.circuit.now in
    let was : c.deref_mut.result.now ≡ c.args.lines.items = c.deref_mut.ensures.value in
    let free : SameFree net c.args.lines.items c.bend.new.lines = rw was at c.in_ok-bend.ensures.free in
    let bent_lines : c.deref_mut-3.result.now ≡ c.bend.new.lines = c.deref_mut-3.ensures.value ∙ with_items_is c.args.lines c.bend.new.lines (c.bend.auto.lines ∙ c.deref_mut.ensures.len) in
    let found_rates : c.deref-3.result.now ≡ c.first_cells.new.rates = c.deref-3.ensures.value ∙ with_items_is c.in_ok-rates.rates c.first_cells.new.rates (c.first_cells.auto.rates ∙ c.deref_mut-2.ensures.len) in
    rw bent_lines (λ i h f. ap (λ (l : Line). l.start) (free i f) ∙ c.requires.begin i h f)

pub look-requires-clause-cells : goal.look-requires-clause-cells
look-requires-clause-cells g c =
    let net : Net = net_of c.args.circuit.now in
    let was : c.deref_mut.result.now ≡ c.args.lines.items = c.deref_mut.ensures.value in
    let free : SameFree net c.args.lines.items c.bend.new.lines = rw was at c.in_ok-bend.ensures.free in
    let bent : c.deref-2.result.now ≡ c.bend.new.lines = c.deref-2.ensures.value ∙ with_items_is c.args.lines c.bend.new.lines (c.bend.auto.lines ∙ c.deref_mut.ensures.len) in
    let bent_lines : c.deref_mut-3.result.now ≡ c.bend.new.lines = c.deref_mut-3.ensures.value ∙ with_items_is c.args.lines c.bend.new.lines (c.bend.auto.lines ∙ c.deref_mut.ensures.len) in
    let found_rates : c.deref-3.result.now ≡ c.first_cells.new.rates = c.deref-3.ensures.value ∙ with_items_is c.in_ok-rates.rates c.first_cells.new.rates (c.first_cells.auto.rates ∙ c.deref_mut-2.ensures.len) in
    let set_lines : c.deref-5.result.now ≡ c.set_out.new.lines = c.deref-5.ensures.value ∙ with_items_is (with_items c.args.lines c.bend.new.lines) c.set_out.new.lines (c.set_out.auto.lines ∙ c.deref_mut-3.ensures.len) in
    let count : length c.bend.new.lines ≡ net.nodes = c.bend.auto.lines ∙ ap length was ∙ c.requires.count_lines in
    rw (set_lines, c.deref-6.ensures.value) (cells_kept net c.bend.new.lines c.set_out.new.lines c.args.from c.first_cells.new.cells.items c.requires.net count (rw bent_lines at c.in_ok-set_out.ensures.volts) (rw bent at c.in_ok-first_cells.ensures.cells))

pub look-requires-clause-dues : goal.look-requires-clause-dues
look-requires-clause-dues g c =
    rw c.deref-4.ensures.value (λ k h. inr (c.in_ok-all.ensures.all k h))

pub look-requires-clause-later : goal.look-requires-clause-later
look-requires-clause-later g c =
    none_wait (λ k d. c.args.from < d) _ c.new-dues.ensures

pub look-requires-clause-inside : goal.look-requires-clause-inside
look-requires-clause-inside g c =
    none_wait _ _ c.new-dues.ensures

pub returns-clause-volts : goal.returns-clause-volts
returns-clause-volts g c =
    let net : Net = net_of c.args.circuit.now in
    let was : c.deref_mut.result.now ≡ c.args.lines.items = c.deref_mut.ensures.value in
    let free : SameFree net c.args.lines.items c.bend.new.lines = rw was at c.in_ok-bend.ensures.free in
    let bent_lines : c.deref_mut-3.result.now ≡ c.bend.new.lines = c.deref_mut-3.ensures.value ∙ with_items_is c.args.lines c.bend.new.lines (c.bend.auto.lines ∙ c.deref_mut.ensures.len) in
    let found_rates : c.deref-3.result.now ≡ c.first_cells.new.rates = c.deref-3.ensures.value ∙ with_items_is c.in_ok-rates.rates c.first_cells.new.rates (c.first_cells.auto.rates ∙ c.deref_mut-2.ensures.len) in
    let set_lines : c.deref-5.result.now ≡ c.set_out.new.lines = c.deref-5.ensures.value ∙ with_items_is (with_items c.args.lines c.bend.new.lines) c.set_out.new.lines (c.set_out.auto.lines ∙ c.deref_mut-3.ensures.len) in
    let count : length c.bend.new.lines ≡ net.nodes = c.bend.auto.lines ∙ ap length was ∙ c.requires.count_lines in
    let lines_is = with_items_is (with_items c.args.lines c.bend.new.lines) c.set_out.new.lines (c.set_out.auto.lines ∙ c.deref_mut-3.ensures.len) in
    rw lines_is (λ i f h. (rw bent_lines at c.in_ok-set_out.ensures.volts) i (omega (arith, h, count)) ∙ ap (λ (l : Line). voltage l c.args.from) (free i f))

pub returns-clause-pieces : goal.returns-clause-pieces
returns-clause-pieces g c =
    let lines_is = with_items_is (with_items c.args.lines c.bend.new.lines) c.set_out.new.lines (c.set_out.auto.lines ∙ c.deref_mut-3.ensures.len) in
    rw lines_is c.in_ok-set_out.ensures.pieces

pub returns-clause-steady : goal.returns-clause-steady
returns-clause-steady g c =
    let net : Net = net_of c.args.circuit.now in
    let was : c.deref_mut.result.now ≡ c.args.lines.items = c.deref_mut.ensures.value in
    let free : SameFree net c.args.lines.items c.bend.new.lines = rw was at c.in_ok-bend.ensures.free in
    let bent_lines : c.deref_mut-3.result.now ≡ c.bend.new.lines = c.deref_mut-3.ensures.value ∙ with_items_is c.args.lines c.bend.new.lines (c.bend.auto.lines ∙ c.deref_mut.ensures.len) in
    let found_rates : c.deref-3.result.now ≡ c.first_cells.new.rates = c.deref-3.ensures.value ∙ with_items_is c.in_ok-rates.rates c.first_cells.new.rates (c.first_cells.auto.rates ∙ c.deref_mut-2.ensures.len) in
    let set_lines : c.deref-5.result.now ≡ c.set_out.new.lines = c.deref-5.ensures.value ∙ with_items_is (with_items c.args.lines c.bend.new.lines) c.set_out.new.lines (c.set_out.auto.lines ∙ c.deref_mut-3.ensures.len) in
    let count : length c.bend.new.lines ≡ net.nodes = c.bend.auto.lines ∙ ap length was ∙ c.requires.count_lines in
    let lines_is = with_items_is (with_items c.args.lines c.bend.new.lines) c.set_out.new.lines (c.set_out.auto.lines ∙ c.deref_mut-3.ensures.len) in
    let rates_is = with_items_is c.in_ok-rates.rates c.first_cells.new.rates (c.first_cells.auto.rates ∙ c.deref_mut-2.ensures.len) in
    let rates_len : c.in_ok-rates.rates.len ≡ net.nodes = (let n = c.len.ensures in let m = c.in_ok-rates.ensures.len in omega (arith, n, m, c.requires.count_lines, c.args.lines.ok)) in
    record {
      count_lines = ap length lines_is ∙ c.set_out.auto.lines ∙ ap length bent_lines ∙ count;
      count_rates = ap length rates_is ∙ c.first_cells.auto.rates ∙ c.deref_mut-2.ensures.len ∙ rates_len;
      count_cells = c.in_ok-first_cells.ensures.count_cells;
      count_amps = c.in_ok-first_cells.ensures.count_amps;
      lines = rw lines_is c.in_ok-set_out.ensures.lines;
      nums = rw lines_is c.in_ok-set_out.ensures.nums;
      slow = rw lines_is c.in_ok-set_out.ensures.slow;
      amps = c.in_ok-first_cells.ensures.amps;
      flows = rw rates_is c.in_ok-first_cells.ensures.rates;
      goes = rw (lines_is, rates_is) (rw found_rates at c.in_ok-set_out.ensures.goes);
      stay = rw lines_is (rw (set_lines, c.deref-6.ensures.value) at c.in_ok-look.ensures.dues);
      trust = rw lines_is (trust_kept net c.bend.new.lines c.set_out.new.lines c.args.from c.args.end c.bend.new.bends (rw bent_lines at c.in_ok-set_out.ensures.driven) c.in_ok-bend.ensures.bends);
      due_later = c.in_ok-look.ensures.later;
      bend_later = c.in_ok-bend.ensures.later;
      due_inside = c.in_ok-look.ensures.inside;
      bend_driven = c.in_ok-bend.ensures.driven;
    }
