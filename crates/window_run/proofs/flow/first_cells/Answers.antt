-- One device more is in its cells.
use Rattle.std.proofs.Common.{◌≡◌, ◌<◌, ◌≤◌, ◌+◌, ◌^◌, ℕ, ℤ, List, [], ◌∷◌, ◌++◌, get_or, length, pos, ◌+ℤ◌, inl, refl, sym, ap, ◌∙◌, arith, to_z, of_z, unsigned_abs}
use Rattle.std.specs.Int.{w64, w128}
use Rattle.std.proofs.lemmas.List.{length-append}
use Rattle.window_run.specs.Net.{Cells, Net, inflow, inflows}
use Rattle.window_run.specs.Stage.{cell_of, no_cells}
use Rattle.window_run.specs.Circuit.{net_of}
use Rattle.window_run.proofs.Flows.{back, flows_none, flows_small, front, kept_amps, kept_wide, rates_push, up_to_more, up_to_small}
use Rattle.window_run.proofs.flow.first_cells.Goals as goal

pub loop-device-init : goal.loop-device-init
loop-device-init c = record {
  count_cells = ap length c.requires.no_cells;
  count_amps = ap length c.requires.no_amps;
  cells = λ k below. absurd (omega (arith, below));
  amps = λ k below. absurd (omega (arith, below));
  rates = λ i below. c.requires.no_rates i;
}

pub let_flow-requires-clause-small : goal.let_flow-requires-clause-small
let_flow-requires-clause-small c = λ i. up_to_small (net_of c.args.circuit.now) c.loop-device.amps.items c.loop-device.rates i c.loop-device.device c.requires.net (omega (arith, c.loop-device-test.true, c.device_count-device-end.ensures)) (c.loop-device.auto.rates ∙ c.requires.count_rates)
    (λ k h. let inside : k < (net_of c.args.circuit.now).devices = omega (arith, h, c.loop-device-test.true, c.device_count-device-end.ensures) in rw (c.loop-device.invariant.amps k h) (c.requires.net.small k (get_or c.loop-device.cells.items k no_cells) inside))
    c.loop-device.invariant.rates

pub loop-device-preserved : goal.loop-device-preserved
loop-device-preserved c =
    let net : Net = net_of c.args.circuit.now in
    let k : ℕ = c.loop-device.device in
    let inside : k < net.devices = omega (arith, c.loop-device-test.true, c.device_count-device-end.ensures) in
    let cell : Cells = c.cells_now-gate.result in
    let new : ℤ = c.current-amp.result in
    let cs : List Cells = c.loop-device.cells.items in
    let bs : List ℤ = c.loop-device.amps.items in
    let small : unsigned_abs new ≤ 10 ^ 12 = rw c.current-amp.ensures (c.requires.net.small k _ inside) in
    let kept : c.from.result ≡ new = c.from.ensures ∙ kept_amps new small in
    let wide : to_z w128 (of_z w128 new) ≡ new = kept_wide new (omega (arith, small)) in
    let put : to_z w64 (of_z w64 new) ≡ new = kept_amps new small in
    let flows : (i : ℕ) → get_or c.let_flow.new.rates i (pos 0) ≡ get_or c.loop-device.rates i (pos 0) +ℤ inflow net i k new = (λ i. rw (kept, wide) at (c.in_ok-let_flow.ensures.rates i)) in
    rw (c.in_ok-push.ensures.items, c.in_ok-push-2.ensures.items, put) (record {
      count_cells = length-append cs (cell ∷ []) ∙ ap (λ n. n + 1) c.loop-device.invariant.count_cells;
      count_amps = length-append bs (new ∷ []) ∙ ap (λ n. n + 1) c.loop-device.invariant.count_amps;
      cells = up_to_more (λ j. get_or (cs ++ cell ∷ []) j no_cells ≡ cell_of net c.args.lines.now c.args.now j) k
          (λ j h. front cs cell no_cells j (omega (arith, h, c.loop-device.invariant.count_cells)) ∙ c.loop-device.invariant.cells j h)
          (back cs cell no_cells k (sym c.loop-device.invariant.count_cells) ∙ c.cells_now-gate.ensures.cells);
      amps = up_to_more (λ j. get_or (bs ++ new ∷ []) j (pos 0) ≡ net.amps j (get_or (cs ++ cell ∷ []) j no_cells)) k
          (λ j h. front bs new (pos 0) j (omega (arith, h, c.loop-device.invariant.count_amps)) ∙ c.loop-device.invariant.amps j h ∙ ap (net.amps j) (sym (front cs cell no_cells j (omega (arith, h, c.loop-device.invariant.count_cells)))))
          (back bs new (pos 0) k (sym c.loop-device.invariant.count_amps) ∙ c.current-amp.ensures ∙ ap (net.amps k) (sym (back cs cell no_cells k (sym c.loop-device.invariant.count_cells))));
      rates = λ i below. rates_push net i bs new (get_or c.let_flow.new.rates i (pos 0)) k (k + 1) c.loop-device.invariant.count_amps (omega arith) (flows i ∙ ap (λ z. z +ℤ inflow net i k new) (c.loop-device.invariant.rates i below));
    })
