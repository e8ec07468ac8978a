-- One device more is in the cell of its lines.
use Rattle.std.proofs.Common.{◌≡◌, ◌<◌, ◌≤◌, ◌^◌, ℕ, ℤ, List, [], get_or, set, drop, length, pos, ◌+ℤ◌, ◌-ℤ◌, refl, sym, ap, ◌∙◌, arith, to_z, of_z, unsigned_abs}
use Rattle.std.specs.Int.{w64, w128}
use Rattle.std.proofs.lemmas.List.Elements.{Contains-get_or}
use Rattle.window_run.specs.Net.{Cells, Net, inflow}
use Rattle.window_run.specs.Stage.{cell_of, no_cells}
use Rattle.window_run.specs.Circuit.{net_of}
use Rattle.window_run.proofs.Due.{enter_more, enter_same, same_more}
use Rattle.window_run.proofs.Flows.{amps_set, amps_small, gain_kept, gain_small, kept_amps, noted_more, rates_set, rates_small}
use Rattle.window_run.proofs.Lines.{all_done}
use Rattle.window_run.proofs.flow.enter.Goals as goal
use Rattle.window_run.proofs.flow.enter.Goals.{then-differ+in_ok-let_flow, else-differ}

pub let_flow-requires-clause-small : goal.let_flow-requires-clause-small
let_flow-requires-clause-small c = λ i. rates_small (net_of c.args.circuit.now) c.loop-device.cells c.loop-device.amps c.loop-device.rates i c.requires.net (c.loop-device.auto.rates ∙ c.requires.count_rates) c.loop-device.invariant.amps c.loop-device.invariant.rates

pub let_flow-requires-clause-gain : goal.let_flow-requires-clause-gain
let_flow-requires-clause-gain c =
    let net : Net = net_of c.args.circuit.now in
    let k : ℕ = get_or c.args.todo.now c.loop-device.device-index 0 in
    let inside : k < net.devices = c.requires.todo c.loop-device.device-index 0 c.loop-device-test.true in
    let old : ℤ = get_or c.loop-device.amps k (pos 0) in
    let new : ℤ = c.current-new.result in
    let new_small : unsigned_abs new ≤ 10 ^ 12 = rw c.current-new.ensures (c.requires.net.small k _ inside) in
    let old_small : unsigned_abs old ≤ 10 ^ 12 = amps_small net c.loop-device.cells c.loop-device.amps c.requires.net c.loop-device.invariant.amps k inside in
    let new_kept : c.from.result ≡ new = c.from.ensures ∙ kept_amps new new_small in
    let old_kept : c.from-then-differ.result ≡ old = c.from-then-differ.ensures ∙ kept_amps old old_small in
    rw (new_kept, old_kept, gain_kept new old new_small old_small) (gain_small new old new_small old_small)

pub loop-device-preserved : goal.loop-device-preserved
loop-device-preserved c =
    let net : Net = net_of c.args.circuit.now in
    let j : ℕ = c.loop-device.device-index in
    let k : ℕ = get_or c.args.todo.now j 0 in
    let inside : k < net.devices = c.requires.todo j 0 c.loop-device-test.true in
    let within : k < length c.loop-device.cells = omega (arith, inside, c.requires.count_cells, c.loop-device.auto.cells) in
    let beside : k < length c.loop-device.amps = omega (arith, inside, c.requires.count_amps, c.loop-device.auto.amps) in
    elim c.if-differ.branch [
      | then-differ+in_ok-let_flow w ↦
          let cell : Cells = c.cells_now-gate.result in
          let old : ℤ = get_or c.loop-device.amps k (pos 0) in
          let new : ℤ = w.current-new.result in
          let new_small : unsigned_abs new ≤ 10 ^ 12 = rw w.current-new.ensures (c.requires.net.small k _ inside) in
          let old_small : unsigned_abs old ≤ 10 ^ 12 = amps_small net c.loop-device.cells c.loop-device.amps c.requires.net c.loop-device.invariant.amps k inside in
          let new_kept : w.from.result ≡ new = w.from.ensures ∙ kept_amps new new_small in
          let old_kept : w.from-then-differ.result ≡ old = w.from-then-differ.ensures ∙ kept_amps old old_small in
          let put : to_z w64 (of_z w64 new) ≡ new = kept_amps new new_small in
          let gains : (i : ℕ) → get_or w.let_flow.new.rates i (pos 0) ≡ get_or c.loop-device.rates i (pos 0) +ℤ inflow net i k (new -ℤ old) =
          (λ i. rw (new_kept, old_kept, gain_kept new old new_small old_small) at (w.in_ok-let_flow.ensures.rates i)) in
          rw (w.cells-is, w.amps-is, w.rates-is, w.turned-is, put) (record {
            cells = enter_more net c.args.lines.now c.args.now c.loop-device.cells c.args.todo.now j k cell c.loop-device-test.true refl within c.cells_now-gate.ensures.cells c.loop-device.invariant.cells;
            amps = amps_set net c.loop-device.cells c.loop-device.amps k cell new within beside w.current-new.ensures c.loop-device.invariant.amps;
            rates = rates_set net c.loop-device.amps c.loop-device.rates w.let_flow.new.rates k new inside beside gains c.loop-device.invariant.rates;
            others = same_more c.args.cells.now c.loop-device.cells c.args.todo.now k cell (Contains-get_or c.args.todo.now j 0 c.loop-device-test.true) c.loop-device.invariant.others;
            turned = noted_more c.args.rates.now c.loop-device.rates w.let_flow.new.rates c.loop-device.turned.items w.let_flow.new.turned.items c.loop-device.invariant.turned w.in_ok-let_flow.ensures.noted w.in_ok-let_flow.ensures.kept;
          })
      | else-differ w ↦
          rw (w.cells-is, w.amps-is, w.rates-is, w.turned-is) (record {
            cells = enter_same net c.args.lines.now c.args.now c.loop-device.cells c.args.todo.now j k c.loop-device-test.true refl (c.differ.ensures w.if-differ.false ∙ c.cells_now-gate.ensures.cells) c.loop-device.invariant.cells;
            amps = c.loop-device.invariant.amps;
            rates = c.loop-device.invariant.rates;
            others = c.loop-device.invariant.others;
            turned = c.loop-device.invariant.turned;
          })
    ]

pub returns-clause-cells : goal.returns-clause-cells
returns-clause-cells c =
    let net : Net = net_of c.args.circuit.now in
    all_done (λ k. get_or c.loop-device.cells k no_cells ≡ cell_of net c.args.lines.now c.args.now k) (λ k. k < net.devices) c.args.todo.now c.loop-device.device-index c.loop-device-test.false c.loop-device.invariant.cells
