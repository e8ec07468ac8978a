-- One window from tick 0 to the stop, put into the record.
use Rattle.std.proofs.Common.{◌≡◌, ℕ, ◌+◌, ◌<◌, ◌≤◌, List, length, refl, sym, ap, ◌∙◌, arith, subst}
use Rattle.std.specs.List.{All}
use Rattle.std.specs.Arc.{arc_value}
use Rattle.histories.specs.Record.{RecordValue}
use Rattle.circuit_model.specs.Numbers.{CircuitValue}
use Rattle.record_waves.specs.RunRecord.{IsRunOf}
use Rattle.semantics.specs.Record.{IsRunTo}
use Rattle.window_run.specs.declared.task.Task.{Task}
use Rattle.window_run.specs.Task.{AreFreeNodes, after, circuit_of, deck_of}
use Rattle.window_run.specs.Window.{WindowValue}
use Rattle.scratch_run.specs.Splices.{HasPut, Takes}
use Rattle.scratch_run.specs.Starts.{HasFirst}
use Rattle.scratch_run.specs.Waves.{wave_lines}
use Rattle.window_run.specs.Circuit.{IsNumbered, free_numbers}
use Rattle.scratch_run.proofs.Whole.{is_run, ramps_few, recorded, run_put, takes, to_stop, whole_nodes}
use Rattle.scratch_run.proofs.from_scratch.run_on.Goals as goal

pub run_window-requires-clause-order : goal.run_window-requires-clause-order
run_window-requires-clause-order g c =
    let task : Task = record { circuit = c.in_ok-own.own; past = c.args.past; nodes = c.in_ok-nodes.nodes; from = 0; end = c.stop-stop.result; budget = c.stop-stop.result + 1 } in
    let whole : circuit_of task ≡ arc_value c.args.shared.now = c.in_ok-own.ensures {u = tt} in
    let numbers : task.nodes.items ≡ free_numbers (circuit_of task) = c.in_ok-nodes.ensures.nodes ∙ ap free_numbers (c.deref-circuit.ensures ∙ sym whole) in
    let first : HasFirst (circuit_of task) task.past (length (circuit_of task).names) = subst (λ (x : CircuitValue). HasFirst x c.args.past (length x.names)) (sym whole) c.requires.first in
    let stop : task.past.stop ≡ (deck_of task).stop = c.requires.stop ∙ ap (λ (x : CircuitValue). x.deck.stop) (sym whole) in
    let end : task.end ≡ (deck_of task).stop = c.stop-stop.ensures.stop ∙ ap (λ (x : CircuitValue). x.deck.stop) (c.deref-circuit.ensures ∙ sym whole) in
    let some = c.requires.some in
    let e = ap (λ (x : CircuitValue). x.deck.stop) whole in
    ((omega (arith, some, end, e)), omega (arith, end))

pub run_window-requires-clause-record : goal.run_window-requires-clause-record
run_window-requires-clause-record g c =
    let task : Task = record { circuit = c.in_ok-own.own; past = c.args.past; nodes = c.in_ok-nodes.nodes; from = 0; end = c.stop-stop.result; budget = c.stop-stop.result + 1 } in
    let whole : circuit_of task ≡ arc_value c.args.shared.now = c.in_ok-own.ensures {u = tt} in
    let numbers : task.nodes.items ≡ free_numbers (circuit_of task) = c.in_ok-nodes.ensures.nodes ∙ ap free_numbers (c.deref-circuit.ensures ∙ sym whole) in
    let first : HasFirst (circuit_of task) task.past (length (circuit_of task).names) = subst (λ (x : CircuitValue). HasFirst x c.args.past (length x.names)) (sym whole) c.requires.first in
    let stop : task.past.stop ≡ (deck_of task).stop = c.requires.stop ∙ ap (λ (x : CircuitValue). x.deck.stop) (sym whole) in
    let end : task.end ≡ (deck_of task).stop = c.stop-stop.ensures.stop ∙ ap (λ (x : CircuitValue). x.deck.stop) (c.deref-circuit.ensures ∙ sym whole) in
    recorded (circuit_of task) task.past stop first

pub run_window-requires-clause-nodes : goal.run_window-requires-clause-nodes
run_window-requires-clause-nodes g c =
    let task : Task = record { circuit = c.in_ok-own.own; past = c.args.past; nodes = c.in_ok-nodes.nodes; from = 0; end = c.stop-stop.result; budget = c.stop-stop.result + 1 } in
    let whole : circuit_of task ≡ arc_value c.args.shared.now = c.in_ok-own.ensures {u = tt} in
    let numbers : task.nodes.items ≡ free_numbers (circuit_of task) = c.in_ok-nodes.ensures.nodes ∙ ap free_numbers (c.deref-circuit.ensures ∙ sym whole) in
    let first : HasFirst (circuit_of task) task.past (length (circuit_of task).names) = subst (λ (x : CircuitValue). HasFirst x c.args.past (length x.names)) (sym whole) c.requires.first in
    let stop : task.past.stop ≡ (deck_of task).stop = c.requires.stop ∙ ap (λ (x : CircuitValue). x.deck.stop) (sym whole) in
    let end : task.end ≡ (deck_of task).stop = c.stop-stop.ensures.stop ∙ ap (λ (x : CircuitValue). x.deck.stop) (c.deref-circuit.ensures ∙ sym whole) in
    whole_nodes task numbers first refl

pub splice_pieces-requires : goal.splice_pieces-requires
splice_pieces-requires g c =
    let task : Task = record { circuit = c.in_ok-own.own; past = c.args.past; nodes = c.in_ok-nodes.nodes; from = 0; end = c.stop-stop.result; budget = c.stop-stop.result + 1 } in
    let whole : circuit_of task ≡ arc_value c.args.shared.now = c.in_ok-own.ensures {u = tt} in
    let numbers : task.nodes.items ≡ free_numbers (circuit_of task) = c.in_ok-nodes.ensures.nodes ∙ ap free_numbers (c.deref-circuit.ensures ∙ sym whole) in
    let first : HasFirst (circuit_of task) task.past (length (circuit_of task).names) = subst (λ (x : CircuitValue). HasFirst x c.args.past (length x.names)) (sym whole) c.requires.first in
    let stop : task.past.stop ≡ (deck_of task).stop = c.requires.stop ∙ ap (λ (x : CircuitValue). x.deck.stop) (sym whole) in
    let end : task.end ≡ (deck_of task).stop = c.stop-stop.ensures.stop ∙ ap (λ (x : CircuitValue). x.deck.stop) (c.deref-circuit.ensures ∙ sym whole) in
    let w : WindowValue = c.in_ok-window.window in
    let found = c.in_ok-window.ensures {u = tt} in
    subst (All (Takes c.args.past)) (sym c.into_pieces.ensures.pieces) (takes task w numbers (recorded (circuit_of task) task.past stop first) found.pieces (let h = found.until.1 in omega (arith, h, end)))

pub returns-clause-run : goal.returns-clause-run
returns-clause-run g c =
    let task : Task = record { circuit = c.in_ok-own.own; past = c.args.past; nodes = c.in_ok-nodes.nodes; from = 0; end = c.stop-stop.result; budget = c.stop-stop.result + 1 } in
    let whole : circuit_of task ≡ arc_value c.args.shared.now = c.in_ok-own.ensures {u = tt} in
    let numbers : task.nodes.items ≡ free_numbers (circuit_of task) = c.in_ok-nodes.ensures.nodes ∙ ap free_numbers (c.deref-circuit.ensures ∙ sym whole) in
    let first : HasFirst (circuit_of task) task.past (length (circuit_of task).names) = subst (λ (x : CircuitValue). HasFirst x c.args.past (length x.names)) (sym whole) c.requires.first in
    let stop : task.past.stop ≡ (deck_of task).stop = c.requires.stop ∙ ap (λ (x : CircuitValue). x.deck.stop) (sym whole) in
    let end : task.end ≡ (deck_of task).stop = c.stop-stop.ensures.stop ∙ ap (λ (x : CircuitValue). x.deck.stop) (c.deref-circuit.ensures ∙ sym whole) in
    let w : WindowValue = c.in_ok-window.window in
    let found = c.in_ok-window.ensures {u = tt} in
    let nodes : AreFreeNodes task = whole_nodes task numbers first refl in
    let numbered : IsNumbered (circuit_of task) = subst IsNumbered (c.deref-circuit.ensures ∙ sym whole) c.known.ensures in
    let to : w.until ≡ (deck_of task).stop = to_stop (deck_of task) (after task w) w.stop task.end w.until found.until.1 found.end.0 found.budget ∙ end in
    let run : IsRunTo (deck_of task) (after task w) (deck_of task).stop = is_run task w numbered nodes found.pieces found.mended first refl found.from to in
    let put : HasPut task.past c.splice_pieces.new.past w.pieces = subst (HasPut task.past c.splice_pieces.new.past) c.into_pieces.ensures.pieces (c.in_ok-splice_pieces.ensures {u = tt}) in
    subst (λ (x : CircuitValue). IsRunOf x c.splice_pieces.new.past) whole (run_put task w c.splice_pieces.new.past stop first put run)

pub returns-clause-steps : goal.returns-clause-steps
returns-clause-steps g c =
    let task : Task = record { circuit = c.in_ok-own.own; past = c.args.past; nodes = c.in_ok-nodes.nodes; from = 0; end = c.stop-stop.result; budget = c.stop-stop.result + 1 } in
    let whole : circuit_of task ≡ arc_value c.args.shared.now = c.in_ok-own.ensures {u = tt} in
    let numbers : task.nodes.items ≡ free_numbers (circuit_of task) = c.in_ok-nodes.ensures.nodes ∙ ap free_numbers (c.deref-circuit.ensures ∙ sym whole) in
    let first : HasFirst (circuit_of task) task.past (length (circuit_of task).names) = subst (λ (x : CircuitValue). HasFirst x c.args.past (length x.names)) (sym whole) c.requires.first in
    let stop : task.past.stop ≡ (deck_of task).stop = c.requires.stop ∙ ap (λ (x : CircuitValue). x.deck.stop) (sym whole) in
    let end : task.end ≡ (deck_of task).stop = c.stop-stop.ensures.stop ∙ ap (λ (x : CircuitValue). x.deck.stop) (c.deref-circuit.ensures ∙ sym whole) in
    let w : WindowValue = c.in_ok-window.window in
    let found = c.in_ok-window.ensures {u = tt} in
    let nodes : AreFreeNodes task = whole_nodes task numbers first refl in
    let numbered : IsNumbered (circuit_of task) = subst IsNumbered (c.deref-circuit.ensures ∙ sym whole) c.known.ensures in
    let to : w.until ≡ (deck_of task).stop = to_stop (deck_of task) (after task w) w.stop task.end w.until found.until.1 found.end.0 found.budget ∙ end in
    let run : IsRunTo (deck_of task) (after task w) (deck_of task).stop = is_run task w numbered nodes found.pieces found.mended first refl found.from to in
    let some = c.requires.some in
    let e = ap (λ (x : CircuitValue). x.deck.stop) whole in
    let few = ramps_few task w numbers (omega (arith, some, e)) found.from to found.pieces found.turns run in
    let counted = found.steps in
    subst (λ (x : CircuitValue). c.run_window.new.steps ≤ c.args.steps.now + wave_lines x) whole (omega (arith, few, counted))
