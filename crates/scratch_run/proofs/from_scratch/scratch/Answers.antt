-- At a stop of 0 the beginning is all.
use Rattle.std.proofs.Common.{◌≡◌, ℕ, ◌+◌, ◌≤◌, length, sym, ap, ◌∙◌, arith, subst}
use Rattle.circuit_model.specs.Numbers.{CircuitValue}
use Rattle.record_waves.specs.RunRecord.{IsRunOf}
use Rattle.scratch_run.specs.Starts.{HasFirst}
use Rattle.scratch_run.proofs.Whole.{run_at_once}
use Rattle.scratch_run.proofs.from_scratch.scratch.Goals as goal

pub returns-then-stop-eq0-clause-run : goal.returns-then-stop-eq0-clause-run
returns-then-stop-eq0-clause-run g c =
    let d : CircuitValue = c.deref-circuit.result.now in
    let none = c.if-stop-eq0.true in
    let e = c.stop.ensures.stop in
    subst (λ (x : CircuitValue). IsRunOf x c.in_ok-past.past) c.deref-circuit.ensures
    (run_at_once d c.in_ok-past.past c.known.ensures (omega (arith, none, e)) c.in_ok-past.ensures.stop c.in_ok-past.ensures.first)
