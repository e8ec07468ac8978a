-- What flows in stays so over the stretch, and so does the node's own line.
use Rattle.std.proofs.Common.{arith, ◌∙◌, sym}
use Rattle.std.proofs.lemmas.Int.{to_z-of_z}
use mir.Syntax.{w128}
use Rattle.fault_sweep.proofs.Holds.{fits_small, near_few, small_holds}
use Rattle.fault_sweep.proofs.Stretch.{current_is, same_fault}
use Rattle.fault_sweep.proofs.sweep.Stretch.next.Goals as goal

pub over-current-requires-clause-few : goal.over-current-requires-clause-few
over-current-requires-clause-few c = omega (arith, c.renew.ensures.holds.count, near_few c.args.circuit.now c.args.past.now c.args.node c.requires.basis)

pub over-current-requires-clause-small : goal.over-current-requires-clause-small
over-current-requires-clause-small c = small_holds c.args.circuit.now c.args.past.now c.args.node c.args.now c.renew.new.holds c.renew.ensures.holds

pub is_fault-requires-clause-current : goal.is_fault-requires-clause-current
is_fault-requires-clause-current c =
    let later = c.over-current.ensures.later c.args.now c.straight_end-straight.ensures.later c.renew.ensures.on in
    to_z-of_z w128 c.over-current.result.current (fits_small c.over-current.result.current (omega (arith, c.over-current.ensures.small)))
    ∙ c.over-current.ensures.current
    ∙ sym (current_is c.args.circuit.now c.args.past.now c.args.node c.requires.basis c.requires.free c.args.now c.over-current.result.until c.renew.new.holds c.renew.ensures.holds c.over-current.ensures.by_holds c.args.now (omega arith) later)

pub returns-clause-stretch : goal.returns-clause-stretch
returns-clause-stretch c =
    let later = c.over-current.ensures.later c.args.now c.straight_end-straight.ensures.later c.renew.ensures.on in
    record {
      later = later;
      by_end = omega (arith, c.over-current.ensures.by_end, c.straight_end-straight.ensures.by_end);
      faults = λ t after before.
          same_fault c.args.circuit.now c.args.past.now c.args.node c.requires.basis c.requires.free c.args.now c.over-current.result.until c.renew.new.holds c.renew.ensures.holds c.over-current.ensures.by_holds
          c.args.end c.straight_end-straight.result c.straight_end-straight.ensures c.over-current.ensures.by_end c.requires.stop t after before
          ∙ sym c.is_fault.ensures;
    }
