-- A free node gains its rate, and both are in their limits.
use Rattle.std.proofs.Common.{ℕ, List, [], get_or, sym, arith, add-one}
use Rattle.semantics.specs.Deck.{DeckValue, nodes}
use Rattle.semantics.specs.Run.{run}
use Rattle.semantics.proofs.Limits.{Limits, limits, IsVoltage, node_voltage, node_rate}
use Rattle.semantics.proofs.Nodes.{AreNodes-nodes}
use Rattle.semantics.proofs.Steps.{run_next_free}
use Rattle.circuit_model.proofs.volts.next_volts_of.Goals as goal

pub overflow_add-tick : goal.overflow_add-tick
overflow_add-tick c = let l : Limits c.args.deck.now = limits c.args.deck.now c.requires.valid in omega (arith, l.stop)

pub moved-requires-clause-volts : goal.moved-requires-clause-volts
moved-requires-clause-volts c =
    let d : DeckValue = c.args.deck.now in
    let l : Limits d = limits d c.requires.valid in
    let v : IsVoltage c.args.tick (run d c.args.tick (get_or (nodes d) c.args.node [])) = node_voltage d c.args.tick c.args.node l c.requires.node in
    rw c.requires.volts (omega (arith, v.num, l.stop))

pub moved-requires-clause-gain : goal.moved-requires-clause-gain
moved-requires-clause-gain c = rw c.requires.gain (node_rate c.args.deck.now c.args.tick c.args.node (limits c.args.deck.now c.requires.valid) c.requires.node)

pub returns-in-None : goal.returns-in-None
returns-in-None c =
    let d : DeckValue = c.args.deck.now in
    let n : List ℕ = get_or (nodes d) c.args.node [] in
    rw (c.moved.ensures, c.requires.volts, c.requires.gain, add-one c.args.tick) (sym (run_next_free d c.args.tick n ((AreNodes-nodes d).real c.args.node c.requires.node) c.in-None.ensures.free))
