-- The line of the source there, up to where it turns.
use Rattle.std.proofs.Common.{◌≡◌, ◌∙◌, ap, arith}
use Rattle.semantics.specs.declared.line.Line.{Line}
use Rattle.circuit_model.specs.Drive.{drive_of}
use Rattle.circuit_model.specs.Numbers.{kind_at, name_at}
use Rattle.window_run.specs.Circuit.{net_of}
use Rattle.window_run.proofs.Sources.{drive_start, driven_kind, later, trusted}
use Rattle.window_run.proofs.bend.next_line.Goals as goal

pub drive-requires-clause-driven : goal.drive-requires-clause-driven
unfolding net_of
drive-requires-clause-driven c = driven_kind (kind_at c.args.circuit.now c.args.node) c.requires.driven

pub drive-requires-clause-tick : goal.drive-requires-clause-tick
unfolding net_of
drive-requires-clause-tick c = omega (arith, c.requires.order, c.requires.end)

pub next_point-requires-clause-driven : goal.next_point-requires-clause-driven
unfolding net_of
next_point-requires-clause-driven c = driven_kind (kind_at c.args.circuit.now c.args.node) c.requires.driven

pub next_point-requires-clause-tick : goal.next_point-requires-clause-tick
unfolding net_of
next_point-requires-clause-tick c = omega (arith, c.requires.order, c.requires.end)

pub returns-clause-trusted : goal.returns-clause-trusted
unfolding net_of
returns-clause-trusted c = rw c.drive.ensures.line (trusted (drive_of c.args.circuit.now.deck (name_at c.args.circuit.now c.args.node)) c.args.circuit.now.deck.stop c.args.now c.args.end c.next_point.result c.requires.end c.next_point.ensures)

pub returns-clause-later : goal.returns-clause-later
returns-clause-later c = later (drive_of c.args.circuit.now.deck (name_at c.args.circuit.now c.args.node)) c.args.circuit.now.deck.stop c.args.now c.next_point.result c.next_point.ensures

pub returns-clause-start : goal.returns-clause-start
returns-clause-start c = ap (λ (l : Line). l.start) c.drive.ensures.line ∙ drive_start c.args.circuit.now.deck (name_at c.args.circuit.now c.args.node) c.args.now
