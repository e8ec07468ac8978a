use Rattle.std.proofs.Common.{◌≡◌}
use Rattle.deck_lexer.specs.Scan.{scan_left, work_left, IsScan}
use Rattle.deck_lexer.proofs.scan.Scan.next.Given as goal

abbrev pub invariant-loop-card : goal.invariant-loop-card
invariant-loop-card l = record { same : scan_left l.text l.self ≡ scan_left l.text l.initial.self; scan : IsScan l.text l.self }

abbrev pub decreases-loop-card : goal.decreases-loop-card
decreases-loop-card l = work_left l.text l.self
