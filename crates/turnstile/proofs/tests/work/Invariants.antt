use Rattle.std.proofs.Common.{◌≡◌}
use Rattle.turnstile.specs.Passes.{IsOf, IsReady}
use Rattle.turnstile.proofs.tests.work.Given as goal

abbrev pub invariant-loop : goal.invariant-loop
invariant-loop g l = (l.turnstile ≡ l.fn.turnstile) × IsOf l.turnstile l.pass × IsReady l.pass
