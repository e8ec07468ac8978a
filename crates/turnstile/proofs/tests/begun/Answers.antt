use Rattle.turnstile.proofs.tests.begun.Goals as goal

pub returns-in-Ok-clause-ready : goal.returns-in-Ok-clause-ready
returns-in-Ok-clause-ready c i p e = let r = c.in-Ok.ensures.passes i p e in (r.0, r.1.ready)
