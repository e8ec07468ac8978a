use Rattle.std.proofs.Common.{◌∙◌}
use Rattle.turnstile.proofs.turnstile.Turnstile.take.Goals as goal

pub try_take-requires : goal.try_take-requires
try_take-requires g c = let i = c.loop.invariant in let r = c.requires.1 in (i.3 ∙ c.requires.0, (r.0, r.1, i.5 ∙ r.2))
