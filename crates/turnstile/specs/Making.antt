-- The passes that are made with a turnstile.
use Rattle.std.specs.Prelude.{ℕ, ◌+◌, List, [], ◌∷◌}
use Rattle.turnstile.specs.Passes.{IsOf, IsNew}
use Rattle.turnstile.specs.declared.turns.Turns.{Ghosts}
use Rattle.turnstile.specs.declared.pass.Pass.{Pass}
use Rattle.turnstile.specs.declared.turnstile.Turnstile.{Turnstile}

-- they are numbered from n on
abbrev pub AreNew : {V E L : Type 0} {g : Ghosts V E L} → Turnstile V E L → L → ℕ → List (Pass V E L g) → Type 0
AreNew lock lab n [] = Unit {0}
AreNew lock lab n (p ∷ ps) = IsOf lock p × IsNew lab n p × AreNew lock lab (n + 1) ps
