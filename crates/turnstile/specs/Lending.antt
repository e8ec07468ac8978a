-- How a held turn lends its value.
use Rattle.std.specs.Prelude.{[]}
use Rattle.std.specs.Borrow.{Lends, MutBor, Fml}
use denote.RattleType.{RattleType}
use mir.Syntax.{named}
use Rattle.turnstile.specs.declared.turns.Turns.{Ghosts}
use Rattle.turnstile.specs.declared.held.Held.{Held}
use Rattle.turnstile.specs.contracts.held.Held.{the_row}

-- the held turn ends with the last value behind r
abbrev pub LendsValue : (V E L : RattleType) {g : Ghosts V.Denot E.Denot L.Denot} → MutBor (Held V.Denot E.Denot L.Denot g) → MutBor V.Denot → Fml
LendsValue V E L {g} s r = Lends (the_row (record { mir = named 1; lft = [] }) (record { mir = named 2; lft = [] }) V E L g) V s r (λ w. record s.now { value = w })
