-- The wave of a node: its lines, a new one where the slope or the denominator changes.
use Rattle.std.specs.Prelude.{ℕ, zero, suc, max, ◌==◌, ◌&&◌, not, Bool, true, if◌then◌else◌, ℤ, List, [], ◌∷◌, ◌++◌, Some, None}
use Rattle.std.specs.Ordering.{int_eq}
use Rattle.semantics.specs.declared.line.Line.{Line}
use Rattle.semantics.specs.Deck.{DeckValue, driver}
use Rattle.semantics.specs.Source.{slope_at, signed}
use Rattle.semantics.specs.Run.{node_current, run}

-- what a node's numerator gains from this tick to the next: the current into a free node, the slope of a driven one
unfoldable pub rate : DeckValue → ℕ → List ℕ → ℤ
rate d t n = elim (driver d n) [ None ↦ node_current d (run d t) n | Some s ↦ signed s.1 (slope_at s.0 t) ]

-- the line of a node from this tick on
unfoldable pub entry : DeckValue → ℕ → List ℕ → Line
entry d t n = record { start = t; num = (run d t n).num; rate = rate d t n; den = (run d t n).den }

-- a line goes on where slope and denominator stay
abbrev pub goes_on : Line → Line → Bool
goes_on old new = int_eq new.rate old.rate && (new.den == old.den)

-- a line begins at tick 0, and where it is not that of the tick before that goes on
unfoldable pub begins : DeckValue → ℕ → List ℕ → Bool
begins d zero n = true
begins d (suc t) n = not (goes_on (entry d t n) (entry d (suc t) n))

-- the lines that begin at ticks below t
unfoldable pub entries_below : DeckValue → ℕ → List ℕ → List Line
entries_below d zero n = []
entries_below d (suc t) n = entries_below d t n ++ (if begins d t n then entry d t n ∷ [] else [])

-- the wave of a node up to the stop tick; where the stop tick is 0, the one line of tick 0
unfoldable pub wave : DeckValue → List ℕ → List Line
wave d n = entries_below d (max 1 d.stop) n
