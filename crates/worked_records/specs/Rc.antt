-- A resistor and a capacitor, edits of them, and a record in which the node between them stays where it begins.
use Rattle.std.specs.Prelude.{◌==◌, true, if◌then◌else◌, ℤ, pos, List, [], ◌∷◌, codes}
use Rattle.semantics.specs.declared.element.Element.{Element}
use Rattle.semantics.specs.declared.element.Element.TheVariants.{Resistor, Capacitor, Source}
use Rattle.semantics.specs.Deck.{Name, DeckValue}
use Rattle.semantics.specs.Record.{Record}

-- a source of some microvolts at a, a resistor of some milliohms from a to b, a capacitor of some attofarads at b
abbrev pub v1 : ℤ → Element
v1 volts = Source (codes "v1") (codes "a") (codes "0") ((0, volts) ∷ [])

abbrev pub r1 : ℤ → Element
r1 ohms = Resistor (codes "r1") (codes "a") (codes "b") ohms

abbrev pub c1 : ℤ → Element
c1 farads = Capacitor (codes "c1") (codes "b") (codes "0") farads

-- these three and initial voltages; the grain is 0.1 V and the stop 1 ns
abbrev pub deck_of : Element → Element → Element → List (Name × ℤ) → DeckValue
deck_of source resistor capacitor initial = record {
  title = [];
  stop = 1000;
  uic = true;
  grain = 100000;
  parts = [];
  initial = initial;
  elements = source ∷ resistor ∷ capacitor ∷ [];
}

-- 1 V, 1 kΩ and 1 pF, and b begins at 0
abbrev pub rc : DeckValue
rc = deck_of (v1 (pos 1000000)) (r1 (pos 1000000)) (c1 (pos 1000000)) ((codes "b", pos 0) ∷ [])

-- with 2 kΩ
abbrev pub rc_resistor : DeckValue
rc_resistor = deck_of (v1 (pos 1000000)) (r1 (pos 2000000)) (c1 (pos 1000000)) ((codes "b", pos 0) ∷ [])

-- with 2 V
abbrev pub rc_source : DeckValue
rc_source = deck_of (v1 (pos 2000000)) (r1 (pos 1000000)) (c1 (pos 1000000)) ((codes "b", pos 0) ∷ [])

-- with a voltage for a name that is no node
abbrev pub rc_initial : DeckValue
rc_initial = deck_of (v1 (pos 1000000)) (r1 (pos 1000000)) (c1 (pos 1000000)) ((codes "b", pos 0) ∷ (codes "z", pos 5) ∷ [])

-- ---- records

-- 0 V at every tick
abbrev pub kept : Record
kept n t = record { num = pos 0; den = 1000000 }

-- and with another voltage at tick 500
abbrev pub bumped : Record
bumped n t = if t == 500 then record { num = pos 7; den = 1000000 } else kept n t
