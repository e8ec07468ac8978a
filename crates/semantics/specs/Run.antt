-- The run of a deck, tick by tick.
use Rattle.std.specs.Prelude.{ℕ, zero, suc, if◌then◌else◌, ℤ, pos, ◌+ℤ◌, ◌-ℤ◌, ◌*ℤ◌, List, Some, None, fold}
use Rattle.std.specs.Str.{bytes_eq}
use Rattle.semantics.specs.declared.element.Element.{Element}
use Rattle.semantics.specs.declared.element.Element.TheVariants.{Resistor, Capacitor, Source, Mos}
use Rattle.semantics.specs.declared.fraction.Fraction.{Fraction}
use Rattle.semantics.specs.Ground.{is_ground}
use Rattle.semantics.specs.Deck.{DeckValue, driver, capacity, initial_of}
use Rattle.semantics.specs.Source.{pair_at, signed}
use Rattle.semantics.specs.Device.{current}

-- the voltage of each node at a tick: ground is 0, a driven node follows its source, and a free node has what is handed in
unfoldable pub voltages : DeckValue → ℕ → (List ℕ → Fraction) → List ℕ → Fraction
voltages d t free n =
    if is_ground n then record { num = pos 0; den = 1 }
    else elim (driver d n) [ None ↦ free n | Some s ↦ record { num = signed s.1 (pair_at s.0 t).num; den = (pair_at s.0 t).den } ]

-- what flows into n, of a current out of first into second
abbrev pub into : List ℕ → List ℕ → List ℕ → ℤ → ℤ
into n first second amps = (if bytes_eq n second then amps else pos 0) -ℤ (if bytes_eq n first then amps else pos 0)

-- what flows into n through one element
unfoldable pub flow : DeckValue → (List ℕ → Fraction) → List ℕ → Element → ℤ
flow d v n (Resistor name first second ohms) = into n first second (current d v (Resistor name first second ohms))
flow d v n (Mos name drain gate source bulk part len width) = into n drain source (current d v (Mos name drain gate source bulk part len width))
flow d v n (Capacitor name plus minus farads) = pos 0
flow d v n (Source name plus minus wave) = pos 0

-- what flows into n, over all devices of the deck
unfoldable pub node_current : DeckValue → (List ℕ → Fraction) → List ℕ → ℤ
node_current d v n = fold (λ total e. total +ℤ flow d v n e) (pos 0) d.elements

-- the charge of a free node: at tick 0 that of its initial voltage, and from tick to tick it gains what flows in
unfoldable pub charge : DeckValue → ℕ → List ℕ → ℤ
charge d zero n = pos (capacity d n) *ℤ initial_of d n
charge d (suc t) n = charge d t n +ℤ node_current d (voltages d t (λ m. record { num = charge d t m; den = capacity d m })) n

-- the voltage of each node at a tick of the run: that of a free node is its charge over its capacitance
unfoldable pub run : DeckValue → ℕ → List ℕ → Fraction
run d t = voltages d t (λ m. record { num = charge d t m; den = capacity d m })
