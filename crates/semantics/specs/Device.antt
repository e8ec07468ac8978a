-- The cells and the current of a resistor or MOS device at given voltages.
use Rattle.std.specs.Prelude.{ℕ, ◌*◌, ◌^◌, ℤ, pos, ◌-ℤ◌, ◌*ℤ◌, int_div, List, Option, Some, None}
use Rattle.std.specs.Option.{option_map}
use Rattle.semantics.specs.declared.element.Element.{Element}
use Rattle.semantics.specs.declared.element.Element.TheVariants.{Resistor, Capacitor, Source, Mos}
use Rattle.semantics.specs.declared.fraction.Fraction.{Fraction}
use Rattle.semantics.specs.Deck.{DeckValue, look_up}
use Rattle.semantics.specs.Grid.{difference, cell, uniform}
use Rattle.semantics.specs.Part.{capped, gate_grid, drain_grid, part_current}

-- the voltage of each node by its name
abbrev pub Voltages : Type 0
Voltages = List ℕ → Fraction

-- a resistor's current in a cell, towards zero: the cell's middle voltage over the resistance
unfoldable pub resistor_current : ℕ → ℤ → ℕ → ℤ
resistor_current grain ohms c = capped (int_div ((pos c -ℤ pos 4096) *ℤ pos (grain * 10 ^ 9)) ohms)

-- the cells of a device: a resistor has one, and 0 beside it; a MOS device has that of gate minus source and that of drain minus source; what is no device has none
unfoldable pub cells : DeckValue → (List ℕ → Fraction) → Element → Option (ℕ × ℕ)
cells d v (Resistor name first second ohms) = Some (cell (uniform d.grain 4096) (difference (v first) (v second)), 0)
cells d v (Mos name drain gate source bulk part len width) =
    option_map (λ p. (cell (gate_grid d.grain p) (difference (v gate) (v source)), cell (drain_grid d.grain p) (difference (v drain) (v source)))) (look_up part d.parts)
cells d v (Capacitor name plus minus farads) = None
cells d v (Source name plus minus wave) = None

-- what flows through a device in these cells, out of its first node or drain into its second node or source
unfoldable pub current_in : DeckValue → Element → ℕ × ℕ → ℤ
current_in d (Resistor name first second ohms) c = resistor_current d.grain ohms c.0
current_in d (Mos name drain gate source bulk part len width) c = elim (look_up part d.parts) [
  | None ↦ pos 0
  | Some p ↦ part_current d.grain p width len c.0 c.1
]
current_in d (Capacitor name plus minus farads) c = pos 0
current_in d (Source name plus minus wave) c = pos 0

-- what flows through a device at these voltages
unfoldable pub current : DeckValue → (List ℕ → Fraction) → Element → ℤ
current d v e = elim (cells d v e) [
  | None ↦ pos 0
  | Some c ↦ current_in d e c
]
