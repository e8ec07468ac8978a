-- Ends of devices by numbers of nodes: where they lead, and their voltage.
use Rattle.std.specs.Prelude.{ℕ, nat_lt, Bool, true, ℤ, pos, List, Option, Some, None, slice_index_or}
use Rattle.std.specs.List.{position}
use Rattle.std.specs.Str.{bytes_eq}
use Rattle.semantics.specs.declared.element.Element.{Element}
use Rattle.semantics.specs.declared.element.Element.TheVariants.{Resistor, Capacitor, Source, Mos}
use Rattle.semantics.specs.declared.fraction.Fraction.{Fraction}
use Rattle.semantics.specs.Grid.{cell, difference}
use Rattle.circuit_model.specs.declared.ends.Ends.{Ends}

-- where an end leads: to a node by its number, and else to ground
abbrev pub End : Type 0
End = Option ℕ

-- the number of a name is its place among these; a name that is none of them, as ground, has none
abbrev pub number : List (List ℕ) → List ℕ → End
number names name = position (bytes_eq name) names

-- where the ends of a resistor or MOS device lead; a resistor has no gate
abbrev pub ends_in : List (List ℕ) → Element → Ends
ends_in names (Resistor name first second ohms) = record { first = number names first; second = number names second; gate = None }
ends_in names (Mos name drain gate source bulk part len width) = record { first = number names drain; second = number names source; gate = number names gate }
ends_in names (Capacitor name plus minus farads) = record { first = None; second = None; gate = None }
ends_in names (Source name plus minus wave) = record { first = None; second = None; gate = None }

-- an end leads to ground or to a node below this count
abbrev pub is_inside : ℕ → End → Bool
is_inside count None = true
is_inside count (Some i) = nat_lt i count

abbrev pub no_volts : Fraction
no_volts = record { num = pos 0; den = 1 }

-- the voltage of an end, where those of the nodes are these
abbrev pub volts_at : List Fraction → End → Fraction
volts_at volts None = no_volts
volts_at volts (Some i) = slice_index_or volts i no_volts

-- the voltage of an end, where the nodes have these by number
abbrev pub end_volts : (ℕ → Fraction) → End → Fraction
end_volts volts None = no_volts
end_volts volts (Some i) = volts i

-- the cell of the voltage of one end less that of another
abbrev pub cell_across : List ℤ → (End → Fraction) → End → End → ℕ
cell_across grid volt high low = cell grid (difference (volt high) (volt low))
