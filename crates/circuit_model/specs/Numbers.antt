-- A circuit by numbers: a deck, and the names by which its nodes are numbered.
use Rattle.std.specs.Prelude.{◌≡◌, ℕ, ◌<◌, ◌≤◌, if◌then◌else◌, ℤ, pos, ◌+ℤ◌, List, [], length, filter, fold, is_some, option_and_then, Option, None, IfSome, slice_get, slice_index_or}
use Rattle.std.specs.List.{enumerate_from, list_any, range_with_len}
use Rattle.std.specs.Option.{option_map, option_map_or}
use Rattle.std.specs.Str.{bytes_eq}
use Rattle.semantics.specs.declared.element.Element.{Element}
use Rattle.semantics.specs.declared.element.Element.TheVariants.{Resistor, Capacitor, Source, Mos}
use Rattle.semantics.specs.declared.fraction.Fraction.{Fraction}
use Rattle.semantics.specs.Deck.{DeckValue, driver, ends_of, look_up, nodes}
use Rattle.semantics.specs.Device.{current_in}
use Rattle.semantics.specs.Grid.{uniform}
use Rattle.semantics.specs.Neighbours.{is_device, is_end}
use Rattle.semantics.specs.Part.{gate_grid, drain_grid}
use Rattle.semantics.specs.Run.{flow}
use Rattle.circuit_model.specs.declared.ends.Ends.{Ends}
use Rattle.circuit_model.specs.declared.node_kind.NodeKind.{NodeKind}
use Rattle.circuit_model.specs.declared.node_kind.NodeKind.TheVariants.{Absent, Driven, Free}
use Rattle.circuit_model.specs.Ends.{End, cell_across, ends_in, number}
use Rattle.circuit_model.specs.Wiring.{inflow}

pub record CircuitValue : Type 0 where
  pub deck : DeckValue
  pub names : List (List ℕ)

-- ---- nodes

-- the name of the node of this number
abbrev pub name_at : CircuitValue → ℕ → List ℕ
name_at c node = slice_index_or c.names node []

-- a name is a node of the deck that a source drives, or one that none drives, or it is no node of the deck
unfoldable pub kind_of : DeckValue → List ℕ → NodeKind
kind_of d n = if list_any (bytes_eq n) (nodes d) then (if is_some (driver d n) then Driven else Free) else Absent

-- its place among the nodes of the deck, where it is one of them
abbrev pub place_at : CircuitValue → ℕ → Option ℕ
place_at c node = option_and_then (number (nodes c.deck)) (slice_get c.names node)

-- what the name of this number is; a number that no name has is absent
abbrev pub kind_at : CircuitValue → ℕ → NodeKind
kind_at c node = option_map_or (kind_of c.deck) (slice_get c.names node) Absent

-- ---- devices

-- the devices of a deck, in the order of its elements
unfoldable pub devices : DeckValue → List Element
devices d = filter is_device d.elements

-- an element that no deck has
abbrev pub no_element : Element
no_element = Source [] [] [] []

-- the device of this number
abbrev pub device_of : DeckValue → ℕ → Element
device_of d k = slice_index_or (devices d) k no_element

-- the devices with their places among the elements
unfoldable pub placed_devices : DeckValue → List (ℕ × Element)
placed_devices d = filter (λ at. is_device at.1) (enumerate_from 0 d.elements)

-- the place of the device of this number
abbrev pub place_of : DeckValue → ℕ → ℕ
place_of d k = (slice_index_or (placed_devices d) k (0, no_element)).0

-- the devices at a node, gates included, by rising numbers
unfoldable pub near_of : DeckValue → List ℕ → List ℕ
near_of d n = filter (λ k. is_end n (device_of d k)) (range_with_len 0 (length (devices d)))

-- what flows into a node through these devices
abbrev pub flows_over : DeckValue → (List ℕ → Fraction) → List ℕ → List ℕ → ℤ
flows_over d v n ks = fold (λ total k. total +ℤ flow d v n (device_of d k)) (pos 0) ks

-- ---- the two axes of a device: gate less second end, and first end less second

-- the thresholds of the gate's axis; a resistor has none
abbrev pub gate_grid_of : DeckValue → Element → Option (List ℤ)
gate_grid_of d (Mos name drain gate source bulk part len width) = option_map (gate_grid d.grain) (look_up part d.parts)
gate_grid_of d (Resistor name first second ohms) = None
gate_grid_of d (Capacitor name plus minus farads) = None
gate_grid_of d (Source name plus minus wave) = None

-- the thresholds of the other axis, a resistor's only one
abbrev pub drain_grid_of : DeckValue → Element → List ℤ
drain_grid_of d (Resistor name first second ohms) = uniform d.grain 4096
drain_grid_of d (Mos name drain gate source bulk part len width) = option_map_or (drain_grid d.grain) (look_up part d.parts) []
drain_grid_of d (Capacitor name plus minus farads) = []
drain_grid_of d (Source name plus minus wave) = []

-- a device has these cells
pub record HasCells (d : DeckValue) (e : Element) (gate drain : ℕ) : Type 0 where
  pub gate_there : IfSome (gate_grid_of d e) (λ grid. gate ≤ length grid)
  pub drain_there : drain ≤ length (drain_grid_of d e)

-- the cells of a device as its events have them: a resistor's and 0, or those of gate and drain
abbrev pub axes : Element → ℕ → ℕ → ℕ × ℕ
axes (Resistor name first second ohms) gate drain = (drain, 0)
axes (Mos name drain_end gate_end source bulk part len width) gate drain = (gate, drain)
axes (Capacitor name plus minus farads) gate drain = (gate, drain)
axes (Source name plus minus wave) gate drain = (gate, drain)

-- the cell of a device on the gate's axis, where its ends lead here and have these voltages; 0 where it has none
abbrev pub gate_cell : DeckValue → Element → Ends → (End → Fraction) → ℕ
gate_cell d e ends volt = option_map_or (λ grid. cell_across grid volt ends.gate ends.second) (gate_grid_of d e) 0

-- its cell on the other axis
abbrev pub drain_cell : DeckValue → Element → Ends → (End → Fraction) → ℕ
drain_cell d e ends volt = cell_across (drain_grid_of d e) volt ends.first ends.second

-- its cells, as its events have them
abbrev pub cells_by_axis : DeckValue → List (List ℕ) → (End → Fraction) → ℕ → ℕ × ℕ
cells_by_axis d names volt k =
    axes (device_of d k) (gate_cell d (device_of d k) (ends_in names (device_of d k)) volt) (drain_cell d (device_of d k) (ends_in names (device_of d k)) volt)

-- what flows into a node through the device of this number, at these voltages of ends
abbrev pub device_flow : CircuitValue → (End → Fraction) → ℕ → ℕ → ℤ
device_flow c volt node k = inflow node (ends_in c.names (device_of c.deck k)) (current_in c.deck (device_of c.deck k) (cells_by_axis c.deck c.names volt k))

-- and through several of them
abbrev pub inflow_over : CircuitValue → (End → Fraction) → ℕ → List ℕ → ℤ
inflow_over c volt node ks = fold (λ total k. total +ℤ device_flow c volt node k) (pos 0) ks

-- by these names, the ends of an element have by number the voltages that they have by name
abbrev pub SameAtEnds : List (List ℕ) → (End → Fraction) → (List ℕ → Fraction) → Element → Type 0
SameAtEnds names volt v e =
    (j : ℕ) → j < length (ends_of e) → volt (number names (slice_index_or (ends_of e) j [])) ≡ v (slice_index_or (ends_of e) j [])
