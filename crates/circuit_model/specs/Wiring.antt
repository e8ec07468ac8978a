-- A circuit by numbers: its devices, and what flows through them at given voltages.
use Rattle.std.specs.Prelude.{ℕ, ◌+◌, ◌*◌, ◌==◌, ◌&&◌, nat_le, Bool, true, false, if◌then◌else◌, ℤ, pos, ◌+ℤ◌, ◌-ℤ◌, List, [], ◌∷◌, ◌++◌, length, Option, Some, None, option_to_list}
use Rattle.std.specs.Option.{option_map}
use Rattle.semantics.specs.declared.element.Element.{Element}
use Rattle.semantics.specs.declared.element.Element.TheVariants.{Resistor, Capacitor, Source, Mos}
use Rattle.semantics.specs.declared.event.Event.{Event}
use Rattle.semantics.specs.declared.fraction.Fraction.{Fraction}
use Rattle.semantics.specs.Deck.{DeckValue, look_up}
use Rattle.semantics.specs.Device.{resistor_current}
use Rattle.semantics.specs.Event.{event_of}
use Rattle.semantics.specs.Grid.{uniform}
use Rattle.semantics.specs.Part.{listed_current}
use Rattle.semantics.specs.Valid.{some_ohms}
use Rattle.device_tables.specs.Table.{TableValue}
use Rattle.circuit_model.specs.declared.device.TheConstants.{HALF}
use Rattle.circuit_model.specs.declared.device.Law.{Law}
use Rattle.circuit_model.specs.declared.device.Law.TheVariants as laws
use Rattle.circuit_model.specs.declared.ends.Ends.{Ends}
use Rattle.circuit_model.specs.Ends.{End, cell_across, ends_in, is_inside}
use Rattle.device_tables.specs.Level.{part_table}

-- ---- devices

-- what sets the current of a device: a resistance in milliohms, or its table
pub data DeviceLaw : Type 0 where
  Ohms : ℤ → DeviceLaw
  Gated : TableValue → DeviceLaw

abbrev pub law_of : Law → DeviceLaw
law_of (laws.Ohms ohms) = Ohms ohms
law_of (laws.Gated table) = Gated table.now

-- a device by its place among the elements, with its ends by number
pub record DeviceValue : Type 0 where
  pub place : ℕ
  pub ends : Ends
  pub law : DeviceLaw

-- what sets the current of an element; None where it is no device, or its part is not there
abbrev pub law_at : DeckValue → Element → Option DeviceLaw
law_at d (Resistor name first second ohms) = Some (Ohms ohms)
law_at d (Mos name drain gate source bulk part len width) = option_map (λ p. Gated (part_table d.grain p width len)) (look_up part d.parts)
law_at d (Capacitor name plus minus farads) = None
law_at d (Source name plus minus wave) = None

-- the device of the element at this place, where it is one
abbrev pub device_by : List (List ℕ) → ℕ → Element → DeviceLaw → DeviceValue
device_by names place e law = record { place = place; ends = ends_in names e; law = law }

abbrev pub device_at : DeckValue → List (List ℕ) → ℕ → Element → Option DeviceValue
device_at d names place e = option_map (device_by names place e) (law_at d e)

-- the devices among elements of which the first has this place
abbrev pub devices_from : DeckValue → List (List ℕ) → ℕ → List Element → List DeviceValue
devices_from d names place [] = []
devices_from d names place (e ∷ es) = option_to_list (device_at d names place e) ++ devices_from d names (place + 1) es

-- the devices of a deck, where its nodes have these numbers
unfoldable pub devices_of : DeckValue → List (List ℕ) → List DeviceValue
devices_of d names = devices_from d names 0 d.elements

-- ---- cells

-- the thresholds of a resistor's voltage at this grain
abbrev pub ohmic_grid : ℕ → List ℤ
ohmic_grid grain = uniform grain HALF

abbrev pub law_cells : ℕ → (End → Fraction) → Ends → DeviceLaw → ℕ × ℕ
law_cells grain volt ends (Ohms ohms) = (cell_across (ohmic_grid grain) volt ends.first ends.second, 0)
law_cells grain volt ends (Gated table) = (cell_across table.gate volt ends.gate ends.second, cell_across table.drain volt ends.first ends.second)

-- the cells of a device at these voltages of ends: a resistor's and 0, or those of gate and drain
unfoldable pub device_cells : ℕ → (End → Fraction) → DeviceValue → ℕ × ℕ
device_cells grain volt device = law_cells grain volt device.ends device.law

abbrev pub law_current : ℕ → DeviceLaw → ℕ × ℕ → ℤ
law_current grain (Ohms ohms) c = resistor_current grain ohms c.0
law_current grain (Gated table) c = listed_current table.drain table.amps c.0 c.1

-- what flows through a device in these cells, out of its first end into its second
unfoldable pub device_current : ℕ → DeviceValue → ℕ × ℕ → ℤ
device_current grain device c = law_current grain device.law c

-- the table of a device
abbrev pub table_of : DeviceLaw → Option TableValue
table_of (Ohms ohms) = None
table_of (Gated table) = Some table

-- the cells of a device, from those of the gate's axis and of the other
abbrev pub law_axes : DeviceLaw → ℕ → ℕ → ℕ × ℕ
law_axes (Ohms ohms) gate drain = (drain, 0)
law_axes (Gated table) gate drain = (gate, drain)

-- ---- what a device needs

abbrev pub is_lawful : DeviceLaw → Bool
is_lawful (Ohms ohms) = some_ohms ohms
is_lawful (Gated table) = true

-- the ends lead to ground or to nodes below this count
abbrev pub are_inside : ℕ → Ends → Bool
are_inside count ends = is_inside count ends.first && (is_inside count ends.second && is_inside count ends.gate)

-- its ends lead there, and a resistance is in its limits
abbrev pub is_wired : ℕ → DeviceValue → Bool
is_wired count device = are_inside count device.ends && is_lawful device.law

abbrev pub law_has : DeviceLaw → ℕ × ℕ → Bool
law_has (Ohms ohms) c = nat_le c.0 (2 * HALF)
law_has (Gated table) c = nat_le c.0 (length table.gate) && nat_le c.1 (length table.drain)

-- its grids have these cells
abbrev pub has_cells : DeviceValue → ℕ × ℕ → Bool
has_cells device c = law_has device.law c

-- ---- all devices

-- an end leads to this node
abbrev pub leads_to : ℕ → End → Bool
leads_to i None = false
leads_to i (Some j) = i == j

-- what flows into node i, of a current out of the first end into the second
abbrev pub inflow : ℕ → Ends → ℤ → ℤ
inflow i ends amps = (if leads_to i ends.second then amps else pos 0) -ℤ (if leads_to i ends.first then amps else pos 0)

-- what flows into node i, over devices in these cells
abbrev pub inflows : ℕ → ℕ → List DeviceValue → List (ℕ × ℕ) → ℤ
inflows grain i [] cells = pos 0
inflows grain i (device ∷ devices) [] = pos 0
inflows grain i (device ∷ devices) (c ∷ cells) = inflow i device.ends (device_current grain device c) +ℤ inflows grain i devices cells

-- the events of devices that were in these cells, at these voltages of ends
abbrev pub changes : ℕ → ℕ → (End → Fraction) → List DeviceValue → List (ℕ × ℕ) → List Event
changes grain tick volt [] cells = []
changes grain tick volt (device ∷ devices) [] = []
changes grain tick volt (device ∷ devices) (c ∷ cells) =
    event_of tick device.place (Some c) (Some (device_cells grain volt device)) ++ changes grain tick volt devices cells
