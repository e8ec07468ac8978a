-- What is kept of a device beside its deck, and the device that both make.
use Rattle.std.specs.Prelude.{◌≡◌, ℕ, true, ℤ, List, is_some, option_and_then, Option, Some, None, slice_get}
use Rattle.std.specs.List.{list_all}
use Rattle.std.specs.Option.{option_map}
use Rattle.semantics.specs.Deck.{DeckValue}
use Rattle.semantics.specs.Part.{Part, Level, Listed}
use Rattle.device_tables.specs.Level.{part_table}
use Rattle.device_tables.specs.Table.{TableValue}
use Rattle.circuit_model.specs.declared.kept_device.KeptDevice.{KeptDevice}
use Rattle.circuit_model.specs.declared.kept_device.KeptLaw.{KeptLaw}
use Rattle.circuit_model.specs.declared.kept_device.KeptLaw.TheVariants as kept
use Rattle.circuit_model.specs.declared.ends.Ends.{Ends}
use Rattle.circuit_model.specs.Wiring.{DeviceLaw, DeviceValue, Ohms, Gated}

-- the table that a part lists; a model lists none
abbrev pub listed_in : Part → Option TableValue
listed_in (Level channel vto kp) = None
listed_in (Listed gate drain amps) = Some (record { gate = gate; drain = drain; amps = amps })

-- the table that the part at this place lists
abbrev pub table_at : DeckValue → ℕ → Option TableValue
table_at d place = option_and_then (λ p. listed_in p.1) (slice_get d.parts place)

-- what sets the current of a device, by what is kept of it
abbrev pub law_in : DeckValue → KeptLaw → Option DeviceLaw
law_in d (kept.Ohms ohms) = Some (Ohms ohms)
law_in d (kept.Listed place) = option_map Gated (table_at d place)
law_in d (kept.Level table) = Some (Gated table)

-- what a part sets it by, for a device of this width and length
abbrev pub part_law : DeckValue → ℤ → ℤ → Part → Option DeviceLaw
part_law d width len p = Some (Gated (part_table d.grain p width len))

abbrev pub device_by_law : ℕ → Ends → DeviceLaw → DeviceValue
device_by_law place ends law = record { place = place; ends = ends; law = law }

-- the device of which this is kept
abbrev pub device_in : DeckValue → KeptDevice → Option DeviceValue
device_in d k = option_map (device_by_law k.place k.ends) (law_in d k.law)

-- each of these is a device of the deck
abbrev pub AreKept : DeckValue → List KeptDevice → Type 0
AreKept d ks = list_all (λ k. is_some (device_in d k)) ks ≡ true
