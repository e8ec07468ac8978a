-- A circuit as the run of a window sees it.
use Rattle.std.specs.Prelude.{◌≡◌, ℕ, Bool, true, false, ◌-◌, List, [], filter, length}
use Rattle.std.specs.List.{range_with_len}
use Rattle.std.specs.Option.{unwrap_or}
use Rattle.semantics.specs.Device.{current_in}
use Rattle.semantics.specs.Valid.{is_valid}
use Rattle.circuit_model.specs.declared.node_kind.NodeKind.{NodeKind}
use Rattle.circuit_model.specs.declared.node_kind.NodeKind.TheVariants.{Absent, Driven, Free}
use Rattle.circuit_model.specs.Drive.{drive_of}
use Rattle.circuit_model.specs.Ends.{ends_in}
use Rattle.circuit_model.specs.Names.{AreNames, HasNodes}
use Rattle.circuit_model.specs.Numbers.{CircuitValue, axes, device_of, devices, drain_grid_of, gate_grid_of, kind_at, name_at, near_of}
use Rattle.window_run.specs.Net.{Net}

abbrev pub is_free_kind : NodeKind → Bool
is_free_kind Free = true
is_free_kind Driven = false
is_free_kind Absent = false

abbrev pub is_driven_kind : NodeKind → Bool
is_driven_kind Driven = true
is_driven_kind Free = false
is_driven_kind Absent = false

-- the numbers of the free nodes, rising
unfoldable pub free_numbers : CircuitValue → List ℕ
free_numbers c = filter (λ i. is_free_kind (kind_at c i)) (range_with_len 0 (length c.names))

-- a circuit whose deck is valid, and whose numbers can be relied on
pub record IsNumbered (c : CircuitValue) : Type 0 where
  pub valid : is_valid c.deck ≡ true
  pub names : AreNames c.names
  pub has : HasNodes c.deck c.names

-- nodes and devices by the circuit's numbers
unfoldable pub net_of : CircuitValue → Net
net_of c = record {
  stop = c.deck.stop;
  nodes = length c.names;
  devices = length (devices c.deck);
  free = λ i. is_free_kind (kind_at c i);
  driven = λ i. is_driven_kind (kind_at c i);
  drive = λ i t. drive_of c.deck (name_at c i) t;
  near = λ i. near_of c.deck (name_at c i);
  gate = λ k. (ends_in c.names (device_of c.deck k)).gate;
  first = λ k. (ends_in c.names (device_of c.deck k)).first;
  second = λ k. (ends_in c.names (device_of c.deck k)).second;
  gate_grid = λ k. unwrap_or (gate_grid_of c.deck (device_of c.deck k)) [];
  drain_grid = λ k. drain_grid_of c.deck (device_of c.deck k);
  amps = λ k cells. current_in c.deck (device_of c.deck k) (axes (device_of c.deck k) cells.0 cells.1);
}
