-- The devices are those of the deck, and few.
use Rattle.std.proofs.Common.{arith}
use Rattle.circuit_model.proofs.Circuits.{items_few, items_total}
use Rattle.circuit_model.proofs.circuit.Circuit.device_count.Goals as goal

pub overflow_cast-result : goal.overflow_cast-result
overflow_cast-result c = let few = items_few c.self.inside.deck c.self.inside.names c.self.inside.grid c.self.inside.devices.items c.self.inside.places.items c.self.inside.near c.self.invariant in omega (arith, few, c.len.ensures)

pub returns-clause-count : goal.returns-clause-count
returns-clause-count c = let total = items_total c.self.inside.deck c.self.inside.names c.self.inside.grid c.self.inside.devices.items c.self.inside.places.items c.self.inside.near c.self.invariant in rw (← c.self.view_is) (omega (arith, total, c.len.ensures, c.self.inside.devices.ok))

pub returns-clause-few : goal.returns-clause-few
returns-clause-few c = let few = items_few c.self.inside.deck c.self.inside.names c.self.inside.grid c.self.inside.devices.items c.self.inside.places.items c.self.inside.near c.self.invariant in omega (arith, few, c.len.ensures)
