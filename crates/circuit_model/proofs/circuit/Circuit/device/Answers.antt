-- What is kept at the number is a device of the deck, and stands for the element of the number.
use Rattle.std.proofs.Common.{arith}
use Rattle.circuit_model.proofs.Circuits.{item_at, item_placed, item_there, item_wired, items_total}
use Rattle.circuit_model.proofs.circuit.Circuit.device.Goals as goal

pub index-requires : goal.index-requires
index-requires c =
    let below = rw (← c.self.view_is) at c.requires in
    let total = items_total c.self.inside.deck c.self.inside.names c.self.inside.grid c.self.inside.devices.items c.self.inside.places.items c.self.inside.near c.self.invariant in omega (arith, below, total, c.self.inside.devices.ok)

pub read-requires : goal.read-requires
read-requires c =
    let below = rw (← c.self.view_is) at c.requires in
    item_there c.self.inside.deck c.self.inside.names c.self.inside.grid c.self.inside.devices.items c.self.inside.places.items c.self.inside.near c.self.invariant c.args.device c.index.result.now below c.index.ensures

pub returns-clause-device : goal.returns-clause-device
returns-clause-device c =
    let below = rw (← c.self.view_is) at c.requires in
    rw (← c.self.view_is) (item_at c.self.inside.deck c.self.inside.names c.self.inside.grid c.self.inside.devices.items c.self.inside.places.items c.self.inside.near c.self.invariant c.args.device c.index.result.now c.read.result below c.index.ensures c.read.ensures)

pub returns-clause-place : goal.returns-clause-place
returns-clause-place c =
    let below = rw (← c.self.view_is) at c.requires in
    rw (← c.self.view_is) (item_placed c.self.inside.deck c.self.inside.names c.self.inside.grid c.self.inside.devices.items c.self.inside.places.items c.self.inside.near c.self.invariant c.args.device c.index.result.now c.read.result below c.index.ensures c.read.ensures)

pub returns-clause-wired : goal.returns-clause-wired
returns-clause-wired c =
    let below = rw (← c.self.view_is) at c.requires in
    rw (← c.self.view_is) (item_wired c.self.inside.deck c.self.inside.names c.self.inside.grid c.self.inside.devices.items c.self.inside.places.items c.self.inside.near c.self.invariant c.args.device c.index.result.now c.read.result below c.index.ensures c.read.ensures)
