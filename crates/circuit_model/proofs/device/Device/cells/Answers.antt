-- The cells of its law.
use Rattle.std.proofs.Common.{refl}
use Rattle.circuit_model.specs.Wiring.{device_cells}
use Rattle.circuit_model.proofs.device.Device.cells.Goals as goal

pub returns-in-Ohms : goal.returns-in-Ohms
unfolding device_cells
returns-in-Ohms c = λ grain same. rw (← c.self.view_is, c.in-Ohms.is, c.cell_across.ensures, same) refl

pub returns-in-Gated : goal.returns-in-Gated
unfolding device_cells
returns-in-Gated c = λ grain same. rw (← c.self.view_is, c.in-Gated.is, c.cell_across-in-Gated.ensures, c.cell_across-in-Gated-2.ensures, c.gate.ensures.grid, c.drain.ensures.grid) refl
