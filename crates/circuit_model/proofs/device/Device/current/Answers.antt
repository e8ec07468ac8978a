-- The current of its law.
use Rattle.std.proofs.Common.{refl, rules, ℤ, FitsSigned}
use mir.Syntax.{w64}
use Rattle.std.proofs.lemmas.Int.{to_z-of_z}
use Rattle.semantics.proofs.Limits.{resistor_small}
use Rattle.circuit_model.specs.Wiring.{device_current}
use Rattle.circuit_model.proofs.device.Device.current.Goals as goal

pub returns-in-Ohms-clause-value : goal.returns-in-Ohms-clause-value
unfolding device_current
returns-in-Ohms-clause-value c =
    let r : ℤ = c.resistor.result in
    let fits : FitsSigned w64 r = record { sfits = c.resistor.type_inv } in
    let ohms : FitsSigned w64 c.in-Ohms.ohms = search rules in
    rw (to_z-of_z w64 r fits, c.resistor.ensures, to_z-of_z w64 c.in-Ohms.ohms ohms, ← c.self.view_is, c.in-Ohms.is) refl

pub returns-in-Ohms-clause-small : goal.returns-in-Ohms-clause-small
returns-in-Ohms-clause-small c =
    rw (to_z-of_z w64 c.resistor.result (record { sfits = c.resistor.type_inv }), c.resistor.ensures) (resistor_small _ _ _)

pub returns-in-Gated-clause-value : goal.returns-in-Gated-clause-value
unfolding device_current
returns-in-Gated-clause-value c =
    let r : ℤ = c.current.result in
    let fits : FitsSigned w64 r = record { sfits = c.current.type_inv } in
    rw (to_z-of_z w64 r fits, c.current.ensures.value, ← c.self.view_is, c.in-Gated.is) refl
