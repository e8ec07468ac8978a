-- An edit of no element.
use Rattle.std.proofs.Common.{◌&&◌, not, get_or, []}
use Rattle.edit_damage.specs.ByEdit.{is_edited, is_near_element, is_near_lost}
use Rattle.edit_damage.specs.Same.{has_element}
use Rattle.edit_damage.proofs.Finding.{found_none}
use Rattle.edit_damage.proofs.Named.{none_edited}
use Rattle.edit_damage.proofs.by_edit.add_lost.Goals as goal

pub returns-in-None : goal.returns-in-None
returns-in-None c =
    found_none c.args.circuit.now (λ i. is_near_lost c.args.circuit.now.deck c.args.one.now c.args.other.now c.args.edit.now (get_or c.args.circuit.now.names i [])) c.args.found.now
    (λ i below. none_edited (is_edited c.args.edit.now) (λ e. not (has_element c.args.other.now e) && is_near_element c.args.circuit.now.deck e (get_or c.args.circuit.now.names i [])) c.args.one.now.elements c.in-None.ensures)
