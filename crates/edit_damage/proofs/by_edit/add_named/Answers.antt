-- No element has the name, or the one at its place has it alone.
use Rattle.std.proofs.Common.{◌&&◌, not, get_or, [], sym}
use Rattle.std.proofs.lemmas.Result.{on_ok_weaker}
use Rattle.edit_damage.specs.ByEdit.{is_near_element, is_near_named}
use Rattle.edit_damage.specs.Same.{has_element}
use Rattle.edit_damage.proofs.Finding.{found_as, found_none}
use Rattle.edit_damage.proofs.Named.{name_there, none_of_name, one_of_name}
use Rattle.edit_damage.proofs.by_edit.add_named.Goals as goal

pub returns-in-None : goal.returns-in-None
returns-in-None c =
    found_none c.args.circuit.now (λ i. is_near_named c.args.circuit.now.deck c.args.one.now c.args.other.now c.args.name.now (get_or c.args.circuit.now.names i [])) c.args.found.now
    (λ i below. none_of_name c.args.name.now (λ e. not (has_element c.args.other.now e) && is_near_element c.args.circuit.now.deck e (get_or c.args.circuit.now.names i [])) c.args.one.now.elements c.in-None.ensures.none)

pub returns-in-Some : goal.returns-in-Some
returns-in-Some c = on_ok_weaker c.add_where_lost.result
    (λ found. found_as c.args.circuit.now (λ i. not (has_element c.args.other.now c.element.result.now) && is_near_element c.args.circuit.now.deck c.element.result.now (get_or c.args.circuit.now.names i []))
    (λ i. is_near_named c.args.circuit.now.deck c.args.one.now c.args.other.now c.args.name.now (get_or c.args.circuit.now.names i [])) c.args.found.now c.add_where_lost.new.found found
    (λ i below. sym (one_of_name c.args.name.now (λ e. not (has_element c.args.other.now e) && is_near_element c.args.circuit.now.deck e (get_or c.args.circuit.now.names i [])) c.args.one.now.elements c.in-Some.place c.element.result.now
    c.have_names.ensures c.element.ensures (name_there c.args.one.now.elements c.in-Some.place c.element.result.now c.args.name.now c.element.ensures c.in-Some.ensures.found))))
    c.add_where_lost.ensures
