-- A name without a number is no neighbour's, and one with a number is that of its node.
use Rattle.std.proofs.Common.{◌≡◌, ◌∙◌, ap, get_or, [], None, Some, sym}
use Rattle.std.proofs.lemmas.Result.{on_ok_weaker}
use Rattle.semantics.specs.Neighbours.{share}
use Rattle.circuit_model.specs.Ends.{number}
use Rattle.edit_damage.specs.ByEdit.{is_beside}
use Rattle.edit_damage.proofs.Around.{beside_none, beside_some}
use Rattle.edit_damage.proofs.Finding.{found_as, found_none}
use Rattle.edit_damage.proofs.found.Found.add_beside.Goals as goal

pub returns-in-None : goal.returns-in-None
returns-in-None c =
    let none : number c.args.circuit.now.names c.args.name.now ≡ None = ap (λ names. number names c.args.name.now) c.requires ∙ sym c.in-None.ensures in
    found_none c.args.circuit.now (λ i. is_beside c.args.circuit.now.deck c.args.name.now (get_or c.args.circuit.now.names i [])) c.args.self.now
    (λ i below. beside_none c.args.circuit.now.deck c.args.circuit.now.names c.args.name.now (get_or c.args.circuit.now.names i []) c.node_count.ensures.names c.node_count.ensures.nodes none)

pub returns-in-Some : goal.returns-in-Some
returns-in-Some c =
    let some : number c.args.circuit.now.names c.args.name.now ≡ Some c.in-Some.node = ap (λ names. number names c.args.name.now) c.requires ∙ sym c.in-Some.ensures in
    on_ok_weaker c.add_neighbours.result
    (λ found. found_as c.args.circuit.now (λ i. share c.args.circuit.now.deck (get_or c.args.circuit.now.names c.in-Some.node []) (get_or c.args.circuit.now.names i []))
    (λ i. is_beside c.args.circuit.now.deck c.args.name.now (get_or c.args.circuit.now.names i [])) c.args.self.now c.add_neighbours.new.self found
    (λ i below. beside_some c.args.circuit.now.deck c.args.circuit.now.names c.args.name.now (get_or c.args.circuit.now.names i []) c.in-Some.node c.node_count.ensures.names some))
    c.add_neighbours.ensures
