-- The number of a name is that of the node that has it.
use Rattle.std.proofs.Common.{◌∙◌, ap, get_or, [], sym}
use Rattle.std.proofs.lemmas.Result.{on_ok_weaker}
use Rattle.std.specs.Str.{bytes_eq}
use Rattle.circuit_model.specs.Ends.{number}
use Rattle.circuit_model.specs.Wiring.{leads_to}
use Rattle.circuit_model.proofs.Leads.{leads}
use Rattle.circuit_model.proofs.Named.{nodes_from}
use Rattle.edit_damage.proofs.Finding.{found_as}
use Rattle.edit_damage.proofs.found.Found.add_name.Goals as goal

pub returns : goal.returns
returns c = on_ok_weaker c.add.result
    (λ found. found_as c.args.circuit.now (λ i. leads_to i c.find.result) (λ i. bytes_eq (get_or c.args.circuit.now.names i []) c.args.name.now) c.args.self.now c.add.new.self found
    (λ i below. ap (leads_to i) (c.find.ensures ∙ ap (λ names. number names c.args.name.now) (sym c.requires)) ∙ leads c.args.circuit.now.names i c.args.name.now (nodes_from c.args.circuit.now.names c.node_count.ensures.names) below))
    c.add.ensures
