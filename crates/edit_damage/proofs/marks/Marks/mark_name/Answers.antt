-- The number of a name is that of the node that has it.
use Rattle.std.proofs.Common.{◌∙◌, ap, arith, get_or, []}
use Rattle.std.specs.Str.{bytes_eq}
use Rattle.circuit_model.specs.Wiring.{leads_to}
use Rattle.circuit_model.proofs.Leads.{leads}
use Rattle.circuit_model.proofs.Named.{nodes_from}
use Rattle.edit_damage.proofs.Marking.{marked_as}
use Rattle.edit_damage.proofs.marks.Marks.mark_name.Goals as goal

pub returns : goal.returns
returns c =
    marked_as (λ i. leads_to i c.find.result) (λ i. bytes_eq (get_or c.args.names.now i []) c.args.name.now) c.args.self.now c.mark.new.self c.mark.ensures
    (λ i below. ap (leads_to i) c.find.ensures ∙ leads c.args.names.now i c.args.name.now (nodes_from c.args.names.now c.have_names.ensures) (omega (arith, below, c.requires)))
