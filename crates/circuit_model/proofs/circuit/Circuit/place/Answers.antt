-- A node has its place.
use Rattle.std.proofs.Common.{◌∙◌, ap, sym}
use Rattle.circuit_model.proofs.NodeKinds.{kind_some, some_place}
use Rattle.std.specs.Option.{is_some}
use Rattle.circuit_model.proofs.circuit.Circuit.place.Goals as goal

pub unwrap-requires : goal.unwrap-requires
unwrap-requires c = ap is_some c.find_place.ensures ∙ some_place c.args.self.now c.args.node c.requires

pub returns : goal.returns
returns c = (kind_some c.args.self.now c.args.node c.unwrap.result (sym c.find_place.ensures ∙ c.unwrap.ensures)).name_is
