-- A free node is charged to its initial voltage.
use Rattle.std.proofs.Common.{◌≡◌, ℕ, List, [], get_or, Some, sym, rules, FitsSigned}
use mir.Syntax.{w64}
use Rattle.std.specs.Prelude.{slice_get}
use Rattle.std.proofs.lemmas.Int.{to_z-of_z}
use Rattle.std.proofs.lemmas.Option.{slice_get-get_or}
use Rattle.semantics.specs.Deck.{DeckValue, nodes}
use Rattle.semantics.proofs.Nodes.{AreNodes-nodes}
use Rattle.semantics.proofs.Steps.{start_free}
use Rattle.circuit_model.proofs.volts.first_volts_of.Goals as goal

pub returns-in-None : goal.returns-in-None
returns-in-None c =
    let d : DeckValue = c.args.deck.now in
    let n : List ℕ = get_or (nodes d) c.args.node [] in
    let at : slice_get (nodes d) c.args.node ≡ Some n = slice_get-get_or (nodes d) c.args.node [] c.requires.node in
    let volts : FitsSigned w64 c.initial_volts.result = search rules in
    rw (c.charged.ensures, to_z-of_z w64 c.initial_volts.result volts, rw at at c.capacity.ensures, rw at at c.initial_volts.ensures) (sym (start_free d n ((AreNodes-nodes d).real c.args.node c.requires.node) c.in-None.ensures.free))
