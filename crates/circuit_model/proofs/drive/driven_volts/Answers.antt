-- The node's driver is a source of the deck, and the run follows it.
use Rattle.std.proofs.Common.{◌≡◌, ℕ, Bool, List, [], get_or, Some, sym, ℤ}
use Rattle.std.specs.Prelude.{slice_get}
use Rattle.std.proofs.lemmas.Option.{slice_get-get_or}
use Rattle.semantics.specs.Deck.{DeckValue, nodes, driver}
use Rattle.semantics.proofs.Limits.{limits, driver_source, run_driven}
use Rattle.semantics.proofs.Nodes.{AreNodes-nodes}
use Rattle.circuit_model.proofs.drive.driven_volts.Goals as goal

pub turned_pair-requires : goal.turned_pair-requires
turned_pair-requires c =
    let d : DeckValue = c.args.deck.now in
    let n : List ℕ = get_or (nodes d) c.args.node [] in
    let at : slice_get (nodes d) c.args.node ≡ Some n = slice_get-get_or (nodes d) c.args.node [] c.requires.node in
    let source : List (ℕ × ℤ) × Bool = (c.in_ok-wave.wave.now, c.in_ok-wave.second) in
    let driven : driver d n ≡ Some source = rw at at c.in_ok-wave.ensures in
    driver_source d n source (limits d c.requires.valid) driven

pub returns-clause-driven : goal.returns-clause-driven
returns-clause-driven c =
    let d : DeckValue = c.args.deck.now in
    let n : List ℕ = get_or (nodes d) c.args.node [] in
    let at : slice_get (nodes d) c.args.node ≡ Some n = slice_get-get_or (nodes d) c.args.node [] c.requires.node in
    let source : List (ℕ × ℤ) × Bool = (c.in_ok-wave.wave.now, c.in_ok-wave.second) in
    let driven : driver d n ≡ Some source = rw at at c.in_ok-wave.ensures in
    rw c.turned_pair.ensures (sym (run_driven d c.args.tick n source ((AreNodes-nodes d).real c.args.node c.requires.node) driven))
