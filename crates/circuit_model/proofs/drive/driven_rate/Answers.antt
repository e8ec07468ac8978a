-- The node's driver is a source of the deck, and the rate is its slope.
use Rattle.std.proofs.Common.{◌≡◌, ℕ, Bool, List, [], get_or, Some, sym, ℤ}
use mir.Syntax.{w128}
use Rattle.std.specs.Prelude.{slice_get}
use Rattle.std.proofs.lemmas.Int.{to_z-of_z}
use Rattle.std.proofs.lemmas.Option.{slice_get-get_or}
use Rattle.semantics.specs.Deck.{DeckValue, nodes, driver}
use Rattle.semantics.proofs.Limits.{limits, driver_source}
use Rattle.semantics.proofs.Steps.{rate_driven}
use Rattle.circuit_model.proofs.drive.driven_rate.Goals as goal

pub turned_slope-requires : goal.turned_slope-requires
turned_slope-requires c =
    let d : DeckValue = c.args.deck.now in
    let n : List ℕ = get_or (nodes d) c.args.node [] in
    let at : slice_get (nodes d) c.args.node ≡ Some n = slice_get-get_or (nodes d) c.args.node [] c.requires.node in
    let source : List (ℕ × ℤ) × Bool = (c.in_ok-wave.wave.now, c.in_ok-wave.second) in
    let driven : driver d n ≡ Some source = rw at at c.in_ok-wave.ensures in
    driver_source d n source (limits d c.requires.valid) driven

pub returns-clause-driven : goal.returns-clause-driven
returns-clause-driven c =
    let d : DeckValue = c.args.deck.now in
    let n : List ℕ = get_or (nodes d) c.args.node [] in
    let at : slice_get (nodes d) c.args.node ≡ Some n = slice_get-get_or (nodes d) c.args.node [] c.requires.node in
    let source : List (ℕ × ℤ) × Bool = (c.in_ok-wave.wave.now, c.in_ok-wave.second) in
    let driven : driver d n ≡ Some source = rw at at c.in_ok-wave.ensures in
    let slope : ℤ = c.turned_slope.result in
    rw (to_z-of_z w128 slope (record { sfits = c.turned_slope.type_inv }), c.turned_slope.ensures) (sym (rate_driven d c.args.tick n source driven))
