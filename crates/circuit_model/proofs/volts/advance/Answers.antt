-- At the end every node is at the next tick.
use Rattle.std.proofs.Common.{◌≡◌, ◌+◌, List, [], length, ◌∙◌, ap, arith}
use Rattle.std.proofs.lemmas.List.{length-map}
use Rattle.semantics.specs.declared.fraction.Fraction.{Fraction}
use Rattle.semantics.specs.Deck.{DeckValue, nodes}
use Rattle.semantics.specs.Run.{run}
use Rattle.circuit_model.specs.Ends.{no_volts}
use Rattle.circuit_model.proofs.Places.{map_from_places}
use Rattle.circuit_model.proofs.volts.advance.Goals as goal

pub returns : goal.returns
returns c =
    let d : DeckValue = c.args.deck.now in
    let size : length c.loop-node.volts ≡ length (nodes d) = c.loop-node.auto.volts ∙ ap (λ (xs : List Fraction). length xs) c.requires.volts ∙ length-map (nodes d) (run d c.args.tick) in
    map_from_places (run d (c.args.tick + 1)) (nodes d) c.loop-node.volts [] no_volts size (λ i below. c.loop-node.invariant.done i (omega (arith, size)))
