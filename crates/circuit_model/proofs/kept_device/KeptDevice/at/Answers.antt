-- A valid deck has few elements, so a place fits 32 bits, and what its devices say is in the limits.
use Rattle.std.proofs.Common.{◌≡◌, true, arith, rules, FitsSigned}
use mir.Syntax.{w64}
use Rattle.std.proofs.lemmas.Bool.{and_parts}
use Rattle.std.proofs.lemmas.Int.{to_z-of_z}
use Rattle.semantics.specs.Deck.{DeckValue}
use Rattle.semantics.specs.Valid.{in_limits, some_metres}
use Rattle.semantics.proofs.Limits.{Limits, limits}
use Rattle.circuit_model.proofs.Places.{passes_at}
use Rattle.circuit_model.proofs.kept_device.KeptDevice.at.Goals as goal

pub overflow_cast-result : goal.overflow_cast-result
overflow_cast-result c = let l : Limits c.args.deck.now = limits c.args.deck.now c.requires.valid in omega (arith, l.few_elements, c.requires.place)

pub of-requires-clause-width : goal.of-requires-clause-width
of-requires-clause-width c =
    let d : DeckValue = c.args.deck.now in
    let l : Limits d = limits d c.requires.valid in
    let fits : FitsSigned w64 c.in-Mos.width = search rules in
    let good : in_limits c.element.result.now ≡ true = passes_at in_limits d.elements c.args.place c.element.result.now l.values c.element.ensures in
    rw (to_z-of_z w64 c.in-Mos.width fits) (and_parts (some_metres c.in-Mos.length) (some_metres c.in-Mos.width) (rw c.in-Mos.is at good)).1

pub of-requires-clause-length : goal.of-requires-clause-length
of-requires-clause-length c =
    let d : DeckValue = c.args.deck.now in
    let l : Limits d = limits d c.requires.valid in
    let fits : FitsSigned w64 c.in-Mos.length = search rules in
    let good : in_limits c.element.result.now ≡ true = passes_at in_limits d.elements c.args.place c.element.result.now l.values c.element.ensures in
    rw (to_z-of_z w64 c.in-Mos.length fits) (and_parts (some_metres c.in-Mos.length) (some_metres c.in-Mos.width) (rw c.in-Mos.is at good)).0
