-- What a part of a valid deck says is in its limits.
use Rattle.std.proofs.Common.{◌≡◌, true, rules, sym, ◌∙◌, FitsSigned}
use mir.Syntax.{w64}
use Rattle.std.proofs.lemmas.Bool.{and_parts}
use Rattle.std.proofs.lemmas.Int.{to_z-of_z}
use Rattle.semantics.specs.Deck.{DeckValue}
use Rattle.semantics.specs.Valid.{is_part, some_gain, small_vto}
use Rattle.semantics.proofs.Limits.{Limits, limits, look_up_has}
use Rattle.deck_cards.specs.Part.{part_of}
use Rattle.circuit_model.proofs.Networks.{grain_fits}
use Rattle.circuit_model.proofs.kept_device.KeptLaw.of.Goals as goal

pub level_one-requires-clause-vto : goal.level_one-requires-clause-vto
level_one-requires-clause-vto c =
    let d : DeckValue = c.args.deck.now in
    let l : Limits d = limits d c.requires.valid in
    let fits : FitsSigned w64 c.in-Level.vto = search rules in
    let good : is_part (part_of c.part_at.result.now) ≡ true = look_up_has is_part _ d.parts (part_of c.part_at.result.now) l.parts (sym c.in_ok-place.ensures.part ∙ c.part_at.ensures) in
    rw (to_z-of_z w64 c.in-Level.vto fits) (and_parts (small_vto c.in-Level.vto) (some_gain c.in-Level.kp) (rw c.in-Level.is at good)).0

pub level_one-requires-clause-kp : goal.level_one-requires-clause-kp
level_one-requires-clause-kp c =
    let d : DeckValue = c.args.deck.now in
    let l : Limits d = limits d c.requires.valid in
    let fits : FitsSigned w64 c.in-Level.kp = search rules in
    let good : is_part (part_of c.part_at.result.now) ≡ true = look_up_has is_part _ d.parts (part_of c.part_at.result.now) l.parts (sym c.in_ok-place.ensures.part ∙ c.part_at.ensures) in
    rw (to_z-of_z w64 c.in-Level.kp fits) (and_parts (small_vto c.in-Level.vto) (some_gain c.in-Level.kp) (rw c.in-Level.is at good)).1

pub level_one-requires-clause-grain : goal.level_one-requires-clause-grain
level_one-requires-clause-grain c = grain_fits c.args.deck.now c.grain-grain.result c.grain-grain.ensures.value (limits c.args.deck.now c.requires.valid)
