-- A wave of a valid deck has small lines that rise, and so has each part of it.
use Rattle.std.proofs.Common.{sym, subst}
use Rattle.std.specs.List.{All}
use Rattle.std.specs.Option.{option_to_list}
use Rattle.wave_text.specs.Body.{IsWave}
use Rattle.wave_text.proofs.Waves.{HasDen, all_behind, all_front, shown_dens, wave_is}
use Rattle.wave_text.proofs.wave_lines.wave_of_node.Goals as goal

pub shown-first-requires : goal.shown-first-requires
shown-first-requires c = subst IsWave (sym c.requires.wave) (wave_is c.args.deck.now c.args.node.now c.stop.ensures.valid c.requires.node)

pub wave_front-requires-clause-den : goal.wave_front-requires-clause-den
wave_front-requires-clause-den c =
    let is : IsWave c.args.lines.now = subst IsWave (sym c.requires.wave) (wave_is c.args.deck.now c.args.node.now c.stop.ensures.valid c.requires.node) in
    all_front HasDen (option_to_list c.shown-first.result.0) c.shown-first.result.1.now
    (subst (All HasDen) (sym c.shown-first.ensures) (shown_dens c.stop.result c.args.range c.args.lines.now is))

pub push_lines-requires : goal.push_lines-requires
push_lines-requires c =
    let is : IsWave c.args.lines.now = subst IsWave (sym c.requires.wave) (wave_is c.args.deck.now c.args.node.now c.stop.ensures.valid c.requires.node) in
    all_behind HasDen (option_to_list c.shown-first.result.0) c.shown-first.result.1.now
    (subst (All HasDen) (sym c.shown-first.ensures) (shown_dens c.stop.result c.args.range c.args.lines.now is))
