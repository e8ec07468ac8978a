use Rattle.std.proofs.Common.{◌∙◌, sym, ap}
use Rattle.semantics.specs.Points.{wave_refusal}
use Rattle.deck_reader.proofs.SourceLemmas.{wave_refusal-ticks}
use Rattle.deck_reader.proofs.source.wave_of.Goals as goal

pub unreachable-requires : goal.unreachable-requires
unreachable-requires c =
    let none = wave_refusal-ticks c.args.points.now c.requires.some (sym c.are_ticks.ensures ∙ c.if-not-are_ticks.false) c.requires.rising in
    let refused = c.in-Err.ensures.cause ∙ ap wave_refusal c.in_ok-ticks.ensures ∙ none in
    cc
