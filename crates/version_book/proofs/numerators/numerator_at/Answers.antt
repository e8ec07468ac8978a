-- The line in force has the voltage of the lines.
use Rattle.std.proofs.Common.{List, Some, sym, ap, ◌∙◌, rules, SFits}
use Rattle.std.specs.Int.{w128}
use Rattle.std.proofs.lemmas.Int.{to_z-of_z}
use Rattle.std.specs.Option.{option_map}
use Rattle.semantics.specs.declared.fraction.Fraction.{Fraction}
use Rattle.semantics.specs.declared.line.Line.{Line}
use Rattle.histories.specs.Track.{no_line}
use Rattle.histories.proofs.Places.{pair_at_place}
use Rattle.version_book.proofs.WaveLines.{voltage_is}
use Rattle.version_book.proofs.numerators.numerator_at.Goals as goal

pub numerator-requires-clause-bounded : goal.numerator-requires-clause-bounded
numerator-requires-clause-bounded c = c.requires.lines.bounded c.place_at.result no_line c.place_at.ensures.inside

pub returns : goal.returns
returns c =
    let ls : List Line = c.args.lines.now in
    let at = voltage_is ls c.args.tick c.requires.lines ∙ ap Some (pair_at_place ls c.args.tick c.place_at.result c.requires.lines.lines.rising c.place_at.ensures) in
    let fits : SFits w128 c.numerator.result = search rules in
    ap (option_map (λ (v : Fraction). v.num)) at ∙ ap Some (sym c.numerator.ensures ∙ sym (to_z-of_z w128 c.numerator.result fits))
