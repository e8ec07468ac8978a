use Rattle.std.proofs.Common.{◌∙◌, ◌∷◌, ap}
use Rattle.deck_reader.specs.Settings.{unset, with_pairs}
use Rattle.deck_reader.proofs.ModelLemmas.{pairs-next, bad_pair}
use Rattle.deck_reader.proofs.VoltageLemmas.{hands_on}
use Rattle.deck_reader.proofs.settings.Settings.of.Goals as goal

pub loop-word-preserved : goal.loop-word-preserved
loop-word-preserved c =
    c.loop-word.invariant
    ∙ ap (with_pairs c.loop-word.settings) (c.in-Some.ensures ∙ ap (λ words. c.in-Some.word ∷ words) c.in-Some-next.ensures)
    ∙ pairs-next c.loop-word.settings c.in_ok-settings.settings c.in-Some.word c.in-Some-next.value c.next-in-Some.new.self c.in_ok-settings.ensures

pub returns-in_err-settings : goal.returns-in_err-settings
returns-in_err-settings c =
    hands_on c.from_residual.result c.in_err-settings.field-0.0 (with_pairs unset c.args.pairs.now) c.from_residual.ensures.1
    (bad_pair c.loop-word.settings c.in-Some.word c.in-Some-next.value c.next-in-Some.new.self c.in_err-settings.field-0.0 (with_pairs unset c.args.pairs.now)
    (c.loop-word.invariant ∙ ap (with_pairs c.loop-word.settings) (c.in-Some.ensures ∙ ap (λ words. c.in-Some.word ∷ words) c.in-Some-next.ensures))
    c.in_err-settings.ensures)
