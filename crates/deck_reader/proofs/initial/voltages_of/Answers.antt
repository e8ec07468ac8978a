use Rattle.std.proofs.Common.{◌∙◌, ◌∷◌, ap, sym}
use Rattle.deck_reader.specs.Dots.{voltages_of}
use Rattle.deck_reader.proofs.BehindLemmas.{behind, behind-start, voltages-next}
use Rattle.deck_reader.proofs.initial.voltages_of.Goals as goal

pub loop-words-init : goal.loop-words-init
loop-words-init c = behind-start (voltages_of c.args.words.now) ∙ ap (λ voltages. behind voltages (voltages_of c.args.words.now)) (sym c.in_ok-voltages.ensures.items)

pub loop-words-preserved : goal.loop-words-preserved
loop-words-preserved c =
    c.loop-words.invariant
    ∙ ap (λ words. behind c.loop-words.voltages.items (voltages_of words))
    (c.in-Some.ensures ∙ ap (λ words. c.in-Some.field-0 ∷ words) (c.in-Some-next.ensures ∙ ap (λ words. c.in-Some-next.name ∷ words) c.in-Some-next-2.ensures))
    ∙ voltages-next c.loop-words.voltages.items c.in-Some.field-0 c.in-Some-next.name c.in-Some-next-2.volts c.next-in-Some-2.new.self _ c.in_ok-voltage.ensures
    ∙ ap (λ voltages. behind voltages (voltages_of c.next-in-Some-2.new.self)) (sym c.in_ok-push.ensures.items)
