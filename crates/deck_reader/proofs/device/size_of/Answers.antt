use Rattle.std.proofs.Common.{◌∙◌, ◌∷◌, ap}
use Rattle.deck_reader.specs.Elements.{with_keys}
use Rattle.deck_reader.proofs.DeviceLemmas.{with_keys-next}
use Rattle.deck_reader.proofs.device.size_of.Goals as goal

pub loop-key-preserved : goal.loop-key-preserved
loop-key-preserved c =
    c.loop-key.invariant
    ∙ ap (with_keys c.loop-key.size) (c.in-Some.ensures ∙ ap (λ words. c.in-Some.key ∷ words) c.in-Some-next.ensures)
    ∙ with_keys-next c.loop-key.size c.in_ok-size.size c.in-Some.key c.in-Some-next.value c.next-in-Some.new.self c.in_ok-size.ensures
