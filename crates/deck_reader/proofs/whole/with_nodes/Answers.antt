use Rattle.std.proofs.Common.{◌∙◌, ap, subst}
use Rattle.deck_cards.specs.Settled.{settled}
use Rattle.deck_reader.specs.Reading.{Reads, sound}
use Rattle.deck_reader.specs.Circuit.{line_of}
use Rattle.deck_reader.proofs.whole.with_nodes.Goals as goal

pub returns : goal.returns
returns c = λ end said.
    subst (λ d. Reads c.sound.result (sound (line_of c.args.told.circuit) d)) (ap settled c.in_ok-parts.ensures ∙ c.requires.once)
    (c.sound.ensures c.args.told end said)
