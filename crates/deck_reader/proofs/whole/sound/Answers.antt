use Rattle.std.proofs.Common.{subst}
use Rattle.deck_cards.specs.Answers.{Answers}
use Rattle.deck_cards.specs.Causes.{deck_cause}
use Rattle.deck_cards.specs.Settled.{settled}
use Rattle.deck_reader.proofs.SoundLemmas.{told_at}
use Rattle.deck_reader.proofs.whole.sound.Goals as goal

pub returns-in-Err : goal.returns-in-Err
returns-in-Err c = λ told end said.
    told_at _ _ c.in-Err.cause _ (subst (λ r. Answers r (deck_cause (settled c.args.parts))) c.in-Err.is c.of.ensures.cause) c.requires.nodes_alone (c.refusal_in.ensures told end said)
