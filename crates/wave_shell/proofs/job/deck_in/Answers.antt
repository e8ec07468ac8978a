-- The deck, or its first fault.
use Rattle.std.proofs.Common.{◌≡◌, Err, ap, ⊎_elim}
use Rattle.deck_reader.specs.declared.why.DeckWhy.TheVariants.{Memory}
use Rattle.deck_reader.specs.Reading.{at, deck_in}
use Rattle.wave_shell.proofs.Judging.{deck_is, deck_refused}
use Rattle.wave_shell.proofs.job.deck_in.Goals as goal

pub returns-in-Ok-clause-judged : goal.returns-in-Ok-clause-judged
returns-in-Ok-clause-judged c = deck_is c.args.bytes.now c.in-Ok.deck c.requires c.in-Ok.ensures

-- a cause other than want of memory is that of the deck
pub returns-in_default : goal.returns-in_default
returns-in_default c = ⊎_elim
    (λ (wanting : c.in-Err.refusal ≡ at 0 Memory). absurd (c.in_default.not-Memory (ap (λ r. r.why) wanting)))
    (λ (fault : deck_in c.args.bytes.now ≡ Err c.in-Err.refusal). record
    { judged = deck_refused c.args.bytes.now c.in-Err.refusal c.requires fault; kind = tt })
    c.in-Err.ensures
