use Rattle.std.proofs.Common.{◌∙◌, ap, sym}
use Rattle.deck_reader.specs.Numbers.{numbers}
use Rattle.deck_reader.proofs.BehindLemmas.{behind, behind-start}
use Rattle.deck_reader.proofs.number.numbers.Goals as goal

pub loop-word-init : goal.loop-word-init
loop-word-init c = behind-start (numbers c.args.unit c.args.words.now) ∙ ap (λ found. behind found (numbers c.args.unit c.args.words.now)) (sym c.in_ok-found.ensures.items)
