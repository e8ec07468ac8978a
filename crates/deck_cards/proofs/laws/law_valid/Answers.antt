use Rattle.deck_cards.proofs.Accepted.{stays_valid}
use Rattle.deck_cards.proofs.laws.law_valid.Goals as goal

pub returns : goal.returns
returns c = stays_valid
