use Rattle.deck_cards.proofs.AtNode.{set_capacitance}
use Rattle.deck_cards.proofs.Touched.{set_ohms, set_wave, set_part, set_initial}
use Rattle.deck_cards.proofs.laws.law_touched.Goals as goal

pub returns : goal.returns
returns c = record { ohms = set_ohms; farads = set_capacitance; wave = set_wave; part = set_part; initial = set_initial }
