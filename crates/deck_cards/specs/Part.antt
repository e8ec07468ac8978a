-- What a part is of the definitions.
use Rattle.semantics.specs.Part as part
use Rattle.deck_cards.specs.declared.part.Part.{Part}
use Rattle.deck_cards.specs.declared.part.Part.TheVariants.{Level, Listed}

abbrev pub part_of : Part → part.Part
part_of (Level channel vto kp) = part.Level channel vto kp
part_of (Listed table) = part.Listed table.gate table.drain table.amps
