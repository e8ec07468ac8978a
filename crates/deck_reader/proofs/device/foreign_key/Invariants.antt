use Rattle.std.proofs.Common.{◌≡◌, length}
use Rattle.deck_reader.specs.Elements.{foreign_key}
use Rattle.deck_reader.proofs.device.foreign_key.Given as goal

abbrev pub invariant-loop-key : goal.invariant-loop-key
invariant-loop-key l = foreign_key l.initial.keys ≡ foreign_key l.keys

abbrev pub decreases-loop-key : goal.decreases-loop-key
decreases-loop-key l = length l.keys
