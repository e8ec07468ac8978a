use Rattle.std.proofs.Common.{◌≡◌, length}
use Rattle.deck_reader.specs.Elements.{with_keys, default_size}
use Rattle.deck_reader.proofs.device.size_of.Given as goal

abbrev pub invariant-loop-key : goal.invariant-loop-key
invariant-loop-key l = with_keys default_size l.initial.keys ≡ with_keys l.size l.keys

abbrev pub decreases-loop-key : goal.decreases-loop-key
decreases-loop-key l = length l.keys
