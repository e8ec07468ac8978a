-- The waves of the nodes so far stand behind the version.
use Rattle.std.proofs.Common.{◌≡◌, ◌++◌, take}
use Rattle.std.specs.Prelude.{string_bytes}
use Rattle.std.specs.List.{flat_map}
use Rattle.semantics.specs.Deck.{nodes}
use Rattle.semantics.specs.Text.{version_text, wave_text}
use Rattle.semantics.specs.Wave.{wave}
use Rattle.wave_shell.proofs.text.record_output.Given as goal

abbrev pub invariant-loop-node : goal.invariant-loop-node
invariant-loop-node l = string_bytes l.text ≡ version_text 0 ++ flat_map (λ n. wave_text n (wave l.deck n)) (take l.node (nodes l.deck))
