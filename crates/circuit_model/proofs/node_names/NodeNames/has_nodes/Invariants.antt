-- The nodes so far are among the names.
use Rattle.std.proofs.Common.{◌≡◌, ◌<◌, ℕ, true, [], get_or}
use Rattle.std.specs.List.{list_any}
use Rattle.std.specs.Str.{bytes_eq}
use Rattle.semantics.specs.Deck.{nodes}
use Rattle.circuit_model.proofs.node_names.NodeNames.has_nodes.Given as goal

abbrev pub invariant-loop-i : goal.invariant-loop-i
invariant-loop-i l = (j : ℕ) → j < l.i → list_any (bytes_eq (get_or (nodes l.deck) j [])) l.self ≡ true
