-- The names of a circuit that is the first of its names are the nodes of its deck.
use Rattle.std.proofs.Common.{◌≡◌, ◌<◌, ◌+◌, ◌^◌, ℕ, List, [], length, refl, ap, ◌∙◌, arith}
use Rattle.semantics.proofs.Limits.{limits}
use Rattle.board_core.proofs.opened.version_of.Goals as goal

pub of-requires : goal.of-requires
of-requires g c =
    let none : length c.new-names.result ≡ 0 = ap (λ (ns : List (List ℕ)). length ns) c.new-names.ensures in
    record { room = omega (arith, none, (limits c.args.deck c.known.ensures).few_nodes) }
