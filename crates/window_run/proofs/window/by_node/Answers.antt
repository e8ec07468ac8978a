-- What is sorted by a number rises by it.
use Rattle.std.proofs.Common.{rules}
use Rattle.std.proofs.lemmas.List.Sorted.{IsNonDecreasingBy-from_sort_by_key}
use Rattle.window_run.proofs.window.by_node.Goals as goal

pub returns-clause-rising : goal.returns-clause-rising
returns-clause-rising c = IsNonDecreasingBy-from_sort_by_key (λ p. p.node) _ c.sort_unstable_by_key.ensures.sorted (λ a r q k. search rules)
