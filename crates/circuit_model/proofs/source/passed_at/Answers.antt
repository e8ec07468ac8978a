-- The search finds the points at or before the tick, since their ticks rise.
use Rattle.std.proofs.Common.{ℕ, List, leb, arith, rules, ℤ}
use Rattle.std.proofs.lemmas.Bool.{leb-true, leb-false}
use Rattle.std.proofs.lemmas.List.Sorted.{IsPartitionedBy-leb, IsPartitionPoint-from_clause}
use Rattle.circuit_model.proofs.Sources.{in_order, none}
use Rattle.circuit_model.proofs.source.passed_at.Goals as goal

pub returns : goal.returns
returns c =
    let ps : List (ℕ × ℤ) = c.args.points.now in
    let t : ℕ = c.args.tick in
    let point = IsPartitionPoint-from_clause (λ (p : ℕ × ℤ). leb p.0 t) _ _ c.partition_point.ensures.partitioned (IsPartitionedBy-leb (λ (p : ℕ × ℤ). p.0) ps t (in_order ps c.requires)) (λ a r q k. search rules) in
    record {
      bound = c.partition_point.ensures.bound;
      passed = λ i below. leb-true _ _ (point.0 i none (omega arith) below);
      ahead = λ i above inside. leb-false _ _ (point.1 i none above inside);
    }
