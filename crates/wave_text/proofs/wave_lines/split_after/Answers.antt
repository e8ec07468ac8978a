-- The lines rise, so those that have begun stand in front.
use Rattle.std.proofs.Common.{ℕ, List, ltb, leb, sym, ◌∙◌, rules}
use Rattle.std.proofs.lemmas.List.Sorted.{IsPartitionedBy-leb, IsPartitionPoint-from_clause}
use Rattle.semantics.specs.declared.line.Line.{Line}
use Rattle.wave_text.proofs.Cut.{front_kept, rest_kept, later_is}
use Rattle.wave_text.proofs.wave_lines.split_after.Goals as goal

pub returns-clause-begun : goal.returns-clause-begun
returns-clause-begun c =
    let lines : List Line = c.args.lines.now in
    let t : ℕ = c.args.tick in
    let point = IsPartitionPoint-from_clause (λ (l : Line). leb l.start t) _ _ c.partition_point.ensures.partitioned (IsPartitionedBy-leb (λ (l : Line). l.start) lines t c.requires) (λ a r q k. search rules) in
    c.split_at.ensures.front ∙ sym (front_kept (λ (l : Line). leb l.start t) lines c.partition_point.result point)

pub returns-clause-later : goal.returns-clause-later
returns-clause-later c =
    let lines : List Line = c.args.lines.now in
    let t : ℕ = c.args.tick in
    let point = IsPartitionPoint-from_clause (λ (l : Line). leb l.start t) _ _ c.partition_point.ensures.partitioned (IsPartitionedBy-leb (λ (l : Line). l.start) lines t c.requires) (λ a r q k. search rules) in
    c.split_at.ensures.back ∙ sym (rest_kept (λ (l : Line). leb l.start t) (λ (l : Line). ltb t l.start) lines c.partition_point.result (λ l. later_is t l.start) point)
