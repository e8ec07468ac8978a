-- The search finds the lines that begin at the tick or before, since they rise; the first does.
use Rattle.std.proofs.Common.{List, leb, arith, rules}
use Rattle.std.proofs.lemmas.List.Sorted.{IsPartitionedBy-leb, IsPartitionPoint-from_clause}
use Rattle.semantics.specs.declared.line.Line.{Line}
use Rattle.histories.specs.Track.{no_line}
use Rattle.histories.proofs.Places.{in_order, place_from}
use Rattle.version_book.proofs.numerators.place_at.Goals as goal

pub overflow_sub-result : goal.overflow_sub-result
overflow_sub-result c =
    let ls : List Line = c.args.lines.now in
    let point = IsPartitionPoint-from_clause (λ (l : Line). leb l.start c.args.tick) _ _ c.partition_point.ensures.partitioned (IsPartitionedBy-leb (λ (l : Line). l.start) ls c.args.tick (in_order ls c.requires.lines.rising)) (λ a r q k. search rules) in
    (place_from ls c.args.tick c.partition_point.result c.requires.lines c.partition_point.ensures.bound (λ i h. point.0 i no_line (omega arith) h) (λ i h k. point.1 i no_line h k)).0

pub returns : goal.returns
returns c =
    let ls : List Line = c.args.lines.now in
    let point = IsPartitionPoint-from_clause (λ (l : Line). leb l.start c.args.tick) _ _ c.partition_point.ensures.partitioned (IsPartitionedBy-leb (λ (l : Line). l.start) ls c.args.tick (in_order ls c.requires.lines.rising)) (λ a r q k. search rules) in
    (place_from ls c.args.tick c.partition_point.result c.requires.lines c.partition_point.ensures.bound (λ i h. point.0 i no_line (omega arith) h) (λ i h k. point.1 i no_line h k)).1
