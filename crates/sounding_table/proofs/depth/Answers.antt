-- `sounding_table::depth` meets its contract. Assumes nothing.
use Rattle.std.proofs.Common.{rules, leb, w32, ◌*◌}
use Rattle.std.proofs.lemmas.List.Sorted.{IsPartitionPoint-from_clause}
use mir.Facts.{to_z-of_z}
use Rattle.sounding_table.specs.DepthLaws.{fine_first, some_fine, last_fine}
use Rattle.sounding_table.proofs.depth.Goals as goal

pub overflow_sub-result : goal.overflow_sub-result
overflow_sub-result c =
    let mass = rw (to_z-of_z {w = w32} c.ranges.answer) at c.scaled_answer-mass.ensures in
    let first = fine_first c.requires c.scaled_answer-mass.result mass in
    let point = IsPartitionPoint-from_clause (λ entry. leb (entry * c.args.scale) c.scaled_answer-mass.result) _ _ c.partition_point.ensures.partitioned first (λ a r q k. search rules) in
    some_fine c.requires c.scaled_answer-mass.result mass c.partition_point.ensures.bound point

pub returns : goal.returns
returns c =
    let mass = rw (to_z-of_z {w = w32} c.ranges.answer) at c.scaled_answer-mass.ensures in
    let first = fine_first c.requires c.scaled_answer-mass.result mass in
    let point = IsPartitionPoint-from_clause (λ entry. leb (entry * c.args.scale) c.scaled_answer-mass.result) _ _ c.partition_point.ensures.partitioned first (λ a r q k. search rules) in
    last_fine c.requires c.scaled_answer-mass.result mass c.partition_point.ensures.bound point
