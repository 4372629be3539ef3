use Rattle.std.proofs.Common.{rules, ℕ, leb}
use Rattle.std.proofs.lemmas.List.Sorted.{IsPartitionedBy-leb, IsPartitionPoint-from_clause}
use Rattle.gv_gotokens.proofs.starts.count_until.Goals as goal

pub returns : goal.returns
returns c = IsPartitionPoint-from_clause (λ (s : ℕ). leb s c.args.at) c.args.starts.now c.partition_point.result c.partition_point.ensures.partitioned
    (IsPartitionedBy-leb (λ (s : ℕ). s) c.args.starts.now c.args.at c.requires) (λ a r f' called. search rules)
