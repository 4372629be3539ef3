use Rattle.std.proofs.Common.{rules, ltb}
use Rattle.std.proofs.lemmas.List.Sorted.{IsPartitionedBy-ltb, IsPartitionPoint-from_clause}
use Rattle.gv_gosyntax.specs.declared.lexeme.Lexeme.{Lexeme}
use Rattle.gv_gotokens.proofs.starts.count_before.Goals as goal

pub returns-clause-parted : goal.returns-clause-parted
returns-clause-parted c = IsPartitionPoint-from_clause (λ (t : Lexeme). ltb t.start c.args.at) c.args.tokens.now c.partition_point.result c.partition_point.ensures.partitioned
    (IsPartitionedBy-ltb (λ (t : Lexeme). t.start) c.args.tokens.now c.args.at c.requires) (λ a r f' called. search rules)
