use Rattle.std.proofs.Common.{arith}
use Rattle.gv_linear.proofs.ColumnLemmas.{row_in_order}
use Rattle.gv_linear.proofs.columns.next_column.Goals as goal

pub unknown_from-requires : goal.unknown_from-requires
unknown_from-requires c = row_in_order c.args.unknowns c.args.rows.now c.loop-row.row-index c.row-item.result c.requires.in_order (omega arith) c.row-item.is
