use Rattle.std.proofs.Common.{ap}
use Rattle.gv_terms.specs.Store.{trees_at}
use Rattle.gv_have.proofs.Proofs.{no_false}
use Rattle.gv_have.proofs.having.falsum.Goals as goal

pub unreachable-requires : goal.unreachable-requires
unreachable-requires c = no_false (trees_at c.args.store.now c.new.result) (ap (trees_at c.args.store.now) c.new.ensures) (c.in-Err-WrongSort.ensures.cause c.in-Err-WrongSort.field-0-is)
