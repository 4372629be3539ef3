use Rattle.std.proofs.Math.Path.{fun_ext}
use Rattle.gv_history.proofs.TableLemmas.{booted}
use Rattle.gv_history.proofs.table.Table.boot.Goals as goal

pub returns-clause-standings : goal.returns-clause-standings
returns-clause-standings c = let t = c.args.self.now in fun_ext (λ n. booted t.calls t.boots t.seen n)
