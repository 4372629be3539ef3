use Rattle.std.proofs.Common.{◌∙◌}
use Rattle.gv_scriptfaults.specs.Tables.{has}
use Rattle.gv_scriptfaults.proofs.Tables.{holds_more, was_or_is}
use Rattle.gv_scriptfaults.proofs.names.NameSet.add.Goals as goal

pub returns-clause-holds : goal.returns-clause-holds
returns-clause-holds c = λ names h. holds_more names c.args.name c.args.self.now (record { names = c.insert.new.self }) (λ n. c.in_ok-insert.ensures.updates.0 n) h

pub returns-clause-one : goal.returns-clause-one
returns-clause-one c = λ n. c.in_ok-insert.ensures.updates.0 n ∙ was_or_is c.args.name n (has c.args.self.now n)
