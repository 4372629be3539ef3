use Rattle.std.proofs.Common.{arith}
use Rattle.std.proofs.lemmas.Grind.{common_steps}
use Rattle.gv_small.proofs.CursorLemmas.{arrow_taken}
use Rattle.gv_small.proofs.cursor.Cursor.take_arrow.Goals as goal

pub returns-clause-taken : goal.returns-clause-taken
returns-clause-taken c =
    let self = c.args.self.now in
    arrow_taken self.go self.pending self.place c.moved-middle.result c.moved-self.result self.rest.now _ c.requires c.moved-middle.ensures c.moved-self.ensures (grind (arith, common_steps))
