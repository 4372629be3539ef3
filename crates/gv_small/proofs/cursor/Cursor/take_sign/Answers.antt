use Rattle.std.proofs.Common.{arith}
use Rattle.std.proofs.lemmas.Grind.{common_steps}
use Rattle.gv_small.proofs.CursorLemmas.{sign_taken}
use Rattle.gv_small.proofs.cursor.Cursor.take_sign.Goals as goal

pub returns-clause-taken : goal.returns-clause-taken
returns-clause-taken c =
    let self = c.args.self.now in
    sign_taken self.go self.pending c.semicolon_at-self.result self.place c.moved-end.result self.rest.now _ c.requires c.moved-end.ensures (grind (arith, common_steps)) (grind (arith, common_steps))
