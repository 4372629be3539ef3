use Rattle.std.proofs.Common.{arith}
use Rattle.std.proofs.lemmas.Grind.{common_steps}
use Rattle.gv_small.proofs.CursorLemmas.{pass_space, newline_taken}
use Rattle.gv_small.proofs.cursor.Cursor.pass_blank.Goals as goal

pub returns-else-first-eq10-clause-kept : goal.returns-else-first-eq10-clause-kept
returns-else-first-eq10-clause-kept c =
    let self = c.args.self.now in
    pass_space self.go self.pending self.place c.moved-place.result self.rest.now _ c.requires c.if-first-eq10.false c.moved-place.ensures (grind (arith, common_steps))

pub returns-then-first-eq10-clause-semicolon : goal.returns-then-first-eq10-clause-semicolon
returns-then-first-eq10-clause-semicolon c =
    let self = c.args.self.now in
    (newline_taken self.go self.pending c.take.result c.take.new.self self.place c.moved-place.result self.rest.now _ c.requires c.if-first-eq10.true c.moved-place.ensures (grind (arith, common_steps)) c.take.ensures.value c.take.ensures.after).0

pub returns-then-first-eq10-clause-kept : goal.returns-then-first-eq10-clause-kept
returns-then-first-eq10-clause-kept c =
    let self = c.args.self.now in
    (newline_taken self.go self.pending c.take.result c.take.new.self self.place c.moved-place.result self.rest.now _ c.requires c.if-first-eq10.true c.moved-place.ensures (grind (arith, common_steps)) c.take.ensures.value c.take.ensures.after).1
