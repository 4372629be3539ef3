use Rattle.std.proofs.Common.{◌≡◌, Option, subst}
use Rattle.std.specs.Prelude.{IfOk}
use Rattle.gv_lang.specs.Threads as plain
use Rattle.gv_spec.specs.Runs.{Role, living}
use Rattle.gv_machine.specs.Ending.{ComesTo}
use Rattle.gv_machine.specs.Seen.{slot_of, threads_of}
use Rattle.gv_machine.proofs.ThreadsLemmas.{slot_is}
use Rattle.gv_machine.proofs.threads.Threads.ending.Goals as goal

pub returns : goal.returns
returns c =
    let items = c.args.self.now.slots.items in
    let here : slot_of c.index.result.now ≡ living (threads_of c.args.self.now) c.args.number =
    slot_is c.args.self.now.dropped items c.args.number c.in-Some.at c.index.result.now c.in-Some.ensures.within c.in-Some.ensures.number (cc) in
    let P : Option (Role × plain.Thread) → Type 0 = λ o. IfOk c.next_ending.result (ComesTo o) in
    subst P here c.next_ending.ensures
