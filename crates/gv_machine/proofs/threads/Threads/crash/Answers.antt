use Rattle.std.proofs.Common.{◌≡◌, ◌+◌, Option, [], ◌∷◌, ◌++◌, Some, None, length, replicate, ap, ◌∙◌, rules}
use Rattle.gv_lang.specs.Threads as plain
use Rattle.gv_spec.specs.Runs.{Role, Recovers}
use Rattle.gv_thread.specs.Frames.{thread_of}
use Rattle.gv_machine.specs.declared.running.Role.TheVariants as role
use Rattle.gv_machine.proofs.ThreadsLemmas.{under_numbers, crash_slots}
use Rattle.gv_machine.proofs.threads.Threads.crash.Goals as goal

pub returns-clause-ok : goal.returns-clause-ok
returns-clause-ok c =
    let last : Option (Role × plain.Thread) = Some (Recovers, thread_of c.args.thread) in
    let items : c.push.new.self.items ≡ Some (record { role = role.Recovers; thread = c.args.thread }) ∷ [] = search rules in
    let count : c.len.result ≡ length c.args.self.now.slots.items = search rules in
    ap (under_numbers (c.args.self.now.dropped + c.len.result)) items
    ∙ ap (λ n. replicate (c.args.self.now.dropped + n) None ++ last ∷ []) count
    ∙ crash_slots c.args.self.now.dropped c.args.self.now.slots.items last
