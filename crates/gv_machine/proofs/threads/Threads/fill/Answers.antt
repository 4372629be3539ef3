use Rattle.std.proofs.Common.{◌≡◌, ◌-◌, ◌++◌, Some, length, take, sym, ap, ◌∙◌, rules}
use Rattle.std.proofs.Math.ListN.{set}
use Rattle.gv_machine.specs.declared.running.Role.TheVariants as role
use Rattle.gv_machine.specs.Seen.{spawned}
use Rattle.gv_machine.proofs.ThreadsLemmas.{under_numbers, slot_filled, slot_dropped}
use Rattle.gv_machine.proofs.threads.Threads.fill.Goals as goal

pub returns-in-Some : goal.returns-in-Some
returns-in-Some c = λ front e.
    let count : c.len-last.result ≡ length c.args.self.now.slots.items = search rules in
    ap (λ n. under_numbers c.args.self.now.dropped (set c.args.self.now.slots.items (n - 1) (Some (record { role = role.Spawned; thread = c.in-Some.thread })))) count
    ∙ slot_filled c.args.self.now.dropped c.args.self.now.slots.items front (Some (record { role = role.Spawned; thread = c.in-Some.thread })) c.requires e
    ∙ ap (λ started. front ++ spawned started) (sym c.in-Some.is)

pub returns-in-None : goal.returns-in-None
returns-in-None c = λ front e.
    let count : c.len-last.result ≡ length c.args.self.now.slots.items = search rules in
    ap (under_numbers c.args.self.now.dropped) c.truncate.ensures.items
    ∙ ap (λ n. under_numbers c.args.self.now.dropped (take (n - 1) c.args.self.now.slots.items)) count
    ∙ slot_dropped c.args.self.now.dropped c.args.self.now.slots.items front c.requires e
    ∙ ap (λ started. front ++ spawned started) (sym c.in-None.is)
