use Rattle.std.proofs.Common.{◌≡◌, ◌-◌, true, false, Some, take, refl, sym, ap, subst, ◌∙◌, rules}
use Rattle.std.specs.Prelude.{slice_get, option_map}
use Rattle.std.proofs.lemmas.Option.{slice_get-map}
use Rattle.gv_lang.specs.Plain.{program_of, proc_of}
use Rattle.gv_lang.specs.Threads as plain
use Rattle.gv_runs.specs.Machine.{setting_of, procedure}
use Rattle.gv_machine.specs.Placing.{are_arguments, IsGrown, PlacesAll}
use Rattle.gv_machine.proofs.Placed.{no_arguments, starts_refused, starts_all, grown_none, grown_arguments, taken_back}
use Rattle.gv_machine.proofs.calls.called.Goals as goal

pub returns-then-not-are_arguments-clause-thread : goal.returns-then-not-are_arguments-clause-thread
returns-then-not-are_arguments-clause-thread c =
    let g = program_of c.args.program.now in
    let s = setting_of c.args.spec.now in
    let named : procedure g s c.args.op ≡ Some c.in-Some.place = sym c.in-Some.ensures in
    let invalid : are_arguments c.args.args.now ≡ false = first_of (cc, search rules) in
    (no_arguments g s c.args.receiver.now c.args.op c.args.args.now c.args.store.now c.in-Some.place named invalid, refl)

pub returns-in-Err-clause-thread : goal.returns-in-Err-clause-thread
returns-in-Err-clause-thread c =
    let g = program_of c.args.program.now in
    let s = setting_of c.args.spec.now in
    let named : procedure g s c.args.op ≡ Some c.in-Some.place = sym c.in-Some.ensures in
    let valid : are_arguments c.args.args.now ≡ true = first_of (cc, search rules) in
    let there : slice_get g.procs c.in-Some.place ≡ Some (proc_of c.in-Some-get.proc.now) =
    slice_get-map proc_of c.args.program.now.procs c.in-Some.place ∙ ap (option_map proc_of) (sym c.in-Some-get.ensures.value) in
    starts_refused g s c.args.receiver.now c.args.op c.args.args.now c.args.store.now c.in-Some.place (proc_of c.in-Some-get.proc.now) named there valid
    c.in-Err.grow c.place_all.new.store (subst (λ r. PlacesAll c.args.store.now c.args.args.now c.args.receiver.now r c.place_all.new.store) c.in-Err.is c.place_all.ensures)

pub returns-in-Ok-new-clause-thread : goal.returns-in-Ok-new-clause-thread
returns-in-Ok-new-clause-thread c =
    let g = program_of c.args.program.now in
    let s = setting_of c.args.spec.now in
    let named : procedure g s c.args.op ≡ Some c.in-Some.place = sym c.in-Some.ensures in
    let valid : are_arguments c.args.args.now ≡ true = first_of (cc, search rules) in
    let there : slice_get g.procs c.in-Some.place ≡ Some (proc_of c.in-Some-get.proc.now) =
    slice_get-map proc_of c.args.program.now.procs c.in-Some.place ∙ ap (option_map proc_of) (sym c.in-Some-get.ensures.value) in
    let placed = subst (λ r. PlacesAll c.args.store.now c.args.args.now c.args.receiver.now r c.place_all.new.store) c.in-Ok.is c.place_all.ensures in
    starts_all g s c.args.receiver.now c.args.op c.args.args.now c.args.store.now c.in-Some.place (proc_of c.in-Some-get.proc.now) named there valid
    c.place_all.new.store c.in-Ok.values c.of.result placed (c.of.ensures ∙ ap plain.thread_of c.in-Ok-new.ensures)

pub returns-in-Ok-new-clause-grown : goal.returns-in-Ok-new-clause-grown
returns-in-Ok-new-clause-grown c =
    let placed = subst (λ r. PlacesAll c.args.store.now c.args.args.now c.args.receiver.now r c.place_all.new.store) c.in-Ok.is c.place_all.ensures in
    subst (IsGrown c.args.store.now) (sym placed.1) (grown_arguments c.args.store.now c.args.store.now c.args.args.now (grown_none c.args.store.now))

pub returns-in-Err-new-clause-thread : goal.returns-in-Err-new-clause-thread
returns-in-Err-new-clause-thread c =
    let placed = subst (λ r. PlacesAll c.args.store.now c.args.args.now c.args.receiver.now r c.place_all.new.store) c.in-Ok.is c.place_all.ensures in
    let grown = subst (IsGrown c.args.store.now) (sym placed.1) (grown_arguments c.args.store.now c.args.store.now c.args.args.now (grown_none c.args.store.now)) in
    c.forget_from.ensures
    ∙ ap (λ n. record c.place_all.new.store { objects = take (n - 1) c.place_all.new.store.objects }) c.fresh-first.ensures
    ∙ taken_back c.args.store.now c.place_all.new.store grown
