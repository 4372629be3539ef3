use Rattle.std.proofs.Common.{◌≡◌, List, Option, [], ◌∷◌, ◌++◌, None, Result, sym, ap, ◌∙◌, subst}
use Rattle.gv_base.specs.declared.answer.Answer.{Answer}
use Rattle.gv_lang.specs.Plain.{program_of}
use Rattle.gv_spec.specs.Runs.{Role, living, step_made}
use Rattle.gv_runs.specs.Machine.{machine_of}
use Rattle.gv_store.specs.declared.grow.Grow.{Grow}
use Rattle.gv_thread.specs.Frames.{thread_of}
use Rattle.gv_lang.specs.Threads as plain
use Rattle.gv_machine.specs.Going.{started_by}
use Rattle.gv_machine.specs.Outcomes.{Makes}
use Rattle.gv_machine.specs.Seen.{role_of, threads_of, spawned, state_of}
use Rattle.gv_machine.proofs.Bounding.{thread_bounded}
use Rattle.gv_machine.proofs.Going.{step_goes}
use Rattle.gv_machine.proofs.run.Run.go_on.Goals as goal

pub step-stepped-requires-clause-thread : goal.step-stepped-requires-clause-thread
step-stepped-requires-clause-thread c =
    thread_bounded (state_of c.args.self.now) c.args.number (threads_of c.make_room.new.self)
    (role_of c.in-Some.running.role, thread_of c.in-Some.running.thread) c.requires.bounded c.in_ok-make_room.ensures.ok c.in-Some.ensures.thread

pub returns : goal.returns
returns c = λ setting.
    let g = program_of c.args.program.now in
    let old = state_of c.args.self.now in
    let r = c.step-stepped.result in
    let threads = threads_of c.fill.new.self in
    let filled : (front : List (Option (Role × plain.Thread))) → threads_of c.put.new.self ≡ front ++ None ∷ [] → threads ≡ front ++ spawned (started_by r) =
    λ front e. c.fill.ensures front e ∙ ap (λ started. front ++ spawned started) c.parted-answer.ensures.started in
    let made = step_goes g setting old c.args.number c.args.extra (role_of c.in-Some.running.role) (thread_of c.in-Some.running.thread) (thread_of c.step-stepped.new.thread)
    c.step-stepped.new.store r (threads_of c.make_room.new.self) (threads_of c.take.new.self) (threads_of c.put.new.self) threads
    c.requires.goes c.in_ok-make_room.ensures.ok c.in-Some.ensures.thread c.in-Some.ensures.rest c.put.ensures.threads c.step-stepped.ensures.step filled in
    let P : Result (Answer (Unit {0})) Grow → Type 0 =
    λ answer. Makes (step_made (machine_of g setting) old c.args.number c.args.extra (living old.threads c.args.number)) old answer
    (record old { world = c.step-stepped.new.store; threads = threads }) in
    subst P (sym c.parted-answer.ensures.answer) made
