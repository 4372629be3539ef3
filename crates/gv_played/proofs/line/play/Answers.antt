use Rattle.std.proofs.Common.{subst₂, ◌∙◌, arith}
use Rattle.gv_spec.specs.History.{event_of}
use Rattle.gv_machine.specs.Machines.{program_in, spec_in, state_in}
use Rattle.gv_played.specs.Playing.{Goes}
use Rattle.gv_played.proofs.Throughs.{through_more}
use Rattle.gv_played.proofs.line.play.Goals as goal

pub loop-done-preserved : goal.loop-done-preserved
loop-done-preserved c =
    let g = program_in c.args.machine.now in
    let s = spec_in c.args.machine.now in
    let e = event_of c.args.e.now in
    let now = state_in c.loop-done.machine in
    let next = state_in c.try_once.new.machine in
    let held = c.loop-done.invariant in
    let goes : Goes g s now e next =
    subst₂ (λ p q. Goes p q now e next) held.program held.spec c.in-Goes.ensures.event in
    record {
      through = through_more g s (state_in c.args.machine.now) e c.loop-done.done now next held.through goes;
      within = omega (arith, c.loop-done-test.true);
      threads = omega (arith, held.threads, c.try_once.ensures.threads);
      program = c.try_once.ensures.program ∙ held.program;
      spec = c.try_once.ensures.spec ∙ held.spec;
    }
