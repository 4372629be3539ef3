use Rattle.std.proofs.Common.{◌≡◌, ◌-◌, All, ◌∷◌, length, map, sum, take, drop, sym, ap, subst, ◌∙◌, arith}
use Rattle.std.proofs.lemmas.List.Elements.{All-tail}
use Rattle.gv_spec.specs.History.{IsEventOf, event_of}
use Rattle.gv_spec.specs.Runs.{first_state}
use Rattle.gv_machine.specs.Machines.{of_package, program_in, spec_in, state_in}
use Rattle.gv_played.specs.declared.line.Played.TheVariants as played
use Rattle.gv_played.proofs.Lines.{IsPlayed, split_first, counts_left, plays_here, played_none, played_more, ran_undefined, too_many}
use Rattle.gv_played.proofs.replaying.replay.Goals as goal

pub loop-rest-init : goal.loop-rest-init
loop-rest-init c =
    let m = c.in_ok-machine.machine in
    let g = c.args.program.now in
    let s = c.args.spec.now in
    let lines = c.args.s.now.events in
    let same : c.as_slice-rest.result.now ≡ lines = c.as_slice-rest.ensures in
    let made = c.in_ok-machine.ensures in
    let first : state_in m ≡ first_state (of_package g s) =
    made.state ∙ ap (λ p. first_state (of_package p (spec_in m))) made.program ∙ ap (λ q. first_state (of_package g q)) made.spec in
    record {
      played = subst (λ xs. IsPlayed g s lines xs 0 (state_in m)) (sym same) (played_none g s lines (state_in m) first);
      program = made.program;
      spec = made.spec;
      events = subst (λ xs. All (λ line. IsEventOf s line.event) xs) (sym same) c.requires.of_spec;
      counts = omega (arith, c.requires.few, ap (λ xs. sum (map (λ line. line.count) xs)) same);
      threads = omega (arith, ap (λ z. length z.threads) first);
    }

pub loop-rest-preserved : goal.loop-rest-preserved
loop-rest-preserved c =
    let g = c.args.program.now in
    let s = c.args.spec.now in
    let lines = c.args.s.now.events in
    let held = c.loop-rest.invariant in
    let now = state_in c.loop-rest.machine in
    let next = state_in c.play.new.machine in
    let left = c.loop-rest.rest.now in
    let l = c.line-item.result in
    let tail = take (length left - 1) (drop 1 left) in
    let is : left ≡ l ∷ tail = split_first left l c.in-len1-up.len_at_least c.line-item.is in
    let before = c.loop-rest.before in
    let so_far = subst (λ xs. IsPlayed g s lines xs before now) is held.played in
    let comes = plays_here g (program_in c.loop-rest.machine) s (spec_in c.loop-rest.machine) now (event_of l.event) l.count played.Through next
    held.program held.spec c.in-Through.ensures.events in
    record {
      played = played_more g s lines tail l before now next so_far comes;
      program = c.play.ensures.program ∙ held.program;
      spec = c.play.ensures.spec ∙ held.spec;
      events = All-tail (λ line. IsEventOf s line.event) l tail (subst (λ xs. All (λ line. IsEventOf s line.event) xs) is held.events);
      counts = counts_left left tail l before is held.counts;
      threads = omega (arith, held.threads, c.play.ensures.threads);
    }

pub returns-in-Undefined-clause-ran : goal.returns-in-Undefined-clause-ran
returns-in-Undefined-clause-ran c =
    let g = c.args.program.now in
    let s = c.args.spec.now in
    let lines = c.args.s.now.events in
    let held = c.loop-rest.invariant in
    let now = state_in c.loop-rest.machine in
    let next = state_in c.play.new.machine in
    let left = c.loop-rest.rest.now in
    let l = c.line-item.result in
    let tail = take (length left - 1) (drop 1 left) in
    let is : left ≡ l ∷ tail = split_first left l c.in-len1-up.len_at_least c.line-item.is in
    let before = c.loop-rest.before in
    let so_far = subst (λ xs. IsPlayed g s lines xs before now) is held.played in
    let found = c.in-Undefined in
    let comes = plays_here g (program_in c.loop-rest.machine) s (spec_in c.loop-rest.machine) now (event_of l.event) l.count
    (played.Undefined found.number found.reason) next held.program held.spec found.ensures.events in
    ran_undefined g s lines tail l before now next so_far c.into_history.result found.number found.reason comes c.into_history.ensures

pub returns-in-TooMany-clause-fault : goal.returns-in-TooMany-clause-fault
returns-in-TooMany-clause-fault c =
    let g = c.args.program.now in
    let s = c.args.spec.now in
    let lines = c.args.s.now.events in
    let held = c.loop-rest.invariant in
    let now = state_in c.loop-rest.machine in
    let next = state_in c.play.new.machine in
    let left = c.loop-rest.rest.now in
    let l = c.line-item.result in
    let tail = take (length left - 1) (drop 1 left) in
    let is : left ≡ l ∷ tail = split_first left l c.in-len1-up.len_at_least c.line-item.is in
    let before = c.loop-rest.before in
    let so_far = subst (λ xs. IsPlayed g s lines xs before now) is held.played in
    let found = c.in-TooMany in
    let comes = plays_here g (program_in c.loop-rest.machine) s (spec_in c.loop-rest.machine) now (event_of l.event) l.count
    (played.TooMany found.field-0) next held.program held.spec found.ensures.events in
    too_many g s lines tail l before now next so_far found.field-0 comes
