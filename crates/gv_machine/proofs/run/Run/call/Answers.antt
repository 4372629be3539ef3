use Rattle.std.proofs.Common.{◌≡◌, ◌-◌, Option, List, take, ap, ◌∙◌}
use Rattle.gv_world.specs.Store.{Store as World}
use Rattle.gv_lang.specs.Threads.{Thread}
use Rattle.gv_terms.specs.declared.value.Value.{Value}
use Rattle.gv_spec.specs.Entry.{Entry}
use Rattle.gv_spec.specs.Runs.{Role}
use Rattle.gv_runs.specs.Laws.{State}
use Rattle.gv_machine.specs.Seen.{state_of}
use Rattle.gv_machine.proofs.Placed.{taken_back}
use Rattle.gv_machine.proofs.run.Run.call.Goals as goal

same_state : (s : State) (w : World) (threads : List (Option (Role × Thread))) (history : List (Entry Value)) → w ≡ s.world → threads ≡ s.threads
    → history ≡ s.history → (let made : State = record s { world = w; threads = threads; history = history } in made) ≡ s
same_state s w threads history e f h =
    ap (λ v. record s { world = v; threads = threads; history = history }) e ∙ ap (λ ts. record s { world = s.world; threads = ts; history = history }) f
    ∙ ap (λ es. record s { world = s.world; threads = s.threads; history = es }) h

pub returns-in-Err : goal.returns-in-Err
returns-in-Err c =
    let old = state_of c.args.self.now in
    let store = c.forget_from.ensures
    ∙ ap (λ n. record c.called.new.store { objects = take (n - 1) c.called.new.store.objects }) c.fresh-first.ensures
    ∙ taken_back c.args.self.now.store c.called.new.store c.in_ok-found.ensures.grown in
    same_state old _ _ _ store c.in-Err.ensures.threads_kept c.in-Err.ensures.history_kept
