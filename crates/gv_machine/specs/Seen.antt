-- A machine as it runs, as a state of the definitions.
use Rattle.std.specs.Prelude.{◌+◌, ◌<◌, ◌≤◌, ◌++◌, ℕ, List, [], ◌∷◌, length, Option, Some, None, map, option_map, replicate}
use Rattle.gv_lang.specs.Threads as plain
use Rattle.gv_spec.specs.History.{entry_of}
use Rattle.gv_spec.specs.Runs as runs
use Rattle.gv_thread.specs.declared.frame.Thread.{Thread}
use Rattle.gv_thread.specs.Frames.{thread_of}
use Rattle.gv_runs.specs.Laws.{State}
use Rattle.gv_machine.specs.declared.run.Run.{Run}
use Rattle.gv_machine.specs.declared.running.Role.{Role}
use Rattle.gv_machine.specs.declared.running.Role.TheVariants as role
use Rattle.gv_machine.specs.declared.running.Running.{Running}
use Rattle.gv_machine.specs.declared.threads.Threads.{Threads}

abbrev pub role_of : Role → runs.Role
role_of role.Recovers = runs.Recovers
role_of (role.Answers n) = runs.Answers n
role_of role.Spawned = runs.Spawned

abbrev pub slot_of : Option Running → Option (runs.Role × plain.Thread)
slot_of None = None
slot_of (Some r) = Some (role_of r.role, thread_of r.thread)

-- those that crashes dropped come first
abbrev pub threads_of : Threads → List (Option (runs.Role × plain.Thread))
threads_of t = replicate t.dropped None ++ map slot_of t.slots.items

-- the place of a number is a slot
abbrev pub IsPlace : Threads → ℕ → Type 0
IsPlace t number = (t.dropped < number) × (number ≤ t.dropped + length t.slots.items)

-- threads that another one started
abbrev pub spawned : Option Thread → List (Option (runs.Role × plain.Thread))
spawned None = []
spawned (Some thread) = Some (runs.Spawned, thread_of thread) ∷ []

abbrev pub state_of : Run → State
state_of r = record {
  world = r.store;
  receiver = option_map (λ vs. vs.items) r.receiver;
  threads = threads_of r.threads;
  calls = r.calls;
  history = map entry_of r.history.items;
  fault = r.fault;
}
