-- What a machine keeps of the slices in its state, and of its numbers.
use Rattle.std.specs.Prelude.{◌≡◌, ℕ, ◌<◌, Bool, true, ◌&&◌, List, Option, Some, None, length}
use Rattle.std.specs.List.{list_all}
use Rattle.gv_base.specs.declared.val.Val.{Val}
use Rattle.gv_world.specs.Store.{is_within_limit}
use Rattle.gv_lang.specs.Threads.{Thread}
use Rattle.gv_spec.specs.Runs.{Role}
use Rattle.gv_runs.specs.Laws.{State}
use Rattle.gv_steps.specs.Bounds.{are_bounded_values, is_bounded_store, is_bounded_thread}

abbrev pub is_bounded_slot : Option (Role × Thread) → Bool
is_bounded_slot None = true
is_bounded_slot (Some thread) = is_bounded_thread thread.1

abbrev pub is_bounded_receiver : Option (List Val) → Bool
is_bounded_receiver None = true
is_bounded_receiver (Some vs) = are_bounded_values vs

-- there are not too many live cells, and no slice of the store, the receiver or a thread has more items than room, or ends
-- past the greatest place
abbrev pub is_bounded : State → Bool
is_bounded s = is_within_limit s.world && is_bounded_store s.world && is_bounded_receiver s.receiver && list_all is_bounded_slot s.threads

-- each call has started a thread, and recovery the first one
abbrev pub IsNumbered : State → Type 0
IsNumbered s = s.calls < length s.threads
