-- A machine as the definitions see it.
use Rattle.std.specs.Prelude.{List}
use Rattle.gv_base.specs.declared.answer.Answer.{Answer}
use Rattle.gv_base.specs.declared.val.Val.{Val}
use Rattle.gv_world.specs.Store.{Store as World}
use Rattle.gv_lang.specs.declared.program.Program.{Program}
use Rattle.gv_lang.specs.Plain.{program_of}
use Rattle.gv_lang.specs.Threads.{Thread}
use Rattle.gv_terms.specs.declared.value.Value.{Value}
use Rattle.gv_atomic.specs.declared.spec.Spec.{Spec}
use Rattle.gv_spec.specs.declared.event.Event.{Event}
use Rattle.gv_spec.specs.Atomic.{atomic_of}
use Rattle.gv_spec.specs.History.{event_of}
use Rattle.gv_spec.specs.Machine as defined
use Rattle.gv_spec.specs.Runs.{outcome_of}
use Rattle.gv_runs.specs.Laws.{State}
use Rattle.gv_runs.specs.Machine.{machine_of, setting_of}
use Rattle.gv_machine.specs.declared.machine.Machine.{Machine}
use Rattle.gv_machine.specs.Seen.{state_of}

abbrev pub program_in : Machine → Program
program_in m = m.program.now

abbrev pub spec_in : Machine → Spec
spec_in m = m.spec.now

abbrev pub state_in : Machine → State
state_in m = state_of m.run

-- the machine of a program in the setting of a specification
abbrev pub of_package : Program → Spec → defined.Machine World Thread (List Val) Value
of_package g s = machine_of (program_of g) (setting_of s)

abbrev pub machine_in : Machine → defined.Machine World Thread (List Val) Value
machine_in m = of_package (program_in m) (spec_in m)

-- what comes of an event in a state, of a program and a specification
abbrev pub wanted_of : Program → Spec → State → Event → Answer State
wanted_of g s state e = outcome_of (of_package g s) (atomic_of s).allows state (event_of e)

-- what comes of an event
abbrev pub wanted : Machine → Event → Answer State
wanted m e = wanted_of (program_in m) (spec_in m) (state_in m) e
