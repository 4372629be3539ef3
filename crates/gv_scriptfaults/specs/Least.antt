-- The least of the faults that were met: at most one is kept.
use Rattle.std.specs.Prelude.{ℕ, Bool, ◌&&◌, ◌||◌, nat_lt, nat_eq, if◌then◌else◌, [], ◌∷◌, Option, Some, None}
use Rattle.gv_base.specs.Codes.{code_number}
use Rattle.gv_base.specs.declared.answers.Code.{Code}
use Rattle.gv_typing.specs.declared.term_fault.Fault.{Fault}
use Rattle.gv_scriptnames.specs.Found.{Found}

-- it stands before the fault, or at its place and has a lower number
abbrev pub is_before : ℕ → Code → Fault → Bool
is_before at code f = nat_lt at f.start || (nat_eq at f.start && nat_lt (code_number code) (code_number f.code))

-- what is kept after one more was met
abbrev pub with_one : Option Fault → ℕ → Code → Option Fault
with_one None at code = Some (record { start = at; code = code })
with_one (Some f) at code = Some (if is_before at code f then record { start = at; code = code } else f)

-- and after several more
abbrev pub after : Option Fault → Found → Option Fault
after first [] = first
after first (f ∷ fs) = after (with_one first f.0 f.1) fs
