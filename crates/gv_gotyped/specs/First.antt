-- The fault that is told of what is found.
use Rattle.std.specs.Prelude.{◌≡◌, ℕ, if◌then◌else◌, List, [], ◌∷◌, Option, Some, None, option_map}
use Rattle.gv_base.specs.declared.answers.Code.{Code}
use Rattle.gv_gotypes.specs.Types.{Finding, Fault as FaultAt, Outer, Assigned}
use Rattle.gv_gotypes.specs.Places.{Outcome}
use Rattle.gv_gotypes.specs.Told.{is_told_before, told}
use Rattle.gv_gotyped.specs.declared.fault.Fault.{Fault}
use Rattle.gv_gotyped.specs.declared.outcomes.Made.{Made}

abbrev pub fault_of : ℕ × Code → Fault
fault_of p = record { start = p.0; code = p.1 }

-- the one that is told before all others, where there is one
abbrev pub first_of : List Finding → Option Fault
first_of fs = option_map fault_of (told fs)

-- of two the one that is told
abbrev pub earlier : Fault → Fault → Fault
earlier f g = if is_told_before f.start f.code g.start g.code then f else g

abbrev pub earliest : Option Fault → Option Fault → Option Fault
earliest None g = g
earliest (Some f) None = Some f
earliest (Some f) (Some g) = Some (earlier f g)

-- all that is found are faults
abbrev pub AreFaults : List Finding → Type 0
AreFaults [] = Unit {0}
AreFaults (FaultAt at code ∷ fs) = AreFaults fs
AreFaults (Outer at declared ∷ fs) = ⊥
AreFaults (Assigned declared ∷ fs) = ⊥

-- what is made of an operand, with the fault of it that is told
pub record IsMade (made : Made) (outcome : Outcome) : Type 0 where
  pub class : made.class ≡ outcome.class
  pub first : made.first ≡ first_of outcome.findings
