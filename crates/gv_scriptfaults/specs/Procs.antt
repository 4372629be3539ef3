-- What is known of procedures.
use Rattle.std.specs.Prelude.{◌≡◌, ◌^◌, ◌-◌, length, map, min, Option, Some, None}
use Rattle.gv_lang.specs.declared.program.Proc.{Proc}
use Rattle.gv_lang.specs.Plain.{body_of}
use Rattle.gv_lang.specs.Graph.{size}
use Rattle.gv_scriptnames.specs.Scopes.{param_names}
use Rattle.gv_scriptfaults.specs.declared.scoped.ProcFacts.{ProcFacts}
use Rattle.gv_scriptfaults.specs.Tables.{Holds}

pub record IsFacts (p : Proc) (f : ProcFacts) : Type 0 where
  pub points : f.points ≡ min (size (body_of p.body)) (2 ^ 64 - 1)
  pub locals : Holds (map (λ l. l.name) p.locals) f.locals
  pub params : Holds (param_names (Some p)) f.params
  pub results : f.results ≡ length p.results

-- facts of a procedure, or none where there is none
abbrev pub AreFacts : Option Proc → Option ProcFacts → Type 0
AreFacts None None = Unit {0}
AreFacts None (Some f) = ⊥
AreFacts (Some p) None = ⊥
AreFacts (Some p) (Some f) = IsFacts p f
