-- The first fault of an outline.
use Rattle.std.specs.Prelude.{ℕ, List, Option, MatchOption}
use Rattle.gv_lang.specs.declared.program.Program.{Program}
use Rattle.gv_atomic.specs.declared.spec.Spec.{Spec}
use Rattle.gv_typing.specs.declared.term_fault.Fault.{Fault}
use Rattle.gv_scriptnames.specs.declared.outline.Outline.{Outline}
use Rattle.gv_scriptnames.specs.Laws.{IsTypedOutline, IsRefusedOutline}

-- there is none, and the rules hold everywhere; or it is that at which the outline is refused
abbrev pub IsFirstFault : List ℕ → Spec → Program → Outline → Option Fault → Type 0
IsFirstFault text spec program s first = MatchOption first (IsTypedOutline text spec program s) (λ f. IsRefusedOutline text spec program s f.start f.code)
