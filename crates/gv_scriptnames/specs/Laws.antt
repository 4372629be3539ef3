-- When a script is typed, and what is so of every script.
use Rattle.std.specs.Prelude.{◌≡◌, ℕ, List}
use Rattle.gv_base.specs.Codes.{code_number}
use Rattle.gv_base.specs.declared.answers.Code.{Code}
use Rattle.gv_text.specs.Answers.{IsFirst}
use Rattle.gv_lang.specs.declared.program.Program.{Program}
use Rattle.gv_atomic.specs.declared.spec.Spec.{Spec}
use Rattle.gv_scriptsyntax.specs.declared.tree.Script.{Script}
use Rattle.gv_scriptnames.specs.declared.outline.Outline.{Outline}
use Rattle.gv_scriptnames.specs.Outlines.{outline_of}
use Rattle.gv_scriptnames.specs.Faults.{HasOutlineFault}
use Rattle.gv_scriptnames.specs.Found.{IsIn, found}

-- the rules hold everywhere in the outline
abbrev pub IsTypedOutline : List ℕ → Spec → Program → Outline → Type 0
IsTypedOutline text spec program s = (at : ℕ) (code : Code) → HasOutlineFault text spec program s at code → ⊥

-- it is refused at the first of its faults
abbrev pub IsRefusedOutline : List ℕ → Spec → Program → Outline → ℕ → Code → Type 0
IsRefusedOutline text spec program s = IsFirst code_number (HasOutlineFault text spec program s)

-- the same of scripts
abbrev pub IsTyped : List ℕ → Spec → Program → Script → Type 0
IsTyped text spec program s = IsTypedOutline text spec program (outline_of s)

abbrev pub IsRefusedAt : List ℕ → Spec → Program → Script → ℕ → Code → Type 0
IsRefusedAt text spec program s = IsRefusedOutline text spec program (outline_of s)

-- A script is refused at one place by one code, and then it isn't typed.
pub record IsRefusedOnce (text : List ℕ) (spec : Spec) (program : Program) (s : Script) : Type 0 where
  pub one_refusal : (m n : ℕ) (c d : Code) → IsRefusedAt text spec program s m c → IsRefusedAt text spec program s n d → (m ≡ n) × (c ≡ d)
  pub not_both : (at : ℕ) (code : Code) → IsTyped text spec program s → IsRefusedAt text spec program s at code → ⊥

abbrev pub AreRefusedOnce : Type 0
AreRefusedOnce = (text : List ℕ) (spec : Spec) (program : Program) (s : Script) → IsRefusedOnce text spec program s

-- The rules as relations and the list that can be computed say the same of every outline.
pub record IsFoundRight (text : List ℕ) (spec : Spec) (program : Program) (s : Outline) : Type 0 where
  pub all : (at : ℕ) (code : Code) → HasOutlineFault text spec program s at code → IsIn (found text spec program s) at code
  pub only : (at : ℕ) (code : Code) → IsIn (found text spec program s) at code → HasOutlineFault text spec program s at code

abbrev pub AreFound : Type 0
AreFound = (text : List ℕ) (spec : Spec) (program : Program) (s : Outline) → IsFoundRight text spec program s
