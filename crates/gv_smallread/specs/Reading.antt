-- Which texts are scripts of the small form for a specification and a program, and where the others are refused.
use Rattle.std.specs.Prelude.{◌≡◌, ℕ, List}
use Rattle.gv_base.specs.Places.{place_at}
use Rattle.gv_base.specs.declared.answers.Code.{Code}
use Rattle.gv_base.specs.declared.answers.Code.TheVariants.{NotInProfile}
use Rattle.gv_base.specs.declared.answers.Place.{Place}
use Rattle.gv_base.specs.declared.answers.Refusal.{Refusal}
use Rattle.gv_base.specs.declared.answers.Refusal.TheVariants as refusal
use Rattle.gv_small.specs.Tokens.{start}
use Rattle.gv_lang.specs.declared.program.Program.{Program}
use Rattle.gv_atomic.specs.declared.spec.Spec.{Spec}
use Rattle.gv_scriptsyntax.specs.declared.tree.Script.{Script as Tree}
use Rattle.gv_scripts.specs.Reading as whole
use Rattle.gv_smallscript.specs.SmallScript.{IsSmallScript}
use Rattle.gv_smallscript.specs.declared.forms.SmallScript.{SmallScript}

-- no small form is that of the text
abbrev pub HasNone : List ℕ → Type 0
HasNone text = (script : SmallScript) → IsSmallScript text script → ⊥

-- all of a text is refused that is of no small form; memory is free
abbrev pub IsOther : List ℕ → Refusal → Type 0
IsOther text refusal.NoMemory = Unit {0}
IsOther text (refusal.At place code) = (place ≡ start) × (code ≡ NotInProfile) × HasNone text

-- The text spells a script in which all rules hold, and it is of the small form.
pub record IsSmallScriptFor (text : List ℕ) (spec : Spec) (program : Program) (script : SmallScript) : Type 0 where
  pub tree : Tree
  pub spelled : whole.Spells text spec program tree
  pub form : IsSmallScript text script

-- A text that spells no script in which all rules hold is refused at its first fault, and all of one that spells a script of another form.
pub data IsRefusedFor (text : List ℕ) (spec : Spec) (program : Program) (place : Place) (code : Code) : Type 0 where
  in_text : (at : ℕ) → place ≡ place_at text at → whole.IsRefused text spec program at code → IsRefusedFor text spec program place code
  outside : (tree : Tree) → whole.Spells text spec program tree → place ≡ start → code ≡ NotInProfile → HasNone text → IsRefusedFor text spec program place code

-- a refusal that is so, unless memory ran out
abbrev pub IsRefusal : List ℕ → Spec → Program → Refusal → Type 0
IsRefusal text spec program refusal.NoMemory = Unit {0}
IsRefusal text spec program (refusal.At place code) = IsRefusedFor text spec program place code

-- A text spells one script of the small form at most, or is refused in one way at most, and not both.
pub record IsReadOnce (text : List ℕ) (spec : Spec) (program : Program) : Type 0 where
  pub one_script : (x y : SmallScript) → IsSmallScriptFor text spec program x → IsSmallScriptFor text spec program y → x ≡ y
  pub one_refusal : (p q : Place) (c d : Code) → IsRefusedFor text spec program p c → IsRefusedFor text spec program q d → (p ≡ q) × (c ≡ d)
  pub not_both : (x : SmallScript) (place : Place) (code : Code) → IsSmallScriptFor text spec program x → IsRefusedFor text spec program place code → ⊥

abbrev pub AreReadOnce : Type 0
AreReadOnce = (text : List ℕ) (spec : Spec) (program : Program) → IsReadOnce text spec program
