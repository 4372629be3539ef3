-- A text spells a script of the small form, or is refused in one way, and not both.
use Rattle.std.proofs.Common.{◌≡◌, ℕ, List, Result, Ok, Err, IfOk, IfErr, refl, sym, ap, subst, ◌∙◌}
use Rattle.gv_base.specs.Places.{place_at}
use Rattle.gv_base.specs.declared.answers.Code.{Code}
use Rattle.gv_base.specs.declared.answers.Place.{Place}
use Rattle.gv_base.specs.declared.answers.Refusal.{Refusal}
use Rattle.gv_base.specs.declared.answers.Refusal.TheVariants as refusal
use Rattle.gv_text.specs.Answers.{IsReadAs, IsRefusedAs, Refuses}
use Rattle.gv_lang.specs.declared.program.Program.{Program}
use Rattle.gv_atomic.specs.declared.spec.Spec.{Spec}
use Rattle.gv_scripts.specs.Reading as whole
use Rattle.gv_scripts.specs.declared.script.Script.{Script}
use Rattle.gv_scripts.proofs.Decided as read
use Rattle.gv_smallscript.specs.SmallScript.{IsSmallScript}
use Rattle.gv_smallscript.specs.declared.forms.SmallScript.{SmallScript}
use Rattle.gv_smallscript.proofs.Once.{one_small}
use Rattle.gv_small.specs.Reading.{start_refusal}
use Rattle.gv_smallread.specs.Reading.{HasNone, IsOther, IsSmallScriptFor, IsRefusedFor, in_text, outside, IsRefusal, AreReadOnce}

pub start_is_other : (text : List ℕ) (e : Refusal) → e ≡ start_refusal → HasNone text → IsOther text e
start_is_other text e is none = subst (λ (x : Refusal). IsOther text x) (sym is) (refl, refl, none)

module _ (text : List ℕ) (spec : Spec) (program : Program) where
  once : whole.IsReadOnce text spec program
  once = read.all_read_once text spec program

  one_script : (x y : SmallScript) → IsSmallScriptFor text spec program x → IsSmallScriptFor text spec program y → x ≡ y
  one_script x y h k = one_small text x y h.form k.form

  not_both : (x : SmallScript) (place : Place) (code : Code) → IsSmallScriptFor text spec program x → IsRefusedFor text spec program place code → ⊥
  not_both x place code h (in_text at e r) = once.not_both h.tree at code h.spelled r
  not_both x place code h (outside tree s e f none) = none x h.form

  one_refusal : (p q : Place) (c d : Code) → IsRefusedFor text spec program p c → IsRefusedFor text spec program q d → (p ≡ q) × (c ≡ d)
  one_refusal p q c d (in_text m e h) (in_text n f k) = let same = once.one_refusal m n c d h k in (e ∙ (ap (place_at text) same.0 ∙ sym f), same.1)
  one_refusal p q c d (in_text m e h) (outside tree s f g none) = absurd (once.not_both tree m c s h)
  one_refusal p q c d (outside tree s e f none) (in_text n g k) = absurd (once.not_both tree n d s k)
  one_refusal p q c d (outside tree s e f none) (outside found t g h never) = (e ∙ sym g, f ∙ sym h)

  -- ---- what the stages answer

  pub text_refuses : (e : Refusal) → Refuses text (whole.IsRefused text spec program) e → IsRefusal text spec program e
  text_refuses refusal.NoMemory h = tt
  text_refuses (refusal.At place code) h = in_text h.0 h.1 h.2

  pub form_found : (s : Script) (r : Result SmallScript Refusal) → whole.IsValid text spec program s → IfOk r (λ x. IsSmallScript text x) → IfOk r (IsSmallScriptFor text spec program)
  form_found s (Ok x) v found = record { tree = v.tree; spelled = v.spelled; form = found }
  form_found s (Err e) v found = tt

  other : (s : Script) (e : Refusal) → whole.IsValid text spec program s → IsOther text e → IsRefusal text spec program e
  other s refusal.NoMemory v h = tt
  other s (refusal.At place code) v h = outside v.tree v.spelled h.0 h.1 h.2

  pub form_refuses : (s : Script) (r : Result SmallScript Refusal) → whole.IsValid text spec program s → IfErr r (IsOther text) → IfErr r (IsRefusal text spec program)
  form_refuses s (Ok x) v h = tt
  form_refuses s (Err e) v h = other s e v h

  -- ---- and only that

  pub script_only : (r : Result SmallScript Refusal) → IfOk r (IsSmallScriptFor text spec program) → IfErr r (IsRefusal text spec program) → (x : SmallScript) → IsSmallScriptFor text spec program x → IsReadAs x r
  script_only (Ok y) found refused x h = one_script y x found h
  script_only (Err refusal.NoMemory) found refused x h = tt
  script_only (Err (refusal.At place code)) found refused x h = not_both x place code h refused

  pub fault_told : (r : Result SmallScript Refusal) → IfOk r (IsSmallScriptFor text spec program) → IfErr r (IsRefusal text spec program) → (place : Place) (code : Code) → IsRefusedFor text spec program place code
      → IsRefusedAs place code r
  fault_told (Ok y) found refused place code h = not_both y place code found h
  fault_told (Err refusal.NoMemory) found refused place code h = tt
  fault_told (Err (refusal.At p c)) found refused place code h = one_refusal p place c code refused h

pub all_read_once : AreReadOnce
all_read_once text spec program = record { one_script = one_script text spec program; one_refusal = one_refusal text spec program; not_both = not_both text spec program }
