-- Names of locals as they are appended.
use Rattle.std.proofs.Common.{◌≡◌, ◌∙◌, ℕ, List, [], ◌∷◌, ◌++◌, Some, None, sym, ap, append_assoc}
use Rattle.std.specs.Prelude.{slice_get}
use Rattle.gv_lang.specs.declared.program.Local.{Local}
use Rattle.gv_pointlines.specs.PointLines.{name_in, target_text}

pub with_name : (locals : List Local) (x : ℕ) (l : Local) (out mid new : List ℕ) → slice_get locals x ≡ Some l → mid ≡ out ++ 32 ∷ [] → new ≡ mid ++ l.name
    → new ≡ out ++ target_text locals x
with_name locals x l out mid new is space more =
    more ∙ ap (λ (m : List ℕ). m ++ l.name) space ∙ append_assoc out (32 ∷ []) l.name ∙ ap (λ o. out ++ 32 ∷ name_in o) (sym is)

-- a number that no local has is printed as nothing
pub no_name : (locals : List Local) (x : ℕ) (out mid : List ℕ) → slice_get locals x ≡ None → mid ≡ out ++ 32 ∷ [] → mid ≡ out ++ target_text locals x
no_name locals x out mid none space = space ∙ ap (λ o. out ++ 32 ∷ name_in o) (sym none)
