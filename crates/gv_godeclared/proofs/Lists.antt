-- Lists of types that grow.
use Rattle.std.proofs.Common.{◌≡◌, List, [], ◌∷◌, ◌++◌, refl, sym, ap, ◌∙◌, append_assoc}
use Rattle.std.proofs.lemmas.List.{append-nil}
use Rattle.gv_gotypes.specs.Trees as decl
use Rattle.gv_gotypes.specs.Trees.{Decl}
use Rattle.gv_gotypes.specs.Scopes.{Env}
use Rattle.gv_gotypes.specs.Declarations.{signatures}

-- one part is moved from what is left to what is there
pub moved : {T : Type 0} (there grown own rest whole : List T) → there ++ (own ++ rest) ≡ whole → grown ≡ there ++ own → grown ++ rest ≡ whole
moved there grown own rest whole h g = ap (λ xs. xs ++ rest) g ∙ append_assoc there own rest ∙ h

pub all_moved : {T : Type 0} (there whole : List T) → there ++ [] ≡ whole → there ≡ whole
all_moved there whole h = sym (append-nil there) ∙ h

pub signatures_split : (env : Env) (d : Decl) (ds : List Decl) → signatures env (d ∷ ds) ≡ signatures env (d ∷ []) ++ signatures env ds
signatures_split env (decl.Struct i gs) ds = refl
signatures_split env (decl.Const i u e) ds = refl
signatures_split env (decl.Func f) ds = refl
