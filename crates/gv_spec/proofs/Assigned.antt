-- Lemmas on the meaning of a specification.
use Rattle.std.proofs.Common.{◌≡◌, ℕ, suc, ◌+◌, ◌<◌, List, [], ◌∷◌, ◌++◌, length, get_or, take, set, sym, refl, ap, ◌∙◌, arith}
use Rattle.std.proofs.lemmas.List.{take_more}
use Rattle.gv_terms.specs.declared.tree.TermTree.{TermTree}
use Rattle.gv_terms.specs.declared.value.Value.{Value}
use Rattle.gv_terms.specs.declared.value.Env.{Env}
use Rattle.gv_atomic.specs.declared.spec.Assign.{Assign}
use Rattle.gv_atomic.specs.Specification.{assigned}
use Rattle.gv_atomic.specs.Choices.{bound, term_value}

pub bound_none : (ns : List (List ℕ)) → bound ns [] ≡ []
bound_none [] = refl
bound_none (n ∷ ns) = refl

assigned_more : (ts : List TermTree) (env : Env) (body : List Assign) (a : Assign) (fields : List Value) → assigned ts env (body ++ a ∷ []) fields ≡ set (assigned ts env body fields) a.field (term_value ts env a.term)
assigned_more ts env [] a fields = refl
assigned_more ts env (b ∷ body) a fields = assigned_more ts env body a (set fields b.field (term_value ts env b.term))

-- one assignment more
pub assigned_take : (ts : List TermTree) (env : Env) (body : List Assign) (fields : List Value) (i : ℕ) (d : Assign) → i < length body → assigned ts env (take (i + 1) body) fields ≡ set (assigned ts env (take i body) fields) (get_or body i d).field (term_value ts env (get_or body i d).term)
assigned_take ts env body fields i d lt =
    ap (λ b. assigned ts env b fields) (take_more body i d lt) ∙ assigned_more ts env (take i body) (get_or body i d) fields
