-- Statements by what is told of their parts, and scopes that end.
use Rattle.std.proofs.Common.{◌≡◌, ℕ, ◌<◌, Bool, true, false, ◌||◌, not, List, ◌∷◌, length, Option, Some, None, Result, IfOk, refl, sym, ap, subst, ◌∙◌, arith}
use Rattle.gv_gosyntax.specs.declared.generated.gosyntax_acts.Part.TheVariants.{Part as PPart, Rights as PRights, Simple as PSimple}
use Rattle.gv_gosyntax.specs.declared.node.Node.{Node}
use Rattle.gv_gosyntax.specs.declared.tree.Right.{Right as DeclaredRight}
use Rattle.gv_gosyntax.specs.declared.tree.Simple.{Simple as DeclaredSimple}
use Rattle.gv_gosyntax.specs.declared.tree.Stmt.{Stmt as DeclaredStmt}
use Rattle.gv_gonodes.specs.Places.{IsBefore}
use Rattle.gv_gonodes.specs.Part.{IsSomePart}
use Rattle.gv_gonodes.specs.Rights.{IsSomeRights}
use Rattle.gv_gonodes.specs.Simple.{IsSomeSimple}
use Rattle.gv_base.specs.declared.answers.Code.TheVariants.{Twice}
use Rattle.gv_gotypes.specs.Types.{Finding, unless}
use Rattle.gv_gotypes.specs.Trees.{Stmt}
use Rattle.gv_gotypes.specs.Scopes.{Env}
use Rattle.gv_gotypes.specs.Statements.{stmt_findings, after}
use Rattle.gv_gotyped.specs.declared.fault.Fault.{Fault}
use Rattle.gv_gotyped.specs.First.{first_of}
use Rattle.gv_goends.specs.Trees.{stmt_of}
use Rattle.gv_goscopes.specs.Scopes.{IsAround}

pub simple_there : (nodes : List Node) (at inner : ℕ) (s : DeclaredSimple) → at < length nodes → IsBefore nodes at inner (PSimple s) → IsSomeSimple nodes inner
simple_there nodes at inner s l is = let k = is.before in record { whole = s; within = omega (arith, l, k); part = is.is }

pub part_there : (nodes : List Node) (at inner : ℕ) (s : Option DeclaredSimple) → at < length nodes → IsBefore nodes at inner (PPart s) → IsSomePart nodes inner
part_there nodes at inner s l is = let k = is.before in record { whole = s; within = omega (arith, l, k); part = is.is }

pub rights_there : (nodes : List Node) (at inner : ℕ) (rs : List DeclaredRight) → at < length nodes → IsBefore nodes at inner (PRights rs) → IsSomeRights nodes inner
rights_there nodes at inner rs l is = let k = is.before in record { whole = rs; within = omega (arith, l, k); part = is.is }

-- ---- one statement

pub told_as : (env : Env) (s d : DeclaredStmt) (p : Stmt) (x : Option Fault) → s ≡ d → stmt_of d ≡ p → x ≡ first_of (stmt_findings env p) → x ≡ first_of (stmt_findings env (stmt_of s))
told_as env s d p x made is e = e ∙ sym (ap (λ (y : Stmt). first_of (stmt_findings env y)) (ap stmt_of made ∙ is))

pub told_all : {E : Type 0} (env : Env) (s d : DeclaredStmt) (p : Stmt) (r : Result (Option Fault) E) (fs : List Finding) → s ≡ d → stmt_of d ≡ p → fs ≡ stmt_findings env p
    → IfOk r (λ f. f ≡ first_of fs) → IfOk r (λ f. f ≡ first_of (stmt_findings env (stmt_of s)))
told_all env s d p r fs made is e h =
    subst (λ (gs : List Finding). IfOk r (λ (f : Option Fault). f ≡ first_of gs)) (e ∙ sym (ap (stmt_findings env) (ap stmt_of made ∙ is))) h

pub seen_as : (env now : Env) (s d : DeclaredStmt) (p : Stmt) → s ≡ d → stmt_of d ≡ p → now ≡ after env p → now ≡ after env (stmt_of s)
seen_as env now s d p made is e = e ∙ sym (ap (after env) (ap stmt_of made ∙ is))

-- ---- scopes

pub around : (outer envs : List Env) (env : Env) → outer ≡ env ∷ envs → IsAround outer
around outer envs env e = subst IsAround (sym e) tt

pub closed_env : (outer envs new : List Env) (env now : Env) → outer ≡ env ∷ envs → outer ≡ now ∷ new → now ≡ env
closed_env outer envs new env now e f = let q : now ∷ new ≡ env ∷ envs = sym f ∙ e in cc

pub closed_outer : (outer envs new : List Env) (env now : Env) → outer ≡ env ∷ envs → outer ≡ now ∷ new → new ≡ envs
closed_outer outer envs new env now e f = let q : now ∷ new ≡ env ∷ envs = sym f ∙ e in cc

-- ---- names that are declared

pub blank_told : (b h : Bool) (start : ℕ) → b ≡ true → None ≡ first_of (unless (b || not h) start Twice)
blank_told true h start e = refl
blank_told false h start e = absurd cc

pub here_told : (b h : Bool) (start : ℕ) → b ≡ false → h ≡ true → Some (record { start = start; code = Twice }) ≡ first_of (unless (b || not h) start Twice)
here_told false true start e f = refl
here_told true h start e f = absurd cc
here_told false false start e f = absurd cc

pub free_told : (b h : Bool) (start : ℕ) → h ≡ false → None ≡ first_of (unless (b || not h) start Twice)
free_told true h start e = refl
free_told false false start e = refl
free_told false true start e = absurd cc
