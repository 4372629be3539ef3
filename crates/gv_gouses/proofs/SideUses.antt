-- Uses in left sides, and what they assign.
use Rattle.std.proofs.Common.{◌≡◌, ℕ, Bool, true, false, List, [], ◌∷◌, ◌++◌, map, Option, Some, None, sym, ap, ◌∙◌, append-nil, append_assoc, subst}
use Rattle.std.specs.Prelude.{if◌then◌else◌}
use Rattle.gv_gosyntax.specs.declared.lexeme.Lexeme.{Lexeme}
use Rattle.gv_gosyntax.specs.declared.node.Node.{Node}
use Rattle.gv_gosyntax.specs.declared.tree.Expr.{Expr as DeclaredExpr}
use Rattle.gv_operands.specs.declared.types.GoType.{GoType}
use Rattle.gv_operands.specs.declared.part.Want.TheVariants.{AnyTyped}
use Rattle.gv_gotypes.specs.declared.names.Entity.{Entity}
use Rattle.gv_gotypes.specs.declared.names.Entity.TheVariants.{Variable}
use Rattle.gv_gotypes.specs.declared.names.Found.{Found}
use Rattle.gv_gotypes.specs.Types.{Finding}
use Rattle.gv_gotypes.specs.Types as found_as
use Rattle.gv_gotypes.specs.Trees.{Expr, expr_of}
use Rattle.gv_gotypes.specs.Scopes.{Env, name_in, is_blank, found, found_among, named_in}
use Rattle.gv_gotypes.specs.Expressions.{outer_use}
use Rattle.gv_gotypes.specs.Assigning.{Target, entity_target, name_target, targets_by, target_findings}
use Rattle.gv_gosimple.specs.Lefts.{AreExprs}
use Rattle.gv_gosimple.proofs.Splits.{First}
use Rattle.gv_gouses.specs.declared.noted.Use.{Use}
use Rattle.gv_gouses.specs.declared.noted.Use.TheVariants.{Assigned}
use Rattle.gv_gouses.specs.Uses.{uses_of, Adds}
use Rattle.gv_gouses.proofs.UseLemmas.{uses_both, adds_two}

-- ---- names

assigned_adds : (old mid new : List Use) (at d : ℕ) (k : Option GoType) (e : Entity) (b : Bool) → Variable d k ≡ e → mid ≡ old ++ Assigned d ∷ []
    → Adds mid new (outer_use (record { entity = e; is_outer = b }) at) → Adds old new (entity_target at (Some (record { entity = e; is_outer = b }))).findings
assigned_adds old mid new at d k e b h m =
    subst (λ (x : Entity). Adds mid new (outer_use (record { entity = x; is_outer = b }) at) → Adds old new (entity_target at (Some (record { entity = x; is_outer = b }))).findings) h
    (λ a. adds_two old mid new (found_as.Assigned d ∷ []) (outer_use (record { entity = Variable d k; is_outer = b }) at) m a)

pub variable_adds : (old mid new : List Use) (at d : ℕ) (k : Option GoType) (f : Found) → f.entity ≡ Variable d k → mid ≡ old ++ Assigned d ∷ []
    → Adds mid new (outer_use f at) → Adds old new (entity_target at (Some f)).findings
variable_adds old mid new at d k f h m a = assigned_adds old mid new at d k f.entity f.is_outer (sym h) m a

pub name_target_uses : (env : Env) (t : Lexeme) (f : Option Found) → f ≡ found env (name_in env.source t) → uses_of (name_target env t).findings ≡ uses_of (entity_target t.start f).findings
name_target_uses env t f e = by (is_blank (name_in env.source t)) e
  where
    by : (b : Bool) → f ≡ (if b then None else found_among env.entries (named_in env.declared.names (name_in env.source t)) (name_in env.source t))
        → uses_of (if b then record { wants = AnyTyped; findings = [] } else
        entity_target t.start (if b then None else found_among env.entries (named_in env.declared.names (name_in env.source t)) (name_in env.source t))).findings
        ≡ uses_of (entity_target t.start f).findings
    by true h = sym (ap (λ (x : Option Found). uses_of (entity_target t.start x).findings) h)
    by false h = sym (ap (λ (x : Option Found). uses_of (entity_target t.start x).findings) h)

-- ---- left sides at places

pub record Sided (f : Expr → Target) (nodes : List Node) (places : List ℕ) (old now : List Use) (es : List DeclaredExpr) : Type 0 where
  pub left : List DeclaredExpr
  pub are : AreExprs nodes places left
  pub same : now ++ uses_of (target_findings (targets_by f (map expr_of left))) ≡ old ++ uses_of (target_findings (targets_by f (map expr_of es)))

pub sided_more : (f : Expr → Target) (nodes : List Node) (places rest : List ℕ) (place : ℕ) (old now new : List Use) (es : List DeclaredExpr)
    → (w : Sided f nodes places old now es) → (s : First nodes place rest w.left) → Adds now new (f (expr_of s.of_first)).findings → Sided f nodes rest old new es
sided_more f nodes places rest place old now new es w s h =
    let here = (f (expr_of s.of_first)).findings in let behind = target_findings (targets_by f (map expr_of s.of_rest)) in record {
      left = s.of_rest;
      are = s.are;
      same = ap (λ (us : List Use). us ++ uses_of behind) h
          ∙ append_assoc now (uses_of here) (uses_of behind)
          ∙ sym (ap (λ (us : List Use). now ++ us) (ap (λ (xs : List DeclaredExpr). uses_of (target_findings (targets_by f (map expr_of xs)))) s.same ∙ uses_both here behind))
          ∙ w.same;
    }

pub sided_all : (f : Expr → Target) (nodes : List Node) (places : List ℕ) (old now : List Use) (es : List DeclaredExpr) → (w : Sided f nodes places old now es)
    → w.left ≡ [] → Adds old now (target_findings (targets_by f (map expr_of es)))
sided_all f nodes places old now es w e =
    sym (append-nil now) ∙ sym (ap (λ (xs : List DeclaredExpr). now ++ uses_of (target_findings (targets_by f (map expr_of xs)))) e) ∙ w.same
