-- Left sides of one assignment, and what is known of them.
use Rattle.std.specs.Prelude.{◌≡◌, ℕ, ◌<◌, Bool, false, if◌then◌else◌, List, [], ◌∷◌, length, Option, Some, None}
use Rattle.gv_gosyntax.specs.declared.generated.gosyntax_acts.Part.TheVariants.{Expr as PExpr}
use Rattle.gv_gosyntax.specs.declared.node.Node.{Node}
use Rattle.gv_gosyntax.specs.declared.tree.Expr.{Expr as DeclaredExpr}
use Rattle.gv_gosyntax.specs.Nodes.{IsPartAt}
use Rattle.gv_operands.specs.declared.types.GoType.{GoType}
use Rattle.gv_operands.specs.declared.part.Want.{Want}
use Rattle.gv_gosyntax.specs.declared.lexeme.Lexeme.{Lexeme}
use Rattle.gv_gotypes.specs.Trees.{Expr, Name}
use Rattle.gv_gotypes.specs.Scopes.{Env}
use Rattle.gv_gotypes.specs.Assigning.{Target, target, pair_target, defined, is_new, some_is, target_findings, is_unlike}
use Rattle.gv_gotyped.specs.First.{first_of}
use Rattle.gv_gosimple.specs.declared.sides.Side.{Side}
use Rattle.gv_gosimple.specs.declared.sides.Side.TheVariants.{Lone, Beside, Defined}
use Rattle.gv_gosimple.specs.declared.targets.Targets.{Targets}

-- at each place stands the node of an operand, in their order
abbrev pub AreExprs : List Node → List ℕ → List DeclaredExpr → Type 0
AreExprs nodes [] [] = Unit {0}
AreExprs nodes (p ∷ ps) (e ∷ es) = (p < length nodes) × IsPartAt nodes p (PExpr e) × AreExprs nodes ps es
AreExprs nodes ps es = ⊥

pub record AreSomeExprs (nodes : List Node) (places : List ℕ) : Type 0 where
  pub whole : List DeclaredExpr
  pub are : AreExprs nodes places whole

-- what a left side wants that stands so
abbrev pub by_side : Env → Side → Expr → Target
by_side env Lone e = target env e
by_side env Beside e = pair_target env e
by_side env (Defined fresh) e = defined env fresh e

-- how left sides stand where nothing is defined, and where something is
abbrev pub alone_or_beside : {T : Type 0} → List T → Side
alone_or_beside (e ∷ []) = Lone
alone_or_beside es = Beside

abbrev pub side_for : Env → Bool → List Expr → Side
side_for env defines es = if defines then Defined (some_is (is_new env) es) else alone_or_beside es

abbrev pub wants_of : List Target → List Want
wants_of [] = []
wants_of (t ∷ ts) = t.wants ∷ wants_of ts

-- They want this, and that is the fault in them that is told.
pub record AreTargets (known : Targets) (ts : List Target) : Type 0 where
  pub wants : known.wants.items ≡ wants_of ts
  pub first : known.first ≡ first_of (target_findings ts)

-- the name that an operand is, without parentheses
abbrev pub name_of : Expr → Option Lexeme
name_of (Name t) = Some t
name_of other = None

-- the one item of a list, where it has one alone
abbrev pub IsOnly : {T : Type 0} → Option T → List T → Type 0
IsOnly (Some x) xs = xs ≡ x ∷ []
IsOnly None xs = length xs ≡ 1 → ⊥

-- the first of the results has another type than the first place wants
abbrev pub unlike_first : List Want → List (Option GoType) → Bool
unlike_first (w ∷ ws) (k ∷ ks) = is_unlike w k
unlike_first ws ks = false
