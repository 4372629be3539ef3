-- Left sides as they stand, and lists of them.
use Rattle.std.proofs.Common.{◌≡◌, ℕ, ◌==◌, ◌<◌, ◌≤◌, Bool, true, false, ◌||◌, List, [], ◌∷◌, ◌++◌, length, map, Option, Some, None, refl, sym, ap, ◌∙◌, append_assoc, arith}
use Rattle.std.specs.Prelude.{if◌then◌else◌}
use Rattle.gv_base.specs.declared.answers.Code.TheVariants.{Twice}
use Rattle.gv_gosyntax.specs.declared.generated.gosyntax_table.TheConstants.{CLASS_DEFINE}
use Rattle.gv_gosyntax.specs.declared.lexeme.Lexeme.{Lexeme}
use Rattle.gv_gosyntax.specs.declared.node.Node.{Node}
use Rattle.gv_gosyntax.specs.declared.tree.Expr.{Expr as DeclaredExpr}
use Rattle.gv_operands.specs.declared.part.Want.{Want}
use Rattle.gv_gotypes.specs.Types.{Fault}
use Rattle.gv_gotypes.specs.Trees.{Expr, Name, expr_of}
use Rattle.gv_gotypes.specs.Scopes.{Env, name_in, is_blank}
use Rattle.gv_gotypes.specs.Places.{start_of}
use Rattle.gv_gotypes.specs.Assigning.{Target, target, pair_target, defined, is_new, some_is, targets, targets_by, target_findings, is_old, first_blank, nothing_new, again}
use Rattle.gv_gotyped.specs.declared.fault.Fault.{Fault as OneFault}
use Rattle.gv_gotyped.specs.First.{first_of, earliest}
use Rattle.gv_gotyped.proofs.Firsts.{first_both, earliest_of_three}
use Rattle.gv_gocalls.specs.Forms.{IsOther}
use Rattle.gv_goassigns.specs.Targets.{is_blank_name}
use Rattle.gv_gosimple.specs.declared.sides.Side.TheVariants.{Lone, Beside}
use Rattle.gv_gosimple.specs.Lefts.{AreExprs, by_side, alone_or_beside, side_for, wants_of, name_of}

-- ---- a test of one of them after another

pub or_first : (f : Expr → Bool) (e : Expr) (es : List Expr) → f e ≡ true → some_is f (e ∷ es) ≡ true
or_first f e es h = ap (λ (b : Bool). b || some_is f es) h

pub or_rest : (f : Expr → Bool) (e : Expr) (es : List Expr) → f e ≡ false → some_is f (e ∷ es) ≡ some_is f es
or_rest f e es h = ap (λ (b : Bool). b || some_is f es) h

-- ---- how they stand

one_is : (f : Expr → Bool) (e : Expr) → some_is f (e ∷ []) ≡ f e
one_is f e = last (f e)
  where
    last : (b : Bool) → (b || false) ≡ b
    last true = refl
    last false = refl

pub targets_of : (env : Env) (sign : ℕ) (es : List Expr) → targets env sign es ≡ targets_by (by_side env (side_for env (sign == CLASS_DEFINE) es)) es
targets_of env sign [] = none (sign == CLASS_DEFINE)
  where
    none : (b : Bool) → (if b then targets_by (defined env (some_is (is_new env) [])) [] else targets_by (pair_target env) []) ≡ targets_by (by_side env (side_for env b [])) []
    none true = refl
    none false = refl
targets_of env sign (e ∷ []) = one (sign == CLASS_DEFINE)
  where
    one : (b : Bool) → (if b then defined env (is_new env e) e ∷ [] else target env e ∷ []) ≡ targets_by (by_side env (side_for env b (e ∷ []))) (e ∷ [])
    one true = ap (λ (fresh : Bool). defined env fresh e ∷ []) (sym (one_is (is_new env) e))
    one false = refl
targets_of env sign (e ∷ f ∷ es) = many (sign == CLASS_DEFINE)
  where
    many : (b : Bool) → (if b then targets_by (defined env (some_is (is_new env) (e ∷ f ∷ es))) (e ∷ f ∷ es) else targets_by (pair_target env) (e ∷ f ∷ es))
        ≡ targets_by (by_side env (side_for env b (e ∷ f ∷ es))) (e ∷ f ∷ es)
    many true = refl
    many false = refl

pub lone_side : {T : Type 0} (es : List T) → length es ≡ 1 → Lone ≡ alone_or_beside es
lone_side [] h = absurd (omega (arith, h))
lone_side (e ∷ []) h = refl
lone_side (e ∷ f ∷ es) h = absurd (omega (arith, h))

pub beside_side : {T : Type 0} (es : List T) → (length es ≡ 1 → ⊥) → Beside ≡ alone_or_beside es
beside_side [] h = refl
beside_side (e ∷ []) h = absurd (h refl)
beside_side (e ∷ f ∷ es) h = refl

-- ---- what is told of them, one after another

-- what is told of them all by what was told of those before, and by those that are left
pub record Walked (f : Expr → Target) (wants : List Want) (first : Option OneFault) (left all : List Expr) : Type 0 where
  pub wanted : wants_of (targets_by f all) ≡ wants ++ wants_of (targets_by f left)
  pub told : first_of (target_findings (targets_by f all)) ≡ earliest first (first_of (target_findings (targets_by f left)))

pub walked_more : (f : Expr → Target) (wants more : List Want) (first own next : Option OneFault) (want : Want) (e : Expr) (left all : List Expr)
    → Walked f wants first (e ∷ left) all → want ≡ (f e).wants → own ≡ first_of (f e).findings → more ≡ wants ++ want ∷ [] → next ≡ earliest first own
    → Walked f more next left all
walked_more f wants more first own next want e left all w k o m n = record {
  wanted = w.wanted
      ∙ ap (λ (x : Want). wants ++ x ∷ wants_of (targets_by f left)) (sym k)
      ∙ sym (ap (λ (xs : List Want). xs ++ wants_of (targets_by f left)) m ∙ append_assoc wants (want ∷ []) (wants_of (targets_by f left)));
  told = w.told
      ∙ ap (λ (x : Option OneFault). earliest first x) (first_both (f e).findings (target_findings (targets_by f left)))
      ∙ ap (λ (x : Option OneFault). earliest first (earliest x (first_of (target_findings (targets_by f left))))) (sym o)
      ∙ sym (ap (λ (x : Option OneFault). earliest x (first_of (target_findings (targets_by f left)))) n
      ∙ earliest_of_three first own (first_of (target_findings (targets_by f left))));
}

-- those that are left, at their places
pub record WalkedAt (f : Expr → Target) (nodes : List Node) (places : List ℕ) (wants : List Want) (first : Option OneFault) (es : List DeclaredExpr) : Type 0 where
  pub left : List DeclaredExpr
  pub are : AreExprs nodes places left
  pub walked : Walked f wants first (map expr_of left) (map expr_of es)

-- ---- the first `_`

blank_by : (env : Env) (e : Expr) (b : Bool) (es : List Expr) → is_blank_name env e ≡ b → first_blank env (e ∷ es) ≡ (if b then Fault (start_of e) Twice ∷ [] else first_blank env es)
blank_by env (Name t) b es h = ap (λ (x : Bool). if x then Fault t.start Twice ∷ [] else first_blank env es) h
blank_by env e b es h = ap (λ (x : Bool). if x then Fault (start_of e) Twice ∷ [] else first_blank env es) h

pub blank_first : (env : Env) (e : Expr) (es : List Expr) → is_blank_name env e ≡ true → first_blank env (e ∷ es) ≡ Fault (start_of e) Twice ∷ []
blank_first env e es h = blank_by env e true es h

pub blank_rest : (env : Env) (e : Expr) (es : List Expr) → is_blank_name env e ≡ false → first_blank env (e ∷ es) ≡ first_blank env es
blank_rest env e es h = blank_by env e false es h

pub blank_name : (env : Env) (e : Expr) (t : Lexeme) → Some t ≡ name_of e → is_blank (name_in env.source t) ≡ is_blank_name env e
blank_name env (Name u) t h = let q : t ≡ u = cc in ap (λ (x : Lexeme). is_blank (name_in env.source x)) q
blank_name env e t h = absurd cc

pub no_blank : (env : Env) (e : Expr) → None ≡ name_of e → false ≡ is_blank_name env e
no_blank env (Name u) h = absurd cc
no_blank env e h = refl

pub other_name : (e : Expr) → IsOther e → None ≡ name_of e
other_name (Name t) h = absurd h
other_name e h = refl

-- ---- one that is another one again

pub again_few : (env : Env) (es : List Expr) → length es < 2 → None ≡ first_of (again env es)
again_few env [] h = refl
again_few env (a ∷ []) h = refl
again_few env (a ∷ b ∷ es) h = absurd (omega (arith, h))

pub again_many : (env : Env) (es : List Expr) → 3 ≤ length es → None ≡ first_of (again env es)
again_many env [] h = refl
again_many env (a ∷ []) h = refl
again_many env (a ∷ b ∷ []) h = absurd (omega (arith, h))
again_many env (a ∷ b ∷ e ∷ es) h = refl

-- ---- nothing new

pub some_new : (env : Env) (es : List Expr) → some_is (is_new env) es ≡ true → None ≡ first_of (nothing_new env es)
some_new env es h = sym (ap (λ (b : Bool). first_of (if b || some_is (is_old env) es then [] else first_blank env es)) h)

pub some_old : (env : Env) (es : List Expr) → some_is (is_new env) es ≡ false → some_is (is_old env) es ≡ true → None ≡ first_of (nothing_new env es)
some_old env es h i =
    sym (ap (λ (b : Bool). first_of (if b || some_is (is_old env) es then [] else first_blank env es)) h
    ∙ ap (λ (b : Bool). first_of (if b then [] else first_blank env es)) i)

pub none_there : (env : Env) (es : List Expr) → some_is (is_new env) es ≡ false → some_is (is_old env) es ≡ false → first_of (first_blank env es) ≡ first_of (nothing_new env es)
none_there env es h i =
    sym (ap (λ (b : Bool). first_of (if b || some_is (is_old env) es then [] else first_blank env es)) h
    ∙ ap (λ (b : Bool). first_of (if b then [] else first_blank env es)) i)
