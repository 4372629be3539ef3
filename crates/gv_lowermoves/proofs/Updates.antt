-- What counts a variable, behind what was made before.
use Rattle.std.proofs.Common.{◌≡◌, ℕ, ◌+◌, [], ◌∷◌, length, None, subst, ◌∙◌, arith}
use Rattle.gv_base.specs.declared.answers.Place.{Place}
use Rattle.gv_lang.specs.Tree as lang
use Rattle.gv_gotypes.specs.Trees.{Expr}
use Rattle.gv_gotypes.specs.Scopes.{Env}
use Rattle.gv_lowering.specs.Operands.{Context, Read, read, operated}
use Rattle.gv_lowering.specs.Statements as lower
use Rattle.gv_lowerops.specs.declared.draft.Draft.{Draft}
use Rattle.gv_lowerops.specs.declared.draft.Read.{Read as ReadHere}
use Rattle.gv_lowerops.specs.Tails.{IsBehind, IsReadBehind}
use Rattle.gv_lowerops.proofs.Behind.{behind_then, count_behind}
use Rattle.gv_lowermoves.specs.declared.locals.Target.{Target}
use Rattle.gv_lowermoves.specs.Moves.{target_in, IsMadeBehind, updated_by}

no_more : (n : ℕ) → n + 0 ≡ n
no_more n = omega arith

-- behind a draft where nothing is made yet
pub same_count : (old mid : Draft) → IsBehind old mid [] [] → length mid.temps.items ≡ length old.temps.items
same_count old mid h = count_behind old mid [] [] h ∙ no_more (length old.temps.items)

pub from_before : (old mid : Draft) (made : ReadHere) (r : ℕ → Read) → IsBehind old mid [] [] → IsReadBehind mid made (r (length mid.temps.items)) → IsReadBehind old made (r (length old.temps.items))
from_before old mid made r h k =
    let there = subst (λ (n : ℕ). IsReadBehind mid made (r n)) (same_count old mid h) k in
    record {
      behind = behind_then old mid made.draft [] (r (length old.temps.items)).cmds [] (r (length old.temps.items)).temps h there.behind;
      value = there.value;
    }

-- an update of a target, by the left side that it is
pub updated_is : (c : Context) (at : Place) (env : Env) (old new : Draft) (e : Expr) (t : Target) (sign : ℕ) (before : lang.Expr) (r : Read) → (k : lower.Target) → target_in t ≡ k
    → before ≡ (read c at env e None (length old.temps.items)).value → IsMadeBehind old new (updated_by c at (length old.temps.items) t sign before r)
    → IsMadeBehind old new (lower.set c at (length old.temps.items) (k ∷ [])
    (record { before = r.cmds; temps = r.temps; last = operated sign (read c at env e None (length old.temps.items)).value r.value }))
updated_is c at env old new e t sign before r k is value h =
    let n = length old.temps.items in
    let by : lang.Expr → lower.Target → lower.Made = λ v x. lower.set c at n (x ∷ []) (record { before = r.cmds; temps = r.temps; last = operated sign v r.value }) in
    subst (λ (v : lang.Expr). IsMadeBehind old new (by v k)) value (subst (λ (x : lower.Target). IsMadeBehind old new (by before x)) is h)
