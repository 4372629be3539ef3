-- New variables leave what a path tells as it is.
use Rattle.std.proofs.Common.{◌≡◌, ℕ, zero, suc, Bool, true, false, ◌&&◌, if◌then◌else◌, List, [], ◌∷◌, Option, Some, refl, sym, ap, subst, ◌∙◌, arith}
use Rattle.std.specs.Prelude.{slice_get}
use Rattle.std.specs.Str.{bytes_eq}
use Rattle.std.proofs.lemmas.Slice.Eq.{bytes_eq-Decides}
use Rattle.gv_base.specs.declared.val.Val.{Val}
use Rattle.gv_terms.specs.declared.sort.Sort.{Sort}
use Rattle.gv_terms.specs.declared.tree.TermTree.{TermTree}
use Rattle.gv_terms.specs.declared.value.Env.{Env}
use Rattle.gv_terms.specs.declared.value.Value.{Value}
use Rattle.gv_terms.specs.declared.var.Var.{Var}
use Rattle.gv_terms.specs.Scopes.{is_among, is_closed}
use Rattle.gv_terms.specs.Values.{has_sort}
use Rattle.gv_terms.specs.Trees.{looked_up, value_under}
use Rattle.gv_terms.proofs.Valued.{value_variable}
use Rattle.gv_atomic.specs.Choices.{binds}
use Rattle.gv_lang.specs.Threads.{Frame}
use Rattle.gv_resources.specs.Pieces.{Piece}
use Rattle.gv_assertions.specs.Atoms.{Predicate}
use Rattle.gv_terms.specs.Ranges.{IsInRange, IsValuation}
use Rattle.gv_assertions.specs.Standing.{AreTrueUnder}
use Rattle.gv_instances.specs.Agreeing.{AgreeOnVars, AreClosed}
use Rattle.gv_instances.proofs.Agreeing.{closed_law}
use Rattle.gv_instances.proofs.Trees.{found_first}
use Rattle.gv_seats.specs.Paths.{Path}
use Rattle.gv_seats.specs.Seats.{Described, HaveValues}
use Rattle.gv_seats.specs.Scoping.{IsScoped, variable}

-- ---- one more variable

abbrev pub with_value : Env → Var → Value → Env
with_value env x v = binds (record { name = x.name; value = v } ∷ env.bindings)

not_chosen : (test : Bool) (x y : Value) → test ≡ false → (if test then x else y) ≡ y
not_chosen false x y e = refl
not_chosen true x y e = absurd cc

is_chosen : (a b : Bool) (x y : Value) → a ≡ true → b ≡ true → (if a && b then x else y) ≡ x
is_chosen true true x y a b = refl
is_chosen true false x y a b = absurd cc
is_chosen false b x y a e = absurd cc

-- every earlier variable keeps its value
pub agree_one : (vars : List Var) (env : Env) (x : Var) (v : Value) → ((s : Sort) → is_among vars x.name s ≡ false) → AgreeOnVars env (with_value env x v) vars
agree_one vars env x v new m s among = sym (found_first (record { name = x.name; value = v }) env.bindings m s ∙ other (bytes_eq x.name m) refl)
  where
    other : (test : Bool) → bytes_eq x.name m ≡ test → (if bytes_eq x.name m && has_sort v s then v else looked_up env m s) ≡ looked_up env m s
    other false e = ap (λ (b : Bool). if b && has_sort v s then v else looked_up env m s) e
    other true e =
        let name : x.name ≡ m = (bytes_eq-Decides x.name m).0 e in
        let never : false ≡ true = sym (new s) ∙ subst (λ (k : List ℕ). is_among vars k s ≡ true) (sym name) among in
        absurd cc

-- and the new one has its own
pub new_value : (env : Env) (x : Var) (v : Value) → has_sort v x.sort ≡ true → value_under (with_value env x v) (variable x) ≡ v
new_value env x v sorted =
    value_variable (with_value env x v) x.name x.sort ∙ found_first (record { name = x.name; value = v }) env.bindings x.name x.sort
    ∙ is_chosen (bytes_eq x.name x.name) (has_sort v x.sort) v (looked_up env x.name x.sort) ((bytes_eq-Decides x.name x.name).1 refl) sorted

pub valued_one : (env : Env) (x : Var) (v : Value) → IsInRange v → IsValuation env → IsValuation (with_value env x v)
valued_one env x v can valuation zero d l = can
valued_one env x v can valuation (suc k) d l = valuation k d (omega (arith, l))

-- ---- what a path tells under a valuation that agrees on its variables

facts_agree : (vars : List Var) (env other : Env) (facts : List TermTree) → AgreeOnVars env other vars → AreClosed vars facts → AreTrueUnder env facts → AreTrueUnder other facts
facts_agree vars env other [] same closed h = tt
facts_agree vars env other (f ∷ facts) same closed h =
    (sym ((closed_law vars env other).value same f closed.0) ∙ h.0, facts_agree vars env other facts same closed.1 h.1)

locals_agree : (vars : List Var) (env other : Env) (terms : List (Option TermTree)) (locals : List Val) → AgreeOnVars env other vars
    → ((x : ℕ) (t : TermTree) → slice_get terms x ≡ Some (Some t) → is_closed vars t ≡ true) → HaveValues env terms locals → HaveValues other terms locals
locals_agree vars env other terms locals same closed have x t there =
    let (v, v_there, is) = have x t there in
    (v, v_there, is ∙ ap Some ((closed_law vars env other).value same t (closed x t there)))

pub described_agree : (preds : List Predicate) (start env other : Env) (h : Path) (f : Frame) (p : Piece) → IsScoped h → AgreeOnVars env other h.vars → IsValuation other
    → Described preds start env h f p → Described preds start other h f p
described_agree preds start env other h f p scoped same valuation d = record {
  todo = d.todo;
  as_many = d.as_many;
  locals = locals_agree h.vars env other h.locals f.locals same scoped.locals d.locals;
  valuation = valuation;
  started = λ n s among. sym (same n s (scoped.start n s among)) ∙ d.started n s among;
  facts = facts_agree h.vars env other h.facts same scoped.facts d.facts;
  stands = (closed_law h.vars env other).stands same preds h.atoms p scoped.atoms d.stands;
}
