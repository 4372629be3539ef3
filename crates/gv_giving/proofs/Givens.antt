-- Values of variables for which terms are given.
use Rattle.std.proofs.Common.{◌≡◌, ℕ, zero, suc, ◌+◌, Bool, true, false, ◌&&◌, if◌then◌else◌, List, [], ◌∷◌, ◌++◌, map, length, is_some, find, Option, Some, refl, sym, ap, ◌∙◌, arith}
use Rattle.std.specs.Prelude.{slice_get}
use Rattle.std.specs.Str.{bytes_eq}
use Rattle.std.proofs.lemmas.Slice.Eq.{bytes_eq-Decides}
use Rattle.gv_base.specs.declared.val.Val.{Val}
use Rattle.gv_terms.specs.declared.sort.Sort.{Sort}
use Rattle.gv_terms.specs.declared.tree.TermTree.{TermTree}
use Rattle.gv_terms.specs.declared.value.Binding.{Binding}
use Rattle.gv_terms.specs.declared.value.Env.{Env}
use Rattle.gv_terms.specs.declared.value.Value.{Value}
use Rattle.gv_terms.specs.declared.var.Var.{Var}
use Rattle.gv_terms.specs.Scopes.{is_among}
use Rattle.gv_terms.specs.Sorts.{sort_eq}
use Rattle.gv_terms.specs.Values.{has_sort, is_sort}
use Rattle.gv_terms.specs.Trees.{sort_of, looked_up, value_under}
use Rattle.gv_terms.proofs.Valued.{value_variable}
use Rattle.gv_terms.proofs.ValueSorts.{values_have_sorts}
use Rattle.gv_atomic.specs.Choices.{bound, binds}
use Rattle.gv_lang.specs.Tree.{Expr}
use Rattle.gv_lang.specs.Values.{values, also}
use Rattle.gv_resources.specs.Pieces.{Piece}
use Rattle.gv_assertions.specs.Atoms.{Atom, Predicate}
use Rattle.gv_terms.specs.Ranges.{IsValuation}
use Rattle.gv_assertions.specs.Standing.{StandForAll, AreValuesOf, names_of, both, none}
use Rattle.gv_assertions.specs.Laws.{Parted}
use Rattle.gv_assertions.proofs.Lists.{front, parted}
use Rattle.gv_terms.proofs.ValueRanges.{values_in_range}
use Rattle.gv_instances.specs.Instances.{Given, AreSorted, binding_of, given_under}
use Rattle.gv_instances.specs.Agreeing.{AgreeOnVars}
use Rattle.gv_instances.proofs.Sorts.{sort_itself}
use Rattle.gv_instances.proofs.Trees.{found_first, test_is}
use Rattle.gv_seats.specs.Scoping.{variable}
use Rattle.gv_seats.specs.Seats.{HaveValues, plain}
use Rattle.gv_seats.specs.Soundness.{ArePlain, no_value, a_value}
use Rattle.gv_seats.proofs.Expressions.{expressions_law}
use Rattle.gv_giving.specs.Rows.{TakesAll, takes_none, takes_one, vars_of, AreTerms, DifferFrom, AreDistinct, AreArgs, no_args, an_arg, param_terms}

-- ---- several assertions taken out

pub all_parted : {preds : List Predicate} {env : Env} {all xs left : List Atom} {p : Piece} → TakesAll all xs left → StandForAll preds env all p
    → Parted (StandForAll preds env xs) (StandForAll preds env left) p
all_parted {p = p} takes_none s = ((λ e. 0), p, (λ e. omega arith), none, s)
all_parted (takes_one t more) s =
    let (q, r, split, stands, others) = parted (front t s) in
    let (one, left, parts, all, rest) = all_parted more others in
    ((λ e. q e + one e), left, (λ e. let l = split e in let m = parts e in omega arith), both q one (λ e. omega arith) stands all, rest)

-- ---- the valuation of a start

-- the variables with the values of their terms, and no others
abbrev pub start_values : Env → List Given → Env
start_values env given = binds (map (binding_of env) given)

pub chosen : (test : Bool) (n x y : Value) → (test ≡ false → x ≡ y) → (if test then n else x) ≡ (if test then n else y)
chosen true n x y same = refl
chosen false n x y same = same refl

pub among_rest : (test : Bool) (v : Var) (rest : Option Var) → is_some (if test then Some v else rest) ≡ true → test ≡ false → is_some rest ≡ true
among_rest true v rest h e = absurd cc
among_rest false v rest h e = h

-- a look-up of one of these variables finds it before whatever else is bound
pub found_within : (env : Env) (given : List Given) (more others : List Binding) (n : List ℕ) (s : Sort) → AreSorted given → is_among (vars_of given) n s ≡ true
    → looked_up (binds (map (binding_of env) given ++ more)) n s ≡ looked_up (binds (map (binding_of env) given ++ others)) n s
found_within env [] more others n s sorted among = absurd cc
found_within env (g ∷ given) more others n s sorted among =
    found_first (binding_of env g) (map (binding_of env) given ++ more) n s
    ∙ chosen (bytes_eq g.var.name n && has_sort (value_under env g.term) s) (value_under env g.term) _ _
    (λ e. found_within env given more others n s sorted.1
    (among_rest (bytes_eq g.var.name n && sort_eq g.var.sort s) g.var (find (λ v. bytes_eq v.name n && sort_eq v.sort s) (vars_of given)) among (sym (test_is env g n s sorted.0) ∙ e)))
    ∙ sym (found_first (binding_of env g) (map (binding_of env) given ++ others) n s)

no_more : (bs : List Binding) → bs ++ [] ≡ bs
no_more [] = refl
no_more (b ∷ bs) = ap (λ xs. b ∷ xs) (no_more bs)

pub starts_agree : (env : Env) (given : List Given) → AreSorted given → AgreeOnVars (start_values env given) (given_under given env) (vars_of given)
starts_agree env given sorted n s among =
    ap (λ (bs : List Binding). looked_up (binds bs) n s) (sym (no_more (map (binding_of env) given))) ∙ found_within env given [] env.bindings n s sorted among

-- the values of all terms can be
pub starts_valued : (env : Env) (given : List Given) → AreSorted given → AreTerms given → IsValuation env → IsValuation (start_values env given)
starts_valued env [] sorted terms valuation k d l = absurd (omega (arith, l))
starts_valued env (g ∷ given) sorted terms valuation zero d l = values_in_range env g.term g.var.sort valuation sorted.0 terms.0
starts_valued env (g ∷ given) sorted terms valuation (suc k) d l = starts_valued env given sorted.1 terms.1 valuation k d (omega (arith, l))

-- as values of the variables
pub values_are : (env : Env) (given : List Given) → AreSorted given → AreTerms given → IsValuation env → AreValuesOf (vars_of given) (map (λ g. value_under env g.term) given)
values_are env [] sorted terms valuation = tt
values_are env (g ∷ given) sorted terms valuation =
    (its_sort g sorted.0, values_in_range env g.term g.var.sort valuation sorted.0 terms.0, values_are env given sorted.1 terms.1 valuation)
  where
    its_sort : (g : Given) → sort_of g.term ≡ Some g.var.sort → has_sort (value_under env g.term) g.var.sort ≡ true
    its_sort g e = ap (λ (o : Option Sort). is_sort g.var.sort o) (values_have_sorts env g.term g.var.sort e) ∙ sort_itself g.var.sort

pub bound_are : (env : Env) (given : List Given) → bound (names_of (vars_of given)) (map (λ g. value_under env g.term) given) ≡ map (binding_of env) given
bound_are env [] = refl
bound_are env (g ∷ given) = ap (λ bs. binding_of env g ∷ bs) (bound_are env given)

-- ---- arguments

-- what locals hold are the values of the first terms
pub data HaveArgs (env : Env) : List Val → List Given → Type 0 where
  none_have : {given : List Given} → HaveArgs env [] given
  one_has : {v : Val} {vs : List Val} {g : Given} {given : List Given} → plain v ≡ Some (value_under env g.term) → HaveArgs env vs given → HaveArgs env (v ∷ vs) (g ∷ given)

pub record ArgValues (env : Env) (locals : List Val) (es : List Expr) (given : List Given) : Type 0 where
  pub vs : List Val
  pub there : values locals es ≡ Some vs
  pub as_many : length vs ≡ length es
  pub have : HaveArgs env vs given

pub arg_values : (env : Env) (terms : List (Option TermTree)) (locals : List Val) → HaveValues env terms locals → (es : List Expr) (given : List Given) → AreArgs terms es given
    → AreSorted given → ArgValues env locals es given
arg_values env terms locals have _ given no_args sorted = record { vs = []; there = refl; as_many = refl; have = none_have }
arg_values env terms locals have (e ∷ es) (g ∷ given) (an_arg term args) sorted =
    let (v, found, is) = expressions_law env terms locals have e g.term g.var.sort term sorted.0 in
    let rest = arg_values env terms locals have es given args sorted.1 in
    record {
      vs = v ∷ rest.vs;
      there = ap (λ (x : Option Val). also x (values locals es)) found ∙ ap (λ (x : Option (List Val)). also (Some v) x) rest.there;
      as_many = ap suc rest.as_many;
      have = one_has is rest.have;
    }

-- each of these variables has its term's value
abbrev pub EachHas : Env → Env → List Given → Type 0
EachHas start env [] = Unit {0}
EachHas start env (g ∷ given) = (value_under start (variable g.var) ≡ value_under env g.term) × EachHas start env given

differs : (a b : Bool) (x y : Value) → a ≡ false → (if a && b then x else y) ≡ y
differs false b x y e = refl
differs true b x y e = absurd cc

is_chosen : (a b : Bool) (x y : Value) → a ≡ true → b ≡ true → (if a && b then x else y) ≡ x
is_chosen true true x y a b = refl
is_chosen true false x y a b = absurd cc
is_chosen false b x y a e = absurd cc

module _ (env : Env) where
  -- one more in front, whose name is another
  each_behind : (g : Given) (bs : List Binding) (given : List Given) → DifferFrom g.var (vars_of given) → EachHas (binds bs) env given → EachHas (binds (binding_of env g ∷ bs)) env given
  each_behind g bs [] apart has = tt
  each_behind g bs (c ∷ given) apart has = (
    value_variable (binds (binding_of env g ∷ bs)) c.var.name c.var.sort ∙ found_first (binding_of env g) bs c.var.name c.var.sort
        ∙ differs (bytes_eq g.var.name c.var.name) (has_sort (value_under env g.term) c.var.sort) (value_under env g.term) (looked_up (binds bs) c.var.name c.var.sort) apart.0
        ∙ sym (value_variable (binds bs) c.var.name c.var.sort) ∙ has.0,
    each_behind g bs given apart.1 has.1,
  )

  pub each_has : (given : List Given) → AreDistinct (vars_of given) → AreSorted given → EachHas (start_values env given) env given
  each_has [] distinct sorted = tt
  each_has (g ∷ given) distinct sorted = (
    value_variable (start_values env (g ∷ given)) g.var.name g.var.sort ∙ found_first (binding_of env g) (map (binding_of env) given) g.var.name g.var.sort
        ∙ is_chosen (bytes_eq g.var.name g.var.name) (has_sort (value_under env g.term) g.var.sort) (value_under env g.term) (looked_up (binds (map (binding_of env) given)) g.var.name g.var.sort)
        ((bytes_eq-Decides g.var.name g.var.name).1 refl) (its_sort g sorted.0),
    each_behind g (map (binding_of env) given) given distinct.0 (each_has given distinct.1 sorted.1),
  )
    where
      its_sort : (g : Given) → sort_of g.term ≡ Some g.var.sort → has_sort (value_under env g.term) g.var.sort ≡ true
      its_sort g e = ap (λ (o : Option Sort). is_sort g.var.sort o) (values_have_sorts env g.term g.var.sort e) ∙ sort_itself g.var.sort

-- the parameters have the values of the arguments, and of other locals nothing is told
pub params_have : (start env : Env) (vs others : List Val) (given : List Given) (free : List (Option TermTree)) → HaveArgs env vs given → EachHas start env given
    → ((x : ℕ) (t : TermTree) → slice_get free x ≡ Some (Some t) → ⊥) → HaveValues start (param_terms (length vs) (vars_of given) ++ free) (vs ++ others)
params_have start env [] others given free none_have each free_of x t e = absurd (free_of x t e)
params_have start env (v ∷ vs) others [] free has each free_of x t e = elim has [ ]
params_have start env (v ∷ vs) others (g ∷ given) free (one_has is have) each free_of zero t e =
    let same : variable g.var ≡ t = cc in
    (v, refl, is ∙ ap Some (sym each.0) ∙ ap (λ (u : TermTree). Some (value_under start u)) same)
params_have start env (v ∷ vs) others (g ∷ given) free (one_has is have) each free_of (suc x) t e = params_have start env vs others given free have each.1 free_of x t e

-- as many locals as terms
pub params_long : (env : Env) (vs : List Val) (given : List Given) → HaveArgs env vs given → length (param_terms (length vs) (vars_of given)) ≡ length vs
params_long env [] given none_have = refl
params_long env (v ∷ vs) [] has = elim has [ ]
params_long env (v ∷ vs) (g ∷ given) (one_has is have) = ap suc (params_long env vs given have)

pub all_plain : (env : Env) (vs : List Val) (given : List Given) → HaveArgs env vs given → length vs ≡ length given → ArePlain vs (map (λ g. value_under env g.term) given)
all_plain env [] [] none_have as_many = no_value
all_plain env [] (g ∷ given) none_have as_many = absurd (omega (arith, as_many))
all_plain env (v ∷ vs) [] has as_many = elim has [ ]
all_plain env (v ∷ vs) (g ∷ given) (one_has is have) as_many = a_value is (all_plain env vs given have (omega (arith, as_many)))
