-- A caller goes on behind its call with what the callee owed.
use Rattle.std.proofs.Common.{◌≡◌, ℕ, true, List, [], ◌∷◌, ◌++◌, map, length, Option, Some, refl, sym, ap, subst, ◌∙◌, arith}
use Rattle.std.specs.Prelude.{slice_set}
use Rattle.gv_base.specs.declared.val.Val.{Val}
use Rattle.gv_terms.specs.declared.tree.TermTree.{TermTree}
use Rattle.gv_terms.specs.declared.value.Binding.{Binding}
use Rattle.gv_terms.specs.declared.value.Env.{Env}
use Rattle.gv_terms.specs.declared.value.Value.{Value}
use Rattle.gv_terms.specs.declared.var.Var.{Var}
use Rattle.gv_terms.specs.Scopes.{is_among}
use Rattle.gv_terms.specs.Trees.{looked_up, value_under}
use Rattle.gv_atomic.specs.Choices.{bound, binds}
use Rattle.gv_lang.specs.Step.{assigned}
use Rattle.gv_assertions.specs.Atoms.{facts_of, atoms_of}
use Rattle.gv_assertions.specs.Standing.{names_of}
use Rattle.gv_assertions.proofs.Lists.{joined}
use Rattle.gv_instances.specs.Instances.{Given, AreSorted, binding_of, given_under, put_in_all}
use Rattle.gv_instances.specs.Agreeing.{AgreeOnVars, AreClosed}
use Rattle.gv_instances.proofs.Agreeing.{closed_law}
use Rattle.gv_instances.proofs.Assertions.{all_into}
use Rattle.gv_seats.specs.Paths.{Procedure}
use Rattle.gv_seats.specs.Seats.{HaveValues, plain}
use Rattle.gv_seats.specs.Scoping.{variable, extended}
use Rattle.gv_seats.specs.Soundness.{ArePlain, no_value, a_value, with_results}
use Rattle.gv_seats.proofs.Extending.{described_agree}
use Rattle.gv_seats.proofs.Locals.{have_set, set_length}
use Rattle.gv_giving.specs.Rows.{vars_of}
use Rattle.gv_giving.specs.Folding.{terms_of, named, AreSortedAs}
use Rattle.gv_giving.specs.Answering.{with_variables, AreLocals, goes_on_behind}
use Rattle.gv_giving.specs.Laws.{AnswersLaw}
use Rattle.gv_giving.proofs.Givens.{found_within}
use Rattle.gv_giving.proofs.Entering.{facts_closed}
use Rattle.gv_giving.proofs.Folding.{bindings_joined, args_bound, extended_agree, extended_valued, extended_values, sorted_as, named_vars, named_values, facts_into, facts_join}
use Rattle.gv_giving.proofs.Returning.{joined_agree}

-- ---- locals

-- variables have the values that locals hold
HaveAll : Env → List Var → List Val → Type 0
HaveAll env [] vs = Unit {0}
HaveAll env (x ∷ vars) [] = ⊥
HaveAll env (x ∷ vars) (v ∷ vs) = (plain v ≡ Some (value_under env (variable x))) × HaveAll env vars vs

all_have : (env : Env) (vars : List Var) (vs : List Val) (values : List Value) → ArePlain vs values → map (λ (x : Var). value_under env (variable x)) vars ≡ values → HaveAll env vars vs
unfolding HaveAll
all_have env [] vs values plains e = tt
all_have env (x ∷ vars) [] [] no_value e = absurd cc
all_have env (x ∷ vars) [] (y ∷ values) plains e = elim plains [ ]
all_have env (x ∷ vars) (v ∷ vs) [] plains e = elim plains [ ]
all_have env (x ∷ vars) (v ∷ vs) (y ∷ values) (a_value is more) e =
    let first : value_under env (variable x) ≡ y = cc in
    let rest : map (λ (z : Var). value_under env (variable z)) vars ≡ values = cc in
    (is ∙ ap Some (sym first), all_have env vars vs values more rest)

still_locals : (terms : List (Option TermTree)) (x : ℕ) (t : Option TermTree) (targets : List ℕ) → AreLocals terms targets → AreLocals (slice_set terms x t) targets
still_locals terms x t [] l = tt
still_locals terms x t (y ∷ targets) l = ((let e = set_length terms x t in omega (arith, e, l.0)), still_locals terms x t targets l.1)

have_all : (env : Env) (terms : List (Option TermTree)) (locals : List Val) (targets : List ℕ) (vars : List Var) (vs : List Val) → HaveValues env terms locals → length locals ≡ length terms
    → length targets ≡ length vars → AreLocals terms targets → HaveAll env vars vs
    → HaveValues env (with_variables terms targets vars) (assigned locals targets vs) × (length (assigned locals targets vs) ≡ length (with_variables terms targets vars))
unfolding HaveAll
have_all env terms locals [] vars vs have as_many count l all = (have, as_many)
have_all env terms locals (x ∷ targets) [] vs have as_many count l all = absurd (omega (arith, count))
have_all env terms locals (x ∷ targets) (y ∷ vars) [] have as_many count l all = absurd all
have_all env terms locals (x ∷ targets) (y ∷ vars) (v ∷ vs) have as_many count l all =
    have_all env (slice_set terms x (Some (variable y))) (slice_set locals x v) targets vars vs
    (have_set env terms locals x (variable y) v have as_many l.0 all.0) (set_length locals x v ∙ as_many ∙ sym (set_length terms x (Some (variable y))))
    (omega (arith, count)) (still_locals terms x (Some (variable y)) targets l.1) all.1

-- ---- the valuation of what is owed

-- terms that are closed have their values still
bindings_same : (vars : List Var) (env later : Env) (given : List Given) → AgreeOnVars env later vars → AreClosed vars (terms_of given) → map (binding_of env) given ≡ map (binding_of later) given
bindings_same vars env later [] same closed = refl
bindings_same vars env later (g ∷ given) same closed =
    ap (λ (x : Value). record { name = g.var.name; value = x } ∷ map (binding_of env) given) ((closed_law vars env later).value same g.term closed.0)
    ∙ ap (λ (bs : List Binding). binding_of later g ∷ bs) (bindings_same vars env later given same closed.1)

starts_later : (vars : List Var) (env later values : Env) (given : List Given) (start : List Var) → start ≡ vars_of given → AreSorted given → AgreeOnVars env later vars → AreClosed vars (terms_of given)
    → AgreeOnVars values (given_under given env) start → AgreeOnVars values (given_under given later) start
starts_later vars env later values given start are sorted same closed agree n s among =
    let among_given = subst (λ (xs : List Var). is_among xs n s ≡ true) are among in
    agree n s among ∙ found_within env given env.bindings later.bindings n s sorted among_given
    ∙ ap (λ (bs : List Binding). looked_up (binds (bs ++ later.bindings)) n s) (bindings_same vars env later given same closed)

append_again : {A : Type 0} (xs ys zs : List A) → (xs ++ ys) ++ zs ≡ xs ++ (ys ++ zs)
append_again [] ys zs = refl
append_again (x ∷ xs) ys zs = ap (λ us. x ∷ us) (append_again xs ys zs)

owed_agree : (later values : Env) (p : Procedure) (fresh : List Var) (given : List Given) (results : List Value) → AreSortedAs p.results fresh → AreSorted (named p.results fresh)
    → map (λ (x : Var). value_under later (variable x)) fresh ≡ results → AgreeOnVars values (given_under given later) p.start
    → AgreeOnVars (with_results p results values) (given_under (named p.results fresh ++ given) later) (p.results ++ p.start)
owed_agree later values p fresh given results sorts sorted is agree =
    let names = named p.results fresh in
    let results_are : bound (names_of p.results) results ≡ map (binding_of later) names = args_bound later p.results names results (named_vars p.results fresh sorts) (sym is ∙ named_values later p.results fresh sorts) in
    let all = joined_agree later values (given_under given later) names p.start sorted agree in
    let tails : map (binding_of later) names ++ (map (binding_of later) given ++ later.bindings) ≡ map (binding_of later) (names ++ given) ++ later.bindings =
    sym (ap (λ (bs : List Binding). bs ++ later.bindings) (bindings_joined later names given) ∙ append_again (map (binding_of later) names) (map (binding_of later) given) later.bindings) in
    subst (λ (bs : List Binding). AgreeOnVars (with_results p results values) (binds bs) (p.results ++ p.start)) tails
    (subst (λ (bs : List Binding). AgreeOnVars (binds (bs ++ values.bindings)) (binds (map (binding_of later) names ++ (map (binding_of later) given ++ later.bindings))) (p.results ++ p.start)) (sym results_are)
    (subst (λ (xs : List Var). AgreeOnVars (binds (map (binding_of later) names ++ values.bindings)) (binds (map (binding_of later) names ++ (map (binding_of later) given ++ later.bindings))) (xs ++ p.start))
    (sym (named_vars p.results fresh sorts)) all))

pub answers_law : AnswersLaw
answers_law o waiting given p targets _ (goes_on_behind fresh new sorts count locals start given_sorted closed closed_facts closed_atoms names_sorted sorted apart) scoped start_env env values caller piece part whole vs results d agree plains owed within =
    let later = extended env fresh results in
    let are = sorted_as p.results fresh results sorts owed.values in
    let same = extended_agree waiting.vars fresh env results new in
    let each = extended_values waiting.vars fresh env results new are in
    let before = described_agree o.preds start_env env later waiting caller piece scoped same (extended_valued waiting.vars fresh env results are d.valuation) d in
    let all = owed_agree later values p fresh given results sorts names_sorted each (starts_later waiting.vars env later values given p.start start given_sorted same closed agree) in
    let set = have_all later waiting.locals caller.locals targets fresh vs before.locals before.as_many count locals (all_have later fresh vs results plains each) in
    let names = named p.results fresh ++ given in (
      later,
      record {
        todo = d.todo;
        as_many = set.1;
        locals = set.0;
        valuation = before.valuation;
        started = before.started;
        facts = facts_join later waiting.facts (put_in_all names (facts_of p.owed)) before.facts
            (facts_into later names (facts_of p.owed) sorted (facts_closed (p.results ++ p.start) (with_results p results values) (given_under names later) (facts_of p.owed) all closed_facts owed.facts));
        stands = joined {q = part} (λ e. let l = within e in omega arith) before.stands
            (all_into o.preds names sorted (atoms_of p.owed) later part apart
            ((closed_law (p.results ++ p.start) (with_results p results values) (given_under names later)).stands all o.preds (atoms_of p.owed) part closed_atoms owed.stands));
      },
    )
