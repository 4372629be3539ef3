-- A frame returns what its procedure owes.
use Rattle.std.proofs.Common.{◌≡◌, ℕ, ◌&&◌, List, [], ◌∷◌, ◌++◌, map, find, Option, Some, None, refl, sym, ap, subst, ◌∙◌, arith}
use Rattle.std.specs.Str.{bytes_eq}
use Rattle.gv_base.specs.declared.answers.Place.{Place}
use Rattle.gv_base.specs.declared.answer.Answer.{Answer}
use Rattle.gv_base.specs.declared.answer.Answer.TheVariants.{Next}
use Rattle.gv_base.specs.declared.val.Val.{Val}
use Rattle.gv_terms.specs.declared.value.Binding.{Binding}
use Rattle.gv_terms.specs.declared.value.Env.{Env}
use Rattle.gv_terms.specs.declared.var.Var.{Var}
use Rattle.gv_terms.specs.Sorts.{sort_eq}
use Rattle.gv_terms.specs.Trees.{value_under}
use Rattle.gv_terms.specs.Values.{has_sort}
use Rattle.gv_atomic.specs.Choices.{bound, binds}
use Rattle.gv_world.specs.Answers.{and_then}
use Rattle.gv_world.specs.Store.{Store as World}
use Rattle.gv_lang.specs.Tree.{Expr, Return, Program}
use Rattle.gv_lang.specs.Todo.{Todo, Run}
use Rattle.gv_lang.specs.Threads.{Frame}
use Rattle.gv_lang.specs.Table.{Pops, as_values}
use Rattle.gv_lang.specs.Values.{values}
use Rattle.gv_lang.specs.Step.{Stepped, stepped, settled, returned}
use Rattle.gv_resources.proofs.Fitting.{fits_less}
use Rattle.gv_assertions.specs.Atoms.{facts_of, atoms_of}
use Rattle.gv_assertions.specs.Standing.{AreValuesOf, names_of}
use Rattle.gv_instances.specs.Instances.{Given, AreSorted, binding_of, given_under}
use Rattle.gv_instances.specs.Agreeing.{AgreeOnVars}
use Rattle.gv_instances.proofs.Agreeing.{closed_law}
use Rattle.gv_instances.proofs.Assertions.{all_out}
use Rattle.gv_instances.proofs.Trees.{found_first, test_is}
use Rattle.gv_seats.specs.Paths.{Procedure}
use Rattle.gv_seats.specs.Soundness.{Returns, returns, with_results, at_rest}
use Rattle.gv_giving.specs.Rows.{returns_from, vars_of}
use Rattle.gv_giving.specs.Laws.{ReturnsLaw}
use Rattle.gv_giving.proofs.Givens.{all_parted, chosen, among_rest, arg_values, all_plain, values_are, bound_are}
use Rattle.gv_giving.proofs.Entering.{facts_put, facts_closed}

-- the same values in front of valuations that agree
pub joined_agree : (base env start : Env) (given : List Given) (vars : List Var) → AreSorted given → AgreeOnVars env start vars
    → AgreeOnVars (binds (map (binding_of base) given ++ env.bindings)) (binds (map (binding_of base) given ++ start.bindings)) (vars_of given ++ vars)
joined_agree base env start [] vars sorted same n s among = same n s among
joined_agree base env start (g ∷ given) vars sorted same n s among =
    found_first (binding_of base g) (map (binding_of base) given ++ env.bindings) n s
    ∙ chosen (bytes_eq g.var.name n && has_sort (value_under base g.term) s) (value_under base g.term) _ _
    (λ e. joined_agree base env start given vars sorted.1 same n s
    (among_rest (bytes_eq g.var.name n && sort_eq g.var.sort s) g.var (find (λ v. bytes_eq v.name n && sort_eq v.sort s) (vars_of given ++ vars)) among (sym (test_is base g n s sorted.0) ∙ e)))
    ∙ sym (found_first (binding_of base g) (map (binding_of base) given ++ start.bindings) n s)

results_agree : (env start : Env) (p : Procedure) (given : List Given) → p.results ≡ vars_of given → AreSorted given → AgreeOnVars env start p.start
    → AgreeOnVars (given_under given env) (with_results p (map (λ g. value_under env g.term) given) start) (p.results ++ p.start)
results_agree env start p given are sorted same =
    let values = map (λ (g : Given). value_under env g.term) given in
    let bindings : map (binding_of env) given ≡ bound (names_of p.results) values = sym (bound_are env given) ∙ ap (λ (vars : List Var). bound (names_of vars) values) (sym are) in
    subst (λ (bs : List Binding). AgreeOnVars (given_under given env) (binds (bs ++ start.bindings)) (p.results ++ p.start)) bindings
    (subst (λ (vars : List Var). AgreeOnVars (given_under given env) (binds (map (binding_of env) given ++ start.bindings)) (vars ++ p.start)) (sym are)
    (joined_agree env env start given p.start sorted same))

module _ (program : Program) (extra : ℕ) (w : World) (f : Frame) (below : List Frame) where
  abbrev at : Todo → Frame
  at todo = record f { todo = todo }

  return_step : (es : List Expr) (place : Place) (next : Todo) (vs : List Val) → f.todo ≡ Run (Return es place) ∷ next → values f.locals es ≡ Some vs
      → stepped program extra (at_rest f below) w ≡ Next (returned below w f.results vs)
  return_step es place next vs is there =
      subst (λ (todo : Todo). stepped program extra (at_rest (at todo) below) w ≡ Next (returned below w f.results vs)) (sym is)
      (subst (λ (a : Option (List Val)). and_then (and_then (as_values a) (λ us. Next (Pops us))) (settled (at_rest (at (Run (Return es place) ∷ next)) below) w None)
      ≡ Next (returned below w f.results vs)) (sym there) refl)

pub returns_law : ReturnsLaw
returns_law o h (returns_from es given left place next may todo are as_many args sorted terms closed_facts closed_atoms apart known taken) program extra w g start f below rest seat =
    let env = seat.env in
    let p = h.procedure in
    let a = arg_values env h.locals f.locals seat.described.locals es given args sorted in
    let (q, r, split, stands, others) = all_parted taken seat.described.stands in
    let results = map (λ (x : Given). value_under env x.term) given in
    let same = results_agree env start p given are sorted seat.described.started in
    let step = return_step program extra w f below es place next a.vs (seat.described.todo ∙ todo) a.there in
    subst (λ (answer : Answer Stepped). Returns o g start f below h rest answer) (sym step)
    (returns {pool = seat.pool} {locks = seat.locks} results (all_plain env a.vs given a.have (a.as_many ∙ as_many))
    (record {
      values = subst (λ (vars : List Var). AreValuesOf vars results) (sym are) (values_are env given sorted terms seat.described.valuation);
      facts = facts_closed (p.results ++ p.start) (given_under given env) (with_results p results start) (facts_of p.owed) same closed_facts
          (facts_put env given (facts_of p.owed) sorted (known env seat.described.valuation seat.described.facts));
      stands = (closed_law (p.results ++ p.start) (given_under given env) (with_results p results start)).stands same o.preds (atoms_of p.owed) q closed_atoms
          (all_out o.preds given sorted (atoms_of p.owed) env q apart stands);
    })
    (record {
      fits = fits_less (λ e. let l = split e in omega arith) seat.base.fits;
      mode = seat.base.mode;
      crash = seat.base.crash;
      free = seat.base.free;
      consistent = seat.base.consistent;
    }) seat.still)
