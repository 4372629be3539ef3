-- A case of a predicate is given up for its instance, and taken for it.
use Rattle.std.proofs.Common.{◌≡◌, ℕ, zero, suc, ◌+◌, Bool, true, false, ◌&&◌, if◌then◌else◌, find, List, [], ◌∷◌, ◌++◌, map, is_some, Option, Some, refl, sym, ap, subst, ◌∙◌, arith}
use Rattle.std.specs.Prelude.{slice_get}
use Rattle.std.specs.Str.{bytes_eq}
use Rattle.std.proofs.lemmas.Slice.Eq.{bytes_eq-Decides}
use Rattle.gv_terms.specs.declared.sort.Sort.{Sort}
use Rattle.gv_terms.specs.declared.tree.TermTree.{TermTree}
use Rattle.gv_terms.specs.declared.value.Binding.{Binding}
use Rattle.gv_terms.specs.declared.value.Env.{Env}
use Rattle.gv_terms.specs.declared.value.Value.{Value}
use Rattle.gv_terms.specs.declared.var.Var.{Var}
use Rattle.gv_terms.specs.Scopes.{is_among}
use Rattle.gv_terms.specs.Trees.{value_under}
use Rattle.gv_terms.specs.Values.{has_sort}
use Rattle.gv_terms.specs.Sorts.{sort_eq}
use Rattle.gv_terms.proofs.Valued.{value_variable}
use Rattle.gv_atomic.specs.Choices.{bound, binds}
use Rattle.gv_world.specs.Store.{Store as World}
use Rattle.gv_lang.specs.Threads.{Frame}
use Rattle.gv_resources.specs.Pieces.{Piece}
use Rattle.gv_resources.specs.Ghost.{Ghost}
use Rattle.gv_resources.proofs.Fitting.{fits_less}
use Rattle.gv_assertions.specs.Atoms.{Atom, Instance, Case, Predicate, Takes, here, there, facts_of, atoms_of}
use Rattle.gv_terms.specs.Ranges.{IsValuation}
use Rattle.gv_assertions.specs.Standing.{StandsFor, StandForAll, AreParts, AreTrueUnder, AreValuesOf, instance, both, none, valued, case_env, names_of}
use Rattle.gv_assertions.proofs.Lists.{front, parted, joined}
use Rattle.gv_instances.specs.Instances.{Given, AreSorted, binding_of, put_in_all, given_under, AreAllApart}
use Rattle.gv_instances.specs.Agreeing.{AgreeOnVars, AreClosed, AreClosedAtoms}
use Rattle.gv_instances.proofs.Agreeing.{closed_law}
use Rattle.gv_instances.proofs.Assertions.{all_out, all_into}
use Rattle.gv_instances.proofs.Sorts.{sort_itself}
use Rattle.gv_instances.proofs.Trees.{put_value}
use Rattle.gv_seats.specs.Paths.{Path}
use Rattle.gv_seats.specs.Seats.{Proof, Seat}
use Rattle.gv_seats.specs.Changes.{Nothing}
use Rattle.gv_seats.specs.Scoping.{IsScoped, AreNew, variable, extended}
use Rattle.gv_seats.specs.Soundness.{Arrives}
use Rattle.gv_seats.proofs.Bases.{arrived, unchanged, base_with}
use Rattle.gv_seats.proofs.Extending.{with_value, agree_one, new_value, valued_one, described_agree}
use Rattle.gv_giving.specs.Rows.{vars_of}
use Rattle.gv_giving.specs.Folding.{terms_of, folds, named, AreSortedAs, unfolded, UnfoldsCases, no_case, a_case, unfolds, IsClosedCase}
use Rattle.gv_giving.specs.Laws.{FoldsLaw, UnfoldsLaw}
use Rattle.gv_giving.proofs.Givens.{all_parted, start_values, starts_agree, values_are, bound_are}
use Rattle.gv_giving.proofs.Entering.{facts_put, facts_closed}

-- ---- two lists of what is given

pub vars_joined : (args own : List Given) → vars_of (args ++ own) ≡ vars_of args ++ vars_of own
vars_joined [] own = refl
vars_joined (g ∷ args) own = ap (λ xs. g.var ∷ xs) (vars_joined args own)

pub bindings_joined : (env : Env) (args own : List Given) → map (binding_of env) (args ++ own) ≡ map (binding_of env) args ++ map (binding_of env) own
bindings_joined env [] own = refl
bindings_joined env (g ∷ args) own = ap (λ xs. binding_of env g ∷ xs) (bindings_joined env args own)

pub values_of_terms : (env : Env) (given : List Given) → valued env (terms_of given) ≡ map (λ (g : Given). value_under env g.term) given
values_of_terms env [] = refl
values_of_terms env (g ∷ given) = ap (λ xs. value_under env g.term ∷ xs) (values_of_terms env given)

pub args_bound : (env : Env) (vars : List Var) (given : List Given) (values : List Value) → vars ≡ vars_of given → values ≡ map (λ (g : Given). value_under env g.term) given
    → bound (names_of vars) values ≡ map (binding_of env) given
args_bound env vars given values are same =
    ap (λ (xs : List Var). bound (names_of xs) values) are ∙ ap (λ (vs : List Value). bound (names_of (vars_of given)) vs) same ∙ bound_are env given

-- the valuation of a case is that of what is given for its variables
case_values : (env : Env) (pred : Predicate) (case : Case) (args own : List Given) (values others : List Value) → pred.params ≡ vars_of args → case.vars ≡ vars_of own
    → values ≡ map (λ (g : Given). value_under env g.term) args → others ≡ map (λ (g : Given). value_under env g.term) own
    → case_env pred case values others ≡ start_values env (args ++ own)
case_values env pred case args own values others params vars is also =
    ap (λ (bs : List Binding). binds (bs ++ bound (names_of case.vars) others)) (args_bound env pred.params args values params is)
    ∙ ap (λ (bs : List Binding). binds (map (binding_of env) args ++ bs)) (args_bound env case.vars own others vars also)
    ∙ ap (λ (bs : List Binding). binds bs) (sym (bindings_joined env args own))

back : (vars : List Var) (env other : Env) → AgreeOnVars env other vars → AgreeOnVars other env vars
back vars env other same n s among = sym (same n s among)

case_vars : (pred : Predicate) (case : Case) (args own : List Given) → pred.params ≡ vars_of args → case.vars ≡ vars_of own → vars_of (args ++ own) ≡ pred.params ++ case.vars
case_vars pred case args own params vars =
    vars_joined args own ∙ ap (λ (xs : List Var). xs ++ vars_of own) (sym params) ∙ ap (λ (xs : List Var). pred.params ++ xs) (sym vars)

-- ---- fold

pub folds_law : FoldsLaw
folds_law o h k (folds number place pred case args own left is_pred is_case params vars closed args_sorted own_sorted own_terms sorted apart known taken) w g start f rest seat =
    let env = seat.env in
    let d = seat.described in
    let (q, r, split, stands, others) = all_parted taken d.stands in
    let given = args ++ own in
    let all : AgreeOnVars (given_under given env) (start_values env given) (pred.params ++ case.vars) =
    subst (λ (xs : List Var). AgreeOnVars (given_under given env) (start_values env given) xs) (case_vars pred case args own params vars)
    (back (vars_of given) (start_values env given) (given_under given env) (starts_agree env given sorted)) in
    let is_env = case_values env pred case args own (valued env (terms_of args)) (map (λ (x : Given). value_under env x.term) own) params vars (values_of_terms env args) refl in
    let instance_stands : StandsFor o.preds env (Instance number (terms_of args)) q =
    instance pred place case (map (λ (x : Given). value_under env x.term) own) is_pred is_case
    (subst (λ (xs : List Var). AreValuesOf xs (map (λ (x : Given). value_under env x.term) own)) (sym vars) (values_are env own own_sorted own_terms d.valuation))
    (subst (λ (e : Env). AreTrueUnder e (facts_of case.items)) (sym is_env)
    (facts_closed (pred.params ++ case.vars) (given_under given env) (start_values env given) (facts_of case.items) all closed.facts
    (facts_put env given (facts_of case.items) sorted (known env d.valuation d.facts))))
    (subst (λ (e : Env). StandForAll o.preds e (atoms_of case.items) q) (sym is_env)
    ((closed_law (pred.params ++ case.vars) (given_under given env) (start_values env given)).stands all o.preds (atoms_of case.items) q closed.atoms
    (all_out o.preds given sorted (atoms_of case.items) env q apart stands))) in
    let later : Piece = λ e. r e + q e in
    arrived o w g start f h _ rest refl (record {
      env = env;
      piece = later;
      pool = seat.pool;
      locks = seat.locks;
      described = record {
        todo = d.todo;
        as_many = d.as_many;
        locals = d.locals;
        valuation = d.valuation;
        started = d.started;
        facts = d.facts;
        stands = joined {q = q} (λ e. omega arith) others (both q (λ e. 0) (λ e. omega arith) instance_stands none);
      };
      base = base_with o w g h.mode h.bracket seat.piece later seat.pool seat.locks rest seat.base (fits_less (λ e. let l = split e in omega arith) seat.base.fits);
      still = seat.still;
    })

-- ---- new variables with values

either : (test : Bool) (x : Var) (rest : Option Var) → is_some rest ≡ true → is_some (if test then Some x else rest) ≡ true
either true x rest e = refl
either false x rest e = e

among_more : (x : Var) (vars : List Var) (n : List ℕ) (s : Sort) → is_among vars n s ≡ true → is_among (x ∷ vars) n s ≡ true
among_more x vars n s among = either (bytes_eq x.name n && sort_eq x.sort s) x (find (λ v. bytes_eq v.name n && sort_eq v.sort s) vars) among

among_first : (x : Var) (vars : List Var) → is_among (x ∷ vars) x.name x.sort ≡ true
among_first x vars = here (bytes_eq x.name x.name) (sort_eq x.sort x.sort) x (find (λ v. bytes_eq v.name x.name && sort_eq v.sort x.sort) vars) ((bytes_eq-Decides x.name x.name).1 refl) (sort_itself x.sort)
  where
    here : (a b : Bool) (x : Var) (rest : Option Var) → a ≡ true → b ≡ true → is_some (if a && b then Some x else rest) ≡ true
    here true true x rest a b = refl
    here true false x rest a b = absurd cc
    here false b x rest a e = absurd cc

pub extended_agree : (vars news : List Var) (env : Env) (values : List Value) → AreNew vars news → AgreeOnVars env (extended env news values) vars
extended_agree vars [] env values new n s among = refl
extended_agree vars (x ∷ news) env [] new n s among = refl
extended_agree vars (x ∷ news) env (v ∷ values) new n s among =
    agree_one vars env x v new.0 n s among ∙ extended_agree (x ∷ vars) news (with_value env x v) values new.1 n s (among_more x vars n s among)

pub extended_valued : (vars news : List Var) (env : Env) (values : List Value) → AreValuesOf news values → IsValuation env → IsValuation (extended env news values)
extended_valued vars [] env [] sorted valuation = valuation
extended_valued vars [] env (v ∷ values) sorted valuation = absurd sorted
extended_valued vars (x ∷ news) env [] sorted valuation = absurd sorted
extended_valued vars (x ∷ news) env (v ∷ values) sorted valuation = extended_valued vars news (with_value env x v) values sorted.2 (valued_one env x v sorted.1 valuation)

-- each of them has its value
pub extended_values : (vars news : List Var) (env : Env) (values : List Value) → AreNew vars news → AreValuesOf news values → map (λ (x : Var). value_under (extended env news values) (variable x)) news ≡ values
extended_values vars [] env [] new sorted = refl
extended_values vars [] env (v ∷ values) new sorted = absurd sorted
extended_values vars (x ∷ news) env [] new sorted = absurd sorted
extended_values vars (x ∷ news) env (v ∷ values) new sorted =
    let one = with_value env x v in
    let all = extended one news values in
    let first : value_under all (variable x) ≡ v =
    value_variable all x.name x.sort ∙ sym (extended_agree (x ∷ vars) news one values new.1 x.name x.sort (among_first x vars)) ∙ sym (value_variable one x.name x.sort) ∙ new_value env x v sorted.0 in
    ap (λ (y : Value). y ∷ map (λ (z : Var). value_under all (variable z)) news) first ∙ ap (λ (ys : List Value). v ∷ ys) (extended_values (x ∷ vars) news one values new.1 sorted.2)

-- values of variables are values of others of the same sorts
pub sorted_as : (vars fresh : List Var) (values : List Value) → AreSortedAs vars fresh → AreValuesOf vars values → AreValuesOf fresh values
sorted_as [] [] [] sorts sorted = tt
sorted_as [] [] (v ∷ values) sorts sorted = absurd sorted
sorted_as [] (y ∷ fresh) values sorts sorted = absurd sorts
sorted_as (x ∷ vars) [] values sorts sorted = absurd sorts
sorted_as (x ∷ vars) (y ∷ fresh) [] sorts sorted = absurd sorted
sorted_as (x ∷ vars) (y ∷ fresh) (v ∷ values) sorts sorted =
    (ap (λ (s : Sort). has_sort v s) sorts.0 ∙ sorted.0, sorted.1, sorted_as vars fresh values sorts.1 sorted.2)

pub named_vars : (vars fresh : List Var) → AreSortedAs vars fresh → vars ≡ vars_of (named vars fresh)
named_vars [] [] sorts = refl
named_vars [] (y ∷ fresh) sorts = absurd sorts
named_vars (x ∷ vars) [] sorts = absurd sorts
named_vars (x ∷ vars) (y ∷ fresh) sorts = ap (λ xs. x ∷ xs) (named_vars vars fresh sorts.1)

pub named_values : (env : Env) (vars fresh : List Var) → AreSortedAs vars fresh → map (λ (x : Var). value_under env (variable x)) fresh ≡ map (λ (g : Given). value_under env g.term) (named vars fresh)
named_values env [] [] sorts = refl
named_values env [] (y ∷ fresh) sorts = absurd sorts
named_values env (x ∷ vars) [] sorts = absurd sorts
named_values env (x ∷ vars) (y ∷ fresh) sorts = ap (λ xs. value_under env (variable y) ∷ xs) (named_values env vars fresh sorts.1)

pub closed_values : (vars : List Var) (env other : Env) (ts : List TermTree) → AgreeOnVars env other vars → AreClosed vars ts → valued env ts ≡ valued other ts
closed_values vars env other [] same closed = refl
closed_values vars env other (t ∷ ts) same closed =
    ap (λ xs. xs ∷ valued env ts) ((closed_law vars env other).value same t closed.0) ∙ ap (λ xs. value_under other t ∷ xs) (closed_values vars env other ts same closed.1)

-- facts and assertions with terms put in
pub facts_into : (env : Env) (given : List Given) (facts : List TermTree) → AreSorted given → AreTrueUnder (given_under given env) facts → AreTrueUnder env (put_in_all given facts)
facts_into env given [] sorted h = tt
facts_into env given (f ∷ facts) sorted h = (put_value given env sorted f ∙ h.0, facts_into env given facts sorted h.1)

pub facts_join : (env : Env) (facts more : List TermTree) → AreTrueUnder env facts → AreTrueUnder env more → AreTrueUnder env (facts ++ more)
facts_join env [] more h k = k
facts_join env (f ∷ facts) more h k = (h.0, facts_join env facts more h.1 k)

-- ---- unfold

-- the path of a case, and what its row says
pub record CaseAt (h : Path) (pred : Predicate) (args : List Given) (left : List Atom) (case : Case) (ks : List Path) (place : ℕ) : Type 0 where
  pub fresh : List Var
  pub new : AreNew h.vars fresh
  pub sorts : AreSortedAs case.vars fresh
  pub closed : IsClosedCase pred case
  pub sorted : AreSorted (args ++ named case.vars fresh)
  pub apart : AreAllApart (args ++ named case.vars fresh) (atoms_of case.items)
  pub among : slice_get ks place ≡ Some (unfolded h args case fresh left)

case_at : {h : Path} {pred : Predicate} {args : List Given} {left : List Atom} {cases : List Case} {ks : List Path} (place : ℕ) (case : Case) → UnfoldsCases h pred args left cases ks
    → slice_get cases place ≡ Some case → CaseAt h pred args left case ks place
case_at place case no_case e = absurd cc
case_at {h = h} {pred = pred} {args = args} {left = left} zero case (a_case {case = c} {ks = ks} fresh new sorts closed sorted apart more) e =
    let same : c ≡ case = cc in
    subst (λ (x : Case). CaseAt h pred args left x (unfolded h args c fresh left ∷ ks) zero) same
    (record { fresh = fresh; new = new; sorts = sorts; closed = closed; sorted = sorted; apart = apart; among = refl })
case_at (suc place) case (a_case fresh new sorts closed sorted apart more) e =
    let rest = case_at place case more e in
    record { fresh = rest.fresh; new = rest.new; sorts = rest.sorts; closed = rest.closed; sorted = rest.sorted; apart = rest.apart; among = rest.among }

module _ (o : Proof) (w : World) (g : Ghost) (start : Env) (f : Frame) (h : Path) (rest : Piece) (seat : Seat o w g start f h rest) (scoped : IsScoped h) (pred : Predicate) (args : List Given)
    (left : List Atom) (params : pred.params ≡ vars_of args) (closed_args : AreClosed h.vars (terms_of args)) (q r : Piece) (split : AreParts q r seat.piece)
    (others : (env : Env) → AgreeOnVars seat.env env h.vars → StandForAll o.preds env left r) where
  unfolds_case : (ks : List Path) (place : ℕ) (case : Case) (own : List Value) → CaseAt h pred args left case ks place → AreValuesOf case.vars own
      → AreTrueUnder (case_env pred case (valued seat.env (terms_of args)) own) (facts_of case.items)
      → StandForAll o.preds (case_env pred case (valued seat.env (terms_of args)) own) (atoms_of case.items) q → Arrives o w g start f h ks rest Nothing
  unfolds_case ks place case own at sorted facts stands =
      let env = extended seat.env at.fresh own in
      let values = sorted_as case.vars at.fresh own at.sorts sorted in
      let same = extended_agree h.vars at.fresh seat.env own at.new in
      let given = args ++ named case.vars at.fresh in
      let before = described_agree o.preds start seat.env env h f seat.piece scoped same (extended_valued h.vars at.fresh seat.env own values seat.described.valuation) seat.described in
      let is_env = case_values env pred case args (named case.vars at.fresh) (valued seat.env (terms_of args)) own params (named_vars case.vars at.fresh at.sorts)
      (closed_values h.vars seat.env env (terms_of args) same closed_args ∙ values_of_terms env args)
      (sym (extended_values h.vars at.fresh seat.env own at.new values) ∙ named_values env case.vars at.fresh at.sorts) in
      let all : AgreeOnVars (start_values env given) (given_under given env) (pred.params ++ case.vars) =
      subst (λ (xs : List Var). AgreeOnVars (start_values env given) (given_under given env) xs) (case_vars pred case args (named case.vars at.fresh) params (named_vars case.vars at.fresh at.sorts))
      (starts_agree env given at.sorted) in
      let later : Piece = λ e. r e + q e in
      record {
        after = g;
        changed = unchanged g;
        path = unfolded h args case at.fresh left;
        place = place;
        among = at.among;
        procedure = refl;
        seat = record {
          env = env;
          piece = later;
          pool = seat.pool;
          locks = seat.locks;
          described = record {
            todo = before.todo;
            as_many = before.as_many;
            locals = before.locals;
            valuation = before.valuation;
            started = before.started;
            facts = facts_join env h.facts (put_in_all given (facts_of case.items)) before.facts
                (facts_into env given (facts_of case.items) at.sorted
                (facts_closed (pred.params ++ case.vars) (start_values env given) (given_under given env) (facts_of case.items) all at.closed.facts
                (subst (λ (e : Env). AreTrueUnder e (facts_of case.items)) is_env facts)));
            stands = joined {q = q} (λ e. omega arith) (others env same)
                (all_into o.preds given at.sorted (atoms_of case.items) env q at.apart
                ((closed_law (pred.params ++ case.vars) (start_values env given) (given_under given env)).stands all o.preds (atoms_of case.items) q at.closed.atoms
                (subst (λ (e : Env). StandForAll o.preds e (atoms_of case.items) q) is_env stands)));
          };
          base = base_with o w g h.mode h.bracket seat.piece later seat.pool seat.locks rest seat.base (fits_less (λ e. let l = split e in omega arith) seat.base.fits);
          still = seat.still;
        };
      }

left_closed : (vars : List Var) {all left : List Atom} {a : Atom} → Takes all a left → AreClosedAtoms vars all → AreClosedAtoms vars left
left_closed vars here c = c.1
left_closed vars (there t) c = (c.0, left_closed vars t c.1)

-- the case of an instance that holds
record Opened (preds : List Predicate) (env : Env) (number : ℕ) (args : List TermTree) (p : Piece) : Type 0 where
  pred : Predicate
  place : ℕ
  case : Case
  own : List Value
  is_pred : slice_get preds number ≡ Some pred
  is_case : slice_get pred.cases place ≡ Some case
  values : AreValuesOf case.vars own
  facts : AreTrueUnder (case_env pred case (valued env args) own) (facts_of case.items)
  stands : StandForAll preds (case_env pred case (valued env args) own) (atoms_of case.items) p

opened : {preds : List Predicate} {env : Env} {number : ℕ} {args : List TermTree} {p : Piece} → StandsFor preds env (Instance number args) p → Opened preds env number args p
opened (instance pred place case own is_pred is_case values facts stands) = record {
  pred = pred;
  place = place;
  case = case;
  own = own;
  is_pred = is_pred;
  is_case = is_case;
  values = values;
  facts = facts;
  stands = stands;
}

pub unfolds_law : UnfoldsLaw
unfolds_law o h ks (unfolds number pred args left is_pred params sorted takes closed_args cases) scoped w g start f rest seat =
    let env = seat.env in
    let (q, r, split, stands, left_stand) = parted (front takes seat.described.stands) in
    let c = opened stands in
    let given = terms_of args in
    let same : c.pred ≡ pred = (let e = sym c.is_pred ∙ is_pred in cc) in
    let is_case : slice_get pred.cases c.place ≡ Some c.case = subst (λ (x : Predicate). slice_get x.cases c.place ≡ Some c.case) same c.is_case in
    unfolds_case o w g start f h rest seat scoped pred args left params closed_args q r split
    (λ other agree. (closed_law h.vars env other).stands agree o.preds left r (left_closed h.vars takes scoped.atoms) left_stand)
    ks c.place c.case c.own (case_at c.place c.case cases is_case) c.values
    (subst (λ (x : Predicate). AreTrueUnder (case_env x c.case (valued env given) c.own) (facts_of c.case.items)) same c.facts)
    (subst (λ (x : Predicate). StandForAll o.preds (case_env x c.case (valued env given) c.own) (atoms_of c.case.items) q) same c.stands)
