-- A frame that begins a procedure stands at the path where its block begins: calls, and new threads.
use Rattle.std.proofs.Common.{◌≡◌, ℕ, zero, suc, ◌+◌, ◌≤◌, true, List, [], ◌∷◌, ◌++◌, map, drop, length, Option, Some, None, refl, sym, ap, subst, ◌∙◌, arith}
use Rattle.std.specs.Prelude.{slice_get}
use Rattle.gv_base.specs.declared.answers.Place.{Place}
use Rattle.gv_base.specs.declared.answer.Answer.{Answer}
use Rattle.gv_base.specs.declared.answer.Answer.TheVariants.{Next}
use Rattle.gv_base.specs.declared.val.Val.{Val}
use Rattle.gv_terms.specs.declared.tree.TermTree.{TermTree}
use Rattle.gv_terms.specs.declared.value.Env.{Env}
use Rattle.gv_terms.specs.declared.var.Var.{Var}
use Rattle.gv_world.specs.Answers.{and_then}
use Rattle.gv_world.specs.Store.{Store as World}
use Rattle.gv_lang.specs.declared.program.Local.{Local}
use Rattle.gv_lang.specs.Tree as lang
use Rattle.gv_lang.specs.Tree.{Expr, Do, Proc, Program}
use Rattle.gv_lang.specs.Todo.{Todo, Run}
use Rattle.gv_lang.specs.Threads.{Frame, zero_of, new_frame, thread_of}
use Rattle.gv_lang.specs.Table.{Effect, Pushes, Starts, as_values, enters}
use Rattle.gv_lang.specs.Values.{values}
use Rattle.gv_lang.specs.Step.{Stepped, GoesOn, stepped, settled}
use Rattle.gv_resources.specs.Pieces.{Resource, Piece}
use Rattle.gv_resources.specs.Ghost.{Ghost}
use Rattle.gv_resources.proofs.Fitting.{fits_less}
use Rattle.gv_assertions.specs.Atoms.{Atom, facts_of, atoms_of}
use Rattle.gv_assertions.specs.Standing.{StandForAll, AreTrueUnder}
use Rattle.gv_instances.specs.Instances.{Given, AreSorted, put_in_all, given_under}
use Rattle.gv_instances.specs.Agreeing.{AgreeOnVars, AreClosed}
use Rattle.gv_instances.proofs.Agreeing.{closed_law}
use Rattle.gv_instances.proofs.Assertions.{all_out}
use Rattle.gv_instances.proofs.Trees.{put_value}
use Rattle.gv_seats.specs.Paths.{Path, Procedure, goes_on}
use Rattle.gv_seats.specs.Seats.{Proof, Seat, Pair, Described, HaveValues}
use Rattle.gv_seats.specs.Soundness.{Calls, calls, Spawns, spawns, at_rest}
use Rattle.gv_seats.proofs.Bases.{base_after}
use Rattle.gv_giving.specs.Rows.{Gives, calls_one, spawns_one, vars_of, AreDistinct, param_terms, start_path}
use Rattle.gv_giving.specs.Laws.{CallsLaw, SpawnsLaw}
use Rattle.gv_giving.proofs.Givens.{all_parted, start_values, starts_agree, starts_valued, ArgValues, arg_values, each_has, params_have, params_long}

-- facts with terms put in are true where the facts are
pub facts_put : (env : Env) (given : List Given) (facts : List TermTree) → AreSorted given → AreTrueUnder env (put_in_all given facts) → AreTrueUnder (given_under given env) facts
facts_put env given [] sorted h = tt
facts_put env given (f ∷ facts) sorted h = (sym (put_value given env sorted f) ∙ h.0, facts_put env given facts sorted h.1)

pub facts_closed : (vars : List Var) (env other : Env) (facts : List TermTree) → AgreeOnVars env other vars → AreClosed vars facts → AreTrueUnder env facts → AreTrueUnder other facts
facts_closed vars env other [] same closed h = tt
facts_closed vars env other (f ∷ facts) same closed h =
    (sym ((closed_law vars env other).value same f closed.0) ∙ h.0, facts_closed vars env other facts same closed.1 h.1)

back : (vars : List Var) (env other : Env) → AgreeOnVars env other vars → AgreeOnVars other env vars
back vars env other same n s among = sym (same n s among)

no_terms : (locals : List Local) (x : ℕ) (t : TermTree) → slice_get (map {B = Option TermTree} (λ l. None) locals) x ≡ Some (Some t) → ⊥
no_terms [] x t e = cc
no_terms (l ∷ locals) zero t e = cc
no_terms (l ∷ locals) (suc x) t e = no_terms locals x t e

append_long : {A : Type 0} (xs ys : List A) → length (xs ++ ys) ≡ length xs + length ys
append_long [] ys = omega arith
append_long (x ∷ xs) ys = let e = append_long xs ys in omega arith

map_long : {A B : Type 0} (f : A → B) (xs : List A) → length (map f xs) ≡ length xs
map_long f [] = refl
map_long f (x ∷ xs) = ap suc (map_long f xs)

-- ---- the new frame beside what its caller keeps

pub record Entered (o : Proof) (w : World) (g : Ghost) (start : Env) (f : Frame) (h : Path) (rest : Piece) (seat : Seat o w g start f h rest) (p : Procedure) (proc : Proc) (es : List Expr)
    (given : List Given) (left : List Atom) (number : ℕ) (xs : List ℕ) : Type 0 where
  pub args : ArgValues seat.env f.locals es given
  pub kept : Piece
  pub given_piece : Piece
  pub split : (e : Resource) → kept e + given_piece e ≤ seat.piece e
  pub keeps : StandForAll o.preds seat.env left kept
  pub begins : Described o.preds (start_values seat.env given) (start_values seat.env given) (start_path p proc) (new_frame number proc args.vs xs) given_piece

pub entered : (o : Proof) (w : World) (g : Ghost) (start : Env) (f : Frame) (h : Path) (rest : Piece) (seat : Seat o w g start f h rest) (p : Procedure) (proc : Proc) (es : List Expr)
    (given : List Given) (left : List Atom) (number : ℕ) (xs : List ℕ) → Gives h p proc es given left → Entered o w g start f h rest seat p proc es given left number xs
entered o w g start f h rest seat p proc es given left number xs gives =
    let env = seat.env in
    let values_env = start_values env given in
    let args = arg_values env h.locals f.locals seat.described.locals es given gives.args gives.sorted in
    let (q, r, split, stands, others) = all_parted gives.taken seat.described.stands in
    let same_start : AgreeOnVars values_env (given_under given env) p.start = subst (λ (vars : List Var). AgreeOnVars values_env (given_under given env) vars) (sym gives.vars) (starts_agree env given gives.sorted) in
    let same = back p.start values_env (given_under given env) same_start in
    let count : length args.vs ≡ proc.params = args.as_many ∙ gives.as_many in
    let terms_are : param_terms (length args.vs) (vars_of given) ≡ param_terms proc.params p.start =
    ap (λ (n : ℕ). param_terms n (vars_of given)) count ∙ ap (λ (vars : List Var). param_terms proc.params vars) (sym gives.vars) in
    let distinct = subst (λ (vars : List Var). AreDistinct vars) gives.vars gives.distinct in
    record {
      args = args;
      kept = r;
      given_piece = q;
      split = λ e. let l = split e in omega arith;
      keeps = others;
      begins = record {
        todo = refl;
        as_many = new_long proc args.vs (param_terms proc.params p.start) (sym (params_long env args.vs given args.have) ∙ ap (λ (ts : List (Option TermTree)). length ts) terms_are);
        locals = subst (λ (ts : List (Option TermTree)). HaveValues values_env (ts ++ map (λ l. None) (drop proc.params proc.locals)) (args.vs ++ map (λ l. zero_of l.kind) (drop proc.params proc.locals)))
            terms_are (params_have values_env env args.vs (map (λ l. zero_of l.kind) (drop proc.params proc.locals)) given (map (λ l. None) (drop proc.params proc.locals)) args.have
            (each_has env given distinct gives.sorted) (no_terms (drop proc.params proc.locals)));
        valuation = starts_valued env given gives.sorted gives.terms seat.described.valuation;
        started = λ n s among. refl;
        facts = facts_closed p.start (given_under given env) values_env (facts_of p.given) same gives.closed_facts
            (facts_put env given (facts_of p.given) gives.sorted (gives.known env seat.described.valuation seat.described.facts));
        stands = (closed_law p.start (given_under given env) values_env).stands same o.preds (atoms_of p.given) q gives.closed_atoms
            (all_out o.preds given gives.sorted (atoms_of p.given) env q gives.apart stands);
      };
    }
  where
    new_long : (proc : Proc) (vs : List Val) (terms : List (Option TermTree)) → length vs ≡ length terms
        → length (vs ++ map (λ l. zero_of l.kind) (drop proc.params proc.locals)) ≡ length (terms ++ map {B = Option TermTree} (λ l. None) (drop proc.params proc.locals))
    new_long proc vs terms e =
        let a = append_long vs (map (λ l. zero_of l.kind) (drop proc.params proc.locals)) in
        let b = append_long terms (map {B = Option TermTree} (λ l. None) (drop proc.params proc.locals)) in
        let c = map_long (λ (l : Local). zero_of l.kind) (drop proc.params proc.locals) in
        let d = map_long {B = Option TermTree} (λ (l : Local). None) (drop proc.params proc.locals) in
        omega arith

-- ---- the steps

module _ (program : Program) (extra : ℕ) (w : World) (f : Frame) (below : List Frame) (number : ℕ) (es : List Expr) (proc : Proc) (vs : List Val) (place : Place) (next : Todo)
    (is_proc : slice_get program.procs number ≡ Some proc) (there : values f.locals es ≡ Some vs) where
  abbrev at : Todo → Frame
  at todo = record f { todo = todo }

  abbrev row : (Frame → Effect) → List ℕ → Todo → Option (List Val) → Option Proc → Answer Stepped
  row as_effect xs todo found p = and_then (and_then (as_values found) (λ args. enters as_effect number p args xs)) (settled (at_rest (at todo) below) w (Some next))

  pub call_step : (xs : List ℕ) → f.todo ≡ Run (Do (lang.Call xs number es) place) ∷ next
      → stepped program extra (at_rest f below) w ≡ Next (GoesOn w (at_rest (new_frame number proc vs xs) (at next ∷ below)) [])
  call_step xs is =
      subst (λ (todo : Todo). stepped program extra (at_rest (at todo) below) w ≡ Next (GoesOn w (at_rest (new_frame number proc vs xs) (at next ∷ below)) [])) (sym is)
      (subst (λ (a : Option (List Val)). row Pushes xs (Run (Do (lang.Call xs number es) place) ∷ next) a (slice_get program.procs number)
      ≡ Next (GoesOn w (at_rest (new_frame number proc vs xs) (at next ∷ below)) [])) (sym there)
      (subst (λ (q : Option Proc). row Pushes xs (Run (Do (lang.Call xs number es) place) ∷ next) (Some vs) q ≡ Next (GoesOn w (at_rest (new_frame number proc vs xs) (at next ∷ below)) []))
      (sym is_proc) refl))

  pub spawn_step : f.todo ≡ Run (Do (lang.Spawn number es) place) ∷ next
      → stepped program extra (at_rest f below) w ≡ Next (GoesOn w (at_rest (at next) below) (thread_of (new_frame number proc vs []) ∷ []))
  spawn_step is =
      subst (λ (todo : Todo). stepped program extra (at_rest (at todo) below) w ≡ Next (GoesOn w (at_rest (at next) below) (thread_of (new_frame number proc vs []) ∷ []))) (sym is)
      (subst (λ (a : Option (List Val)). row Starts [] (Run (Do (lang.Spawn number es) place) ∷ next) a (slice_get program.procs number)
      ≡ Next (GoesOn w (at_rest (at next) below) (thread_of (new_frame number proc vs []) ∷ []))) (sym there)
      (subst (λ (q : Option Proc). row Starts [] (Run (Do (lang.Spawn number es) place) ∷ next) (Some vs) q
      ≡ Next (GoesOn w (at_rest (at next) below) (thread_of (new_frame number proc vs []) ∷ []))) (sym is_proc) refl))

pub calls_law : CallsLaw
calls_law o program h waiting callee given (calls_one xs number es p proc _ left place next may todo is_proc gives mode) extra w g start f below rest seat =
    let a = entered o w g start f h rest seat p proc es given left number xs gives in
    let step = call_step program extra w f below number es proc a.args.vs place next is_proc a.args.there xs (seat.described.todo ∙ todo) in
    let d = seat.described in
    let pair : Pair o w g start (record f { todo = next }) (record h { todo = next; atoms = left; stepped = true }) (start_values seat.env given) (new_frame number proc a.args.vs xs) (start_path p proc) rest = record {
      env = seat.env;
      other_env = start_values seat.env given;
      piece = a.kept;
      other_piece = a.given_piece;
      pool = seat.pool;
      locks = seat.locks;
      described = record { todo = refl; as_many = d.as_many; locals = d.locals; valuation = d.valuation; started = d.started; facts = d.facts; stands = a.keeps };
      beside = a.begins;
      base = record {
        fits = fits_less (λ e. let l = a.split e in omega arith) seat.base.fits;
        mode = seat.base.mode;
        crash = seat.base.crash;
        free = seat.base.free;
        consistent = seat.base.consistent;
      };
      still = seat.still;
    } in
    subst (λ (answer : Answer Stepped). Calls o g start below (record h { todo = next; atoms = left; stepped = true }) (start_path p proc) given rest answer) (sym step)
    (calls pair (subst (λ (vars : List Var). AgreeOnVars (start_values seat.env given) (given_under given seat.env) vars) (sym gives.vars) (starts_agree seat.env given gives.sorted)))

pub spawns_law : SpawnsLaw
spawns_law o program h k callee given (spawns_one number es p proc _ left place next may shared todo is_proc gives mode) extra w g start f below rest seat =
    let a = entered o w g start f h rest seat p proc es given left number [] gives in
    let step = spawn_step program extra w f below number es proc a.args.vs place next is_proc a.args.there (seat.described.todo ∙ todo) in
    let d = seat.described in
    subst (λ (answer : Answer Stepped). Spawns o g start below (goes_on h next h.locals left) (start_path p proc) given seat.env rest answer) (sym step)
    (spawns (subst (λ (vars : List Var). AgreeOnVars (start_values seat.env given) (given_under given seat.env) vars) (sym gives.vars) (starts_agree seat.env given gives.sorted))
    (record {
      env = seat.env;
      other_env = start_values seat.env given;
      piece = a.kept;
      other_piece = a.given_piece;
      pool = seat.pool;
      locks = seat.locks;
      described = record { todo = refl; as_many = d.as_many; locals = d.locals; valuation = d.valuation; started = d.started; facts = d.facts; stands = a.keeps };
      beside = a.begins;
      base = base_after o w g h.mode h.bracket (λ e. a.kept e + a.given_piece e) seat.pool seat.locks rest (record {
        fits = fits_less (λ e. let l = a.split e in omega arith) seat.base.fits;
        mode = seat.base.mode;
        crash = seat.base.crash;
        free = seat.base.free;
        consistent = seat.base.consistent;
      });
      still = seat.still;
    }))
