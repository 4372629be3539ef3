-- A call that is allowed starts, where interfaces agree.
use Rattle.std.proofs.Common.{◌≡◌, ℕ, ◌<◌, ◌^◌, nat_eq, nat_lt, Bool, true, false, ◌&&◌, cond, List, [], ◌∷◌, ◌++◌, map, drop, Option, Some, None, option_map, option_and_then, refl, sym, ap, subst, ◌∙◌, arith}
use Rattle.std.specs.List.{slice_get, AllByRecursion}
use Rattle.std.proofs.lemmas.Option.{slice_get-map}
use Rattle.std.proofs.lemmas.Bool.Decides.{nat_tests}
use Rattle.gv_base.specs.declared.reason.Reason.{Reason}
use Rattle.gv_base.specs.declared.answer.Answer.{Answer}
use Rattle.gv_base.specs.declared.answer.Answer.TheVariants.{Next}
use Rattle.gv_base.specs.declared.val.Val.{Val}
use Rattle.gv_base.specs.declared.val.Val.TheVariants as val
use Rattle.gv_words.specs.Words.{words}
use Rattle.gv_world.specs.Store.{Store as World}
use Rattle.gv_lang.specs.declared.program.LocalKind.{LocalKind}
use Rattle.gv_lang.specs.Tree.{Proc, Program}
use Rattle.gv_lang.specs.Kinds.{params_of}
use Rattle.gv_lang.specs.Threads.{Thread, new_frame, thread_of}
use Rattle.gv_lang.specs.Calls as given
use Rattle.gv_lang.specs.Calls.{Given, is_buffer, buffered, placed, all_placed, operation, started, started_in, called}
use Rattle.gv_terms.specs.declared.sort.Sort.{Sort}
use Rattle.gv_terms.specs.declared.sort.Sort.TheVariants as sort
use Rattle.gv_terms.specs.declared.value.Value.{Value}
use Rattle.gv_terms.specs.declared.value.Value.TheVariants as value
use Rattle.gv_terms.specs.declared.var.Var.{Var}
use Rattle.gv_terms.specs.Values.{has_sort}
use Rattle.gv_atomic.specs.declared.spec.Op.{Op}
use Rattle.gv_atomic.specs.declared.spec.Spec.{Spec}
use Rattle.gv_spec.specs.Event as event
use Rattle.gv_spec.specs.Runs.{RunState, unless_undefined, call_started, call_made, outcome_of}
use Rattle.gv_spec.specs.Atomic.{are_of, are_args_of, are_args, atomic_of}
use Rattle.gv_spec.specs.Meaning.{allows}
use Rattle.gv_runs.specs.Machine.{Setting, setting_of, given_of, all_given, procedure, call_of, machine_of}
use Rattle.gv_runs.specs.Agreeing.{kind_for, AgreesAt, Agree}
use Rattle.gv_runs.specs.Laws.{State, IsInRange, CallsStart}

and_first : (a b : Bool) → (a && b) ≡ true → a ≡ true
and_first true b e = refl
and_first false b e = absurd cc

and_second : (a b : Bool) → (a && b) ≡ true → b ≡ true
and_second true b e = e
and_second false b e = absurd cc

when_true : {A : Type 0} (b : Bool) (x : A) → b ≡ true → cond b (Some x) None ≡ Some x
when_true true x e = refl
when_true false x e = absurd cc

bound : {A B : Type 0} (f : A → Option B) (o : Option A) (x : A) → o ≡ Some x → option_and_then f o ≡ f x
bound f o x e = ap (option_and_then f) e

-- ---- arguments

-- an argument as the program is given it, with what places it
pub record IsGiven (v : Value) : Type 0 where
  pub given : Given
  pub is : given_of v ≡ Some given
  pub placed : (w : World) → (r : World × Val) × (placed w given ≡ Some r)

pub record AreGiven (vs : List Value) : Type 0 where
  pub givens : List Given
  pub are : all_given vs ≡ Some givens
  pub placed : (w : World) → (r : World × List Val) × (all_placed w givens ≡ Some r)

given_one : (v : Value) (s : Sort) (k : LocalKind) → kind_for s ≡ Some k → has_sort v s ≡ true → IsInRange v → IsGiven v
given_one (value.Word n) sort.Word k e h r = record {
  given = given.Word n;
  is = refl;
  placed = λ w. ((w, val.Word n), when_true (nat_lt n words) (w, val.Word n) (grind (arith, nat_tests, r)));
}
given_one (value.Bool b) sort.Bool k e h r = record { given = given.Truth b; is = refl; placed = λ w. ((w, val.Bool b), refl) }
given_one (value.Bytes x) sort.Bytes k e h r = record {
  given = given.Bytes x;
  is = refl;
  placed = λ w. (buffered w x, when_true (is_buffer x) (buffered w x) r);
}
given_one _ sort.Word k e h r = absurd cc
given_one _ sort.Bool k e h r = absurd cc
given_one _ sort.Bytes k e h r = absurd cc
given_one _ _ k e h r = absurd cc

joined : (v : Value) (vs : List Value) → IsGiven v → AreGiven vs → AreGiven (v ∷ vs)
joined v vs one rest = record {
  givens = one.given ∷ rest.givens;
  are = bound (λ g. option_map (λ gs. g ∷ gs) (all_given vs)) (given_of v) one.given one.is ∙ ap (option_map (λ gs. one.given ∷ gs)) rest.are;
  placed = λ w.
      let (first, e) = one.placed w in
      let (others, d) = rest.placed first.0 in (
        (others.0, first.1 ∷ others.1),
        bound (λ r. option_map (λ rs. (rs.0, r.1 ∷ rs.1)) (all_placed r.0 rest.givens)) (placed w one.given) first e
            ∙ ap (option_map (λ rs. (rs.0, first.1 ∷ rs.1))) d,
      );
}

given_all : (ks : List LocalKind) (params : List Var) (vs : List Value) → map Some ks ≡ map (λ v. kind_for v.sort) params
    → are_of params vs ≡ true → AllByRecursion IsInRange vs → AreGiven vs
given_all ks [] [] same fit r = record { givens = []; are = refl; placed = λ w. ((w, []), refl) }
given_all ks [] (v ∷ vs) same fit r = absurd cc
given_all ks (p ∷ params) [] same fit r = absurd cc
given_all [] (p ∷ params) (v ∷ vs) same fit r = absurd cc
given_all (k ∷ ks) (p ∷ params) (v ∷ vs) same fit r =
    let first : kind_for p.sort ≡ Some k = cc in
    let others : map Some ks ≡ map (λ v. kind_for v.sort) params = cc in
    joined v vs
    (given_one v p.sort k first (and_first (has_sort v p.sort) (are_of params vs) fit) r.0)
    (given_all ks params vs others (and_second (has_sort v p.sort) (are_of params vs) fit) r.1)

-- ---- the call

-- the operation under a number, where it takes these arguments
pub record IsTaken (s : Spec) (op : ℕ) (args : List Value) : Type 0 where
  pub found : Op
  pub is : slice_get s.ops op ≡ Some found
  pub fit : are_of found.params args ≡ true

taken : (s : Spec) (op : ℕ) (args : List Value) → are_args s op args ≡ true → IsTaken s op args
taken s op args e = go (slice_get s.ops op) refl e
  where
    go : (o : Option Op) → slice_get s.ops op ≡ o → are_args_of o args ≡ true → IsTaken s op args
    go None is fit = absurd cc
    go (Some o) is fit = record { found = o; is = is; fit = fit }

called_with : (g : Program) (f : ℕ) (p : Proc) (receiver : List Val) (givens : List Given) (w : World) (r : World × List Val)
    → slice_get g.procs f ≡ Some p → all_placed w givens ≡ Some r
    → called g f receiver givens w ≡ Some (r.0, thread_of (new_frame f p (receiver ++ r.1) []))
called_with g f p receiver givens w r there placed =
    bound (λ found. started_in g f receiver found) (all_placed w givens) r placed
    ∙ ap (λ o. option_map (λ thread. (r.0, thread)) (option_map (λ q. thread_of (new_frame f q (receiver ++ r.1) [])) o)) there

found_call : (g : Program) (s : Spec) (receiver : List Val) (op : ℕ) (args : List Value) (w : World) → (t : IsTaken s op args) → AgreesAt g s op t.found
    → AllByRecursion IsInRange args → (called : World × Thread) × (call_of g (setting_of s) receiver op args w ≡ Some called)
found_call g s receiver op args w t at r =
    let given = given_all (drop 1 (params_of at.proc)) t.found.params args at.params t.fit r in
    let (places, e) = given.placed w in
    let named : procedure g (setting_of s) op ≡ Some at.place =
    bound (λ name. operation g name) (slice_get (map (λ o. o.name) s.ops) op) t.found.name
    (slice_get-map (λ o. o.name) s.ops op ∙ ap (option_map (λ o. o.name)) t.is) ∙ at.named in (
      (places.0, thread_of (new_frame at.place at.proc (receiver ++ places.1) [])),
      bound (λ f. option_and_then (λ givens. called g f receiver givens w) (all_given args)) (procedure g (setting_of s) op) at.place named
          ∙ bound (λ givens. called g at.place receiver givens w) (all_given args) given.givens given.are
          ∙ called_with g at.place at.proc receiver given.givens w places at.there e,
    )

pub calls_start : CallsStart
calls_start g spec agrees s receiver op args none booted allowed r =
    let t = taken spec op args (and_first (are_args spec op args) (allows spec op args) allowed) in
    let (called, e) = found_call g spec receiver op args s.world t (agrees.ops op t.found t.is) r in (
      _,
      ap (λ o. unless_undefined o (call_made (machine_of g (setting_of spec)) s op args s.receiver ((atomic_of spec).allows op args))) none
          ∙ ap (λ o. call_made (machine_of g (setting_of spec)) s op args o ((atomic_of spec).allows op args)) booted
          ∙ ap (λ b. call_made (machine_of g (setting_of spec)) s op args (Some receiver) b) allowed
          ∙ ap (call_started s op args) e,
    )
