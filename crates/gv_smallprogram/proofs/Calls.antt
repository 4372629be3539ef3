-- What a call that the specification allows starts, and what its one step returns.
use Rattle.std.proofs.Common.{◌≡◌, ℕ, zero, suc, ◌+◌, ◌^◌, nat_lt, Bool, true, false, eqb, eqb-true, cond, List, [], ◌∷◌, ◌++◌, length, map, drop, slice_get, Option, Some, None, is_some, option_map, option_and_then, refl, ap, subst, ◌∙◌, arith}
use Rattle.std.specs.List.{list_all}
use Rattle.std.proofs.lemmas.Bool.Decides.{nat_tests}
use Rattle.std.proofs.lemmas.Option.{slice_get-map}
use Rattle.gv_base.specs.declared.small.Small.{Small}
use Rattle.gv_base.specs.declared.small.SmallOp.{SmallOp}
use Rattle.gv_base.specs.declared.answer.Answer.TheVariants.{Next}
use Rattle.gv_base.specs.declared.val.Val.{Val}
use Rattle.gv_base.specs.declared.val.Val.TheVariants as val
use Rattle.gv_world.specs.Store.{Store as World}
use Rattle.gv_base.specs.declared.answers.Place.{Place}
use Rattle.gv_lang.specs.Tree.{Expr, Return, Program}
use Rattle.gv_lang.specs.Todo.{Run}
use Rattle.gv_lang.specs.Values.{value, also}
use Rattle.gv_lang.specs.Table.{Pops, as_values}
use Rattle.gv_lang.specs.Threads.{Thread, zero_of, new_frame, thread_of}
use Rattle.gv_lang.specs.Calls as given
use Rattle.gv_lang.specs.Calls.{placed, all_placed, operation, started_in, called}
use Rattle.gv_lang.specs.Step.{settled, stepped}
use Rattle.gv_world.specs.Answers.{and_then}
use Rattle.gv_terms.specs.declared.value.Value.{Value}
use Rattle.gv_terms.specs.declared.value.Value.TheVariants as value
use Rattle.gv_spec.specs.Machine.{Returns}
use Rattle.gv_smallprogram.specs.Sums.{sum_value}
use Rattle.gv_spec.proofs.Threads.{some_same, append_none}
use Rattle.gv_runs.specs.Machine.{given_of, all_given, left_by, procedure, call_of}
use Rattle.gv_smallprogram.specs.Program.{Unkept, sum_expr, param_locals, method_proc, recovery_proc, program_with}
use Rattle.gv_smallprogram.specs.Specification.{setting_of, word_in, words_in, sum_of, reply_to}
use Rattle.gv_smallprogram.specs.Laws.{is_sound_op, IsSound, IsWord}
use Rattle.gv_smallprogram.proofs.Sums.{and_first, and_second, AreBounded, locals_of, sum_is}
use Rattle.gv_smallprogram.proofs.Names.{stand_behind, found}

bound : {A B : Type 0} (f : A → Option B) (o : Option A) (x : A) → o ≡ Some x → option_and_then f o ≡ f x
bound f o x e = ap (option_and_then f) e

-- ---- arguments

-- values that are numbers below 2 ^ 64, and what places them
pub record AreWords (args : List Value) (ns : List ℕ) : Type 0 where
  pub as_given : all_given args ≡ Some (map given.Word ns)
  pub put : (w : World) → all_placed w (map given.Word ns) ≡ Some (w, map val.Word ns)
  pub bounded : AreBounded ns

pub record IsWordIn (v : Value) (n : ℕ) : Type 0 where
  pub is : v ≡ value.Word n
  pub below : nat_lt n (2 ^ 64) ≡ true

is_word_in : (v : Value) (n : ℕ) → word_in v ≡ Some n → IsWordIn v n
is_word_in (value.Word m) n e = go (nat_lt m (2 ^ 64)) refl e
  where
    go : (b : Bool) → nat_lt m (2 ^ 64) ≡ b → cond b (Some m) None ≡ Some n → IsWordIn (value.Word m) n
    go true h d = (let same : m ≡ n = cc in record { is = ap value.Word same; below = subst (λ x. nat_lt x (2 ^ 64) ≡ true) same h })
    go false h d = absurd cc
is_word_in _ n e = absurd cc

place_word : (w : World) (n : ℕ) → nat_lt n (2 ^ 64) ≡ true → placed w (given.Word n) ≡ Some (w, val.Word n)
place_word w n e = go (nat_lt n (2 ^ 64)) e
  where
    made : World × Val
    made = (w, val.Word n)

    go : (b : Bool) → b ≡ true → cond b (Some made) None ≡ Some made
    go true h = refl
    go false h = absurd cc

more_words : (v : Value) (vs : List Value) (n : ℕ) (ns : List ℕ) → IsWordIn v n → AreWords vs ns → AreWords (v ∷ vs) (n ∷ ns)
more_words v vs n ns one rest = record {
  as_given = bound (λ g. option_map (λ gs. g ∷ gs) (all_given vs)) (given_of v) (given.Word n) (ap given_of one.is) ∙ ap (option_map (λ gs. given.Word n ∷ gs)) rest.as_given;
  put = λ w. bound (λ r. option_map (λ rs. (rs.0, r.1 ∷ rs.1)) (all_placed r.0 (map given.Word ns))) (placed w (given.Word n)) (w, val.Word n) (place_word w n one.below)
      ∙ ap (option_map (λ rs. (rs.0, val.Word n ∷ rs.1))) (rest.put w);
  bounded = (grind (arith, nat_tests, one.below), rest.bounded);
}

first_and_rest : (v : Value) (vs : List Value) (ns : List ℕ) → ((ms : List ℕ) → words_in vs ≡ Some ms → AreWords vs ms) → words_in (v ∷ vs) ≡ Some ns → AreWords (v ∷ vs) ns
first_and_rest v vs ns behind e = go (word_in v) refl (words_in vs) refl e
  where
    go : (o : Option ℕ) → word_in v ≡ o → (p : Option (List ℕ)) → words_in vs ≡ p → option_and_then (λ n. option_map (λ ms. n ∷ ms) p) o ≡ Some ns → AreWords (v ∷ vs) ns
    go None one p rest d = absurd cc
    go (Some n) one None rest d = absurd cc
    go (Some n) one (Some ms) rest d =
        let all : n ∷ ms ≡ ns = some_same (n ∷ ms) ns d in
        subst (AreWords (v ∷ vs)) all (more_words v vs n ms (is_word_in v n one) (behind ms rest))

pub words_are : (args : List Value) (ns : List ℕ) → words_in args ≡ Some ns → AreWords args ns
words_are [] ns e =
    let none : [] ≡ ns = some_same [] ns e in
    subst (AreWords []) none (record { as_given = refl; put = λ w. refl; bounded = tt })
words_are (v ∷ vs) ns e = first_and_rest v vs ns (words_are vs) e

-- ---- calls that are allowed

-- the operation under a number takes these arguments
pub record IsTaken (small : Small) (number : ℕ) (args : List Value) : Type 0 where
  pub op : SmallOp
  pub ns : List ℕ
  pub there : slice_get small.ops number ≡ Some op
  pub words : words_in args ≡ Some ns
  pub long : length ns ≡ length op.params
  pub reply : reply_to small number args ≡ Some (sum_value op ns)

pub taken : (small : Small) (number : ℕ) (args : List Value) → is_some (reply_to small number args) ≡ true → IsTaken small number args
taken small number args e = by_op (slice_get small.ops number) refl e
  where
    by_length : (op : SmallOp) (ns : List ℕ) (b : Bool) → eqb (length ns) (length op.params) ≡ b → slice_get small.ops number ≡ Some op → words_in args ≡ Some ns
        → is_some (cond b (Some (sum_value op ns)) None) ≡ true → IsTaken small number args
    by_length op ns false same there words d = absurd cc
    by_length op ns true same there words d = record {
      op = op;
      ns = ns;
      there = there;
      words = words;
      long = eqb-true (length ns) (length op.params) same;
      reply = bound (λ o. option_and_then (λ ms. sum_of ms o) (words_in args)) (slice_get small.ops number) op there
          ∙ bound (λ ms. sum_of ms op) (words_in args) ns words
          ∙ ap (λ c. cond c (Some (sum_value op ns)) None) same;
    }

    by_words : (op : SmallOp) (p : Option (List ℕ)) → words_in args ≡ p → slice_get small.ops number ≡ Some op → is_some (option_and_then (λ ns. sum_of ns op) p) ≡ true → IsTaken small number args
    by_words op None words there d = absurd cc
    by_words op (Some ns) words there d = by_length op ns (eqb (length ns) (length op.params)) refl there words d

    by_op : (o : Option SmallOp) → slice_get small.ops number ≡ o → is_some (option_and_then (λ op. option_and_then (λ ns. sum_of ns op) (words_in args)) o) ≡ true → IsTaken small number args
    by_op None there d = absurd cc
    by_op (Some op) there d = by_words op (words_in args) refl there d

-- ---- the thread of a call

all_params : (names : List (List ℕ)) (number : ℕ) → drop (length names) (param_locals number names) ≡ []
all_params [] number = refl
all_params (n ∷ names) number = all_params names (suc number)

-- a frame that is to return an expression
abbrev returning : ℕ → List Val → Expr → Place → Thread
returning number locals e place = thread_of (record { proc = number; locals = locals; todo = Run (Return (e ∷ []) place) ∷ []; results = [] })

returns_value : (g : Program) (extra : ℕ) (w : World) (number : ℕ) (locals : List Val) (e : Expr) (place : Place) (v : Val) → value locals e ≡ Some v
    → left_by (stepped g extra (returning number locals e place) w) ≡ Next (Returns w (v ∷ []))
returns_value g extra w number locals e place v is =
    ap (λ o. left_by (and_then (and_then (as_values (also o (Some []))) (λ vs. Next (Pops vs))) (settled (returning number locals e place) w None))) is

module _ (unkept : Unkept) (small : Small) (word : IsWord unkept) (sound : IsSound small) where
  abbrev pub program : Program
  program = program_with unkept small

  -- the thread of an allowed call, on a receiver that is one value
  pub record IsCalled (number : ℕ) (args : List Value) (receiver : Val) (w : World) (t : IsTaken small number args) : Type 0 where
    pub proc : ℕ
    pub name : List ℕ
    pub place : Place
    pub is : call_of program (setting_of small) (receiver ∷ []) number args w
        ≡ Some (w, thread_of (new_frame proc (method_proc unkept.type_name name place t.op) (receiver ∷ map val.Word t.ns) []))

  pub is_called : (number : ℕ) (args : List Value) (receiver : Val) (w : World) (t : IsTaken small number args) → IsCalled number args receiver w t
  is_called number args receiver w t =
      let f = found unkept program word 1 0 small.ops number t.op (stand_behind unkept (recovery_proc unkept.recovers) small.ops) sound.names t.there in
      let ready = words_are args t.ns t.words in
      let named : procedure program (setting_of small) number ≡ Some f.number =
      bound (λ name. operation program name) (slice_get (map (λ o. o.name) small.ops) number) t.op.name
      (slice_get-map (λ o. o.name) small.ops number ∙ ap (option_map (λ o. o.name)) t.there) ∙ f.is in
      record {
        proc = f.number;
        name = f.at.receiver;
        place = f.at.place;
        is = bound (λ p. option_and_then (λ givens. called program p (receiver ∷ []) givens w) (all_given args)) (procedure program (setting_of small) number) f.number named
            ∙ bound (λ givens. called program f.number (receiver ∷ []) givens w) (all_given args) (map given.Word t.ns) ready.as_given
            ∙ bound (λ r. started_in program f.number (receiver ∷ []) r) (all_placed w (map given.Word t.ns)) (w, map val.Word t.ns) (ready.put w)
            ∙ ap (λ o. option_map (λ thread. (w, thread)) (option_map (λ q. thread_of (new_frame f.number q (receiver ∷ map val.Word t.ns) [])) o)) f.at.there;
      }

  all_sound : (ops : List SmallOp) (number : ℕ) (op : SmallOp) → list_all is_sound_op ops ≡ true → slice_get ops number ≡ Some op → is_sound_op op ≡ true
  all_sound [] number op h e = absurd cc
  all_sound (o ∷ ops) zero op h e = (let first : o ≡ op = cc in subst (λ x. is_sound_op x ≡ true) first (and_first (is_sound_op o) (list_all is_sound_op ops) h))
  all_sound (o ∷ ops) (suc number) op h e = all_sound ops number op (and_second (is_sound_op o) (list_all is_sound_op ops) h) e

  -- its one step returns the Sum, and leaves the world
  pub call_step : (number : ℕ) (args : List Value) (receiver : Val) (t : IsTaken small number args) (proc : ℕ) (name : List ℕ) (place : Place) (extra : ℕ) (u : World)
      → left_by (stepped program extra (thread_of (new_frame proc (method_proc unkept.type_name name place t.op) (receiver ∷ map val.Word t.ns) [])) u)
      ≡ Next (Returns u (val.Word (sum_value t.op t.ns) ∷ []))
  call_step number args receiver t proc name place extra u =
      let full : (receiver ∷ map val.Word t.ns) ++ map (λ l. zero_of l.kind) (drop (length t.op.params) (param_locals 2 t.op.params)) ≡ locals_of receiver t.ns =
      ap (λ ls. (receiver ∷ map val.Word t.ns) ++ map (λ l. zero_of l.kind) ls) (all_params t.op.params 2) ∙ append_none (receiver ∷ map val.Word t.ns) in
      let sum = sum_is receiver t.ns (words_are args t.ns t.words).bounded t.op t.long (all_sound small.ops number t.op sound.sums t.there) in
      ap (λ ls. left_by (stepped program extra (returning proc ls (sum_expr t.op) place) u)) full
      ∙ returns_value program extra u proc (locals_of receiver t.ns) (sum_expr t.op) place (val.Word (sum_value t.op t.ns)) sum
