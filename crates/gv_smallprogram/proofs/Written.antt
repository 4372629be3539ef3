-- The program of a package of the small form refines each written specification with the same operations and the same Sums.
use Rattle.std.proofs.Common.{◌≡◌, ℕ, zero, suc, ◌^◌, nat_lt, Bool, true, false, ◌&&◌, nat_eq, eqb-true, eq-eqb, cond, List, [], ◌∷◌, ◌++◌, length, map, replicate, slice_get, Option, Some, None, option_map, option_and_then, Ok, refl, sym, ap, subst, ◌∙◌, arith, append-nil}
use Rattle.std.specs.List.{list_all}
use Rattle.std.proofs.lemmas.List.{length-map}
use Rattle.std.proofs.lemmas.Option.{cond_some, option_and_then_some}
use Rattle.gv_base.specs.declared.answers.Place.{Place}
use Rattle.gv_base.specs.declared.small.Small.{Small}
use Rattle.gv_base.specs.declared.small.SmallOp.{SmallOp}
use Rattle.gv_base.specs.declared.small.Turn.{Turn}
use Rattle.gv_base.specs.declared.val.Val.{Val}
use Rattle.gv_base.specs.declared.val.Val.TheVariants as val
use Rattle.gv_small.specs.declared.sum_reader.Sum.{Sum}
use Rattle.gv_world.specs.Store.{Cells, Store as World, fresh, with_new, zero_disk}
use Rattle.gv_lang.specs.Tree.{Program}
use Rattle.gv_lang.specs.Threads.{Thread, new_frame, thread_of}
use Rattle.gv_lang.specs.Calls as given
use Rattle.gv_lang.specs.Calls.{all_placed, started_in, called}
use Rattle.gv_terms.specs.declared.sort.Sort.{Sort}
use Rattle.gv_terms.specs.declared.sort.Sort.TheVariants as sort
use Rattle.gv_terms.specs.declared.term.Term.{Term}
use Rattle.gv_terms.specs.declared.tree.TermTree.{TermTree}
use Rattle.gv_terms.specs.declared.value.Value.{Value}
use Rattle.gv_terms.specs.declared.value.Value.TheVariants as value
use Rattle.gv_terms.specs.declared.var.Var.{Var}
use Rattle.gv_terms.specs.Store.{tree_at}
use Rattle.gv_terms.specs.Values.{has_sort}
use Rattle.gv_atomic.specs.declared.spec.Op.{Op}
use Rattle.gv_atomic.specs.declared.spec.Pick.{Pick}
use Rattle.gv_atomic.specs.declared.spec.Spec.{Spec}
use Rattle.gv_atomic.specs.Choices.{bound, are_allowed, picks_bound}
use Rattle.gv_atomic.specs.Specification.{fields_bound, args_bound, op_before, op_env, reply_value, crash_fields}
use Rattle.gv_smallspec.specs.SmallSpec.{is_word, only_replies, reply_sum, op_of, word_names, small_op, sum_of, IsSmallOf}
use Rattle.gv_spec.specs.Atomic.{are_of, are_args, are_args_of, atomic_of}
use Rattle.gv_spec.specs.Machine.{Machine}
use Rattle.gv_spec.specs.Meaning.{allows, chooses, op_chooses_or, op_reply_or, fields_after, reply_of}
use Rattle.gv_spec.specs.Refines.{Refines}
use Rattle.gv_smallprogram.specs.Sums.{sum_value}
use Rattle.gv_spec.specs.Specification.{Specification}
use Rattle.gv_spec.proofs.Threads.{some_same}
use Rattle.gv_runs.specs.Machine as runs
use Rattle.gv_runs.specs.Machine.{Setting, all_given, procedure, call_of, machine_of}
use Rattle.gv_smallprogram.specs.Program.{Unkept, method_proc, program_with}
use Rattle.gv_smallprogram.specs.Specification.{setting_of, words_in, sum_of as value_of_sum}
use Rattle.gv_smallprogram.specs.Laws.{is_sound_part, is_sound_op, IsSound, IsWord, ProgramsRefineWritten}
use Rattle.gv_smallprogram.proofs.AtOnce.{Alone, AnswersAtOnce, RecoveryStep, recovery_goes, recovery_returns, CallStep, call_returns, Calling, refines_at_once}
use Rattle.gv_smallprogram.proofs.Calls.{IsTaken, words_are, is_called, call_step}
use Rattle.gv_smallprogram.proofs.Runs.{handing, IsRecovering, makes, hands, IsReceiver, none_fails, same_of_agree, same_small}
use Rattle.gv_smallprogram.proofs.Sums.{and_first, and_second, AreBounded, part_below}
use Rattle.gv_smallprogram.proofs.Terms.{AreBelow, term_worth}

-- ---- an operation that is a small one

record IsReply (ts : List TermTree) (o : Op) (q : SmallOp) : Type 0 where
  name : o.name ≡ q.name
  all_words : list_all (λ v. is_word v.sort) o.params ≡ true
  params : map (λ v. v.name) o.params ≡ q.params
  picks : o.picks ≡ []
  term : Term
  reply : o.reply ≡ Some term
  sum : sum_of o.params (tree_at ts term.id) ≡ Some (record { first = q.first; rest = q.rest })

cond_is : {A : Type 0} (b : Bool) (o : Option A) (y : A) → cond b o None ≡ Some y → (b ≡ true) × (o ≡ Some y)
cond_is true o y e = (refl, e)
cond_is false o y e = absurd cc

no_pick : (picks : List Pick) → nat_eq (length picks) 0 ≡ true → picks ≡ []
no_pick [] e = refl
no_pick (p ∷ picks) e = absurd (let none = eqb-true (length (p ∷ picks)) 0 e in omega (arith, none))

is_reply : (ts : List TermTree) (o : Op) (q : SmallOp) → small_op ts o ≡ Some q → IsReply ts o q
is_reply ts o q e =
    let only = cond_is (only_replies ts o) (op_of o.name (word_names o.params) (reply_sum ts o.params o.reply)) q e in
    let nothing = and_second _ (nat_eq (length o.picks) 0 && nat_eq (length o.body) 0) only.0 in
    parts (word_names o.params) refl o.reply refl (no_pick o.picks (and_first (nat_eq (length o.picks) 0) (nat_eq (length o.body) 0) nothing)) only.1
  where
    of_sum : (names : List (List ℕ)) → word_names o.params ≡ Some names → (t : Term) → o.reply ≡ Some t → o.picks ≡ [] → (s : Option Sum) → sum_of o.params (tree_at ts t.id) ≡ s
        → op_of o.name (Some names) s ≡ Some q → IsReply ts o q
    of_sum names h t r picks None k d = absurd cc
    of_sum names h t r picks (Some sum) k d =
        let given : SmallOp = record { name = o.name; params = names; first = sum.first; rest = sum.rest } in
        let same : given ≡ q = some_same given q d in
        let all = cond_some (list_all (λ v. is_word v.sort) o.params) (map (λ v. v.name) o.params) names h in
        record {
          name = ap (λ (x : SmallOp). x.name) same;
          all_words = all.0;
          params = all.1 ∙ ap (λ (x : SmallOp). x.params) same;
          picks = picks;
          term = t;
          reply = r;
          sum = k ∙ ap (λ (x : SmallOp). let s : Sum = record { first = x.first; rest = x.rest } in Some s) same;
        }

    parts : (names : Option (List (List ℕ))) → word_names o.params ≡ names → (r : Option Term) → o.reply ≡ r → o.picks ≡ [] → op_of o.name names (reply_sum ts o.params r) ≡ Some q
        → IsReply ts o q
    parts None h r k picks d = absurd cc
    parts (Some names) h None k picks d = absurd cc
    parts (Some names) h (Some t) k picks d = of_sum names h t k picks (sum_of o.params (tree_at ts t.id)) refl d

-- each operation is the small one at its place
record StandsAt {A B : Type 0} (f : A → Option B) (ys : List B) (n : ℕ) (x : A) : Type 0 where
  it : B
  there : slice_get ys n ≡ Some it
  is : f x ≡ Some it

stands_at : {A B : Type 0} (f : A → Option B) (xs : List A) (ys : List B) (n : ℕ) (x : A) → map f xs ≡ map Some ys → slice_get xs n ≡ Some x → StandsAt f ys n x
stands_at f [] ys n x e p = absurd cc
stands_at f (a ∷ xs) [] n x e p = absurd cc
stands_at f (a ∷ xs) (y ∷ ys) zero x e p =
    let same : a ≡ x = some_same a x p in
    let first : f a ≡ Some y = cc in
    record { it = y; there = refl; is = ap f (sym same) ∙ first }
stands_at f (a ∷ xs) (y ∷ ys) (suc n) x e p =
    let rest : map f xs ≡ map Some ys = cc in
    let found = stands_at f xs ys n x rest p in
    record { it = found.it; there = found.there; is = found.is }

names_same : (ts : List TermTree) (os : List Op) (qs : List SmallOp) → map (small_op ts) os ≡ map Some qs → map (λ o. o.name) os ≡ map (λ q. q.name) qs
names_same ts [] [] e = refl
names_same ts [] (q ∷ qs) e = absurd cc
names_same ts (o ∷ os) [] e = absurd cc
names_same ts (o ∷ os) (q ∷ qs) e =
    let first : small_op ts o ≡ Some q = cc in
    let rest : map (small_op ts) os ≡ map Some qs = cc in
    let one = is_reply ts o q first in
    ap (λ n. n ∷ map (λ o. o.name) os) one.name ∙ ap (λ ns. q.name ∷ ns) (names_same ts os qs rest)

-- ---- arguments

record AreNumbers (params : List Var) (args : List Value) : Type 0 where
  ns : List ℕ
  are : args ≡ map value.Word ns
  long : length ns ≡ length params

record IsNumber (v : Value) : Type 0 where
  n : ℕ
  is : v ≡ value.Word n

is_number : (s : Sort) (v : Value) → is_word s ≡ true → has_sort v s ≡ true → IsNumber v
is_number sort.Word (value.Word n) w h = record { n = n; is = refl }
is_number sort.Word _ w h = absurd cc
is_number _ v w h = absurd cc

are_numbers : (params : List Var) (args : List Value) → list_all (λ v. is_word v.sort) params ≡ true → are_of params args ≡ true → AreNumbers params args
are_numbers [] [] w h = record { ns = []; are = refl; long = refl }
are_numbers [] (v ∷ args) w h = absurd cc
are_numbers (p ∷ params) [] w h = absurd cc
are_numbers (p ∷ params) (v ∷ args) w h =
    let one = is_number p.sort v (and_first (is_word p.sort) (list_all (λ v. is_word v.sort) params) w) (and_first (has_sort v p.sort) (are_of params args) h) in
    let more = are_numbers params args (and_second (is_word p.sort) (list_all (λ v. is_word v.sort) params) w) (and_second (has_sort v p.sort) (are_of params args) h) in
    record { ns = one.n ∷ more.ns; are = ap (λ x. x ∷ args) one.is ∙ ap (λ xs. value.Word one.n ∷ xs) more.are; long = ap suc more.long }

given_words : (ns : List ℕ) → all_given (map value.Word ns) ≡ Some (map given.Word ns)
given_words [] = refl
given_words (n ∷ ns) = ap (option_map (λ gs. given.Word n ∷ gs)) (given_words ns)

abbrev placed_one : World → ℕ → World × Val
placed_one w n = (w, val.Word n)

abbrev with_first : Val → World × List Val → World × List Val
with_first v rest = (rest.0, v ∷ rest.1)

-- numbers that the machine takes are below 2 ^ 64
abbrev ArePlaced : World → List ℕ → Type 0
ArePlaced w ns = (r : World × List Val) → all_placed w (map given.Word ns) ≡ Some r → words_in (map value.Word ns) ≡ Some ns

placed_words : (w : World) (ns : List ℕ) → ArePlaced w ns
placed_words w [] r e = refl
placed_words w (n ∷ ns) r e = go (λ x p. placed_words w ns x p) (nat_lt n (2 ^ 64)) refl e
  where
    behind : ArePlaced w ns → nat_lt n (2 ^ 64) ≡ true → (o : Option (World × List Val)) → all_placed w (map given.Word ns) ≡ o → option_map (with_first (val.Word n)) o ≡ Some r
        → words_in (map value.Word (n ∷ ns)) ≡ Some (n ∷ ns)
    behind more h None p d = absurd cc
    behind more h (Some x) p d =
        ap (λ b. option_and_then (λ m. option_map (λ ms. m ∷ ms) (words_in (map value.Word ns))) (cond b (Some n) None)) h
        ∙ ap (option_map (λ ms. n ∷ ms)) (more x p)

    go : ArePlaced w ns → (b : Bool) → nat_lt n (2 ^ 64) ≡ b
        → option_and_then (λ (x : World × Val). option_map (with_first x.1) (all_placed x.0 (map given.Word ns))) (cond b (Some (placed_one w n)) None) ≡ Some r
        → words_in (map value.Word (n ∷ ns)) ≡ Some (n ∷ ns)
    go more false h d = absurd cc
    go more true h d = behind more h (all_placed w (map given.Word ns)) refl d

called_words : (g : Program) (s : Setting) (receiver : List Val) (number : ℕ) (ns : List ℕ) (w : World) (made : World × Thread) → call_of g s receiver number (map value.Word ns) w ≡ Some made
    → words_in (map value.Word ns) ≡ Some ns
called_words g s receiver number ns w made e =
    option_and_then_some (λ f. option_and_then (λ givens. called g f receiver givens w) (all_given (map value.Word ns))) (procedure g s number) made e
    (λ f p d. option_and_then_some (λ found. started_in g f receiver found) (all_placed w (map given.Word ns)) made (sym (ap (option_and_then (λ givens. called g f receiver givens w)) (given_words ns)) ∙ d)
    (λ x q c. placed_words w ns x q))

-- ---- what is added or taken away

sound_at : (ops : List SmallOp) (n : ℕ) (q : SmallOp) → list_all is_sound_op ops ≡ true → slice_get ops n ≡ Some q → is_sound_op q ≡ true
sound_at [] n q h e = absurd cc
sound_at (o ∷ ops) zero q h e = subst (λ x. is_sound_op x ≡ true) (some_same o q e) (and_first (is_sound_op o) (list_all is_sound_op ops) h)
sound_at (o ∷ ops) (suc n) q h e = sound_at ops n q (and_second (is_sound_op o) (list_all is_sound_op ops) h) e

all_below : (ns : List ℕ) → AreBounded ns → (rest : List Turn) → list_all (λ t. is_sound_part (length ns) t.part) rest ≡ true → AreBelow ns rest
all_below ns bounded [] h = tt
all_below ns bounded (t ∷ rest) h = (
  part_below ns bounded t.part (and_first (is_sound_part (length ns) t.part) (list_all (λ u. is_sound_part (length ns) u.part) rest) h),
  all_below ns bounded rest (and_second (is_sound_part (length ns) t.part) (list_all (λ u. is_sound_part (length ns) u.part) rest) h),
)

turns_below : (q : SmallOp) (ns : List ℕ) → AreBounded ns → length ns ≡ length q.params → is_sound_op q ≡ true → AreBelow ns q.rest
turns_below q ns bounded long h =
    all_below ns bounded q.rest (subst (λ n. list_all (λ t. is_sound_part n t.part) q.rest ≡ true) (sym long)
    (and_second (is_sound_part (length q.params) q.first) (list_all (λ t. is_sound_part (length q.params) t.part) q.rest) h))

-- ---- one step

-- there is no disk
abbrev Fits : World → List Value → Type 0
Fits w fields = w.disks ≡ []

taken_if : (small : Small) (number : ℕ) (q : SmallOp) (args : List Value) (ns : List ℕ) → slice_get small.ops number ≡ Some q → words_in args ≡ Some ns → length ns ≡ length q.params → IsTaken small number args
taken_if small number q args ns there words long = record {
  op = q;
  ns = ns;
  there = there;
  words = words;
  long = long;
  reply = ap (option_and_then (λ op. option_and_then (λ ms. value_of_sum ms op) (words_in args))) there
      ∙ ap (option_and_then (λ ms. value_of_sum ms q)) words
      ∙ ap (λ c. cond c (Some (sum_value q ns)) None) (eq-eqb (length ns) (length q.params) long);
}

module _ (unkept : Unkept) (small : Small) (s : Spec) (word : IsWord unkept) (sound : IsSound small) (is : IsSmallOf s small) where
  abbrev program : Program
  program = program_with unkept small

  abbrev machine : Machine World Thread (List Val) Value
  machine = machine_of program (runs.setting_of s)

  abbrev atomic : Specification (List Value) Value
  atomic = atomic_of s

  -- what is known of a call that the specification allows
  record IsAllowed (number : ℕ) (args : List Value) : Type 0 where
    o : Op
    there : slice_get s.ops number ≡ Some o
    q : SmallOp
    at_its_place : slice_get small.ops number ≡ Some q
    replies : IsReply s.store o q
    numbers : AreNumbers o.params args

  is_allowed : (number : ℕ) (args : List Value) → atomic.allows number args ≡ true → IsAllowed number args
  is_allowed number args h = go (slice_get s.ops number) refl (and_first (are_args s number args) (allows s number args) h)
    where
      go : (found : Option Op) → slice_get s.ops number ≡ found → are_args_of found args ≡ true → IsAllowed number args
      go None p d = absurd cc
      go (Some o) p d =
          let small_one = stands_at (small_op s.store) s.ops small.ops number o is.ops p in
          let replies = is_reply s.store o small_one.it small_one.is in
          record { o = o; there = p; q = small_one.it; at_its_place = small_one.there; replies = replies; numbers = are_numbers o.params args replies.all_words d }

  -- as many numbers as the operation has parameters
  long_of : (number : ℕ) (args : List Value) (k : IsAllowed number args) → length k.numbers.ns ≡ length k.q.params
  long_of number args k = k.numbers.long ∙ sym (length-map k.o.params (λ v. v.name)) ∙ ap length k.replies.params

  nothing_chosen : (number : ℕ) (args fields : List Value) → IsAllowed number args → chooses s number args [] fields ≡ true
  nothing_chosen number args fields k =
      ap (λ o. op_chooses_or s o args [] fields) k.there ∙ ap (λ picks. are_allowed s.store (op_before s k.o args fields) picks []) k.replies.picks

  -- an operation's valuation binds its arguments alone
  bound_alone : (number : ℕ) (args fields : List Value) (k : IsAllowed number args) → (op_env s k.o args [] fields).bindings ≡ bound (map (λ v. v.name) k.o.params) (map value.Word k.numbers.ns)
  bound_alone number args fields k =
      ap (λ fs. (fields_bound fs fields ++ args_bound k.o.params args) ++ picks_bound k.o.picks []) is.fields
      ∙ ap (λ picks. args_bound k.o.params args ++ picks_bound picks []) k.replies.picks
      ∙ append-nil (args_bound k.o.params args)
      ∙ ap (λ vs. args_bound k.o.params vs) k.numbers.are

  reply_is : (number : ℕ) (args fields : List Value) (k : IsAllowed number args) → AreBounded k.numbers.ns → reply_of s number args [] fields ≡ value.Word (sum_value k.q k.numbers.ns)
  reply_is number args fields k bounded =
      let sum : Sum = record { first = k.q.first; rest = k.q.rest } in
      let below = turns_below k.q k.numbers.ns bounded (long_of number args k) (sound_at small.ops number k.q sound.sums k.at_its_place) in
      ap (λ o. op_reply_or s o args [] fields) k.there
      ∙ ap (λ r. reply_value s.store (op_env s k.o args [] fields) r) k.replies.reply
      ∙ term_worth k.o.params k.numbers.ns (op_env s k.o args [] fields) k.numbers.long (bound_alone number args fields k) (tree_at s.store k.replies.term.id) sum k.replies.sum below

  plain : Alone atomic
  plain = record {
    applied = λ number args fields. (fields_after s number args [] fields, reply_of s number args [] fields);
    crashed = λ fields. crash_fields s [] fields;
    applies = λ number args fields h.
        ap (λ b. cond b (Some (fields_after s number args [] fields, reply_of s number args [] fields)) None) (nothing_chosen number args fields (is_allowed number args h));
    crashes = λ fields. ap (λ picks. cond (are_allowed s.store (fields_bound s.fields fields) picks []) (Some (crash_fields s [] fields)) None) is.crash_picks;
  }

  -- calls are made as with the setting of the small form
  same_call : (r : List Val) (number : ℕ) (args : List Value) (w : World) → call_of program (runs.setting_of s) r number args w ≡ call_of program (setting_of small) r number args w
  same_call r number args w = ap (λ names. call_of program (record { disks = 0; blocks = 0; names = names }) r number args w) (names_same s.store s.ops small.ops is.ops)

  record IsStarted (number : ℕ) (args : List Value) (k : IsAllowed number args) : Type 0 where
    words : words_in args ≡ Some k.numbers.ns
    bounded : AreBounded k.numbers.ns
    taken : IsTaken small number args
    its_op : taken.op ≡ k.q
    its_words : taken.ns ≡ k.numbers.ns

  is_started : (r : List Val) (number : ℕ) (args : List Value) (w : World) (made : World × Thread) → (k : IsAllowed number args) → machine.called r number args w ≡ Some made → IsStarted number args k
  unfolding taken_if
  is_started r number args w made k e =
      let with_numbers : call_of program (runs.setting_of s) r number (map value.Word k.numbers.ns) w ≡ Some made =
      subst (λ vs. call_of program (runs.setting_of s) r number vs w ≡ Some made) k.numbers.are e in
      let given = called_words program (runs.setting_of s) r number k.numbers.ns w made with_numbers in
      let words : words_in args ≡ Some k.numbers.ns = ap words_in k.numbers.are ∙ given in
      record {
        words = words;
        bounded = (words_are args k.numbers.ns words).bounded;
        taken = taken_if small number k.q args k.numbers.ns k.at_its_place words (long_of number args k);
        its_op = refl;
        its_words = refl;
      }

  at_once : AnswersAtOnce machine atomic plain Fits (IsRecovering unkept.recovers) IsReceiver
  unfolding plain
  at_once = record {
    starts = ap (λ n. replicate n (zero_disk s.blocks)) is.disks;
    recovers = makes;
    recovery_steps = steps;
    calls = λ r number args w f v t receives h e fit. (call r number args w v t receives (is_allowed number args h) e).0 f fit;
    call_steps = λ r number args w v t receives h e. (call r number args w v t receives (is_allowed number args h) e).1;
    crashes = λ w f fit. fit;
    crashes_again = λ w f fit. fit;
    fails = λ disk w f v e fit. absurd (fails disk w v e fit);
  }
    where
      steps : (extra : ℕ) (t : Thread) (w : World) (f : List Value) → IsRecovering unkept.recovers t → Fits w f
          → RecoveryStep machine atomic plain Fits (IsRecovering unkept.recovers) IsReceiver f (machine.stepped extra t w)
      steps extra t w f makes fit = recovery_goes (with_new w (Cells [])) (handing unkept.recovers (fresh w)) fit (hands (fresh w))
      steps extra t w f (hands object) fit = recovery_returns w (val.Ref object ∷ []) fit (record { receiver = val.Ref object; is = refl })

      replies : (number : ℕ) (args : List Value) (k : IsAllowed number args) (b : IsStarted number args k) (receiver : Val) (proc : ℕ) (name : List ℕ) (place : Place)
          → Calling machine atomic plain Fits (IsRecovering unkept.recovers) IsReceiver number args
          (thread_of (new_frame proc (method_proc unkept.type_name name place b.taken.op) (receiver ∷ map val.Word b.taken.ns) []))
      replies number args k b receiver proc name place extra u f fit =
          let sum_is : value.Word (sum_value b.taken.op b.taken.ns) ≡ reply_of s number args [] f =
          ap (λ q. value.Word (sum_value q b.taken.ns)) b.its_op ∙ ap (λ ns. value.Word (sum_value k.q ns)) b.its_words ∙ sym (reply_is number args f k b.bounded) in
          subst (CallStep machine atomic plain Fits (IsRecovering unkept.recovers) IsReceiver number args f)
          (sym (call_step unkept small word sound number args receiver b.taken proc name place extra u))
          (call_returns u (val.Word (sum_value b.taken.op b.taken.ns) ∷ []) fit (ap Ok sum_is))

      on_value : (receiver : Val) (number : ℕ) (args : List Value) (w v : World) (t : Thread) → IsAllowed number args
          → machine.called (receiver ∷ []) number args w ≡ Some (v, t)
          → ((f : List Value) → Fits w f → Fits v f) × Calling machine atomic plain Fits (IsRecovering unkept.recovers) IsReceiver number args t
      on_value receiver number args w v t k e =
          let b = is_started (receiver ∷ []) number args w (v, t) k e in
          let c = is_called unkept small word sound number args receiver w b.taken in
          let thread : Thread = thread_of (new_frame c.proc (method_proc unkept.type_name c.name c.place b.taken.op) (receiver ∷ map val.Word b.taken.ns) []) in
          let pair : (w, thread) ≡ (v, t) = some_same (w, thread) (v, t) (sym c.is ∙ sym (same_call (receiver ∷ []) number args w) ∙ e) in
          let world : w ≡ v = ap (λ p. p.0) pair in
          let same : thread ≡ t = ap (λ p. p.1) pair in (
            (λ f fit. subst (λ x. Fits x f) world fit),
            subst (Calling machine atomic plain Fits (IsRecovering unkept.recovers) IsReceiver number args) same (replies number args k b receiver c.proc c.name c.place),
          )

      call : (r : List Val) (number : ℕ) (args : List Value) (w v : World) (t : Thread) → IsReceiver r → IsAllowed number args
          → machine.called r number args w ≡ Some (v, t)
          → ((f : List Value) → Fits w f → Fits v f) × Calling machine atomic plain Fits (IsRecovering unkept.recovers) IsReceiver number args t
      call r number args w v t receives k e =
          on_value receives.receiver number args w v t k (subst (λ q. machine.called q number args w ≡ Some (v, t)) receives.is e)

      fails : (disk : ℕ) (w v : World) → machine.failed disk w ≡ Some v → w.disks ≡ [] → ⊥
      fails disk w v e fit = (let no : None ≡ Some v = sym (none_fails w disk fit) ∙ e in cc)

  own : Refines machine atomic
  own = refines_at_once machine atomic plain Fits (IsRecovering unkept.recovers) IsReceiver at_once

-- ---- the same operations

pub refines_written : ProgramsRefineWritten
refines_written unkept program small s word sound is agree =
    let same : program ≡ small = same_small program small (same_of_agree program small agree) in
    let all = own unkept program s word sound (subst (IsSmallOf s) (sym same) is) in
    record { every = all; without_crash = λ events h. all events }
