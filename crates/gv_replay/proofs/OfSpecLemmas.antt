-- What a text tells is of the specification.
use Rattle.std.proofs.Common.{◌≡◌, ℕ, ◌+◌, ◌<◌, ◌≤◌, Bool, true, false, cond, List, [], ◌∷◌, ◌++◌, length, get_or, Option, Some, None, refl, sym, ap, subst, ◌∙◌, ◌⊎◌, inl, inr, arith}
use Rattle.std.specs.Prelude.{Result, Ok, Err, All, ◌==◌, IsTrue, slice_get, option_map, replicate, map}
use Rattle.std.specs.Str.{bytes_eq}
use Rattle.std.proofs.lemmas.Option.{slice_get_cases}
use Rattle.std.proofs.lemmas.List.Elements.{All-nil, All-append}
use Rattle.gv_base.specs.declared.answers.Code.TheVariants as codes
use Rattle.gv_spec.specs.Atomic.{are_of, are_args_of, are_args}
use Rattle.gv_spec.specs.History.{IsEntryOf, IsEventOf, IsMoveOf}
use Rattle.gv_spec.specs.declared.event.Event.{Event}
use Rattle.gv_spec.specs.declared.event.Event.TheVariants as event
use Rattle.gv_spec.specs.declared.entry.Entry.{Entry}
use Rattle.gv_spec.specs.declared.entry.Entry.TheVariants as entry
use Rattle.gv_spec.specs.declared.explanation.Move.{Move}
use Rattle.gv_spec.specs.declared.explanation.Move.TheVariants as move
use Rattle.gv_terms.specs.declared.sort.Sort.{Sort}
use Rattle.gv_terms.specs.declared.sort.Sort.TheVariants as sort
use Rattle.gv_terms.specs.declared.value.Value.TheVariants as val
use Rattle.gv_atomic.specs.declared.spec.Op.{Op}
use Rattle.gv_atomic.specs.declared.spec.Spec.{Spec}
use Rattle.gv_terms.specs.declared.var.Var.{Var}
use Rattle.gv_terms.specs.declared.value.Value.{Value}
use Rattle.gv_terms.specs.Values as values
use Rattle.gv_replay.specs.declared.argument.Argument.{Argument}
use Rattle.gv_replay.specs.declared.argument.Number.{Number}
use Rattle.gv_replay.specs.declared.argument.Written.{Written}
use Rattle.gv_replay.specs.declared.argument.Written.TheVariants as written
use Rattle.gv_replay.specs.declared.line.CallLine.{CallLine}
use Rattle.gv_replay.specs.declared.line.Line.{Line}
use Rattle.gv_replay.specs.declared.line.Line.TheVariants as line
use Rattle.gv_replay.specs.declared.plan.Plan.{Plan}
use Rattle.gv_replay.specs.declared.plan.Planned.{Planned}
use Rattle.gv_replay.specs.declared.schedule.Line as schedule
use Rattle.gv_text.specs.Stops.{Fault}
use Rattle.gv_replay.specs.Meaning.{narrow, call_number, count_of, value_of, sort_of, has_sort, value_for, values_for, params_of, params_at, arity_by, arity, with_values, called_by, called, entry_of_call, call_entry, reply_of, answer_entry, told_entry, told_act, move_in, listed, with_move, with_moves}
use Rattle.gv_replay.specs.Operations.{op_named}
use Rattle.gv_replay.specs.Plans.{disk_number, told_call, told_step, told_fail, event_in, size_of, arity_in, room, planned, no_plan, with_plan, placed}
use Rattle.gv_replay.specs.Reading.{entries_in}
use Rattle.gv_replay.specs.Results.{and_then, map_ok}
use Rattle.gv_replay.specs.Told.{tell, tell_all}

-- ---- results one after another

pub then_case : {A B P : Type 0} (f : A → Result B Fault) (r : Result A Fault) (y : B) → and_then f r ≡ Ok y → ((x : A) → r ≡ Ok x → f x ≡ Ok y → P) → P
then_case f (Ok x) y e k = k x refl e
then_case f (Err g) y e k = absurd cc

pub map_case : {A B P : Type 0} (f : A → B) (r : Result A Fault) (y : B) → map_ok f r ≡ Ok y → ((x : A) → r ≡ Ok x → f x ≡ y → P) → P
map_case f (Ok x) y e k = let same : f x ≡ y = cc in k x refl same
map_case f (Err g) y e k = absurd cc

-- ---- values have the sorts that are wanted

repeated_sort : (b : ℕ) (r : Result ℕ Fault) (v : Value) → map_ok (λ count. val.Bytes (replicate count b)) r ≡ Ok v → values.sort_of_value v ≡ Some sort.Bytes
repeated_sort b r v e = map_case (λ count. val.Bytes (replicate count b)) r v e (λ n _ same. ap values.sort_of_value (sym same))

value_sort : (w : Written) (v : Value) → value_of w ≡ Ok v → values.sort_of_value v ≡ Some (sort_of w)
value_sort (written.Word n) v e = let same : val.Word n ≡ v = cc in ap values.sort_of_value (sym same)
value_sort (written.Bool b) v e = let same : val.Bool b ≡ v = cc in ap values.sort_of_value (sym same)
value_sort (written.Bytes bs) v e = let same : val.Bytes bs ≡ v = cc in ap values.sort_of_value (sym same)
value_sort (written.Repeated b n) v e = repeated_sort b (count_of n) v e

sorted_by : (s : Sort) (a : Argument) (v : Value) (b : Bool) → b ≡ has_sort a.written s → cond b (value_of a.written) (Err (a.at, codes.WrongType)) ≡ Ok v → values.has_sort v s ≡ true
sorted_by s a v true h e = ap (values.is_sort s) (value_sort a.written v e) ∙ sym h
sorted_by s a v false h e = absurd cc

value_for_sort : (s : Sort) (a : Argument) (v : Value) → value_for s a ≡ Ok v → values.has_sort v s ≡ true
value_for_sort s a v e = sorted_by s a v (has_sort a.written s) refl e

values_sorts : (xs : List Var) (args : List Argument) (vs : List Value) → length xs ≡ length args → values_for xs args ≡ Ok vs → are_of xs vs ≡ true
values_sorts [] [] vs l e = let same : [] ≡ vs = cc in ap (are_of []) (sym same)
values_sorts [] (a ∷ rest) vs l e = absurd (omega (arith, l))
values_sorts (x ∷ xs) [] vs l e = absurd (omega (arith, l))
values_sorts (x ∷ xs) (a ∷ rest) vs l e =
    then_case _ (value_for x.sort a) vs e (λ v v_is e1.
    map_case (λ us. v ∷ us) (values_for xs rest) vs e1 (λ us us_is same.
    let one : values.has_sort v x.sort ≡ true = value_for_sort x.sort a v v_is in
    let fewer : length xs ≡ length rest = omega (arith, l) in
    let more : are_of xs us ≡ true = values_sorts xs rest us fewer us_is in
    ap (are_of (x ∷ xs)) (sym same) ∙ (rw (one, more) refl)))

-- ---- calls

named_by : (b : Bool) (o : Op) (os : List Op) (r : Option ℕ) (n : ℕ) → ((m : ℕ) → r ≡ Some m → m < length os) → cond b (Some 0) (option_map (λ m. m + 1) r) ≡ Some n → n < length (o ∷ os)
named_by true o os r n h e = let same : 0 ≡ n = cc in omega (arith, same)
named_by false o os None n h e = absurd cc
named_by false o os (Some m) n h e = let same : m + 1 ≡ n = cc in let less = h m refl in omega (arith, same, less)

named_within : (name : List ℕ) (ops : List Op) (n : ℕ) → op_named name ops ≡ Some n → n < length ops
named_within name [] n e = absurd cc
named_within name (o ∷ os) n e = named_by (bytes_eq o.name name) o os (op_named name os) n (named_within name os) e

-- an entry is of the specification
abbrev IsOf : Spec → Entry → Type 0
IsOf s e = IsEntryOf s e

pub same_number : (m n : ℕ) → true ≡ (m == n) → m ≡ n
same_number m n is = grind (arith, is)

-- a call whose arguments are as many as the parameters has arguments of their sorts
called_with : (s : Spec) (c : CallLine) (o : Option ℕ) (x : ℕ × List Value) → o ≡ op_named c.op s.ops → arity_by s c o ≡ Ok tt → called_by s c o ≡ Ok x → IsTrue (are_args s x.0 x.1)
called_with s c None x n k h = absurd cc
called_with s c (Some op) x n k h = map_case (with_values op) (values_for (params_at s op) c.args) x h (λ vs vs_is same.
    subst (λ (y : ℕ × List Value). IsTrue (are_args s y.0 y.1)) same (of_op vs vs_is))
  where
    as_many : length (params_at s op) ≡ length c.args
    as_many = go (length (params_at s op) == length c.args) refl k
      where
        go : (b : Bool) → b ≡ (length (params_at s op) == length c.args) → cond {A = Result (Unit {0}) Fault} b (Ok tt) (Err (c.at, codes.WrongCount)) ≡ Ok tt → length (params_at s op) ≡ length c.args
        go false is e = absurd cc
        go true is e = same_number (length (params_at s op)) (length c.args) is

    within : op < length s.ops
    within = named_within c.op s.ops op (sym n)

    of_op : (vs : List Value) → values_for (params_at s op) c.args ≡ Ok vs → IsTrue (are_args s op vs)
    of_op vs vs_is = found (slice_get s.ops op) refl (slice_get_cases s.ops op).1
      where
        sorts : (y : Option Op) → slice_get s.ops op ≡ y → are_of (params_of y) vs ≡ true
        sorts y y_is = subst (λ z. are_of (params_of z) vs ≡ true) y_is (values_sorts (params_at s op) c.args vs as_many vs_is)

        found : (y : Option Op) → slice_get s.ops op ≡ y → ((z : Op) × (op < length s.ops) × (y ≡ Some z) × (get_or s.ops op z ≡ z)) ⊎ ((length s.ops ≤ op) × (y ≡ None)) → are_args_of (slice_get s.ops op) vs ≡ true
        found None y_is (inl p) = absurd (let none = p.2 in cc)
        found None y_is (inr p) = absurd (omega (arith, p.0, within))
        found (Some o) y_is cases = ap (λ z. are_args_of z vs) y_is ∙ sorts (Some o) y_is

pub called_args : (s : Spec) (c : CallLine) (x : ℕ × List Value) → arity s c ≡ Ok tt → called s c ≡ Ok x → IsTrue (are_args s x.0 x.1)
called_args s c x k h = called_with s c (op_named c.op s.ops) x refl k h

unit_is : (x : Unit {0}) → x ≡ tt
unit_is tt = refl

call_named : (s : Spec) (c : CallLine) (e : Entry) → call_entry s c ≡ Ok e → IsOf s e
call_named s c e k =
    then_case _ (arity s c) e k (λ x x_is k1.
    then_case _ (call_number c.number) e k1 (λ n n_is k2.
    map_case (entry_of_call n) (called s c) e k2 (λ o o_is same.
    subst (IsOf s) same (called_args s c o (x_is ∙ ap Ok (unit_is x)) o_is))))

answer_of : (s : Spec) (number : Number) (reply : Option Argument) (e : Entry) → answer_entry number reply ≡ Ok e → IsOf s e
answer_of s number reply e k =
    then_case _ (narrow number) e k (λ n n_is k1.
    map_case (λ v. entry.Answer n v) (reply_of reply) e k1 (λ v v_is same. let fact : IsOf s (entry.Answer n v) = tt in subst (IsOf s) same fact))

-- ---- moves

all_one : {X : Type 0} (P : X → Type 0) (x : X) → P x → All P (x ∷ [])
all_one P x h = λ k d l. let z : 0 ≡ k = omega (arith, l) in subst (λ j. P (get_or (x ∷ []) j d)) z h

entry_told : (s : Spec) (r : Result Entry Fault) (m : Option Move) → ((e : Entry) → r ≡ Ok e → IsOf s e) → map_ok told_entry r ≡ Ok m → All (IsMoveOf s) (listed m)
entry_told s r m h k = map_case told_entry r m k (λ e e_is same. subst (λ o. All (IsMoveOf s) (listed o)) same (all_one (IsMoveOf s) (move.Other e) (h e e_is)))

one_told : (s : Spec) (m : Move) (o : Option Move) → IsMoveOf s m → Some m ≡ o → All (IsMoveOf s) (listed o)
one_told s m o h e = subst (λ x. All (IsMoveOf s) (listed x)) e (all_one (IsMoveOf s) m h)

none_told : (s : Spec) (o : Option Move) → None ≡ o → All (IsMoveOf s) (listed o)
none_told s o e = subst (λ x. All (IsMoveOf s) (listed x)) e (All-nil (IsMoveOf s))

move_told : (s : Spec) (l : Line) (m : Option Move) → move_in s l ≡ Ok m → All (IsMoveOf s) (listed m)
move_told s (line.Call c) m k = entry_told s (call_entry s c) m (λ e e_is. call_named s c e e_is) k
move_told s (line.Answer number reply) m k = entry_told s (answer_entry number reply) m (λ e e_is. answer_of s number reply e e_is) k
move_told s (line.Act number choices) m k = map_case (told_act choices) (narrow number) m k (λ n n_is same. one_told s (move.Act n choices) m tt same)
move_told s (line.Crash at) m k = one_told s (move.Other entry.Crash) m tt cc
move_told s (line.Boot choices) m k = one_told s (move.Boot choices) m tt cc
move_told s line.End m k = none_told s m cc
move_told s (line.Step at thread count) m k = none_told s m cc
move_told s (line.Fail at disk) m k = none_told s m cc
move_told s (line.Grow at thread extra) m k = none_told s m cc

-- ---- accounts of lines

-- what holds at first, and stays so with each line, holds of all lines
pub holds_of_all : {T : Type 0} (with_line : T → Line → Result T Fault) (P : T → Type 0) → ((t u : T) (l : Line) → P t → with_line t l ≡ Ok u → P u)
    → (ls : List Line) (r : Result T Fault) (told : T) → ((t : T) → r ≡ Ok t → P t) → tell_all with_line r ls ≡ Ok told → P told
holds_of_all with_line P keeps [] r told h e = h told e
holds_of_all {T} with_line P keeps (l ∷ ls) r told h e = holds_of_all with_line P keeps ls (tell with_line r l) told next e
  where
    next : (t : T) → tell with_line r l ≡ Ok t → P t
    next t t_is = then_case (λ u. with_line u l) r t t_is (λ u u_is k. keeps u t l (h u u_is) k)

pub moves_told : (s : Spec) (ls : List Line) (ms : List Move) → tell_all (with_moves s) (Ok []) ls ≡ Ok ms → All (IsMoveOf s) ms
moves_told s ls ms k = holds_of_all (with_moves s) (All (IsMoveOf s)) keeps ls (Ok []) ms (λ t t_is. let same : [] ≡ t = cc in subst (All (IsMoveOf s)) same (All-nil (IsMoveOf s))) k
  where
    keeps : (t u : List Move) (l : Line) → All (IsMoveOf s) t → with_moves s t l ≡ Ok u → All (IsMoveOf s) u
    keeps t u l h e = map_case (with_move t) (move_in s l) u e (λ m m_is same. subst (All (IsMoveOf s)) same (All-append (IsMoveOf s) t (listed m) h (move_told s l m m_is)))

-- ---- entries of moves

abbrev head_of : {X : Type 0} (P : X → Type 0) (x : X) (xs : List X) → All P (x ∷ xs) → P x
head_of P x xs h = h 0 x (omega arith)

later_get : {X : Type 0} (x : X) (xs : List X) (k : ℕ) (d : X) → get_or (x ∷ xs) (k + 1) d ≡ get_or xs k d
later_get x xs k d = grind arith

tail_of : {X : Type 0} (P : X → Type 0) (x : X) (xs : List X) → All P (x ∷ xs) → All P xs
tail_of P x xs h = λ k d l. subst P (later_get x xs k d) (h (k + 1) d (omega (arith, l)))

pub entries_told : (s : Spec) (ms : List Move) → All (IsMoveOf s) ms → All (IsEntryOf s) (entries_in ms)
entries_told s [] h = All-nil (IsEntryOf s)
entries_told s (move.Act n choices ∷ ms) h = entries_told s ms (tail_of (IsMoveOf s) (move.Act n choices) ms h)
entries_told s (move.Boot choices ∷ ms) h =
    All-append (IsEntryOf s) (entry.Boot ∷ []) (entries_in ms) (all_one (IsEntryOf s) entry.Boot tt) (entries_told s ms (tail_of (IsMoveOf s) (move.Boot choices) ms h))
entries_told s (move.Other e ∷ ms) h =
    All-append (IsEntryOf s) (e ∷ []) (entries_in ms) (all_one (IsEntryOf s) e (head_of (IsMoveOf s) (move.Other e) ms h)) (entries_told s ms (tail_of (IsMoveOf s) (move.Other e) ms h))

-- the entries of more moves
pub entries_more : (ms : List Move) (m : Move) → entries_in (ms ++ m ∷ []) ≡ entries_in ms ++ entries_in (m ∷ [])
entries_more [] m = refl
entries_more (move.Act n choices ∷ ms) m = entries_more ms m
entries_more (move.Boot choices ∷ ms) m = ap (λ es. entry.Boot ∷ es) (entries_more ms m)
entries_more (move.Other e ∷ ms) m = ap (λ es. e ∷ es) (entries_more ms m)

-- ---- schedules

told_is : (a b : Event) (o : Option Event) → Some a ≡ o → Some b ≡ o → a ≡ b
told_is a b o h k = cc

event_told : (s : Spec) (l : Line) (x : Unit {0}) (o : Option Event) (e : Event) → arity_in s l ≡ Ok x → event_in s l ≡ Ok o → Some e ≡ o → IsEventOf s e
event_told s (line.Call c) x o e k h i =
    map_case told_call (called s c) o h (λ y y_is same. subst (IsEventOf s) (told_is (event.Call y.0 y.1) e o same i) (called_args s c y (k ∙ ap Ok (unit_is x)) y_is))
event_told s (line.Answer number reply) x o e k h i = absurd cc
event_told s (line.Act number choices) x o e k h i = absurd cc
event_told s (line.Crash at) x o e k h i = (let same : Some event.Crash ≡ o = cc in subst (IsEventOf s) (told_is event.Crash e o same i) tt)
event_told s (line.Boot choices) x o e k h i = absurd cc
event_told s line.End x o e k h i = absurd cc
event_told s (line.Step at thread count) x o e k h i = map_case (told_step 0) (narrow thread) o h (λ t _ same. subst (IsEventOf s) (told_is (event.Step t 0) e o same i) tt)
event_told s (line.Fail at disk) x o e k h i = map_case told_fail (disk_number disk) o h (λ d _ same. subst (IsEventOf s) (told_is (event.Fail d) e o same i) tt)
event_told s (line.Grow at thread extra) x o e k h i =
    map_case (told_step extra.value) (narrow thread) o h (λ t _ same. subst (IsEventOf s) (told_is (event.Step t extra.value) e o same i) tt)

abbrev ArePlannedOf : Spec → List Planned → Type 0
ArePlannedOf s ls = All (λ (l : Planned). IsEventOf s l.event) ls

planned_told : (s : Spec) (p q : Plan) (size : ℕ × ℕ) (o : Option Event) → ArePlannedOf s p.lines → ((e : Event) → Some e ≡ o → IsEventOf s e) → planned p size o ≡ q → ArePlannedOf s q.lines
planned_told s p q size None h f same = subst (λ (z : Plan). ArePlannedOf s z.lines) same h
planned_told s p q size (Some e) h f same =
    let one : Planned = record { at = size.1; event = e; count = size.0 } in
    subst (λ (z : Plan). ArePlannedOf s z.lines) same (All-append (λ (l : Planned). IsEventOf s l.event) p.lines (one ∷ []) h (all_one (λ (l : Planned). IsEventOf s l.event) one (f e refl)))

pub plans_told : (s : Spec) (ls : List Line) (p : Plan) → tell_all (with_plan s) (Ok no_plan) ls ≡ Ok p → ArePlannedOf s p.lines
plans_told s ls p k = holds_of_all (with_plan s) (λ (q : Plan). ArePlannedOf s q.lines) keeps ls (Ok no_plan) p
    (λ t t_is. let same : no_plan ≡ t = cc in subst (λ (z : Plan). ArePlannedOf s z.lines) same (All-nil (λ (l : Planned). IsEventOf s l.event))) k
  where
    keeps : (t u : Plan) (l : Line) → ArePlannedOf s t.lines → with_plan s t l ≡ Ok u → ArePlannedOf s u.lines
    keeps t u l h e =
        then_case _ (arity_in s l) u e (λ x x_is e1.
        then_case _ (room t.events (size_of l)) u e1 (λ y _ e2.
        map_case (planned t (size_of l)) (event_in s l) u e2 (λ o o_is same. planned_told s t u (size_of l) o h (λ d d_is. event_told s l x o d x_is o_is d_is) same)))

-- the lines keep their events when they get their places
pub placed_told : (s : Spec) (text : List ℕ) (ls : List Planned) → ArePlannedOf s ls → All (λ (l : schedule.Line). IsEventOf s l.event) (map (placed text) ls)
placed_told s text [] h = All-nil (λ (l : schedule.Line). IsEventOf s l.event)
placed_told s text (l ∷ ls) h =
    All-append (λ (m : schedule.Line). IsEventOf s m.event) (placed text l ∷ []) (map (placed text) ls)
    (all_one (λ (m : schedule.Line). IsEventOf s m.event) (placed text l) (head_of (λ (m : Planned). IsEventOf s m.event) l ls h))
    (placed_told s text ls (tail_of (λ (m : Planned). IsEventOf s m.event) l ls h))

pub placed_more : (text : List ℕ) (ls : List Planned) (l : Planned) → map (placed text) (ls ++ l ∷ []) ≡ map (placed text) ls ++ placed text l ∷ []
placed_more text [] l = refl
placed_more text (m ∷ ls) l = ap (λ xs. placed text m ∷ xs) (placed_more text ls l)
