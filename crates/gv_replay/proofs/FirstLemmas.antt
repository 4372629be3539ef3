-- What comes of lines is right where they have no fault, and else the first fault of their list.
use Rattle.std.proofs.Common.{◌≡◌, ℕ, ◌+◌, ◌≤◌, Bool, true, false, cond, List, [], ◌∷◌, ◌++◌, length, Option, Some, None, refl, sym, ap, subst, ◌∙◌, arith}
use Rattle.std.specs.Prelude.{Result, Ok, Err, ◌==◌, ◌^◌, nat_lt, nat_le, fold, replicate}
use Rattle.gv_base.specs.declared.answers.Code.TheVariants as codes
use Rattle.gv_text.specs.Stops.{Fault}
use Rattle.gv_terms.specs.declared.sort.Sort.{Sort}
use Rattle.gv_terms.specs.declared.var.Var.{Var}
use Rattle.gv_atomic.specs.declared.spec.Spec.{Spec}
use Rattle.gv_terms.specs.declared.value.Value.{Value}
use Rattle.gv_terms.specs.declared.value.Value.TheVariants as val
use Rattle.gv_spec.specs.declared.entry.Entry.TheVariants as entry
use Rattle.gv_spec.specs.declared.event.Event.{Event}
use Rattle.gv_spec.specs.declared.event.Event.TheVariants as event
use Rattle.gv_spec.specs.declared.explanation.Move.{Move}
use Rattle.gv_spec.specs.declared.explanation.Move.TheVariants as move
use Rattle.gv_replay.specs.declared.argument.Argument.{Argument}
use Rattle.gv_replay.specs.declared.argument.Number.{Number}
use Rattle.gv_replay.specs.declared.argument.Written.{Written}
use Rattle.gv_replay.specs.declared.argument.Written.TheVariants as written
use Rattle.gv_replay.specs.declared.line.CallLine.{CallLine}
use Rattle.gv_replay.specs.declared.line.Line.{Line}
use Rattle.gv_replay.specs.declared.line.Line.TheVariants as line
use Rattle.gv_replay.specs.declared.plan.Plan.{Plan}
use Rattle.gv_replay.specs.Faults.{large, of_written, of_argument, of_arguments, of_called, of_arity_by, of_arity, of_number, of_reply, of_line, of_lines, of_room, of_line_arity, of_event, of_plan}
use Rattle.gv_replay.specs.Meaning.{bounded, largest_count, count_of, value_of, has_sort, value_for, values_for, params_at, arity_by, arity, with_values, called_by, called, call_number, entry_of_call, call_entry, reply_of, answer_entry, told_entry, told_act, move_in, with_move, with_moves}
use Rattle.gv_replay.specs.Operations.{op_named}
use Rattle.gv_replay.specs.Plans.{most_events, told_call, told_step, told_fail, event_in, size_of, arity_in, room, planned, with_plan}
use Rattle.gv_replay.specs.Results.{and_then, map_ok}
use Rattle.gv_replay.specs.Told.{tell, tell_all}
use Rattle.gv_replay.proofs.OfSpecLemmas.{then_case, map_case}
use Rattle.gv_replay.proofs.OfSpecLemmas.{same_number}

pub data Agrees {T : Type 0} (r : Result T Fault) (fs : List Fault) : Type 0 where
  fine : (t : T) → r ≡ Ok t → fs ≡ [] → Agrees r fs
  faulty : (f : Fault) (rest : List Fault) → r ≡ Err f → fs ≡ f ∷ rest → Agrees r fs

agrees_as : {T : Type 0} {r q : Result T Fault} {fs gs : List Fault} → r ≡ q → fs ≡ gs → Agrees q gs → Agrees r fs
agrees_as e f (fine t i j) = fine t (e ∙ i) (f ∙ j)
agrees_as e f (faulty g rest i j) = faulty g rest (e ∙ i) (f ∙ j)

agrees_then : {A B : Type 0} (k : A → Result B Fault) (r : Result A Fault) (fs gs : List Fault) → Agrees r fs → ((x : A) → r ≡ Ok x → Agrees (k x) gs) → Agrees (and_then k r) (fs ++ gs)
agrees_then k r fs gs (fine t e f) h = agrees_as (ap (and_then k) e) (ap (λ z. z ++ gs) f) (h t e)
agrees_then k r fs gs (faulty g rest e f) h = faulty g (rest ++ gs) (ap (and_then k) e) (ap (λ z. z ++ gs) f)

agrees_map : {A B : Type 0} (k : A → B) (r : Result A Fault) (fs : List Fault) → Agrees r fs → Agrees (map_ok k r) fs
agrees_map k r fs (fine t e f) = fine (k t) (ap (map_ok k) e) f
agrees_map k r fs (faulty g rest e f) = faulty g rest (ap (map_ok k) e) f

agrees_test : {T : Type 0} (b : Bool) (x : T) (f : Fault) → Agrees (cond b (Ok x) (Err f)) (cond b [] (f ∷ []))
agrees_test true x f = fine x refl refl
agrees_test false x f = faulty f [] refl refl

-- ---- parts

bounded_agrees : (bound : ℕ) (n : Number) → Agrees (bounded bound n) (large bound n)
bounded_agrees bound n = agrees_test (nat_lt n.value bound) n.value (n.at, codes.TooMany)

value_agrees : (w : Written) → Agrees (value_of w) (of_written w)
value_agrees (written.Word n) = fine (val.Word n) refl refl
value_agrees (written.Bool b) = fine (val.Bool b) refl refl
value_agrees (written.Bytes bs) = fine (val.Bytes bs) refl refl
value_agrees (written.Repeated b n) = agrees_map (λ count. val.Bytes (replicate count b)) (count_of n) (large (largest_count + 1) n) (bounded_agrees (largest_count + 1) n)

sorted_agrees : (a : Argument) (b : Bool) → Agrees (cond b (value_of a.written) (Err (a.at, codes.WrongType))) (cond b [] ((a.at, codes.WrongType) ∷ []) ++ of_written a.written)
sorted_agrees a true = value_agrees a.written
sorted_agrees a false = faulty (a.at, codes.WrongType) (of_written a.written) refl refl

value_for_agrees : (s : Sort) (a : Argument) → Agrees (value_for s a) (of_argument s a)
value_for_agrees s a = sorted_agrees a (has_sort a.written s)

values_agree : (xs : List Var) (args : List Argument) → length xs ≡ length args → Agrees (values_for xs args) (of_arguments xs args)
values_agree [] [] l = fine [] refl refl
values_agree [] (a ∷ rest) l = absurd (omega (arith, l))
values_agree (x ∷ xs) [] l = absurd (omega (arith, l))
values_agree (x ∷ xs) (a ∷ rest) l =
    let fewer : length xs ≡ length rest = omega (arith, l) in
    agrees_then (λ v. map_ok (λ vs. v ∷ vs) (values_for xs rest)) (value_for x.sort a) (of_argument x.sort a) (of_arguments xs rest) (value_for_agrees x.sort a)
    (λ v v_is. agrees_map (λ vs. v ∷ vs) (values_for xs rest) (of_arguments xs rest) (values_agree xs rest fewer))

arity_agrees : (s : Spec) (c : CallLine) (o : Option ℕ) → Agrees (arity_by s c o) (of_arity_by s c o)
arity_agrees s c None = fine tt refl refl
arity_agrees s c (Some op) = agrees_test (length (params_at s op) == length c.args) tt (c.at, codes.WrongCount)

as_many : (s : Spec) (c : CallLine) (op : ℕ) (x : Unit {0}) → arity_by s c (Some op) ≡ Ok x → length (params_at s op) ≡ length c.args
as_many s c op x k = go (length (params_at s op) == length c.args) refl k
  where
    go : (b : Bool) → b ≡ (length (params_at s op) == length c.args) → cond {A = Result (Unit {0}) Fault} b (Ok tt) (Err (c.at, codes.WrongCount)) ≡ Ok x → length (params_at s op) ≡ length c.args
    go false is e = absurd cc
    go true is e = same_number (length (params_at s op)) (length c.args) is

called_agrees : (s : Spec) (c : CallLine) (o : Option ℕ) (x : Unit {0}) → arity_by s c o ≡ Ok x → Agrees (called_by s c o) (of_called s c o)
called_agrees s c None x k = faulty (c.op_at, codes.Undeclared) (of_arguments [] c.args) refl refl
called_agrees s c (Some op) x k = agrees_map (with_values op) (values_for (params_at s op) c.args) (of_arguments (params_at s op) c.args) (values_agree (params_at s op) c.args (as_many s c op x k))

number_agrees : (o : Option Number) → Agrees (call_number o) (of_number o)
number_agrees None = fine 0 refl refl
number_agrees (Some n) = bounded_agrees (2 ^ 32) n

reply_agrees : (o : Option Argument) → Agrees (reply_of o) (of_reply o)
reply_agrees None = fine val.Unit refl refl
reply_agrees (Some a) = value_agrees a.written

-- ---- lines of histories and moves

call_agrees : (s : Spec) (c : CallLine) → Agrees (call_entry s c) (of_arity s c ++ (of_number c.number ++ of_called s c (op_named c.op s.ops)))
call_agrees s c =
    agrees_then (λ _. and_then (λ n. map_ok (entry_of_call n) (called s c)) (call_number c.number)) (arity s c) (of_arity s c) (of_number c.number ++ of_called s c (op_named c.op s.ops))
    (arity_agrees s c (op_named c.op s.ops))
    (λ x x_is. agrees_then (λ n. map_ok (entry_of_call n) (called s c)) (call_number c.number) (of_number c.number) (of_called s c (op_named c.op s.ops)) (number_agrees c.number)
    (λ n n_is. agrees_map (entry_of_call n) (called s c) (of_called s c (op_named c.op s.ops)) (called_agrees s c (op_named c.op s.ops) x x_is)))

answer_agrees : (number : Number) (reply : Option Argument) → Agrees (answer_entry number reply) (large (2 ^ 32) number ++ of_reply reply)
answer_agrees number reply =
    agrees_then (λ n. map_ok (λ v. entry.Answer n v) (reply_of reply)) (bounded (2 ^ 32) number) (large (2 ^ 32) number) (of_reply reply) (bounded_agrees (2 ^ 32) number)
    (λ n n_is. agrees_map (λ v. entry.Answer n v) (reply_of reply) (of_reply reply) (reply_agrees reply))

move_agrees : (s : Spec) (l : Line) → Agrees (move_in s l) (of_line s l)
move_agrees s (line.Call c) = agrees_map told_entry (call_entry s c) (of_line s (line.Call c)) (call_agrees s c)
move_agrees s (line.Answer number reply) = agrees_map told_entry (answer_entry number reply) (large (2 ^ 32) number ++ of_reply reply) (answer_agrees number reply)
move_agrees s (line.Act number choices) = agrees_map (told_act choices) (bounded (2 ^ 32) number) (large (2 ^ 32) number) (bounded_agrees (2 ^ 32) number)
move_agrees s (line.Crash at) = fine (told_entry entry.Crash) refl refl
move_agrees s (line.Boot choices) = fine (Some (move.Boot choices)) refl refl
move_agrees s line.End = fine None refl refl
move_agrees s (line.Step at thread count) = fine None refl refl
move_agrees s (line.Fail at disk) = fine None refl refl
move_agrees s (line.Grow at thread extra) = fine None refl refl

-- behind a fault nothing is told
stays : {T : Type 0} (with_line : T → Line → Result T Fault) (f : Fault) (ls : List Line) → tell_all with_line (Err f) ls ≡ Err f
stays with_line f [] = refl
stays with_line f (l ∷ ls) = stays with_line f ls

pub lines_agree : (s : Spec) (ms : List Move) (ls : List Line) → Agrees (tell_all (with_moves s) (Ok ms) ls) (of_lines s ls)
lines_agree s ms [] = fine ms refl refl
lines_agree s ms (l ∷ ls) = go (with_moves s ms l) refl (agrees_map (with_move ms) (move_in s l) (of_line s l) (move_agrees s l)) (λ t. lines_agree s t ls)
  where
    go : (r : Result (List Move) Fault) → with_moves s ms l ≡ r → Agrees r (of_line s l) → ((t : List Move) → Agrees (tell_all (with_moves s) (Ok t) ls) (of_lines s ls))
        → Agrees (tell_all (with_moves s) (with_moves s ms l) ls) (of_line s l ++ of_lines s ls)
    go r r_is (fine t e f) later = agrees_as (ap (λ x. tell_all (with_moves s) x ls) (r_is ∙ e)) (ap (λ z. z ++ of_lines s ls) f) (later t)
    go r r_is (faulty g rest e f) later =
        faulty g (rest ++ of_lines s ls) (ap (λ x. tell_all (with_moves s) x ls) (r_is ∙ e) ∙ stays (with_moves s) g ls) (ap (λ z. z ++ of_lines s ls) f)

-- ---- lines of schedules

event_agrees : (s : Spec) (l : Line) (x : Unit {0}) → arity_in s l ≡ Ok x → Agrees (event_in s l) (of_event s l)
event_agrees s (line.Call c) x k = agrees_map told_call (called s c) (of_called s c (op_named c.op s.ops)) (called_agrees s c (op_named c.op s.ops) x k)
event_agrees s (line.Answer number reply) x k = fine None refl refl
event_agrees s (line.Act number choices) x k = fine None refl refl
event_agrees s (line.Crash at) x k = fine (Some event.Crash) refl refl
event_agrees s (line.Boot choices) x k = fine None refl refl
event_agrees s line.End x k = fine None refl refl
event_agrees s (line.Step at thread count) x k = agrees_map (told_step 0) (bounded (2 ^ 32) thread) (large (2 ^ 32) thread) (bounded_agrees (2 ^ 32) thread)
event_agrees s (line.Fail at disk) x k = agrees_map told_fail (bounded 2 disk) (large 2 disk) (bounded_agrees 2 disk)
event_agrees s (line.Grow at thread extra) x k = agrees_map (told_step extra.value) (bounded (2 ^ 32) thread) (large (2 ^ 32) thread) (bounded_agrees (2 ^ 32) thread)

line_arity_agrees : (s : Spec) (l : Line) → Agrees (arity_in s l) (of_line_arity s l)
line_arity_agrees s (line.Call c) = arity_agrees s c (op_named c.op s.ops)
line_arity_agrees s (line.Answer number reply) = fine tt refl refl
line_arity_agrees s (line.Act number choices) = fine tt refl refl
line_arity_agrees s (line.Crash at) = fine tt refl refl
line_arity_agrees s (line.Boot choices) = fine tt refl refl
line_arity_agrees s line.End = fine tt refl refl
line_arity_agrees s (line.Step at thread count) = fine tt refl refl
line_arity_agrees s (line.Fail at disk) = fine tt refl refl
line_arity_agrees s (line.Grow at thread extra) = fine tt refl refl

plan_agrees : (s : Spec) (p : Plan) (l : Line) → Agrees (with_plan s p l) (of_line_arity s l ++ (of_room p.events (size_of l) ++ of_event s l))
plan_agrees s p l =
    agrees_then (λ _. and_then (λ _. map_ok (planned p (size_of l)) (event_in s l)) (room p.events (size_of l))) (arity_in s l) (of_line_arity s l) (of_room p.events (size_of l) ++ of_event s l)
    (line_arity_agrees s l)
    (λ x x_is. agrees_then (λ _. map_ok (planned p (size_of l)) (event_in s l)) (room p.events (size_of l)) (of_room p.events (size_of l)) (of_event s l)
    (agrees_test (nat_le (p.events + (size_of l).0) most_events) tt ((size_of l).1, codes.TooManyEvents))
    (λ y y_is. agrees_map (planned p (size_of l)) (event_in s l) (of_event s l) (event_agrees s l x x_is)))

-- a line's events are counted
grows : (p q : Plan) (size : ℕ × ℕ) (e : Event) → planned p size (Some e) ≡ q → q.events ≡ p.events + size.0
grows p q size e h = ap (λ z. z.events) (sym h)

keeps : (p q : Plan) → p ≡ q → q.events ≡ p.events + 0
keeps p q h = let same = ap (λ z. z.events) h in omega (arith, same)

sized : (s : Spec) (p q : Plan) (l : Line) (o : Option Event) → event_in s l ≡ Ok o → planned p (size_of l) o ≡ q → q.events ≡ p.events + (size_of l).0
sized s p q l (Some e) k h = grows p q (size_of l) e h
sized s p q (line.Call c) None k h = absurd (map_case told_call (called s c) None k (λ x _ e. cc))
sized s p q (line.Answer number reply) None k h = keeps p q h
sized s p q (line.Act number choices) None k h = keeps p q h
sized s p q (line.Crash at) None k h = absurd cc
sized s p q (line.Boot choices) None k h = keeps p q h
sized s p q line.End None k h = keeps p q h
sized s p q (line.Step at thread count) None k h = absurd (map_case (told_step 0) (bounded (2 ^ 32) thread) None k (λ x _ e. cc))
sized s p q (line.Fail at disk) None k h = absurd (map_case told_fail (bounded 2 disk) None k (λ x _ e. cc))
sized s p q (line.Grow at thread extra) None k h = absurd (map_case (told_step extra.value) (bounded (2 ^ 32) thread) None k (λ x _ e. cc))

events_after : (s : Spec) (p q : Plan) (l : Line) → with_plan s p l ≡ Ok q → q.events ≡ p.events + (size_of l).0
events_after s p q l e =
    then_case _ (arity_in s l) q e (λ x _ e1.
    then_case _ (room p.events (size_of l)) q e1 (λ y _ e2.
    map_case (planned p (size_of l)) (event_in s l) q e2 (λ o o_is same. sized s p q l o o_is same)))

pub plans_agree : (s : Spec) (p : Plan) (ls : List Line) → Agrees (tell_all (with_plan s) (Ok p) ls) (of_plan s p.events ls)
plans_agree s p [] = fine p refl refl
plans_agree s p (l ∷ ls) = go (with_plan s p l) refl (plan_agrees s p l) (λ q. plans_agree s q ls)
  where
    here : List Fault
    here = of_line_arity s l ++ (of_room p.events (size_of l) ++ of_event s l)

    later : List Fault
    later = of_plan s (p.events + (size_of l).0) ls

    go : (r : Result Plan Fault) → with_plan s p l ≡ r → Agrees r here → ((q : Plan) → Agrees (tell_all (with_plan s) (Ok q) ls) (of_plan s q.events ls))
        → Agrees (tell_all (with_plan s) (with_plan s p l) ls) (here ++ later)
    go r r_is (fine q e f) more =
        agrees_as (ap (λ x. tell_all (with_plan s) x ls) (r_is ∙ e)) (ap (λ z. z ++ later) f ∙ ap (λ n. of_plan s n ls) (sym (events_after s p q l (r_is ∙ e)))) (more q)
    go r r_is (faulty g rest e f) more = faulty g (rest ++ later) (ap (λ x. tell_all (with_plan s) x ls) (r_is ∙ e) ∙ stays (with_plan s) g ls) (ap (λ z. z ++ later) f)
