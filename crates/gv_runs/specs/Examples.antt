-- Worked runs: a counter without a lock, whose two calls race, and disks that mirror each other, with crashes and failures.
use Rattle.std.specs.Prelude.{◌≡◌, ℕ, zero, suc, Bool, true, false, ◌&&◌, List, [], ◌∷◌, ◌++◌, Option, Some, None, map, take, length, replicate, slice_get, nat_eq, nat_lt, codes}
use Rattle.gv_base.specs.declared.answers.Place.{Place}
use Rattle.gv_base.specs.declared.reason.Reason.{Reason}
use Rattle.gv_base.specs.declared.reason.Reason.TheVariants as reason
use Rattle.gv_base.specs.declared.answer.Answer.{Answer}
use Rattle.gv_base.specs.declared.answer.Answer.TheVariants.{Next, Blocked, Undefined}
use Rattle.gv_base.specs.declared.val.Val.{Val}
use Rattle.gv_world.specs.Store.{Store as World, fresh}
use Rattle.gv_lang.specs.declared.pure.Unary.TheVariants as unary
use Rattle.gv_lang.specs.declared.pure.Binary.TheVariants as binary
use Rattle.gv_lang.specs.declared.program.ItemKind.TheVariants as item
use Rattle.gv_lang.specs.declared.program.LocalKind.{LocalKind}
use Rattle.gv_lang.specs.declared.program.LocalKind.TheVariants as kind
use Rattle.gv_lang.specs.declared.program.Local.{Local}
use Rattle.gv_lang.specs.Tree.{Expr, Number, LocalAt, One, Two, Action, Let, New, Load, Store, MakeSlice, At, Put, NewMutex, Lock, Unlock, DiskRead2, DiskWrite, Do, If, Loop, Break, Continue, Return, Block, finish, next, Proc, Program}
use Rattle.gv_lang.specs.Threads.{Thread}
use Rattle.gv_lang.specs.WellShaped.{is_well_shaped}
use Rattle.gv_terms.specs.declared.value.Value.{Value}
use Rattle.gv_terms.specs.declared.value.Value.TheVariants as value
use Rattle.gv_spec.specs.Event as event
use Rattle.gv_spec.specs.Event.{Event}
use Rattle.gv_spec.specs.Entry as entry
use Rattle.gv_spec.specs.Entry.{Entry}
use Rattle.gv_spec.specs.Runs.{RunState, outcome_of, run_of}
use Rattle.gv_runs.specs.Machine.{Setting, machine_of}

abbrev nowhere : Place
nowhere = record { line = 0; column = 0 }

abbrev do_ : Action → Block → Block
do_ a rest = next (Do a nowhere) rest

abbrev of_kind : LocalKind → Local
of_kind k = record { name = []; kind = k }

abbrev State : Type 0
State = RunState World Thread (List Val) Value

-- so many steps of a thread
abbrev steps : (thread count : ℕ) → List (Event Value)
steps thread count = replicate count (event.Step thread 0)

-- ---- a counter without a lock

-- x := c.n; c.n = x + 1; return x
abbrev counter_inc : Proc
counter_inc = record {
  name = codes "Counter.Inc";
  params = 1;
  locals = of_kind kind.Ref ∷ of_kind kind.Word ∷ [];
  results = kind.Word ∷ [];
  body =
      do_ (Load 1 (LocalAt 0) 0 0)
      (do_ (Store (LocalAt 0) 0 0 (Two binary.Plus (LocalAt 1) (Number 1)))
      (next (Return (LocalAt 1 ∷ []) nowhere) finish));
}

-- c := &Counter{n: 0}; return c
abbrev counter_recover : Proc
counter_recover = record {
  name = codes "Recover";
  params = 0;
  locals = of_kind kind.Ref ∷ [];
  results = kind.Ref ∷ [];
  body = do_ (New 0 0 (Number 0 ∷ [])) (next (Return (LocalAt 0 ∷ []) nowhere) finish);
}

abbrev pub counter : Program
counter = record {
  structs = record { name = codes "Counter"; fields = of_kind kind.Word ∷ [] } ∷ [];
  procs = counter_recover ∷ counter_inc ∷ [];
  recover = 0;
  ops = 1 ∷ [];
}

abbrev pub counter_setting : Setting
counter_setting = record { disks = 0; blocks = 0; names = codes "Inc" ∷ [] }

abbrev pub counter_allows : ℕ → List Value → Bool
counter_allows op args = nat_eq op 0 && nat_eq (length args) 0

abbrev pub counter_run : List (Event Value) → State
counter_run events = run_of (machine_of counter counter_setting) counter_allows events

abbrev pub counter_outcome : List (Event Value) → Event Value → Answer State
counter_outcome events e = outcome_of (machine_of counter counter_setting) counter_allows (counter_run events) e

abbrev pub inc : Event Value
inc = event.Call 0 []

-- recovery, two calls, and the two steps of the first up to the middle of its write
abbrev pub up_to_the_write : List (Event Value)
up_to_the_write = steps 1 2 ++ inc ∷ inc ∷ steps 2 2

-- one call after the other
abbrev pub in_turn : List (Event Value)
in_turn = steps 1 2 ++ inc ∷ steps 2 4 ++ inc ∷ steps 3 4

-- both read before either writes
abbrev pub lost : List (Event Value)
lost = steps 1 2 ++ inc ∷ inc ∷ steps 2 1 ++ steps 3 1 ++ steps 2 3 ++ steps 3 3

-- a crash in the middle of the write, and the same again
abbrev pub crashed_write : List (Event Value)
crashed_write = up_to_the_write ++ event.Crash ∷ steps 4 2 ++ inc ∷ steps 5 4

pub record CounterRows : Type 0 where
  pub shaped : is_well_shaped counter ≡ true
  -- the seventh event, a read of the second call, meets the mark of the first call's write
  pub before : (counter_run up_to_the_write).fault ≡ None
  pub races : counter_outcome up_to_the_write (event.Step 3 0) ≡ Undefined reason.Race
  pub faulty : (counter_run (up_to_the_write ++ steps 3 1)).fault ≡ Some reason.Race
  pub history : (counter_run (up_to_the_write ++ steps 3 1)).history ≡ entry.Boot ∷ entry.Call 1 0 [] ∷ entry.Call 2 0 [] ∷ []
  -- after that nothing is possible
  pub nothing_more : counter_outcome (up_to_the_write ++ steps 3 1) (event.Step 2 0) ≡ Blocked
  pub no_crash : counter_outcome (up_to_the_write ++ steps 3 1) event.Crash ≡ Blocked
  pub counts : (counter_run in_turn).history
      ≡ entry.Boot ∷ entry.Call 1 0 [] ∷ entry.Answer 1 (value.Word 0) ∷ entry.Call 2 0 [] ∷ entry.Answer 2 (value.Word 1) ∷ []
  pub loses_one : (counter_run lost).history
      ≡ entry.Boot ∷ entry.Call 1 0 [] ∷ entry.Call 2 0 [] ∷ entry.Answer 1 (value.Word 0) ∷ entry.Answer 2 (value.Word 0) ∷ []
  pub no_call_before_the_boot : counter_outcome (steps 1 1) inc ≡ Blocked
  pub no_argument : counter_outcome (steps 1 2) (event.Call 0 (value.Word 1 ∷ [])) ≡ Blocked
  pub no_thread : counter_outcome (steps 1 2) (event.Step 1 0) ≡ Blocked
  pub no_disk : counter_outcome [] (event.Fail 0) ≡ Blocked
  -- threads of before a crash are gone
  pub dropped : counter_outcome (up_to_the_write ++ event.Crash ∷ []) (event.Step 2 0) ≡ Blocked
  -- the heap goes, with its mark; numbers of threads and calls go on, those of objects start again
  pub crashes : (counter_run crashed_write).history
      ≡ entry.Boot ∷ entry.Call 1 0 [] ∷ entry.Call 2 0 [] ∷ entry.Crash ∷ entry.Boot ∷ entry.Call 3 0 [] ∷ entry.Answer 3 (value.Word 0) ∷ []
  pub one_object : fresh (counter_run crashed_write).world ≡ 2

-- ---- disks that mirror each other

abbrev byte_block : ℕ → List ℕ
byte_block b = replicate 4096 b

-- for x = 0; x < count; x = x + 1 { body }, and the rest
abbrev for_ : (x count : ℕ) → (Block → Block) → Block → Block
for_ x count body rest =
    do_ (Let x (Number 0))
    (next (Loop
    (next (If (Two binary.Less (LocalAt x) (Number count)) finish (next (Break nowhere) finish) nowhere)
    (body (do_ (Let x (Two binary.Plus (LocalAt x) (Number 1))) (next (Continue nowhere) finish)))) nowhere)
    rest)

-- locals: 0 i, 1 v, 2 ok, 3 s, 4 j, 5 m, 6 what is returned
abbrev mirror_recover : ℕ → Proc
mirror_recover count = record {
  name = codes "Recover";
  params = 0;
  locals = of_kind kind.Word ∷ of_kind kind.Slice ∷ of_kind kind.Bool ∷ of_kind kind.Slice ∷ of_kind kind.Word ∷ of_kind kind.Ref ∷ of_kind kind.Ref ∷ [];
  results = kind.Ref ∷ [];
  body =
      for_ 0 count (λ rest.
      do_ (DiskRead2 1 2 (Number 0) (LocalAt 0))
      (next (If (LocalAt 2) (do_ (DiskWrite (Number 1) (LocalAt 0) (LocalAt 1)) finish) finish nowhere) rest))
      (do_ (MakeSlice 3 item.Ref (Number count))
      (for_ 4 count (λ rest.
      do_ (NewMutex 5) (do_ (Put (LocalAt 3) (LocalAt 4) (LocalAt 5)) rest))
      (do_ (New 6 0 (LocalAt 3 ∷ []))
      (next (Return (LocalAt 6 ∷ []) nowhere) finish))));
}

-- locals: 0 r, 1 a, 2 s, 3 m, 4 v, 5 ok, 6 the second truth value
abbrev mirror_read : Proc
mirror_read = record {
  name = codes "Repl.Read";
  params = 2;
  locals = of_kind kind.Ref ∷ of_kind kind.Word ∷ of_kind kind.Slice ∷ of_kind kind.Ref ∷ of_kind kind.Slice ∷ of_kind kind.Bool ∷ of_kind kind.Bool ∷ [];
  results = kind.Slice ∷ [];
  body =
      do_ (Load 2 (LocalAt 0) 0 0)
      (do_ (At 3 (LocalAt 2) (LocalAt 1))
      (do_ (Lock (LocalAt 3))
      (do_ (DiskRead2 4 5 (Number 0) (LocalAt 1))
      (next (If (One unary.Not (LocalAt 5)) (do_ (DiskRead2 4 6 (Number 1) (LocalAt 1)) finish) finish nowhere)
      (do_ (Unlock (LocalAt 3))
      (next (Return (LocalAt 4 ∷ []) nowhere) finish))))));
}

-- locals: 0 r, 1 a, 2 v, 3 s, 4 m
abbrev mirror_write : Proc
mirror_write = record {
  name = codes "Repl.Write";
  params = 3;
  locals = of_kind kind.Ref ∷ of_kind kind.Word ∷ of_kind kind.Slice ∷ of_kind kind.Slice ∷ of_kind kind.Ref ∷ [];
  results = [];
  body =
      do_ (Load 3 (LocalAt 0) 0 0)
      (do_ (At 4 (LocalAt 3) (LocalAt 1))
      (do_ (Lock (LocalAt 4))
      (do_ (DiskWrite (Number 0) (LocalAt 1) (LocalAt 2))
      (do_ (DiskWrite (Number 1) (LocalAt 1) (LocalAt 2))
      (do_ (Unlock (LocalAt 4))
      (next (Return [] nowhere) finish))))));
}

-- over so many blocks
abbrev pub mirror : ℕ → Program
mirror count = record {
  structs = record { name = codes "Repl"; fields = of_kind kind.Slice ∷ [] } ∷ [];
  procs = mirror_recover count ∷ mirror_read ∷ mirror_write ∷ [];
  recover = 0;
  ops = 1 ∷ 2 ∷ [];
}

-- the specification names the operations in this order
abbrev pub mirror_setting : ℕ → Setting
mirror_setting count = record { disks = 2; blocks = count; names = codes "Read" ∷ codes "Write" ∷ [] }

abbrev pub mirror_allows : ℕ → ℕ → List Value → Bool
mirror_allows count zero (value.Word a ∷ []) = nat_lt a count
mirror_allows count (suc zero) (value.Word a ∷ value.Bytes v ∷ []) = nat_lt a count && nat_eq (length v) 4096
mirror_allows count op args = false

abbrev pub mirror_run : ℕ → List (Event Value) → State
mirror_run count events = run_of (machine_of (mirror count) (mirror_setting count)) (mirror_allows count) events

abbrev pub mirror_outcome : ℕ → List (Event Value) → Event Value → Answer State
mirror_outcome count events e = outcome_of (machine_of (mirror count) (mirror_setting count)) (mirror_allows count) (mirror_run count events) e

abbrev pub read_block : ℕ → Event Value
read_block a = event.Call 0 (value.Word a ∷ [])

abbrev pub write_block : ℕ → ℕ → Event Value
write_block a b = event.Call 1 (value.Word a ∷ value.Bytes (byte_block b) ∷ [])

-- the first disk fails, and the second one, which may not
abbrev pub both_fail : List (Event Value)
both_fail = steps 1 30 ++ event.Fail 0 ∷ event.Fail 1 ∷ read_block 0 ∷ steps 2 20

-- the second of two calls waits for the mutex that the first one holds
abbrev pub both_lock : List (Event Value)
both_lock = steps 1 30 ++ read_block 0 ∷ read_block 0 ∷ steps 2 3 ++ steps 3 2

-- a call that isn't possible, and one that is
abbrev pub out_of_range : List (Event Value)
out_of_range = steps 1 30 ++ write_block 1 0 ∷ write_block 0 0 ∷ steps 2 20

-- a crash behind the write of the first disk, one in the middle of the recovery, a whole recovery, and the first disk fails
abbrev pub crashes : List (Event Value)
crashes = steps 1 30 ++ write_block 0 171 ∷ steps 2 4 ++ event.Crash ∷ steps 3 5 ++ event.Crash ∷ steps 4 30 ++ event.Fail 0 ∷ read_block 0 ∷ steps 5 20

pub record MirrorRows : Type 0 where
  pub shaped : is_well_shaped (mirror 8) ≡ true
  pub one_fails : (mirror_run 1 both_fail).history
      ≡ entry.Boot ∷ entry.Call 1 0 (value.Word 0 ∷ []) ∷ entry.Answer 1 (value.Bytes (byte_block 0)) ∷ []
  pub marks : map (λ d. d.failed) (mirror_run 1 both_fail).world.disks ≡ true ∷ false ∷ []
  pub fails : map (λ d. d.failed) (mirror_run 1 (steps 1 30 ++ event.Fail 0 ∷ [])).world.disks ≡ true ∷ false ∷ []
  pub only_one_fails : mirror_outcome 1 (steps 1 30 ++ event.Fail 0 ∷ []) (event.Fail 1) ≡ Blocked
  pub defined : (mirror_run 1 crashes).fault ≡ None
  pub recovers : (mirror_run 1 crashes).history
      ≡ entry.Boot ∷ entry.Call 1 1 (value.Word 0 ∷ value.Bytes (byte_block 171) ∷ []) ∷ entry.Crash ∷ entry.Crash ∷ entry.Boot
      ∷ entry.Call 2 0 (value.Word 0 ∷ []) ∷ entry.Answer 2 (value.Bytes (byte_block 171)) ∷ []
  pub waits : mirror_outcome 1 both_lock (event.Step 3 0) ≡ Blocked
  pub goes_on : (mirror_run 1 (both_lock ++ steps 2 20 ++ steps 3 20)).history
      ≡ entry.Boot ∷ entry.Call 1 0 (value.Word 0 ∷ []) ∷ entry.Call 2 0 (value.Word 0 ∷ [])
      ∷ entry.Answer 1 (value.Bytes (byte_block 0)) ∷ entry.Answer 2 (value.Bytes (byte_block 0)) ∷ []
  pub no_such_block : mirror_outcome 1 (steps 1 30) (write_block 1 0) ≡ Blocked
  -- and takes no number
  pub numbered : (mirror_run 1 out_of_range).history
      ≡ entry.Boot ∷ entry.Call 1 1 (value.Word 0 ∷ value.Bytes (byte_block 0) ∷ []) ∷ entry.Answer 1 value.Unit ∷ []
