-- The machine of a package: of its program, with the disks and the names of operations that a specification gives it.
use Rattle.std.specs.Prelude.{ℕ, List, [], ◌∷◌, Option, Some, None, Result, Ok, Err, map, slice_get, option_map, option_and_then}
use Rattle.gv_base.specs.declared.reason.Reason.{Reason}
use Rattle.gv_base.specs.declared.reason.Reason.TheVariants as reason
use Rattle.gv_base.specs.declared.answer.Answer.{Answer}
use Rattle.gv_base.specs.declared.answer.Answer.TheVariants.{Next, Blocked, Undefined}
use Rattle.gv_base.specs.declared.val.Val.{Val}
use Rattle.gv_world.specs.Store.{Store as World, zero_store, crashed}
use Rattle.gv_world.specs.Disks.{fail_disk}
use Rattle.gv_lang.specs.Tree.{Program}
use Rattle.gv_lang.specs.Threads.{Thread}
use Rattle.gv_lang.specs.Step as step
use Rattle.gv_lang.specs.Calls as given
use Rattle.gv_lang.specs.Calls.{Given, recovery, operation, called, reply}
use Rattle.gv_terms.specs.declared.value.Value.{Value}
use Rattle.gv_terms.specs.declared.value.Value.TheVariants as value
use Rattle.gv_atomic.specs.declared.spec.Spec.{Spec}
use Rattle.gv_spec.specs.Machine.{Stepped, GoesOn, Returns, Machine}

-- what a program is run with: so many disks of so many blocks, and the names of the operations that calls
-- number from 0
pub record Setting : Type 0 where
  pub disks : ℕ
  pub blocks : ℕ
  pub names : List (List ℕ)

abbrev pub setting_of : Spec → Setting
setting_of s = record { disks = s.disks; blocks = s.blocks; names = map (λ o. o.name) s.ops }

-- ---- values of a specification, as calls give and take them

-- a value of another sort is no argument
abbrev pub given_of : Value → Option Given
given_of (value.Word n) = Some (given.Word n)
given_of (value.Bool b) = Some (given.Truth b)
given_of (value.Bytes x) = Some (given.Bytes x)
given_of _ = None

abbrev pub all_given : List Value → Option (List Given)
all_given [] = Some []
all_given (v ∷ vs) = option_and_then (λ one. option_map (λ rest. one ∷ rest) (all_given vs)) (given_of v)

abbrev pub value_of : Given → Value
value_of (given.Word n) = value.Word n
value_of (given.Truth b) = value.Bool b
value_of (given.Bytes x) = value.Bytes x
value_of given.Nothing = value.Unit

-- ---- what the program does, as a machine's parts

-- what a thread's step leaves, as a machine tells it
abbrev pub left_by : Answer step.Stepped → Answer (Stepped World Thread (List Val))
left_by (Next (step.GoesOn w th started)) = Next (GoesOn w th started)
left_by (Next (step.Returns w vs)) = Next (Returns w vs)
left_by Blocked = Blocked
left_by (Undefined reason) = Undefined reason

-- a reply that can't be read is undefined; none of them waits
abbrev pub replied : Answer Given → Result Value Reason
replied (Next g) = Ok (value_of g)
replied Blocked = Err reason.Kind
replied (Undefined reason) = Err reason

-- the world that an access leaves, where it is possible
abbrev pub possible : Answer World → Option World
possible (Next w) = Some w
possible _ = None

-- the procedure of the operation under a number
abbrev pub procedure : Program → Setting → ℕ → Option ℕ
procedure g s op = option_and_then (λ name. operation g name) (slice_get s.names op)

-- the thread of a call, and the world with its arguments' buffers
abbrev pub call_of : Program → Setting → List Val → ℕ → List Value → World → Option (World × Thread)
call_of g s receiver op args w =
    option_and_then (λ f. option_and_then (λ givens. called g f receiver givens w) (all_given args)) (procedure g s op)

-- what recovery returned is the receiver of each call
abbrev pub machine_of : Program → Setting → Machine World Thread (List Val) Value
machine_of g s = record {
  first_world = zero_store s.disks s.blocks;
  recovery = recovery g;
  stepped = λ extra th w. left_by (step.stepped g extra th w);
  called = call_of g s;
  reply = λ vs w. replied (reply w vs);
  crashed = crashed;
  failed = λ disk w. possible (fail_disk w disk);
}
