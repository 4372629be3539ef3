-- The program of a package of the small form refines each specification of the small form with the same operations.
use Rattle.std.proofs.Common.{◌≡◌, ℕ, cond, List, [], ◌∷◌, map, Some, None, refl, sym, ap, subst, ◌∙◌}
use Rattle.gv_base.specs.declared.answers.Place.{Place}
use Rattle.gv_base.specs.declared.small.Small.{Small}
use Rattle.gv_base.specs.declared.small.SmallOp.{SmallOp}
use Rattle.gv_base.specs.declared.answer.Answer.TheVariants.{Next, Blocked}
use Rattle.gv_base.specs.declared.val.Val.{Val}
use Rattle.gv_base.specs.declared.val.Val.TheVariants as val
use Rattle.gv_world.specs.Store.{Cells, Disk, Store as World, fresh, with_new}
use Rattle.gv_world.specs.Disks.{may_fail, with_failed, fail_disk}
use Rattle.gv_lang.specs.Tree.{LocalAt, Return}
use Rattle.gv_lang.specs.Todo.{Run}
use Rattle.gv_lang.specs.Threads.{Thread, new_frame, thread_of}
use Rattle.gv_terms.specs.declared.value.Value.{Value}
use Rattle.gv_spec.specs.Machine.{Machine}
use Rattle.gv_spec.specs.Specification.{Specification}
use Rattle.gv_smallprogram.specs.Sums.{sum_value, AgreeOps}
use Rattle.gv_spec.specs.Refines.{Refines}
use Rattle.gv_spec.proofs.Threads.{some_same}
use Rattle.gv_runs.specs.Machine.{possible, machine_of}
use Rattle.gv_smallprogram.specs.Program.{Unkept, recovery_proc, method_proc, program_with}
use Rattle.gv_smallprogram.specs.Specification.{setting_of, reply_to, word_or_zero, specification_of}
use Rattle.gv_smallprogram.specs.Laws.{IsSound, IsWord, ProgramsRefine}
use Rattle.gv_smallprogram.proofs.AtOnce.{Alone, AnswersAtOnce, RecoveryStep, recovery_goes, recovery_returns, CallStep, call_returns, Calling, refines_at_once}
use Rattle.gv_smallprogram.proofs.Calls.{IsTaken, taken, is_called, call_step}

-- ---- recovery

-- a thread that is to make its object
abbrev pub making : Place → Thread
making place = thread_of (new_frame 0 (recovery_proc place) [] [])

-- a thread that is to return the object under a number
abbrev pub handing : Place → ℕ → Thread
handing place object = thread_of (record { proc = 0; locals = val.Ref object ∷ []; todo = Run (Return (LocalAt 0 ∷ []) place) ∷ []; results = [] })

pub data IsRecovering (place : Place) : Thread → Type 0 where
  makes : IsRecovering place (making place)
  hands : (object : ℕ) → IsRecovering place (handing place object)

-- a receiver is one value
pub record IsReceiver (vs : List Val) : Type 0 where
  pub receiver : Val
  pub is : vs ≡ receiver ∷ []

-- there is no disk
abbrev Fits : World → Unit {0} → Type 0
Fits w fields = w.disks ≡ []

pub none_fails : (w : World) (disk : ℕ) → w.disks ≡ [] → possible (fail_disk w disk) ≡ None
none_fails w disk e =
    ap (λ (ds : List Disk). possible (cond (may_fail (record { objects = w.objects; disks = ds }) disk) (Next (with_failed w disk)) Blocked)) e

-- ---- one step

module _ (unkept : Unkept) (small : Small) (word : IsWord unkept) (sound : IsSound small) where
  abbrev machine : Machine World Thread (List Val) Value
  machine = machine_of (program_with unkept small) (setting_of small)

  abbrev atomic : Specification (Unit {0}) Value
  atomic = specification_of small

  plain : Alone atomic
  plain = record {
    applied = λ number args fields. (fields, word_or_zero (reply_to small number args));
    crashed = λ fields. fields;
    applies = λ number args fields allowed. refl;
    crashes = λ fields. refl;
  }

  at_once : AnswersAtOnce machine atomic plain Fits (IsRecovering unkept.recovers) IsReceiver
  unfolding plain
  at_once = record {
    starts = refl;
    recovers = makes;
    recovery_steps = steps;
    calls = λ r number args w f v t receives allowed e fit. (call r number args w v t receives (taken small number args allowed) e).0 fit;
    call_steps = λ r number args w v t receives allowed e. (call r number args w v t receives (taken small number args allowed) e).1;
    crashes = λ w f fit. fit;
    crashes_again = λ w f fit. fit;
    fails = λ disk w f v e fit. absurd (fails disk w v e fit);
  }
    where
      steps : (extra : ℕ) (t : Thread) (w : World) (f : Unit {0}) → IsRecovering unkept.recovers t → Fits w f
          → RecoveryStep machine atomic plain Fits (IsRecovering unkept.recovers) IsReceiver f (machine.stepped extra t w)
      steps extra t w f makes fit = recovery_goes (with_new w (Cells [])) (handing unkept.recovers (fresh w)) fit (hands (fresh w))
      steps extra t w f (hands object) fit = recovery_returns w (val.Ref object ∷ []) fit (record { receiver = val.Ref object; is = refl })

      replies : (number : ℕ) (args : List Value) (t : IsTaken small number args) (receiver : Val) (proc : ℕ) (name : List ℕ) (place : Place)
          → Calling machine atomic plain Fits (IsRecovering unkept.recovers) IsReceiver number args
          (thread_of (new_frame proc (method_proc unkept.type_name name place t.op) (receiver ∷ map val.Word t.ns) []))
      replies number args t receiver proc name place extra u f fit =
          subst (CallStep machine atomic plain Fits (IsRecovering unkept.recovers) IsReceiver number args f)
          (sym (call_step unkept small word sound number args receiver t proc name place extra u))
          (call_returns u (val.Word (sum_value t.op t.ns) ∷ []) fit (rw t.reply refl))

      on_value : (receiver : Val) (number : ℕ) (args : List Value) (w v : World) (t : Thread) (k : IsTaken small number args)
          → machine.called (receiver ∷ []) number args w ≡ Some (v, t)
          → (Fits w tt → Fits v tt) × Calling machine atomic plain Fits (IsRecovering unkept.recovers) IsReceiver number args t
      on_value receiver number args w v t k e =
          let c = is_called unkept small word sound number args receiver w k in
          let thread : Thread = thread_of (new_frame c.proc (method_proc unkept.type_name c.name c.place k.op) (receiver ∷ map val.Word k.ns) []) in
          let pair : (w, thread) ≡ (v, t) = some_same (w, thread) (v, t) (sym c.is ∙ e) in
          let world : w ≡ v = ap (λ p. p.0) pair in
          let same : thread ≡ t = ap (λ p. p.1) pair in (
            (λ fit. subst (λ x. Fits x tt) world fit),
            subst (Calling machine atomic plain Fits (IsRecovering unkept.recovers) IsReceiver number args) same (replies number args k receiver c.proc c.name c.place),
          )

      call : (r : List Val) (number : ℕ) (args : List Value) (w v : World) (t : Thread) → IsReceiver r → IsTaken small number args
          → machine.called r number args w ≡ Some (v, t)
          → (Fits w tt → Fits v tt) × Calling machine atomic plain Fits (IsRecovering unkept.recovers) IsReceiver number args t
      call r number args w v t receives k e =
          on_value receives.receiver number args w v t k (subst (λ q. machine.called q number args w ≡ Some (v, t)) receives.is e)

      fails : (disk : ℕ) (w v : World) → machine.failed disk w ≡ Some v → w.disks ≡ [] → ⊥
      fails disk w v e fit = (let no : None ≡ Some v = sym (none_fails w disk fit) ∙ e in cc)

  own : Refines machine atomic
  own = refines_at_once machine atomic plain Fits (IsRecovering unkept.recovers) IsReceiver at_once

-- ---- the same operations

same_op : (x y : SmallOp) → x.name ≡ y.name → x.params ≡ y.params → x.first ≡ y.first → x.rest ≡ y.rest → x ≡ y
same_op x y n p f r = λ i. record { name = n i; params = p i; first = f i; rest = r i }

same_ops : (xs ys : List SmallOp) → map (λ op. op.name) xs ≡ map (λ op. op.name) ys → map (λ op. op.params) xs ≡ map (λ op. op.params) ys
    → map (λ op. op.first) xs ≡ map (λ op. op.first) ys → map (λ op. op.rest) xs ≡ map (λ op. op.rest) ys → xs ≡ ys
same_ops [] [] n p f r = refl
same_ops [] (y ∷ ys) n p f r = absurd cc
same_ops (x ∷ xs) [] n p f r = absurd cc
same_ops (x ∷ xs) (y ∷ ys) n p f r =
    let front : x ≡ y = same_op x y (cc) (cc) (cc) (cc) in
    let rest : xs ≡ ys = same_ops xs ys (cc) (cc) (cc) (cc) in
    ap (λ z. z ∷ xs) front ∙ ap (λ zs. y ∷ zs) rest

pub same_of_agree : (program small : Small) → AgreeOps program small → program.ops ≡ small.ops
same_of_agree program small a = same_ops program.ops small.ops a.interface.names a.interface.params a.sums.firsts a.sums.rests

pub same_small : (program small : Small) → program.ops ≡ small.ops → program ≡ small
same_small program small e = λ i. record { ops = e i }

pub programs_refine : ProgramsRefine
programs_refine unkept program small word sound agree =
    let same : program ≡ small = same_small program small (same_of_agree program small agree) in
    let all : Refines (machine_of (program_with unkept program) (setting_of small)) (specification_of small) =
    subst (λ s. Refines (machine_of (program_with unkept program) (setting_of s)) (specification_of s)) same (own unkept program word sound) in
    record { every = all; without_crash = λ events h. all events }
