-- A program that refines a specification gives the replies of its own package, which are then those of the specification.
use Rattle.std.proofs.Common.{◌≡◌, ℕ, Bool, true, false, eqb, eqb-true, eq-eqb, List, [], ◌∷◌, Some, is_some, map, refl, sym, ap, subst, ◌∙◌}
use Rattle.gv_base.specs.declared.small.Small.{Small}
use Rattle.gv_base.specs.declared.val.Val.{Val}
use Rattle.gv_base.specs.declared.val.Val.TheVariants as val
use Rattle.gv_world.specs.Store.{Store as World}
use Rattle.gv_lang.specs.Threads.{Thread, new_frame, thread_of}
use Rattle.gv_terms.specs.declared.value.Value.{Value}
use Rattle.gv_terms.specs.declared.value.Value.TheVariants as value
use Rattle.gv_spec.specs.Event as event
use Rattle.gv_spec.specs.Event.{Event}
use Rattle.gv_spec.specs.Entry as entry
use Rattle.gv_spec.specs.Machine.{Machine}
use Rattle.gv_spec.specs.Plain.{unless_chosen}
use Rattle.gv_spec.specs.Runs.{Answers, RunState, call_started, call_made, settled, step_taken, event_made, after, run_of, history_of}
use Rattle.gv_spec.specs.Walks.{Explains}
use Rattle.gv_spec.specs.Refines.{IsWithoutCrash, RefinesWithoutCrash}
use Rattle.gv_smallprogram.specs.Sums.{sum_value}
use Rattle.gv_spec.proofs.Threads.{some_same}
use Rattle.gv_spec.proofs.WalkLaws.{no_wrong_reply}
use Rattle.gv_runs.specs.Machine.{Setting, call_of, machine_of}
use Rattle.gv_smallprogram.specs.Program.{Unkept, method_proc, program_with}
use Rattle.gv_smallprogram.specs.Specification.{setting_of, reply_to, word_or_zero, specification_of}
use Rattle.gv_smallprogram.specs.Laws.{IsSound, IsWord, RefinesOnlySameReplies}
use Rattle.gv_smallprogram.proofs.Calls.{IsTaken, taken, IsCalled, is_called, call_step}

chosen_same : (choices : List ℕ) (fields then : Unit {0}) (x y : Value) → unless_chosen {A = Unit {0} × Value} choices (fields, x) ≡ Some (then, y) → x ≡ y
chosen_same [] fields then x y e =
    let before : Unit {0} × Value = (fields, x) in
    let after : Unit {0} × Value = (then, y) in
    let same : before ≡ after = some_same before after e in
    ap (λ p. p.1) same
chosen_same (choice ∷ choices) fields then x y e = absurd cc

words_same : (x y : ℕ) → value.Word x ≡ value.Word y → x ≡ y
words_same x y e = cc

module _ (unkept : Unkept) (program small : Small) (word : IsWord unkept) (sound : IsSound program) (same : setting_of program ≡ setting_of small)
    (number : ℕ) (args : List Value) (x y : ℕ) (has : reply_to program number args ≡ Some x) (told : reply_to small number args ≡ Some y) where
  abbrev machine : Machine World Thread (List Val) Value
  machine = machine_of (program_with unkept program) (setting_of small)

  abbrev allowed : ℕ → List Value → Bool
  allowed = (specification_of small).allows

  abbrev one_call : List (Event Value)
  one_call = event.Step 1 0 ∷ event.Step 1 0 ∷ event.Call number args ∷ event.Step 2 0 ∷ []

  abbrev booted : RunState World Thread (List Val) Value
  booted = run_of machine allowed (event.Step 1 0 ∷ event.Step 1 0 ∷ [])

  taken_here : IsTaken program number args
  taken_here = taken program number args (ap is_some has)

  abbrev called_here : IsCalled unkept program word sound number args (val.Ref 1) booted.world taken_here
  called_here = is_called unkept program word sound number args (val.Ref 1) booted.world taken_here

  abbrev thread : Thread
  thread = thread_of (new_frame called_here.proc (method_proc unkept.type_name called_here.name called_here.place taken_here.op) (val.Ref 1 ∷ map val.Word taken_here.ns) [])

  abbrev begun : RunState World Thread (List Val) Value
  begun = settled booted (call_started booted number args (Some (booted.world, thread)))

  called_is : call_of (program_with unkept program) (setting_of small) (val.Ref 1 ∷ []) number args booted.world ≡ Some (booted.world, thread)
  called_is = subst (λ s. call_of (program_with unkept program) s (val.Ref 1 ∷ []) number args booted.world ≡ Some (booted.world, thread)) same called_here.is

  call_is_made : event_made machine allowed booted (event.Call number args) ≡ call_started booted number args (Some (booted.world, thread))
  call_is_made = ap (call_made machine booted number args (Some (val.Ref 1 ∷ []))) (ap is_some told) ∙ ap (call_started booted number args) called_is

  sum_here : sum_value taken_here.op taken_here.ns ≡ x
  sum_here = some_same (sum_value taken_here.op taken_here.ns) x (sym taken_here.reply ∙ has)

  step_is_made : (after machine allowed begun (event.Step 2 0)).history ≡ entry.Boot ∷ entry.Call 1 number args ∷ entry.Answer 1 (value.Word x) ∷ []
  step_is_made =
      ap (λ a. (settled begun (step_taken machine begun 2 (Answers 1) a)).history)
      (call_step unkept program word sound number args (val.Ref 1) taken_here called_here.proc called_here.name called_here.place 0 booted.world)
      ∙ ap (λ n. entry.Boot ∷ entry.Call 1 number args ∷ entry.Answer 1 (value.Word n) ∷ []) sum_here

  one_history : history_of machine allowed one_call ≡ entry.Boot ∷ entry.Call 1 number args ∷ entry.Answer 1 (value.Word x) ∷ []
  one_history = ap (λ a. (after machine allowed (settled booted a) (event.Step 2 0)).history) call_is_made ∙ step_is_made

  reply_is : (choices : List ℕ) (fields then : Unit {0}) → (specification_of small).applied number args choices fields ≡ Some (then, value.Word x) → x ≡ y
  reply_is choices fields then e =
      let replies = chosen_same choices fields then (word_or_zero (reply_to small number args)) (value.Word x) e in
      words_same x y (sym replies ∙ ap word_or_zero told)

  no_crash : IsWithoutCrash one_call
  no_crash = ((λ h. cc), ((λ h. cc), ((λ h. cc), ((λ h. cc), tt))))

  same_reply : RefinesWithoutCrash machine (specification_of small) → x ≡ y
  same_reply refines = go (eqb x y) refl
    where
      false_eq : eqb x y ≡ false → x ≡ y → ⊥
      false_eq t e = (let u = eq-eqb x y e in cc)

      go : (b : Bool) → eqb x y ≡ b → x ≡ y
      go true t = eqb-true x y t
      go false t =
          let r = refines one_call no_crash in
          absurd (no_wrong_reply (Unit {0}) Value (specification_of small) 1 number args (value.Word x) (entry.Boot ∷ []) [] []
          (λ choices fields then e. false_eq t (reply_is choices fields then e)) r.moves (subst (λ z. Explains (specification_of small) r.moves z) one_history r.explains))

pub refines_only_same : RefinesOnlySameReplies
refines_only_same unkept program small word sound interface refines number args x y has told =
    same_reply unkept program small word sound (ap (λ ns. let s : Setting = record { disks = 0; blocks = 0; names = ns } in s) interface.names) number args x y has told refines
