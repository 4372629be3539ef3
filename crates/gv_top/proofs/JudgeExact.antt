-- `judge` comes to one outcome over files that are told.
use Rattle.std.proofs.Common.{◌≡◌, ℕ, List, [], ◌∷◌, map, Result, Ok, Err, refl, sym, ap, subst, ◌∙◌, ◌⊎◌, inl, inr}
use Rattle.std.specs.Prelude.{Vec}
use Rattle.std.specs.declared.alloc.Global.{Global}
use Rattle.gv_base.specs.Outside.{Told}
use Rattle.gv_base.specs.declared.answers.Code.{Code}
use Rattle.gv_base.specs.declared.answers.Place.{Place}
use Rattle.gv_report.specs.declared.format.Format.{Format}
use Rattle.gv_terms.specs.declared.value.Value.{Value}
use Rattle.gv_atomic.specs.declared.spec.Spec.{Spec}
use Rattle.gv_spec.specs.Entry as plain_entry
use Rattle.gv_spec.specs.Move as plain
use Rattle.gv_spec.specs.History.{entry_of, move_of}
use Rattle.gv_spec.specs.declared.entry.Entry.{Entry}
use Rattle.gv_spec.specs.declared.entry.Entry.TheVariants as held_entry
use Rattle.gv_spec.specs.declared.explanation.Move.{Move}
use Rattle.gv_spec.specs.declared.explanation.Move.TheVariants as held_move
use Rattle.gv_specs.specs.Alike.{AreAlike}
use Rattle.gv_specs.proofs.Alike.{one_specification}
use Rattle.gv_judge.specs.Explained.{search_order}
use Rattle.gv_judge.specs.SearchLaws.{AnswersExclude}
use Rattle.gv_judge.proofs.AnswerLaws.{answers_exclude}
use Rattle.gv_lines.specs.Moves.{move_lines}
use Rattle.gv_top.specs.declared.files.Halt.{Halt}
use Rattle.gv_top.specs.declared.files.Halt.TheVariants.{NoMemory, CannotRead, Refused}
use Rattle.gv_top.specs.declared.judge.Judgement.{Judgement}
use Rattle.gv_top.specs.declared.judge.Judgement.TheVariants.{Explained, Unexplained, Spent}
use Rattle.gv_top.specs.Files.{Source, Asked, Course, Then, Keeps, Finishes, IsBlamed, outside, as_told}
use Rattle.gv_top.specs.Forms.{written_specs, histories_of}
use Rattle.gv_top.specs.Judge.{Tells, Judges}
use Rattle.gv_top.specs.Run.{OnlyAbsentFailed}
use Rattle.gv_top.proofs.AlikeLines.{same_history, same_refused_history, same_entries}
use Rattle.gv_top.proofs.AlikeNodes.{judged_by}
use Rattle.gv_top.proofs.ExplainExact.{specs_exact, histories_exact, one_history, other_form, no_finish}
use Rattle.gv_top.proofs.OutcomeLemmas.{then_refused}
use Rattle.gv_top.proofs.StageLemmas.{Same, SameEnd, kept_same, stage}

-- ---- moves as the program holds them

held_entry_of : plain_entry.Entry Value → Entry
held_entry_of (plain_entry.Call number op args) = held_entry.Call number op args
held_entry_of (plain_entry.Answer number reply) = held_entry.Answer number reply
held_entry_of plain_entry.Crash = held_entry.Crash
held_entry_of plain_entry.Boot = held_entry.Boot

held_of : plain.Move Value → Move
held_of (plain.Act number choices) = held_move.Act number choices
held_of (plain.Boot choices) = held_move.Boot choices
held_of (plain.Other e) = held_move.Other (held_entry_of e)

held_is : (m : Move) → held_of (move_of m) ≡ m
unfolding held_of held_entry_of
held_is (held_move.Act number choices) = refl
held_is (held_move.Boot choices) = refl
held_is (held_move.Other (held_entry.Call number op args)) = refl
held_is (held_move.Other (held_entry.Answer number reply)) = refl
held_is (held_move.Other held_entry.Crash) = refl
held_is (held_move.Other held_entry.Boot) = refl

all_held : (ms : List Move) → map held_of (map move_of ms) ≡ ms
all_held [] = refl
all_held (m ∷ ms) = ap (λ (x : Move). x ∷ map held_of (map move_of ms)) (held_is m) ∙ ap (λ (xs : List Move). m ∷ xs) (all_held ms)

-- so those that mean the same are the same
moves_same : (ms ns : List Move) → map move_of ms ≡ map move_of ns → ms ≡ ns
moves_same ms ns e = sym (all_held ms) ∙ ap (map held_of) e ∙ all_held ns

-- ---- one judgement

exclude : AnswersExclude Value
exclude = answers_exclude Value

tells_same : (s : Spec) (history : List Entry) (most : ℕ) (j k : Judgement) → Tells s history most j → Tells s history most k → j ≡ k
tells_same s history most (Explained xs) (Explained ys) h k =
    let first = exclude.one_first (search_order s history) (map entry_of history) most (map move_of h.moves) (map move_of k.moves) h.first k.first in
    let lines : xs ≡ ys = h.lines_are ∙ ap (move_lines s) (moves_same h.moves k.moves first) ∙ sym k.lines_are in
    ap Explained lines
tells_same s history most (Explained xs) Unexplained h k =
    absurd (exclude.first_or_none (search_order s history) (map entry_of history) most (map move_of h.moves) h.first k.0)
tells_same s history most (Explained xs) (Spent n) h k =
    absurd (exclude.first_or_spent (search_order s history) (map entry_of history) most (map move_of h.moves) h.first k.1)
tells_same s history most Unexplained (Explained ys) h k =
    absurd (exclude.first_or_none (search_order s history) (map entry_of history) most (map move_of k.moves) k.first h.0)
tells_same s history most Unexplained Unexplained h k = refl
tells_same s history most Unexplained (Spent n) h k = absurd (exclude.none_or_spent (search_order s history) (map entry_of history) most h.0 k.1)
tells_same s history most (Spent m) (Explained ys) h k =
    absurd (exclude.first_or_spent (search_order s history) (map entry_of history) most (map move_of k.moves) k.first h.1)
tells_same s history most (Spent m) Unexplained h k = absurd (exclude.none_or_spent (search_order s history) (map entry_of history) most k.0 h.1)
tells_same s history most (Spent m) (Spent n) h k = ap Spent (h.0 ∙ sym k.0)

finishes_same : (s : Spec) (history : List Entry) (most : ℕ) (o q : Result Judgement Halt) → Finishes (Tells s history most) o → Finishes (Tells s history most) q
    → (q ≡ Err NoMemory → ⊥) → Same o q
finishes_same s history most (Ok j) (Ok k) h l n = inl (ap Ok (tells_same s history most j k h l))
finishes_same s history most (Ok j) (Err NoMemory) h l n = absurd (n refl)
finishes_same s history most (Ok j) (Err (CannotRead name)) h l n = absurd l
finishes_same s history most (Ok j) (Err (Refused name place code)) h l n = absurd l
finishes_same s history most (Err NoMemory) q h l n = inr refl
finishes_same s history most (Err (CannotRead name)) q h l n = absurd h
finishes_same s history most (Err (Refused name place code)) q h l n = absurd h

finishes_by : (s t : Spec) → AreAlike s t → (history : List Entry) (most : ℕ) (o : Result Judgement Halt) → Finishes (Tells s history most) o → Finishes (Tells t history most) o
finishes_by s t alike history most (Ok j) h = judged_by s t alike history most j h
finishes_by s t alike history most (Err NoMemory) h = h
finishes_by s t alike history most (Err (CannotRead name)) h = h
finishes_by s t alike history most (Err (Refused name place code)) h = h

-- ---- the stages

abbrev pub Last : ℕ → Spec → Vec Entry Global → Course Judgement
Last most s history = Keeps (Finishes (Tells s history.items most))

abbrev pub First : Source → List ℕ → ℕ → Spec → Course Judgement
First source h most s = Then source (histories_of s) h (Last most s)

first_by : (source : Source) (h : List ℕ) (most : ℕ) (s t : Spec) (before after : Format) (o : Result Judgement Halt) → AreAlike s t → First source h most s before o after
    → First source h most t before o after
first_by source h most s t before after o alike first =
    other_form source (histories_of s) (histories_of t) h (λ text x k. (same_history s t alike text x.items k.0, same_entries s t alike x.items k.1))
    (λ text place code k. (k.0, k.1, same_refused_history s t alike text k.0 code k.2)) before after o (Last most s) (Last most t)
    (λ history middle k. (finishes_by s t alike history.items most o k.0, k.1)) first

module _ (held : List ℕ → Told) (a : Asked) (held_as : a.held ≡ held) (absent : OnlyAbsentFailed a) (o q : Result Judgement Halt) (f g : Format) (b : IsBlamed a o) (n : q ≡ Err NoMemory → ⊥) where
  history_stage : (h : List ℕ) (most : ℕ) (s : Spec) (before : Format) → First (outside held) h most s before o f → First (as_told held) h most s before q g → SameEnd o f q g
  history_stage h most s before c d =
      stage (histories_of s) (histories_exact s) held h a held_as absent before f g o q (Last most s) (Last most s) b c d n
      (λ text x y middle e l more rest. kept_same o q middle f g more.1 rest.1
      (finishes_same s y.items most o q (subst (λ (es : List Entry). Finishes (Tells s es most) o) (one_history s text x y e l) more.0) rest.0 n))

  pub judges_same : (s h : List ℕ) (most : ℕ) (before : Format) → Judges (outside held) s h most before o f → Judges (as_told held) s h most before q g → SameEnd o f q g
  judges_same s h most before c d =
      stage written_specs specs_exact held s a held_as absent before f g o q (First (outside held) h most) (First (as_told held) h most) b c d n
      (λ text x y middle e l more rest. history_stage h most y middle (first_by (outside held) h most x y middle f o (one_specification text x y e l) more) rest)

-- a refusal is of one of the two files
pub judge_refused : (source : Source) (s h : List ℕ) (most : ℕ) (name : List ℕ) (place : Place) (code : Code) (before after : Format) (o : Result Judgement Halt)
    → o ≡ Err (Refused name place code) → Judges source s h most before o after → (name ≡ s) ⊎ (name ≡ h)
judge_refused source s h most name place code before after o e judges =
    then_refused source written_specs s (First source h most) before after o name place code e judges (λ k. inl k)
    (λ x f next. then_refused source (histories_of x) h (Last most x) f after o name place code e next (λ k. inr k)
    (λ history middle c. absurd (no_finish (Tells x history.items most) name place code o e c.0)))
