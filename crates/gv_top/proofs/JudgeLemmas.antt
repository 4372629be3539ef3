-- What the words, the text and the status of a judgement tell.
use Rattle.std.proofs.Common.{◌≡◌, ◌≢◌, ℕ, ◌+◌, ◌*◌, ◌≤◌, List, [], ◌∷◌, ◌++◌, length, get_or, map, None, Result, Ok, refl, sym, ap, subst, ◌∙◌, inl, inr, arith}
use Rattle.std.specs.Prelude.{◌↔◌, Vec}
use Rattle.std.specs.declared.alloc.Global.{Global}
use Rattle.gv_base.specs.Outside.{Told}
use Rattle.gv_terms.specs.declared.value.Value.{Value}
use Rattle.gv_atomic.specs.declared.spec.Spec.{Spec}
use Rattle.gv_spec.specs.declared.entry.Entry.{Entry}
use Rattle.gv_spec.specs.declared.entry.Entry.TheVariants as entry
use Rattle.gv_spec.specs.declared.explanation.Move.{Move}
use Rattle.gv_spec.specs.declared.explanation.Move.TheVariants as move
use Rattle.gv_spec.specs.History.{entry_of, move_of}
use Rattle.gv_judge.specs.Bound.{IsOneByOne}
use Rattle.gv_judge.specs.Explained.{search_order, PicksNothing}
use Rattle.gv_judge.specs.SearchLaws.{AnswersExclude}
use Rattle.gv_judge.proofs.AnswerLaws.{answers_exclude}
use Rattle.gv_judge.proofs.Explained.{few_without_picks}
use Rattle.gv_lines.specs.Moves.{move_lines}
use Rattle.gv_report.specs.declared.report.Report.{Report}
use Rattle.gv_report.specs.declared.report.Report.TheVariants as report
use Rattle.gv_report.specs.declared.format.Format.{Format}
use Rattle.gv_report.specs.Heard.{Heard, IsWritten}
use Rattle.gv_report.specs.Output.{Shown, Puts, whole, cut, noted, output_of}
use Rattle.gv_report.specs.Report.{joined, status_of, text_of}
use Rattle.gv_top.specs.declared.files.Halt.{Halt}
use Rattle.gv_top.specs.declared.judge.Judgement.{Judgement}
use Rattle.gv_top.specs.declared.judge.Judgement.TheVariants.{Explained, Unexplained, Spent}
use Rattle.gv_top.specs.Commands.{Command, check, explain, replay, judge, Asks, Comes, format_for}
use Rattle.gv_top.specs.Files.{Asked, Source, Finishes, Reads, outside, noted_all}
use Rattle.gv_top.specs.Outcome.{reported}
use Rattle.gv_top.specs.Forms.{written_specs, histories_of}
use Rattle.gv_top.specs.Judge.{Tells, IsFirstFull, AreNoneFull, AreSpent, Judges, report_of}
use Rattle.gv_top.specs.Promise.{JudgedPromise}
use Rattle.gv_top.specs.Run.{Gives, usage, done}
use Rattle.gv_top.proofs.JudgeExact as exact
use Rattle.gv_top.proofs.OutcomeLemmas.{check_never_finds, explain_never_finds, replay_never_finds, found_of, IsJudged, judge_came, then_read}

-- ---- no list of moves begins as an acceptance does

nth : (n : ℕ) (xs ys : List ℕ) → xs ≡ ys → get_or xs n 0 ≡ get_or ys n 0
nth n xs ys e = ap (λ (v : List ℕ). get_or v n 0) e

begins_otherwise : (s : Spec) (ms : List Move) (rest : List ℕ) → joined (move_lines s ms) ≡ text_of report.AcceptedWithoutCrash ++ rest → ⊥
begins_otherwise s [] rest e = let h : 0 ≡ 97 = nth 0 _ (text_of report.AcceptedWithoutCrash ++ rest) e in omega (arith, h)
begins_otherwise s (move.Act number choices ∷ ms) rest e = let h : 116 ≡ 99 = nth 2 _ (text_of report.AcceptedWithoutCrash ++ rest) e in omega (arith, h)
begins_otherwise s (move.Boot choices ∷ ms) rest e = let h : 98 ≡ 97 = nth 0 _ (text_of report.AcceptedWithoutCrash ++ rest) e in omega (arith, h)
begins_otherwise s (move.Other (entry.Call number op args) ∷ ms) rest e = let h : 99 ≡ 97 = nth 0 _ (text_of report.AcceptedWithoutCrash ++ rest) e in omega (arith, h)
begins_otherwise s (move.Other (entry.Answer number reply) ∷ ms) rest e = let h : 110 ≡ 99 = nth 1 _ (text_of report.AcceptedWithoutCrash ++ rest) e in omega (arith, h)
begins_otherwise s (move.Other entry.Crash ∷ ms) rest e = let h : 99 ≡ 97 = nth 0 _ (text_of report.AcceptedWithoutCrash ++ rest) e in omega (arith, h)
begins_otherwise s (move.Other entry.Boot ∷ ms) rest e = let h : 98 ≡ 97 = nth 0 _ (text_of report.AcceptedWithoutCrash ++ rest) e in omega (arith, h)

-- nor as an object of JSON does
never_braced : (s : Spec) (ms : List Move) (text : List ℕ) → get_or text 0 0 ≡ 123 → joined (move_lines s ms) ≡ text → ⊥
never_braced s [] text b e = let h : 0 ≡ 123 = nth 0 _ text e ∙ b in omega (arith, h)
never_braced s (move.Act number choices ∷ ms) text b e = let h : 97 ≡ 123 = nth 0 _ text e ∙ b in omega (arith, h)
never_braced s (move.Boot choices ∷ ms) text b e = let h : 98 ≡ 123 = nth 0 _ text e ∙ b in omega (arith, h)
never_braced s (move.Other (entry.Call number op args) ∷ ms) text b e = let h : 99 ≡ 123 = nth 0 _ text e ∙ b in omega (arith, h)
never_braced s (move.Other (entry.Answer number reply) ∷ ms) text b e = let h : 97 ≡ 123 = nth 0 _ text e ∙ b in omega (arith, h)
never_braced s (move.Other entry.Crash ∷ ms) text b e = let h : 99 ≡ 123 = nth 0 _ text e ∙ b in omega (arith, h)
never_braced s (move.Other entry.Boot ∷ ms) text b e = let h : 98 ≡ 123 = nth 0 _ text e ∙ b in omega (arith, h)

-- a text that no moves have
abbrev AreNoMoves : List ℕ → Type 0
AreNoMoves text = (s : Spec) (ms : List Move) → joined (move_lines s ms) ≡ text → ⊥

-- ---- where a judgement came of it

-- the two values that were read, and what is told of them
record Came (source : Source) (s h : List ℕ) (most : ℕ) (before after : Format) (j : Judgement) : Type 0 where
  spec : Spec
  is_spec : Reads source written_specs s spec
  history : Vec Entry Global
  is_history : Reads source (histories_of spec) h history
  format_is : after ≡ noted_all before (is_spec.bytes ∷ is_history.bytes ∷ [])
  tells : Tells spec history.items most j

judgement_is : (source : Source) (s h : List ℕ) (most : ℕ) (before after : Format) (j : Judgement) (o : Result Judgement Halt) → o ≡ Ok j → Judges source s h most before o after
    → Came source s h most before after j
judgement_is source s h most before after j o e judges =
    then_read source written_specs s (exact.First source h most) before after o j e judges (λ spec spec_reads next.
    then_read source (histories_of spec) h (exact.Last most spec) (noted before spec_reads.bytes) after o j e next (λ history history_reads last.
    record {
      spec = spec;
      is_spec = spec_reads;
      history = history;
      is_history = history_reads;
      format_is = last.1;
      tells = subst (λ (r : Result Judgement Halt). Finishes (Tells spec history.items most) r) e last.0;
    }))

never_text : (words : List (List ℕ)) (source : Source) (lines : List (List ℕ)) (f : Format) (wanted : List ℕ) → AreNoMoves wanted → Gives source words (report.Moves lines) f
    → text_of (report.Moves lines) ≡ wanted → ⊥
never_text words source lines f wanted none given text = by_words (report.Moves lines) f refl given
  where
    by_command : (command : Command) (before after : Format) (r : Report) → r ≡ report.Moves lines → Comes source command before r after → ⊥
    by_command (check p s t) before after r e (o, checks, is) = check_never_finds o lines (sym e ∙ is)
    by_command (explain s h m) before after r e (o, explains, is) = explain_never_finds o lines (sym e ∙ is)
    by_command (replay p s c) before after r e (o, replays, is) = replay_never_finds o lines (sym e ∙ is)
    by_command (judge s h m) before after r e (o, judges, is) =
        let came = judgement_is source s h m before after (Explained lines) o (found_of o lines (sym e ∙ is)) judges in
        none came.spec came.tells.moves (ap joined (sym came.tells.lines_are) ∙ text)

    by_words : (r : Report) (f : Format) → r ≡ report.Moves lines → Gives source words r f → ⊥
    by_words r f e (usage h) = cc
    by_words r f e (done command asks comes) = by_command command (format_for words) f r e comes

pub moves_text : (words : List (List ℕ)) (source : Source) (lines : List (List ℕ)) (f : Format) (rest : List ℕ) → Gives source words (report.Moves lines) f
    → text_of (report.Moves lines) ≡ text_of report.AcceptedWithoutCrash ++ rest → ⊥
moves_text words source lines f rest given text = never_text words source lines f (text_of report.AcceptedWithoutCrash ++ rest) (λ s ms. begins_otherwise s ms rest) given text

pub moves_unbraced : (words : List (List ℕ)) (source : Source) (lines : List (List ℕ)) (f : Format) (wanted : List ℕ) → get_or wanted 0 0 ≡ 123
    → Gives source words (report.Moves lines) f → text_of (report.Moves lines) ≡ wanted → ⊥
moves_unbraced words source lines f wanted braced given text = never_text words source lines f wanted (λ s ms. never_braced s ms wanted braced) given text

-- ---- the promise

exclude : AnswersExclude Value
exclude = answers_exclude Value

module _ (s : Spec) (history : List Entry) (most : ℕ) where
  abbrev IsYes : Type 0
  IsYes = (moves : List Move) × IsFirstFull s history most moves

  yes_exactly : (j : Judgement) → Tells s history most j → status_of (report_of j) ≡ 0 ↔ IsYes
  yes_exactly (Explained lines) h = (λ z. (h.moves, h.first), λ k. refl)
  yes_exactly Unexplained h =
      (λ z. absurd (omega (arith, z)), λ k. absurd (exclude.first_or_none (search_order s history) (map entry_of history) most (map move_of k.0) k.1 h.0))
  yes_exactly (Spent n) h =
      (λ z. absurd (omega (arith, z)), λ k. absurd (exclude.first_or_spent (search_order s history) (map entry_of history) most (map move_of k.0) k.1 h.1))

  no_exactly : (j : Judgement) → Tells s history most j → status_of (report_of j) ≡ 1 ↔ AreNoneFull s history most
  no_exactly (Explained lines) h =
      (λ z. absurd (omega (arith, z)), λ k. absurd (exclude.first_or_none (search_order s history) (map entry_of history) most (map move_of h.moves) h.first k))
  no_exactly Unexplained h = (λ z. h.0, λ k. refl)
  no_exactly (Spent n) h = (λ z. absurd (omega (arith, z)), λ k. absurd (exclude.none_or_spent (search_order s history) (map entry_of history) most k h.1))

  spent_exactly : (j : Judgement) → Tells s history most j → status_of (report_of j) ≡ 7 ↔ AreSpent s history most
  spent_exactly (Explained lines) h =
      (λ z. absurd (omega (arith, z)), λ k. absurd (exclude.first_or_spent (search_order s history) (map entry_of history) most (map move_of h.moves) h.first k))
  spent_exactly Unexplained h = (λ z. absurd (omega (arith, z)), λ k. absurd (exclude.none_or_spent (search_order s history) (map entry_of history) most h.0 k))
  spent_exactly (Spent n) h = (λ z. h.1, λ k. refl)

  enough : (j : Judgement) → Tells s history most j → PicksNothing s → IsOneByOne None (map entry_of history) → 2 * length history + 1 ≤ most
      → status_of (report_of j) ≢ 7
  enough j h none one much z =
      let few = few_without_picks s none history one in
      let more = (spent_exactly j h).0 z in
      let over = more.count in
      omega (arith, few, over, much)

promise_of : (words : List (List ℕ)) (held : List ℕ → Told) (heard : Heard) (s h : List ℕ) (most : ℕ) (f : Format) (j : Judgement) → IsWritten heard (output_of f (report_of j))
    → Came (outside held) s h most (format_for words) f j → JudgedPromise words held heard (status_of (report_of j)) s h most
promise_of words held heard s h most f j w came = record {
  atomic = came.spec;
  is_spec = came.is_spec;
  history = came.history;
  is_history = came.is_history;
  judgement = j;
  tells = came.tells;
  format = f;
  format_is = came.format_is;
  written = w;
  ended = refl;
  yes = yes_exactly came.spec came.history.items most j came.tells;
  no = no_exactly came.spec came.history.items most j came.tells;
  spent = spent_exactly came.spec came.history.items most j came.tells;
  enough = λ none one much. enough came.spec came.history.items most j came.tells none one much;
}

cut_never : IsJudged 6 → ⊥
cut_never (inl e) = omega (arith, e)
cut_never (inr (inl e)) = omega (arith, e)
cut_never (inr (inr e)) = omega (arith, e)

pub judged : (words : List (List ℕ)) (a : Asked) (heard : Heard) (z : Shown) (status : ℕ) → Puts z heard status
    → ((command : Command) → Asks words command → Comes (outside a.held) command (format_for words) z.report z.format)
    → (s h : List ℕ) (most : ℕ) → Asks words (judge s h most) → IsJudged status → JudgedPromise words a.held heard status s h most
judged words a heard z status (cut o w) comes s h most asks ends = absurd (cut_never ends)
judged words a heard z status (whole w f) comes s h most asks ends = go (comes (judge s h most) asks) ends
  where
    go : Comes (outside a.held) (judge s h most) (format_for words) z.report z.format → IsJudged (status_of z.report) → JudgedPromise words a.held heard (status_of z.report) s h most
    go (o, judges, is) ends =
        judge_came o (subst (λ (x : Report). IsJudged (status_of x)) is ends) (λ j o_is.
        let r_is : z.report ≡ report_of j = is ∙ ap (reported report_of) o_is in
        subst (λ (y : Report). JudgedPromise words a.held heard (status_of y) s h most) (sym r_is)
        (promise_of words a.held heard s h most z.format j (subst (λ (y : Report). IsWritten heard (output_of z.format y)) r_is w)
        (judgement_is (outside a.held) s h most (format_for words) z.format j o o_is judges)))
