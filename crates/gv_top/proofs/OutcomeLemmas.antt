-- What a report tells of the outcome that it comes of.
use Rattle.std.proofs.Common.{◌≡◌, ℕ, ◌≤◌, List, Result, Ok, Err, refl, sym, ap, subst, ◌⊎◌, inl, inr, arith}
use Rattle.gv_base.specs.declared.answers.Code.{Code}
use Rattle.gv_base.specs.declared.answers.Place.{Place}
use Rattle.gv_report.specs.declared.report.Report.{Report}
use Rattle.gv_report.specs.declared.report.Report.TheVariants as report
use Rattle.gv_report.specs.declared.format.Format.{Format}
use Rattle.gv_report.specs.Output.{noted}
use Rattle.gv_report.specs.Report.{status_of}
use Rattle.gv_top.specs.declared.check.Verdict.{Verdict}
use Rattle.gv_top.specs.declared.check.Verdict.TheVariants.{Unjustified, AcceptedWithoutCrash}
use Rattle.gv_top.specs.declared.explain.Explanation.{Explanation}
use Rattle.gv_top.specs.declared.explain.Explanation.TheVariants.{Explained, NotExplained}
use Rattle.gv_top.specs.declared.files.Halt.{Halt}
use Rattle.gv_top.specs.declared.files.Halt.TheVariants.{NoMemory, CannotRead, Refused}
use Rattle.gv_top.specs.Check.{report_of as check_report}
use Rattle.gv_top.specs.Explain.{report_of as explain_report}
use Rattle.gv_report.specs.declared.ran.Ran.{Ran}
use Rattle.gv_top.specs.Replay.{report_of as replay_report}
use Rattle.gv_top.specs.declared.judge.Judgement.{Judgement}
use Rattle.gv_top.specs.declared.judge.Judgement.TheVariants as judgement
use Rattle.gv_top.specs.Judge.{report_of as judge_report}
use Rattle.gv_top.specs.Files.{Asked, Source, Form, Reads, HaltsAt, Course, Then, IsBlamed, NoneFailed}
use Rattle.gv_top.specs.Outcome.{reported}
use Rattle.gv_top.specs.Run.{IsBlamedIn}

-- ---- the reports of a command's own: neither of a halt, nor of words that are no command, nor of a command that isn't there yet

abbrev pub IsOwn : Report → Type 0
IsOwn report.AcceptedWithoutCrash = Unit {0}
IsOwn (report.Unjustified place why) = Unit {0}
IsOwn report.Explained = Unit {0}
IsOwn (report.NotExplained at why) = Unit {0}
IsOwn (report.Ran ran) = Unit {0}
IsOwn (report.Moves lines) = Unit {0}
IsOwn report.NoExplanation = Unit {0}
IsOwn (report.Spent most) = Unit {0}
IsOwn report.Usage = ⊥
IsOwn report.OutOfMemory = ⊥
IsOwn (report.CannotRead name) = ⊥
IsOwn (report.Refused name place code) = ⊥
IsOwn report.Accepted = ⊥
IsOwn (report.Points lines) = ⊥
IsOwn (report.Made made) = ⊥

own_blamed : (a : Asked) (r : Report) → IsOwn r → NoneFailed a → IsBlamedIn a r
own_blamed a report.AcceptedWithoutCrash o h = h
own_blamed a (report.Unjustified place why) o h = h
own_blamed a report.Explained o h = h
own_blamed a (report.NotExplained at why) o h = h
own_blamed a (report.Ran ran) o h = h
own_blamed a (report.Moves lines) o h = h
own_blamed a report.NoExplanation o h = h
own_blamed a (report.Spent most) o h = h
own_blamed a report.Usage o h = absurd o
own_blamed a report.OutOfMemory o h = absurd o
own_blamed a (report.CannotRead name) o h = absurd o
own_blamed a (report.Refused name place code) o h = absurd o
own_blamed a report.Accepted o h = absurd o
own_blamed a (report.Points lines) o h = absurd o
own_blamed a (report.Made made) o h = absurd o

blamed_own : (a : Asked) (r : Report) → IsOwn r → IsBlamedIn a r → NoneFailed a
blamed_own a report.AcceptedWithoutCrash o h = h
blamed_own a (report.Unjustified place why) o h = h
blamed_own a report.Explained o h = h
blamed_own a (report.NotExplained at why) o h = h
blamed_own a (report.Ran ran) o h = h
blamed_own a (report.Moves lines) o h = h
blamed_own a report.NoExplanation o h = h
blamed_own a (report.Spent most) o h = h
blamed_own a report.Usage o h = absurd o
blamed_own a report.OutOfMemory o h = absurd o
blamed_own a (report.CannotRead name) o h = absurd o
blamed_own a (report.Refused name place code) o h = absurd o
blamed_own a report.Accepted o h = absurd o
blamed_own a (report.Points lines) o h = absurd o
blamed_own a (report.Made made) o h = absurd o

-- the reports that no command gives yet
abbrev pub IsNotYet : Report → Type 0
IsNotYet report.Accepted = Unit {0}
IsNotYet (report.Points lines) = Unit {0}
IsNotYet (report.Made made) = Unit {0}
IsNotYet _ = ⊥

not_yet_own : (r : Report) → IsOwn r → IsNotYet r → ⊥
not_yet_own report.Accepted o h = o
not_yet_own (report.Points lines) o h = o
not_yet_own (report.Made made) o h = o
not_yet_own report.AcceptedWithoutCrash o h = h
not_yet_own (report.Unjustified place why) o h = h
not_yet_own report.Explained o h = h
not_yet_own (report.NotExplained at why) o h = h
not_yet_own (report.Ran ran) o h = h
not_yet_own (report.Moves lines) o h = h
not_yet_own report.NoExplanation o h = h
not_yet_own (report.Spent most) o h = h
not_yet_own report.Usage o h = h
not_yet_own report.OutOfMemory o h = h
not_yet_own (report.CannotRead name) o h = h
not_yet_own (report.Refused name place code) o h = h

pub check_own : (v : Verdict) → IsOwn (check_report v)
check_own (Unjustified place why) = tt
check_own AcceptedWithoutCrash = tt

pub explain_own : (e : Explanation) → IsOwn (explain_report e)
explain_own Explained = tt
explain_own (NotExplained at why) = tt

pub replay_own : (ran : Ran) → IsOwn (replay_report ran)
replay_own ran = tt

pub judge_own : (j : Judgement) → IsOwn (judge_report j)
judge_own (judgement.Explained lines) = tt
judge_own judgement.Unexplained = tt
judge_own (judgement.Spent most) = tt

-- ---- outcomes of any command

module _ {O : Type 0} (report_of : O → Report) (own : (o : O) → IsOwn (report_of o)) where
  pub never_usage : (o : Result O Halt) → report.Usage ≡ reported report_of o → ⊥
  never_usage (Ok x) e = subst IsOwn (sym e) (own x)
  never_usage (Err NoMemory) e = cc
  never_usage (Err (CannotRead n)) e = cc
  never_usage (Err (Refused n q d)) e = cc

  pub never_yet : (o : Result O Halt) (r : Report) → IsNotYet r → r ≡ reported report_of o → ⊥
  never_yet (Ok x) r h e = not_yet_own (report_of x) (own x) (subst IsNotYet e h)
  never_yet (Err NoMemory) r h e = subst IsNotYet e h
  never_yet (Err (CannotRead n)) r h e = subst IsNotYet e h
  never_yet (Err (Refused n q d)) r h e = subst IsNotYet e h

  pub refused_of : (name : List ℕ) (place : Place) (code : Code) (o : Result O Halt) → report.Refused name place code ≡ reported report_of o → o ≡ Err (Refused name place code)
  refused_of name place code (Ok x) e = absurd (subst IsOwn (sym e) (own x))
  refused_of name place code (Err NoMemory) e = absurd cc
  refused_of name place code (Err (CannotRead n)) e = absurd cc
  refused_of name place code (Err (Refused n q d)) e = cc

  -- a fetch is blamed in the report as in the outcome
  pub blamed_in : (a : Asked) (o : Result O Halt) → IsBlamed a o → IsBlamedIn a (reported report_of o)
  blamed_in a (Ok x) h = own_blamed a (report_of x) (own x) h
  blamed_in a (Err NoMemory) h = tt
  blamed_in a (Err (CannotRead n)) h = h
  blamed_in a (Err (Refused n q d)) h = h

  pub blamed_by : (a : Asked) (o : Result O Halt) → IsBlamedIn a (reported report_of o) → IsBlamed a o
  blamed_by a (Ok x) h = blamed_own a (report_of x) (own x) h
  blamed_by a (Err NoMemory) h = tt
  blamed_by a (Err (CannotRead n)) h = h
  blamed_by a (Err (Refused n q d)) h = h

  -- a status below 2 is that of an outcome of the command's own
  pub came : {R : Type 0} (o : Result O Halt) → status_of (reported report_of o) ≤ 1 → ((x : O) → o ≡ Ok x → R) → R
  came (Ok x) l next = next x refl
  came (Err NoMemory) l next = absurd (omega (arith, l))
  came (Err (CannotRead n)) l next = absurd (omega (arith, l))
  came (Err (Refused n q d)) l next = absurd (omega (arith, l))

-- ---- outcomes of one command

pub accepted_of : (o : Result Verdict Halt) → report.AcceptedWithoutCrash ≡ reported check_report o → o ≡ Ok AcceptedWithoutCrash
accepted_of (Ok (Unjustified place why)) e = absurd cc
accepted_of (Ok AcceptedWithoutCrash) e = refl
accepted_of (Err NoMemory) e = absurd cc
accepted_of (Err (CannotRead name)) e = absurd cc
accepted_of (Err (Refused name place code)) e = absurd cc

pub explained_never_accepts : (o : Result Explanation Halt) → report.AcceptedWithoutCrash ≡ reported explain_report o → ⊥
explained_never_accepts (Ok Explained) e = cc
explained_never_accepts (Ok (NotExplained at why)) e = cc
explained_never_accepts (Err NoMemory) e = cc
explained_never_accepts (Err (CannotRead name)) e = cc
explained_never_accepts (Err (Refused name place code)) e = cc

-- ---- runs

pub check_never_ran : (o : Result Verdict Halt) (ran : Ran) → report.Ran ran ≡ reported check_report o → ⊥
check_never_ran (Ok (Unjustified place why)) ran e = cc
check_never_ran (Ok AcceptedWithoutCrash) ran e = cc
check_never_ran (Err NoMemory) ran e = cc
check_never_ran (Err (CannotRead name)) ran e = cc
check_never_ran (Err (Refused name place code)) ran e = cc

pub explain_never_ran : (o : Result Explanation Halt) (ran : Ran) → report.Ran ran ≡ reported explain_report o → ⊥
explain_never_ran (Ok Explained) ran e = cc
explain_never_ran (Ok (NotExplained at why)) ran e = cc
explain_never_ran (Err NoMemory) ran e = cc
explain_never_ran (Err (CannotRead name)) ran e = cc
explain_never_ran (Err (Refused name place code)) ran e = cc

pub ran_of : (o : Result Ran Halt) (ran : Ran) → report.Ran ran ≡ reported replay_report o → o ≡ Ok ran
ran_of (Ok other) ran e = let same : ran ≡ other = cc in ap Ok (sym same)
ran_of (Err NoMemory) ran e = absurd cc
ran_of (Err (CannotRead name)) ran e = absurd cc
ran_of (Err (Refused name place code)) ran e = absurd cc

pub replay_never_accepts : (o : Result Ran Halt) → report.AcceptedWithoutCrash ≡ reported replay_report o → ⊥
replay_never_accepts (Ok ran) e = cc
replay_never_accepts (Err NoMemory) e = cc
replay_never_accepts (Err (CannotRead name)) e = cc
replay_never_accepts (Err (Refused name place code)) e = cc

-- the status 0, or 8, is that of a run
pub replay_came : {R : Type 0} (o : Result Ran Halt) → (status_of (reported replay_report o) ≡ 0) ⊎ (status_of (reported replay_report o) ≡ 8)
    → ((ran : Ran) → o ≡ Ok ran → R) → R
replay_came (Ok ran) l next = next ran refl
replay_came (Err NoMemory) (inl e) next = absurd (omega (arith, e))
replay_came (Err NoMemory) (inr e) next = absurd (omega (arith, e))
replay_came (Err (CannotRead n)) (inl e) next = absurd (omega (arith, e))
replay_came (Err (CannotRead n)) (inr e) next = absurd (omega (arith, e))
replay_came (Err (Refused n q d)) (inl e) next = absurd (omega (arith, e))
replay_came (Err (Refused n q d)) (inr e) next = absurd (omega (arith, e))

-- ---- judgements

pub judge_never_accepts : (o : Result Judgement Halt) → report.AcceptedWithoutCrash ≡ reported judge_report o → ⊥
judge_never_accepts (Ok (judgement.Explained lines)) e = cc
judge_never_accepts (Ok judgement.Unexplained) e = cc
judge_never_accepts (Ok (judgement.Spent most)) e = cc
judge_never_accepts (Err NoMemory) e = cc
judge_never_accepts (Err (CannotRead name)) e = cc
judge_never_accepts (Err (Refused name place code)) e = cc

pub judge_never_ran : (o : Result Judgement Halt) (ran : Ran) → report.Ran ran ≡ reported judge_report o → ⊥
judge_never_ran (Ok (judgement.Explained lines)) ran e = cc
judge_never_ran (Ok judgement.Unexplained) ran e = cc
judge_never_ran (Ok (judgement.Spent most)) ran e = cc
judge_never_ran (Err NoMemory) ran e = cc
judge_never_ran (Err (CannotRead name)) ran e = cc
judge_never_ran (Err (Refused name place code)) ran e = cc

pub check_never_finds : (o : Result Verdict Halt) (lines : List (List ℕ)) → report.Moves lines ≡ reported check_report o → ⊥
check_never_finds (Ok (Unjustified place why)) lines e = cc
check_never_finds (Ok AcceptedWithoutCrash) lines e = cc
check_never_finds (Err NoMemory) lines e = cc
check_never_finds (Err (CannotRead name)) lines e = cc
check_never_finds (Err (Refused name place code)) lines e = cc

pub explain_never_finds : (o : Result Explanation Halt) (lines : List (List ℕ)) → report.Moves lines ≡ reported explain_report o → ⊥
explain_never_finds (Ok Explained) lines e = cc
explain_never_finds (Ok (NotExplained at why)) lines e = cc
explain_never_finds (Err NoMemory) lines e = cc
explain_never_finds (Err (CannotRead name)) lines e = cc
explain_never_finds (Err (Refused name place code)) lines e = cc

pub replay_never_finds : (o : Result Ran Halt) (lines : List (List ℕ)) → report.Moves lines ≡ reported replay_report o → ⊥
replay_never_finds (Ok ran) lines e = cc
replay_never_finds (Err NoMemory) lines e = cc
replay_never_finds (Err (CannotRead name)) lines e = cc
replay_never_finds (Err (Refused name place code)) lines e = cc

pub found_of : (o : Result Judgement Halt) (lines : List (List ℕ)) → report.Moves lines ≡ reported judge_report o → o ≡ Ok (judgement.Explained lines)
found_of (Ok (judgement.Explained others)) lines e = let same : lines ≡ others = cc in ap (λ ls. Ok (judgement.Explained ls)) (sym same)
found_of (Ok judgement.Unexplained) lines e = absurd cc
found_of (Ok (judgement.Spent most)) lines e = absurd cc
found_of (Err NoMemory) lines e = absurd cc
found_of (Err (CannotRead name)) lines e = absurd cc
found_of (Err (Refused name place code)) lines e = absurd cc

abbrev pub IsJudged : ℕ → Type 0
IsJudged status = (status ≡ 0) ⊎ ((status ≡ 1) ⊎ (status ≡ 7))

never_judged : (status : ℕ) → 2 ≤ status → status ≤ 5 → IsJudged status → ⊥
never_judged status l m (inl e) = omega (arith, l, e)
never_judged status l m (inr (inl e)) = omega (arith, l, e)
never_judged status l m (inr (inr e)) = omega (arith, m, e)

-- the status 0, 1 or 7 is that of a judgement
pub judge_came : {R : Type 0} (o : Result Judgement Halt) → IsJudged (status_of (reported judge_report o)) → ((j : Judgement) → o ≡ Ok j → R) → R
judge_came (Ok j) l next = next j refl
judge_came (Err NoMemory) l next = absurd (never_judged 5 (omega arith) (omega arith) l)
judge_came (Err (CannotRead n)) l next = absurd (never_judged 3 (omega arith) (omega arith) l)
judge_came (Err (Refused n q d)) l next = absurd (never_judged 4 (omega arith) (omega arith) l)

-- ---- one file after the other

module _ {A O R : Type 0} (source : Source) (form : Form A) (file : List ℕ) (Next : A → Course O) (before after : Format) (o : Result O Halt) where
  -- where there is an outcome of its own, the file is read
  pub then_read : (v : O) → o ≡ Ok v → Then source form file Next before o after
      → ((x : A) (reads : Reads source form file x) → Next x (noted before reads.bytes) o after → R) → R
  then_read v e (inl (halt, f, h)) next = absurd cc
  then_read v e (inr (x, reads, more)) next = next x reads more

  -- a refusal is of this file, or of a later one
  pub then_refused : (name : List ℕ) (place : Place) (code : Code) → o ≡ Err (Refused name place code) → Then source form file Next before o after
      → (name ≡ file → R) → ((x : A) (middle : Format) → Next x middle o after → R) → R
  then_refused name place code e (inl (halt, f, h)) here later =
      let same : halt ≡ Refused name place code = cc in
      let there : HaltsAt source form file (Refused name place code) before after = subst (λ (x : Halt). HaltsAt source form file x before after) same h in
      here there.0
  then_refused name place code e (inr (x, reads, more)) here later = later x (noted before reads.bytes) more
