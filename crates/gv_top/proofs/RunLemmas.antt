-- What a status tells, and what an answer promises.
use Rattle.std.proofs.Common.{◌≡◌, ◌≢◌, ℕ, ◌<◌, ◌≤◌, List, Option, Some, None, Result, Ok, Err, refl, sym, ap, subst, ◌∙◌, ◌⊎◌, inl, inr, arith}
use Rattle.std.specs.Prelude.{◌↔◌}
use Rattle.gv_base.specs.Outside.{Told}
use Rattle.gv_base.specs.declared.small.Small.{Small}
use Rattle.gv_smallprogram.specs.Sums.{AgreeOps}
use Rattle.gv_smallprogram.specs.Program.{nothing_kept}
use Rattle.gv_smallprogram.specs.Laws.{RefinesWritten}
use Rattle.gv_smallprogram.proofs.Sound.{packages_are_sound}
use Rattle.gv_smallprogram.proofs.Written.{refines_written}
use Rattle.gv_atomic.specs.declared.spec.Spec.{Spec}
use Rattle.gv_spec.specs.History.{IsExplanation, walked}
use Rattle.gv_history.specs.declared.fault.WalkCause.{WalkCause}
use Rattle.gv_history.specs.Fault.{cause_of}
use Rattle.gv_report.specs.declared.report.Report.{Report}
use Rattle.gv_report.specs.declared.report.Report.TheVariants.{Usage, OutOfMemory, CannotRead, Refused, Unjustified, Accepted, AcceptedWithoutCrash, Explained, NotExplained, Ran, Moves, NoExplanation, Spent, Points, Made}
use Rattle.gv_report.specs.Report.{status_of, IsAnswerTo}
use Rattle.gv_base.specs.declared.reason.Reason.{Reason}
use Rattle.gv_report.specs.Ran.{status_after}
use Rattle.gv_report.specs.Heard as sink
use Rattle.gv_report.specs.Heard.{Heard, IsWritten}
use Rattle.gv_report.specs.Output.{Shown, Puts, IsOutputOf, whole, cut, noted, output_of}
use Rattle.gv_report.specs.declared.format.Format.{Format}
use Rattle.gv_top.specs.declared.check.Verdict.{Verdict}
use Rattle.gv_top.specs.declared.check.Verdict.TheVariants as verdict
use Rattle.gv_top.specs.declared.explain.Explanation.{Explanation}
use Rattle.gv_top.specs.declared.explain.Explanation.TheVariants as explanation
use Rattle.gv_top.specs.declared.files.Halt.{Halt}
use Rattle.gv_top.specs.declared.files.Halt.TheVariants as halt
use Rattle.gv_top.specs.Check.{Checks, Compares, report_of as check_report}
use Rattle.gv_top.specs.Explain as explaining
use Rattle.gv_top.specs.Explain.{Explains, report_of as explain_report}
use Rattle.gv_top.specs.Replay.{report_of as replay_report}
use Rattle.gv_top.specs.Judge.{report_of as judge_report}
use Rattle.gv_top.specs.Commands.{Command, check, explain, replay, judge, Asks, IsNoCommand, Comes, format_for}
use Rattle.gv_top.specs.Files.{Asked, Source, Reads, Ends, Finishes, outside}
use Rattle.gv_top.specs.Outcome.{reported}
use Rattle.gv_top.specs.Forms.{packages, specs_for, scripts_for, written_specs, histories_of, moves_of}
use Rattle.gv_top.specs.Promise.{AcceptedPromise, ExplainedPromise}
use Rattle.gv_top.specs.Run.{Gives, usage, done, Deserves, Answers, IsCutOff}
use Rattle.gv_top.proofs.CheckExact as checking
use Rattle.gv_top.proofs.CommandLemmas.{one_command}
use Rattle.gv_top.proofs.ExplainExact as explanations
use Rattle.gv_top.proofs.OutcomeLemmas.{check_own, explain_own, replay_own, judge_own, never_usage, came, accepted_of, explained_never_accepts, replay_never_accepts, judge_never_accepts, then_read}

-- ---- acceptance

-- what is read for the package is a specification
is_spec : (source : Source) (program small : Small) (name : List ℕ) (r : Reads source (specs_for program) name small) → Reads source written_specs name r.spelled.0.atomic
is_spec source program small name r = record { bytes = r.bytes; given = r.given; fits = r.fits; spelled = r.spelled.0.spelled }

-- where a command comes to an outcome of its own, it is so
end_is : {O : Type 0} (Outcome : O → Type 0) (v : O) (o : Result O Halt) → o ≡ Ok v → Ends Outcome o → Outcome v
end_is Outcome v o e c = subst (λ (r : Result _ Halt). Ends Outcome r) e c

finish_is : {O : Type 0} (Outcome : O → Type 0) (v : O) (o : Result O Halt) → o ≡ Ok v → Finishes Outcome o → Outcome v
finish_is Outcome v o e c = subst (λ (r : Result _ Halt). Finishes Outcome r) e c

module _ (words : List (List ℕ)) (held : List ℕ → Told) (p s t : List ℕ) (asks : Asks words (check p s t)) where
  accepting : (o : Result Verdict Halt) (before after : Format) → o ≡ Ok verdict.AcceptedWithoutCrash → Checks (outside held) p s t before o after → AcceptedPromise words held
  accepting o before after e h =
      then_read (outside held) packages p (checking.First (outside held) s t) before after o verdict.AcceptedWithoutCrash e h (λ program reads h.
      then_read (outside held) (specs_for program) s (checking.Next (outside held) t program) (noted before reads.bytes) after o verdict.AcceptedWithoutCrash e h (λ small spec_reads h.
      then_read (outside held) (scripts_for program) t (checking.Last program small) (noted (noted before reads.bytes) spec_reads.bytes) after o verdict.AcceptedWithoutCrash e h (λ script script_reads c.
      let same = end_is (Compares program small script) verdict.AcceptedWithoutCrash o e c.0 in
      let agree : AgreeOps program small = record { interface = spec_reads.spelled.1; sums = record { firsts = same.0; rests = same.1 } } in
      let atomic : Spec = spec_reads.spelled.0.atomic in
      let is_small = spec_reads.spelled.0.small_form in
      let all : RefinesWritten nothing_kept program atomic = refines_written nothing_kept program small atomic refl (packages_are_sound reads.bytes program reads.spelled.small_form) is_small agree in
      record {
        package_name = p;
        spec_name = s;
        script_name = t;
        asked = asks;
        program = program;
        is_package = reads;
        atomic = atomic;
        is_spec = is_spec (outside held) program small s spec_reads;
        operations = small;
        small_form = is_small;
        interface = spec_reads.spelled.1;
        refines = all.without_crash;
      })))

comes_accepting : (words : List (List ℕ)) (held : List ℕ → Told) (c : Command) (before after : Format) (r : Report) → r ≡ AcceptedWithoutCrash → Asks words c → Comes (outside held) c before r after
    → AcceptedPromise words held
comes_accepting words held (check p s t) before after r e asks (o, checks, is) = accepting words held p s t asks o before after (accepted_of o (sym e ∙ is)) checks
comes_accepting words held (explain s h m) before after r e asks (o, explains, is) = absurd (explained_never_accepts o (sym e ∙ is))
comes_accepting words held (replay p s c) before after r e asks (o, replays, is) = absurd (replay_never_accepts o (sym e ∙ is))
comes_accepting words held (judge s h m) before after r e asks (o, judges, is) = absurd (judge_never_accepts o (sym e ∙ is))

pub promised : (words : List (List ℕ)) (a : Asked) (r : Report) (f : Format) → r ≡ AcceptedWithoutCrash → Deserves words a r f → AcceptedPromise words a.held
promised words a r f e d = go r f e d.given
  where
    go : (r : Report) (f : Format) → r ≡ AcceptedWithoutCrash → Gives (outside a.held) words r f → AcceptedPromise words a.held
    go r f e (usage h) = absurd cc
    go r f e (done c asks comes) = comes_accepting words a.held c (format_for words) f r e asks comes

-- what comes of words that are this command
pub comes_of : (words : List (List ℕ)) (source : Source) (c : Command) (r : Report) (f : Format) → Asks words c → Gives source words r f → Comes source c (format_for words) r f
comes_of words source c r f asks (usage n) = absurd (n c asks)
comes_of words source c r f asks (done d others comes) = subst (λ (x : Command). Comes source x (format_for words) r f) (one_command words d c others asks) comes

-- the verdict with status 0
is_accepted : (o : Result Verdict Halt) → status_of (reported check_report o) ≡ 0 → reported check_report o ≡ AcceptedWithoutCrash
is_accepted (Ok (verdict.Unjustified place why)) e = absurd (omega (arith, e))
is_accepted (Ok verdict.AcceptedWithoutCrash) e = refl
is_accepted (Err halt.NoMemory) e = absurd (omega (arith, e))
is_accepted (Err (halt.CannotRead name)) e = absurd (omega (arith, e))
is_accepted (Err (halt.Refused name place code)) e = absurd (omega (arith, e))

pub ended_accepting : (words : List (List ℕ)) (a : Asked) (r : Report) (f : Format) (p s t : List ℕ) → Asks words (check p s t) → status_of r ≡ 0 → Deserves words a r f → AcceptedPromise words a.held
ended_accepting words a r f p s t asks e d = go (comes_of words (outside a.held) (check p s t) r f asks d.given)
  where
    go : Comes (outside a.held) (check p s t) (format_for words) r f → AcceptedPromise words a.held
    go (o, checks, is) = promised words a r f (is ∙ is_accepted o (sym (ap status_of is) ∙ e)) d

-- ---- explanations

module _ (words : List (List ℕ)) (held : List ℕ → Told) (heard : Heard) (s h m : List ℕ) where
  -- the answer beside what the walk tells
  abbrev IsRight : Format → Explanation → (IsExplains : Type 0) → (ℕ → WalkCause → Type 0) → Type 0
  IsRight f e IsExplains IsFault = (status_of (explain_report e) ≡ 0 ↔ IsExplains)
      × (status_of (explain_report e) ≡ 1 → (at : ℕ) × (cause : WalkCause) × IsWritten heard (output_of f (NotExplained at cause)) × IsFault at cause)

  right : (x : _) (history : _) (moves : _) (f : Format) (e : Explanation) → IsWritten heard (output_of f (explain_report e)) → explaining.Tells x history moves e
      → IsRight f e (IsExplanation x moves history) (λ at cause. walked x history moves ≡ Err (record { index = at; cause = cause_of cause }))
  right x history moves f explanation.Explained w tells = ((λ z. tells, λ k. refl), λ z. absurd (omega (arith, z)))
  right x history moves f (explanation.NotExplained at cause) w tells = ((λ z. absurd (omega (arith, z)), λ k. absurd (tells.0 k)), λ z. (at, cause, w, tells.1))

  explaining_so : (o : Result Explanation Halt) (r : Report) (f : Format) → r ≡ reported explain_report o → status_of r ≤ 1 → IsWritten heard (output_of f r)
      → Explains (outside held) s h m (format_for words) o f → ExplainedPromise words held heard (status_of r) s h m
  explaining_so o r f is l w explains =
      let start = format_for words in
      came explain_report explain_own o (subst (λ (x : Report). status_of x ≤ 1) is l) (λ e e_is.
      then_read (outside held) written_specs s (explanations.First (outside held) h m) start f o e e_is explains (λ x spec_reads next.
      then_read (outside held) (histories_of x) h (explanations.Next (outside held) m x) (noted start spec_reads.bytes) f o e e_is next (λ history history_reads last.
      then_read (outside held) (moves_of x) m (explanations.Last x history.items) (noted (noted start spec_reads.bytes) history_reads.bytes) f o e e_is last (λ moves moves_read c.
      let told = finish_is (explaining.Tells x history.items moves.items) e o e_is c.0 in
      let r_is : r ≡ explain_report e = is ∙ ap (reported explain_report) e_is in
      let answer = right x history.items moves.items f e (subst (λ (y : Report). IsWritten heard (output_of f y)) r_is w) told in
      subst (λ (y : Report). ExplainedPromise words held heard (status_of y) s h m) (sym r_is) (record {
        atomic = x;
        is_spec = spec_reads;
        history = history;
        is_history = history_reads;
        moves = moves;
        are_moves = moves_read;
        format = f;
        format_is = c.1;
        explains = answer.0;
        fault = answer.1;
      })))))

pub explained : (words : List (List ℕ)) (a : Asked) (heard : Heard) (z : Shown) (status : ℕ) → Deserves words a z.report z.format → Puts z heard status → (s h m : List ℕ) → Asks words (explain s h m)
    → status ≤ 1 → ExplainedPromise words a.held heard status s h m
explained words a heard z status d (cut o w) s h m asks l = absurd (omega (arith, l))
explained words a heard z status d (whole w f) s h m asks l = go (comes_of words (outside a.held) (explain s h m) z.report z.format asks d.given)
  where
    go : Comes (outside a.held) (explain s h m) (format_for words) z.report z.format → ExplainedPromise words a.held heard (status_of z.report) s h m
    go (o, explains, is) = explaining_so words a.held heard s h m o z.report z.format is l w explains

-- ---- the first format

pub usage_given : (words : List (List ℕ)) (source : Source) (f : Format) → f ≡ format_for words → IsNoCommand words → Gives source words Usage f
usage_given words source f e n = subst (λ (x : Format). Gives source words Usage x) (sym e) (usage n)

pub command_given : (words : List (List ℕ)) (source : Source) (c : Command) (before : Format) (r : Report) (f : Format) → before ≡ format_for words → Asks words c → Comes source c before r f
    → Gives source words r f
command_given words source c before r f e asks comes = done c asks (subst (λ (x : Format). Comes source c x r f) e comes)

-- ---- want of memory

memory_free : (source : Source) (c : Command) (before after : Format) → Comes source c before OutOfMemory after
memory_free source (check p s t) before after = (Err halt.NoMemory, inl (halt.NoMemory, refl, tt), refl)
memory_free source (explain s h m) before after = (Err halt.NoMemory, inl (halt.NoMemory, refl, tt), refl)
memory_free source (replay p s c) before after = (Err halt.NoMemory, inl (halt.NoMemory, refl, tt), refl)
memory_free source (judge s h m) before after = (Err halt.NoMemory, inl (halt.NoMemory, refl, tt), refl)

memory_given : (source : Source) (words : List (List ℕ)) (r : Report) (f : Format) → r ≢ Usage → Gives source words r f → Gives source words OutOfMemory f
memory_given source words r f n (usage h) = absurd (n refl)
memory_given source words r f n (done c asks comes) = done c asks (memory_free source c (format_for words) f)

answered_by : (words : List (List ℕ)) (a : Asked) (r q : Report) (f : Format) → Deserves words a r f → IsAnswerTo r q → Deserves words a q f
answered_by words a r q f d (inl e) = subst (λ (x : Report). Deserves words a x f) (sym e) d
answered_by words a r q f d (inr (e, n)) =
    subst (λ (x : Report). Deserves words a x f) (sym e) (record { given = memory_given (outside a.held) words r f n d.given; blamed = tt })

pub answered : (words : List (List ℕ)) (a : Asked) (r : Report) (f : Format) (z : Shown) → Deserves words a r f → IsOutputOf r f z → Deserves words a z.report z.format
answered words a r f z d h = subst (λ (x : Format). Deserves words a z.report x) (sym h.1) (answered_by words a r z.report f d h.0)

-- ---- usage

usage_of : (words : List (List ℕ)) (source : Source) (r : Report) (f : Format) → IsNoCommand words → Gives source words r f → r ≡ Usage
usage_of words source r f n (usage h) = refl
usage_of words source r f n (done c asks comes) = absurd (n c asks)

comes_usage : (source : Source) (c : Command) (before after : Format) (r : Report) → r ≡ Usage → Comes source c before r after → ⊥
comes_usage source (check p s t) before after r e (o, checks, is) = never_usage check_report check_own o (sym e ∙ is)
comes_usage source (explain s h m) before after r e (o, explains, is) = never_usage explain_report explain_own o (sym e ∙ is)
comes_usage source (replay p s c) before after r e (o, replays, is) = never_usage replay_report replay_own o (sym e ∙ is)
comes_usage source (judge s h m) before after r e (o, judges, is) = never_usage judge_report judge_own o (sym e ∙ is)

only_usage : (words : List (List ℕ)) (source : Source) (r : Report) (f : Format) → r ≡ Usage → Gives source words r f → IsNoCommand words
only_usage words source r f e (usage h) = h
only_usage words source r f e (done c asks comes) = absurd (comes_usage source c (format_for words) f r e comes)

-- ---- statuses

-- up to 5, or 7 or 8
abbrev IsAboutSix : ℕ → Type 0
IsAboutSix status = (status ≤ 5) ⊎ ((7 ≤ status) × (status ≤ 8))

ran_known : (undefined : Option (ℕ × Reason)) → IsAboutSix (status_after undefined)
ran_known None = inl (omega arith)
ran_known (Some found) = inr (omega arith, omega arith)

status_known : (r : Report) → IsAboutSix (status_of r)
status_known Accepted = inl (omega arith)
status_known AcceptedWithoutCrash = inl (omega arith)
status_known (Unjustified place why) = inl (omega arith)
status_known Explained = inl (omega arith)
status_known (NotExplained at why) = inl (omega arith)
status_known Usage = inl (omega arith)
status_known (CannotRead name) = inl (omega arith)
status_known (Refused name place code) = inl (omega arith)
status_known OutOfMemory = inl (omega arith)
status_known (Ran ran) = ran_known ran.undefined
status_known (Moves lines) = inl (omega arith)
status_known NoExplanation = inl (omega arith)
status_known (Spent most) = inr (omega arith, omega arith)
status_known (Points lines) = inl (omega arith)
status_known (Made made) = inl (omega arith)

never_six : (r : Report) → status_of r ≡ 6 → ⊥
never_six r e =
    elim (status_known r) [
      | inl few ↦ omega (arith, e, few)
      | inr more ↦ (let least = more.0 in omega (arith, e, least))
    ]

ran_never_two : (undefined : Option (ℕ × Reason)) → status_after undefined ≡ 2 → ⊥
ran_never_two None e = omega (arith, e)
ran_never_two (Some found) e = omega (arith, e)

is_usage : (r : Report) → status_of r ≡ 2 → r ≡ Usage
is_usage Accepted e = absurd (omega (arith, e))
is_usage AcceptedWithoutCrash e = absurd (omega (arith, e))
is_usage (Unjustified place why) e = absurd (omega (arith, e))
is_usage Explained e = absurd (omega (arith, e))
is_usage (NotExplained at why) e = absurd (omega (arith, e))
is_usage Usage e = refl
is_usage (CannotRead name) e = absurd (omega (arith, e))
is_usage (Refused name place code) e = absurd (omega (arith, e))
is_usage OutOfMemory e = absurd (omega (arith, e))
is_usage (Ran ran) e = absurd (ran_never_two ran.undefined e)
is_usage (Moves lines) e = absurd (omega (arith, e))
is_usage NoExplanation e = absurd (omega (arith, e))
is_usage (Spent most) e = absurd (omega (arith, e))
is_usage (Points lines) e = absurd (omega (arith, e))
is_usage (Made made) e = absurd (omega (arith, e))

module _ (words : List (List ℕ)) (a : Asked) (h : Heard) (z : Shown) (d : Deserves words a z.report z.format) where
  pub told : (status : ℕ) → Puts z h status → status ≢ 6 → (q : Report) × (status_of q ≡ status) × Answers words a h q
  told status (whole w f) l = (z.report, refl, (z.format, d, w))
  told status (cut o w) n = absurd (n refl)

  pub calm : (status : ℕ) → Puts z h status → status ≢ 6 → sink.NoneFailed h
  calm status (whole w f) l = f
  calm status (cut o w) n = absurd (n refl)

  pub cut_off : (status : ℕ) → Puts z h status → status ≡ 6 → IsCutOff words a h
  cut_off status (whole w f) e = absurd (never_six z.report e)
  cut_off status (cut o w) e = record { report = z.report; format = z.format; deserved = d; fault = o; written = w }

  pub always_cut_off : (status : ℕ) → Puts z h status → h.faults_before < h.faults_now → status ≡ 6
  always_cut_off status (whole w f) l = absurd (omega (arith, f, l))
  always_cut_off status (cut o w) l = refl

  pub known : (status : ℕ) → Puts z h status → status ≤ 8
  known status (whole w f) =
      elim (status_known z.report) [
        | inl few ↦ omega (arith, few)
        | inr more ↦ more.1
      ]
  known status (cut o w) = omega arith

  pub usage_only : (status : ℕ) → Puts z h status → status ≡ 2 → IsNoCommand words
  usage_only status (whole w f) e = only_usage words (outside a.held) z.report z.format (is_usage z.report e) d.given
  usage_only status (cut o w) e = absurd (omega (arith, e))

  pub usage_status : (status : ℕ) → Puts z h status → IsNoCommand words → (status ≡ 2) ⊎ (status ≡ 6)
  usage_status status (whole w f) n = inl (ap status_of (usage_of words (outside a.held) z.report z.format n d.given))
  usage_status status (cut o w) n = inr refl
