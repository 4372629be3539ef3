-- What a schedule that is read has, and what a run's text and status tell.
use Rattle.std.proofs.Common.{◌≡◌, ℕ, ◌+◌, ◌-◌, ◌^◌, ◌<◌, ◌≤◌, length, Bool, true, false, List, [], ◌∷◌, ◌++◌, get_or, map, sum, Option, Some, None, Result, Ok, Err, refl, sym, ap, subst, ◌∙◌, ◌⊎◌, inl, inr, arith}
use Rattle.std.specs.List.{sum_by}
use Rattle.std.specs.Prelude.{◌↔◌, nat_le, if◌then◌else◌}
use Rattle.std.proofs.lemmas.Bool.{leb-true}
use Rattle.std.proofs.lemmas.List.Sums.{sum-map, sum_by-append, sum_by-cons}
use Rattle.gv_base.specs.Outside.{Told}
use Rattle.gv_base.specs.declared.reason.Reason.{Reason}
use Rattle.gv_base.specs.declared.answers.Code.TheVariants as codes
use Rattle.gv_text.specs.Stops.{Fault}
use Rattle.gv_atomic.specs.declared.spec.Spec.{Spec}
use Rattle.gv_spec.specs.declared.entry.Entry.{Entry}
use Rattle.gv_spec.specs.declared.entry.Entry.TheVariants as entry
use Rattle.gv_spec.specs.declared.event.Event.{Event}
use Rattle.gv_gotree.specs.SmallPackage.{IsSmallPackage}
use Rattle.gv_specs.specs.Reading as written
use Rattle.gv_replay.specs.declared.line.Line.{Line}
use Rattle.gv_replay.specs.declared.plan.Plan.{Plan}
use Rattle.gv_replay.specs.declared.plan.Planned.{Planned}
use Rattle.gv_replay.specs.declared.schedule.Line as schedules
use Rattle.gv_replay.specs.declared.schedule.Schedule.{Schedule}
use Rattle.gv_replay.specs.Plans.{most_events, event_in, arity_in, size_of, planned, no_plan, with_plan, placed}
use Rattle.gv_replay.specs.Reading.{TellsSchedule}
use Rattle.gv_replay.specs.Results.{and_then, map_ok}
use Rattle.gv_replay.specs.Told.{tell, tell_all}
use Rattle.gv_played.specs.declared.replaying.Ran as played
use Rattle.gv_lines.specs.Lines.{entry_lines}
use Rattle.gv_interfaces.specs.Interfaces.{SameOperations}
use Rattle.gv_report.specs.declared.ran.Ran.{Ran}
use Rattle.gv_report.specs.declared.report.Report.{Report}
use Rattle.gv_report.specs.declared.report.Report.TheVariants as report
use Rattle.gv_report.specs.declared.format.Format.{Format}
use Rattle.gv_report.specs.Heard.{Heard, IsWritten}
use Rattle.gv_report.specs.Output.{Shown, Puts, whole, cut, noted, output_of}
use Rattle.gv_report.specs.Ran.{last_line, status_after}
use Rattle.gv_report.specs.Report.{joined, status_of, text_of}
use Rattle.gv_top.specs.declared.files.Halt.{Halt}
use Rattle.gv_top.specs.declared.replay_forms.WrittenPackage.{WrittenPackage}
use Rattle.gv_top.specs.declared.replay_forms.WrittenSpec.{WrittenSpec}
use Rattle.gv_top.specs.Commands.{Command, check, explain, replay, judge, Asks, Comes, format_for}
use Rattle.gv_top.specs.Files.{Asked, Source, Reads, outside, noted_all}
use Rattle.gv_top.specs.Outcome.{reported}
use Rattle.gv_top.specs.Forms.{packages, written_specs}
use Rattle.gv_top.specs.Promise.{ReplayedPromise}
use Rattle.gv_top.specs.Replay.{IsReplayed, Plays, Replays, report_of as replay_report}
use Rattle.gv_top.specs.ReplayForms.{written_packages, kept_specs, schedules_of}
use Rattle.gv_top.specs.Run.{Gives, usage, done}
use Rattle.gv_top.proofs.OutcomeLemmas.{check_never_ran, explain_never_ran, judge_never_ran, ran_of, replay_came, then_read}
use Rattle.gv_top.proofs.ReplayExact as exact

-- ---- the counts of a schedule

record Fits (p : Plan) : Type 0 where
  total : p.events ≡ sum (map (λ l. l.count) p.lines)
  few : p.events ≤ 1000000

planned_fits : (p : Plan) (size : ℕ × ℕ) (e : Option Event) → Fits p → p.events + size.0 ≤ 1000000 → Fits (planned p size e)
planned_fits p size None f few = f
planned_fits p size (Some e) f few =
    let one : Planned = record { at = size.1; event = e; count = size.0 } in
    let times : Planned → ℕ = λ l. l.count in
    let whole : sum (map times (p.lines ++ one ∷ [])) ≡ sum_by times (p.lines ++ one ∷ []) = sum-map times (p.lines ++ one ∷ []) in
    let parts : sum_by times (p.lines ++ one ∷ []) ≡ sum_by times p.lines + sum_by times (one ∷ []) = sum_by-append times p.lines (one ∷ []) in
    let first : sum (map times p.lines) ≡ sum_by times p.lines = sum-map times p.lines in
    let last : sum_by times (one ∷ []) ≡ size.0 + sum_by times [] = sum_by-cons times one [] in
    let nothing : sum_by times [] ≡ 0 = refl in
    record { total = omega (arith, f.total, whole, parts, first, last, nothing); few = few }

told_fits : (p q : Plan) (size : ℕ × ℕ) (a : Result (Unit {0}) Fault) (b : Bool) (e : Result (Option Event) Fault) → Fits p → (b ≡ true → p.events + size.0 ≤ 1000000)
    → and_then (λ _. and_then (λ _. map_ok (planned p size) e) (let r : Result (Unit {0}) Fault = if b then Ok tt else Err (size.1, codes.TooManyEvents) in r)) a ≡ Ok q → Fits q
told_fits p q size (Err fault) b e f few h = absurd cc
told_fits p q size (Ok x) false e f few h = absurd cc
told_fits p q size (Ok x) true (Err fault) f few h = absurd cc
told_fits p q size (Ok x) true (Ok o) f few h =
    let same : planned p size o ≡ q = cc in
    subst (λ (x : Plan). Fits x) same (planned_fits p size o f (few refl))

with_fits : (s : Spec) (p q : Plan) (l : Line) → Fits p → with_plan s p l ≡ Ok q → Fits q
with_fits s p q l f h =
    told_fits p q (size_of l) (arity_in s l) (nat_le (p.events + (size_of l).0) most_events) (event_in s l) f (λ e. leb-true (p.events + (size_of l).0) most_events e) h

lines_fit : (s : Spec) (lines : List Line) (start : Result Plan Fault) (q : Plan) → ((p : Plan) → start ≡ Ok p → Fits p) → tell_all (with_plan s) start lines ≡ Ok q → Fits q
lines_fit s [] start q f h = f q h
lines_fit s (l ∷ ls) start q f h = lines_fit s ls (tell (with_plan s) start l) q (λ p e. one start f p e) h
  where
    one : (start : Result Plan Fault) → ((p : Plan) → start ≡ Ok p → Fits p) → (p : Plan) → tell (with_plan s) start l ≡ Ok p → Fits p
    one (Ok r) f p e = with_fits s r p l (f r refl) e
    one (Err fault) f p e = absurd cc

counts_placed : (text : List ℕ) (ls : List Planned) → map (λ l. l.count) (map (placed text) ls) ≡ map (λ l. l.count) ls
counts_placed text [] = refl
counts_placed text (l ∷ ls) = ap (λ (ns : List ℕ). l.count ∷ ns) (counts_placed text ls)

-- a schedule has at most 1,000,000 events
pub few_events : (s : Spec) (text : List ℕ) (schedule : Schedule) → TellsSchedule s text schedule → sum (map (λ l. l.count) schedule.events) ≤ 1000000
few_events s text schedule h =
    let fits : Fits h.plan = lines_fit s h.told.lines (Ok no_plan) h.plan (λ p e. let same : no_plan ≡ p = cc in subst (λ (x : Plan). Fits x) same (record { total = refl; few = omega arith })) h.told.told in
    let counts : sum (map (λ l. l.count) schedule.events) ≡ sum (map (λ l. l.count) h.plan.lines) =
    ap (λ (ls : List schedules.Line). sum (map (λ l. l.count) ls)) h.events ∙ ap sum (counts_placed text h.plan.lines) in
    omega (arith, counts, fits.total, fits.few)

-- ---- texts that are kept beside what they spell

pub package_short : (source : Source) (p : List ℕ) (kept : WrittenPackage) → Reads source written_packages p kept → length kept.text < 2 ^ 32 - 1
package_short source p kept r = let same = ap length r.spelled.1 in let fits = r.fits in omega (arith, same, fits)

pub package_small : (source : Source) (p : List ℕ) (kept : WrittenPackage) → Reads source written_packages p kept → IsSmallPackage kept.text kept.small
package_small source p kept r = subst (λ (t : List ℕ). IsSmallPackage t kept.small) (sym r.spelled.1) r.spelled.0.small_form

pub spec_short : (source : Source) (s : List ℕ) (spec : WrittenSpec) → Reads source kept_specs s spec → length spec.text < 2 ^ 32 - 1
spec_short source s spec r = let same = ap length r.spelled.1 in let fits = r.fits in omega (arith, same, fits)

pub spec_spells : (source : Source) (s : List ℕ) (spec : WrittenSpec) → Reads source kept_specs s spec → written.Spells spec.text spec.spec
spec_spells source s spec r = subst (λ (t : List ℕ). written.Spells t spec.spec) (sym r.spelled.1) r.spelled.0

-- ---- no run's text begins as an acceptance does

first_of : (xs ys : List ℕ) → xs ≡ ys → get_or xs 0 0 ≡ get_or ys 0 0
first_of xs ys e = ap (λ (v : List ℕ). get_or v 0 0) e

second_of : (xs ys : List ℕ) → xs ≡ ys → get_or xs 1 0 ≡ get_or ys 1 0
second_of xs ys e = ap (λ (v : List ℕ). get_or v 1 0) e

begins_otherwise : (s : Spec) (history : List Entry) (undefined : Option (ℕ × Reason)) (rest : List ℕ)
    → joined (entry_lines s history ++ last_line undefined ∷ []) ≡ text_of report.AcceptedWithoutCrash ++ rest → ⊥
begins_otherwise s [] None rest e = let h : 101 ≡ 97 = first_of _ (text_of report.AcceptedWithoutCrash ++ rest) e in omega (arith, h)
begins_otherwise s [] (Some found) rest e = let h : 117 ≡ 97 = first_of _ (text_of report.AcceptedWithoutCrash ++ rest) e in omega (arith, h)
begins_otherwise s (entry.Call number op args ∷ es) u rest e = let h : 99 ≡ 97 = first_of _ (text_of report.AcceptedWithoutCrash ++ rest) e in omega (arith, h)
begins_otherwise s (entry.Answer number reply ∷ es) u rest e = let h : 110 ≡ 99 = second_of _ (text_of report.AcceptedWithoutCrash ++ rest) e in omega (arith, h)
begins_otherwise s (entry.Crash ∷ es) u rest e = let h : 99 ≡ 97 = first_of _ (text_of report.AcceptedWithoutCrash ++ rest) e in omega (arith, h)
begins_otherwise s (entry.Boot ∷ es) u rest e = let h : 98 ≡ 97 = first_of _ (text_of report.AcceptedWithoutCrash ++ rest) e in omega (arith, h)

-- ---- where a run came of it

-- the three values that were read, and the run
pub record Came (source : Source) (p s c : List ℕ) (before after : Format) (ran : Ran) : Type 0 where
  pub kept : WrittenPackage
  pub is_package : Reads source written_packages p kept
  pub spec : WrittenSpec
  pub is_spec : Reads source kept_specs s spec
  pub schedule : Schedule
  pub is_schedule : Reads source (schedules_of spec.spec) c schedule
  pub format_is : after ≡ noted_all before (is_package.bytes ∷ is_spec.bytes ∷ is_schedule.bytes ∷ [])
  pub same : SameOperations kept.small spec.spec
  pub replayed : IsReplayed kept.small spec.spec schedule.events ran

plays_is : (source : Source) (p s c : List ℕ) (before after : Format) (ran : Ran) (o : Result Ran Halt) → o ≡ Ok ran → Replays source p s c before o after → Came source p s c before after ran
plays_is source p s c before after ran o e replays =
    then_read source written_packages p (exact.First source p s c) before after o ran e replays (λ kept package_reads first.
    then_read source kept_specs s (exact.Middle source p s c kept) (noted before package_reads.bytes) after o ran e first (λ spec spec_reads middle.
    went_on kept package_reads spec spec_reads middle))
  where
    went_on : (kept : WrittenPackage) (package_reads : Reads source written_packages p kept) (spec : WrittenSpec) (spec_reads : Reads source kept_specs s spec)
        → exact.Middle source p s c kept spec (noted (noted before package_reads.bytes) spec_reads.bytes) o after → Came source p s c before after ran
    went_on kept package_reads spec spec_reads (inl (halt, f, h, k)) = absurd cc
    went_on kept package_reads spec spec_reads (inr (same, next)) =
        then_read source (schedules_of spec.spec) c (exact.Last kept.small spec.spec c) (noted (noted before package_reads.bytes) spec_reads.bytes) after o ran e next (λ schedule schedule_reads plays.
        record {
          kept = kept;
          is_package = package_reads;
          spec = spec;
          is_spec = spec_reads;
          schedule = schedule;
          is_schedule = schedule_reads;
          format_is = plays.1;
          same = same;
          replayed = subst (λ (x : Result Ran Halt). Plays kept.small spec.spec c schedule.events x) e plays.0;
        })

-- nor as an object of JSON does
never_braced : (s : Spec) (history : List Entry) (undefined : Option (ℕ × Reason)) (text : List ℕ) → get_or text 0 0 ≡ 123
    → joined (entry_lines s history ++ last_line undefined ∷ []) ≡ text → ⊥
never_braced s [] None text b e = let h : 101 ≡ 123 = first_of _ text e ∙ b in omega (arith, h)
never_braced s [] (Some found) text b e = let h : 117 ≡ 123 = first_of _ text e ∙ b in omega (arith, h)
never_braced s (entry.Call number op args ∷ es) u text b e = let h : 99 ≡ 123 = first_of _ text e ∙ b in omega (arith, h)
never_braced s (entry.Answer number reply ∷ es) u text b e = let h : 97 ≡ 123 = first_of _ text e ∙ b in omega (arith, h)
never_braced s (entry.Crash ∷ es) u text b e = let h : 99 ≡ 123 = first_of _ text e ∙ b in omega (arith, h)
never_braced s (entry.Boot ∷ es) u text b e = let h : 98 ≡ 123 = first_of _ text e ∙ b in omega (arith, h)

-- a text that no run's is
abbrev IsNoRun : List ℕ → Type 0
IsNoRun text = (s : Spec) (history : List Entry) (undefined : Option (ℕ × Reason)) → joined (entry_lines s history ++ last_line undefined ∷ []) ≡ text → ⊥

never_text : (words : List (List ℕ)) (source : Source) (ran : Ran) (f : Format) (wanted : List ℕ) → IsNoRun wanted → Gives source words (report.Ran ran) f
    → text_of (report.Ran ran) ≡ wanted → ⊥
never_text words source ran f wanted none given text = by_words (report.Ran ran) f refl given
  where
    by_command : (command : Command) (before after : Format) (r : Report) → r ≡ report.Ran ran → Comes source command before r after → ⊥
    by_command (check p s t) before after r e (o, checks, is) = check_never_ran o ran (sym e ∙ is)
    by_command (explain s h m) before after r e (o, explains, is) = explain_never_ran o ran (sym e ∙ is)
    by_command (replay p s c) before after r e (o, replays, is) =
        let came = plays_is source p s c before after ran o (ran_of o ran (sym e ∙ is)) replays in
        none came.spec.spec came.replayed.history ran.undefined
        (ap (λ (ls : List (List ℕ)). joined (ls ++ last_line ran.undefined ∷ [])) (sym came.replayed.lines_are) ∙ text)
    by_command (judge s h m) before after r e (o, judges, is) = judge_never_ran o ran (sym e ∙ is)

    by_words : (r : Report) (f : Format) → r ≡ report.Ran ran → Gives source words r f → ⊥
    by_words r f e (usage h) = cc
    by_words r f e (done command asks comes) = by_command command (format_for words) f r e comes

pub ran_text : (words : List (List ℕ)) (source : Source) (ran : Ran) (f : Format) (rest : List ℕ) → Gives source words (report.Ran ran) f
    → text_of (report.Ran ran) ≡ text_of report.AcceptedWithoutCrash ++ rest → ⊥
ran_text words source ran f rest given text =
    never_text words source ran f (text_of report.AcceptedWithoutCrash ++ rest) (λ s history undefined. begins_otherwise s history undefined rest) given text

pub ran_unbraced : (words : List (List ℕ)) (source : Source) (ran : Ran) (f : Format) (wanted : List ℕ) → get_or wanted 0 0 ≡ 123
    → Gives source words (report.Ran ran) f → text_of (report.Ran ran) ≡ wanted → ⊥
ran_unbraced words source ran f wanted braced given text =
    never_text words source ran f wanted (λ s history undefined. never_braced s history undefined wanted braced) given text

-- ---- the promise

ended_where : (undefined : Option (ℕ × Reason)) → status_after undefined ≡ 0 ↔ (undefined ≡ None)
ended_where None = (λ e. refl, λ e. refl)
ended_where (Some found) = (λ e. absurd (omega (arith, e)), λ e. absurd cc)

kept_package : (source : Source) (p : List ℕ) (kept : WrittenPackage) → Reads source written_packages p kept → Reads source packages p kept.small
kept_package source p kept r = record { bytes = r.bytes; given = r.given; fits = r.fits; spelled = r.spelled.0 }

kept_spec : (source : Source) (s : List ℕ) (spec : WrittenSpec) → Reads source kept_specs s spec → Reads source written_specs s spec.spec
kept_spec source s spec r = record { bytes = r.bytes; given = r.given; fits = r.fits; spelled = r.spelled.0 }

promise_of : (words : List (List ℕ)) (held : List ℕ → Told) (heard : Heard) (p s c : List ℕ) (f : Format) (ran : Ran) → IsWritten heard (output_of f (report.Ran ran))
    → Came (outside held) p s c (format_for words) f ran → ReplayedPromise words held heard (status_of (report.Ran ran)) p s c
unfolding kept_package kept_spec
promise_of words held heard p s c f ran w came =
    let run : played.Ran = record { history = came.replayed.history; undefined = ran.undefined } in
    let printed : Ran = record { lines = entry_lines came.spec.spec came.replayed.history; undefined = ran.undefined } in
    let lines = came.replayed.lines_are in
    let same : ran ≡ printed = λ i. record { lines = lines i; undefined = ran.undefined } in
    record {
      program = came.kept.small;
      is_package = kept_package (outside held) p came.kept came.is_package;
      atomic = came.spec.spec;
      is_spec = kept_spec (outside held) s came.spec came.is_spec;
      operations = came.same;
      schedule = came.schedule;
      is_schedule = came.is_schedule;
      run = run;
      is_run = came.replayed.is_ran;
      format = f;
      format_is = came.format_is;
      written = subst (λ (x : Ran). IsWritten heard (output_of f (report.Ran x))) same w;
      ended = ended_where ran.undefined;
    }

pub replayed : (words : List (List ℕ)) (a : Asked) (heard : Heard) (z : Shown) (status : ℕ) → Puts z heard status
    → ((command : Command) → Asks words command → Comes (outside a.held) command (format_for words) z.report z.format)
    → (p s c : List ℕ) → Asks words (replay p s c) → (status ≡ 0) ⊎ (status ≡ 8) → ReplayedPromise words a.held heard status p s c
replayed words a heard z status (cut o w) comes p s c asks (inl e) = absurd (omega (arith, e))
replayed words a heard z status (cut o w) comes p s c asks (inr e) = absurd (omega (arith, e))
replayed words a heard z status (whole w f) comes p s c asks ends = go (comes (replay p s c) asks) ends
  where
    go : Comes (outside a.held) (replay p s c) (format_for words) z.report z.format → (status_of z.report ≡ 0) ⊎ (status_of z.report ≡ 8)
        → ReplayedPromise words a.held heard (status_of z.report) p s c
    go (o, replays, is) ends =
        replay_came o (subst (λ (x : Report). (status_of x ≡ 0) ⊎ (status_of x ≡ 8)) is ends) (λ ran o_is.
        let r_is : z.report ≡ report.Ran ran = is ∙ ap (reported replay_report) o_is in
        subst (λ (y : Report). ReplayedPromise words a.held heard (status_of y) p s c) (sym r_is)
        (promise_of words a.held heard p s c z.format ran (subst (λ (y : Report). IsWritten heard (output_of z.format y)) r_is w)
        (plays_is (outside a.held) p s c (format_for words) z.format ran o o_is replays)))
