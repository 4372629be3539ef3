-- `replay` comes to one outcome over files that are told.
use Rattle.std.proofs.Common.{◌≡◌, ℕ, List, Result, Ok, Err, refl, sym, ap, subst, ◌∙◌, ◌⊎◌, inl, inr}
use Rattle.gv_base.specs.Outside.{Told}
use Rattle.gv_base.specs.Places.{place_at}
use Rattle.gv_base.specs.declared.answers.Code.{Code}
use Rattle.gv_base.specs.declared.answers.Place.{Place}
use Rattle.gv_base.specs.declared.small.Small.{Small}
use Rattle.gv_atomic.specs.declared.spec.Spec.{Spec}
use Rattle.gv_specs.specs.Alike.{AreAlike}
use Rattle.gv_specs.specs.Reading as written
use Rattle.gv_specs.proofs.Alike.{one_specification}
use Rattle.gv_replay.specs.declared.line.TextKind.TheVariants as text_kind
use Rattle.gv_replay.specs.declared.schedule.Line.{Line}
use Rattle.gv_replay.specs.declared.schedule.Schedule.{Schedule}
use Rattle.gv_replay.specs.Plans.{with_plan, no_plan, lines_placed}
use Rattle.gv_replay.specs.Reading.{IsRefusedSchedule}
use Rattle.gv_smallprogram.specs.Program.{program_of}
use Rattle.gv_played.specs.declared.replaying.Ran as played
use Rattle.gv_played.proofs.Decided.{one_run, one_line, not_both as not_both_runs}
use Rattle.gv_lines.specs.Lines.{entry_lines}
use Rattle.gv_interfaces.specs.declared.difference.Difference.{Difference}
use Rattle.gv_interfaces.specs.declared.difference.Difference.TheVariants.{InSpec, InPackage}
use Rattle.gv_interfaces.specs.Interfaces.{SameOperations}
use Rattle.gv_interfaces.specs.Places.{IsFirstDifference}
use Rattle.gv_interfaces.proofs.Decided.{one_difference, none_where_same}
use Rattle.gv_report.specs.declared.format.Format.{Format}
use Rattle.gv_report.specs.declared.ran.Ran.{Ran}
use Rattle.gv_top.specs.declared.files.Halt.{Halt}
use Rattle.gv_top.specs.declared.files.Halt.TheVariants.{NoMemory, CannotRead, Refused}
use Rattle.gv_top.specs.declared.replay_forms.WrittenPackage.{WrittenPackage}
use Rattle.gv_top.specs.declared.replay_forms.WrittenSpec.{WrittenSpec}
use Rattle.gv_top.specs.Files.{Source, Asked, Course, Then, Keeps, IsBlamed, outside, as_told}
use Rattle.gv_top.specs.Replay.{StandsIn, HaltsBetween, IfSame, IsReplayed, Plays, Replays}
use Rattle.gv_top.specs.ReplayForms.{IsWrittenPackage, written_packages, IsWrittenSpec, kept_specs, IsScheduleOf, schedules_of}
use Rattle.gv_top.specs.Run.{OnlyAbsentFailed}
use Rattle.gv_top.proofs.AlikeSchedules.{same_schedule, same_refused_schedule, same_events, plays_by}
use Rattle.gv_top.proofs.ExplainExact.{specs_exact, other_form}
use Rattle.gv_top.proofs.LawLemmas.{one_package}
use Rattle.gv_top.proofs.LinesLemmas.{one_account, not_both, one_refusal}
use Rattle.gv_top.proofs.OutcomeLemmas.{then_refused}
use Rattle.gv_top.proofs.PackageForm.{packages_exact}
use Rattle.gv_top.proofs.StageLemmas.{IsExact, placed_exact, Same, SameEnd, kept_same, stage, stage_one}

-- ---- forms

written_packages_exact : IsExact written_packages
written_packages_exact = record {
  clash = λ text p place code h r. packages_exact.clash text p.small place code h.0 r;
  one_refusal = packages_exact.one_refusal;
}

one_written_package : (text : List ℕ) (x y : WrittenPackage) → IsWrittenPackage text x → IsWrittenPackage text y → x ≡ y
one_written_package text x y h k =
    let small = one_package text x.small y.small h.0.small_form k.0.small_form in
    let same : x.text ≡ y.text = h.1 ∙ sym k.1 in
    λ i. record { small = small i; text = same i }

kept_specs_exact : IsExact kept_specs
kept_specs_exact = record {
  clash = λ text s place code h r. specs_exact.clash text s.spec place code h.0 r;
  one_refusal = specs_exact.one_refusal;
}

schedules_exact : (s : Spec) → IsExact (schedules_of s)
schedules_exact s =
    placed_exact (IsScheduleOf s) (IsRefusedSchedule s) (λ text v at code h r. not_both (with_plan s) no_plan text_kind.Schedule text h.0.plan at code h.0.told r)
    (λ text m n c d h k. let same = one_refusal (with_plan s) no_plan text_kind.Schedule text m n c d h k in (ap (place_at text) same.0, same.1))

-- a text spells one schedule at most
one_schedule : (s : Spec) (text : List ℕ) (x y : Schedule) → IsScheduleOf s text x → IsScheduleOf s text y → x ≡ y
one_schedule s text x y h k =
    let events : x.events ≡ y.events =
    h.0.events ∙ ap (lines_placed text) (one_account (with_plan s) no_plan text_kind.Schedule text h.0.plan k.0.plan h.0.told k.0.told) ∙ sym k.0.events in
    λ i. record { events = events i }

-- ---- one run

replayed_same : (program : Small) (s : Spec) (lines : List Line) (x y : Ran) → IsReplayed program s lines x → IsReplayed program s lines y → x ≡ y
replayed_same program s lines x y h k =
    let first : played.Ran = record { history = h.history; undefined = x.undefined } in
    let second : played.Ran = record { history = k.history; undefined = y.undefined } in
    let same : first ≡ second = one_run (program_of program) s lines first second h.is_ran k.is_ran in
    let printed : x.lines ≡ y.lines = h.lines_are ∙ ap (λ (r : played.Ran). entry_lines s r.history) same ∙ sym k.lines_are in
    let undefined : x.undefined ≡ y.undefined = ap (λ (r : played.Ran). r.undefined) same in
    λ i. record { lines = printed i; undefined = undefined i }

refused_as : (n m : List ℕ) (p q : Place) (c d : Code) → n ≡ m → p ≡ q → c ≡ d → Refused n p c ≡ Refused m q d
refused_as n m p q c d name place code = ap (λ x. Refused x p c) name ∙ ap (λ x. Refused m x c) place ∙ ap (λ x. Refused m q x) code

err_same : (h k : Halt) → h ≡ k → (let r : Result Ran Halt = Err h in r) ≡ Err k
err_same h k e = ap (λ x. let r : Result Ran Halt = Err x in r) e

plays_same : (program : Small) (s : Spec) (name : List ℕ) (lines : List Line) (o q : Result Ran Halt) → Plays program s name lines o → Plays program s name lines q
    → (q ≡ Err NoMemory → ⊥) → Same o q
plays_same program s name lines (Ok x) (Ok y) h k n = inl (ap Ok (replayed_same program s lines x y h k))
plays_same program s name lines (Ok x) (Err NoMemory) h k n = absurd (n refl)
plays_same program s name lines (Ok x) (Err (CannotRead m)) h k n = absurd k
plays_same program s name lines (Ok x) (Err (Refused m place code)) h k n = absurd (not_both_runs (program_of program) s lines _ place h.is_ran k.2)
plays_same program s name lines (Err NoMemory) q h k n = inr refl
plays_same program s name lines (Err (CannotRead m)) q h k n = absurd h
plays_same program s name lines (Err (Refused m place code)) (Ok y) h k n = absurd (not_both_runs (program_of program) s lines _ place k.is_ran h.2)
plays_same program s name lines (Err (Refused m place code)) (Err NoMemory) h k n = absurd (n refl)
plays_same program s name lines (Err (Refused m place code)) (Err (CannotRead l)) h k n = absurd k
plays_same program s name lines (Err (Refused m place code)) (Err (Refused l other kind)) h k n =
    inl (err_same _ _ (refused_as m l place other code kind (h.0 ∙ sym k.0) (one_line (program_of program) s lines place other h.2 k.2) (h.1 ∙ sym k.1)))

-- ---- one difference

stands_same : (p s : List ℕ) (d e : Difference) (n m : List ℕ) (a b : Place) → d ≡ e → StandsIn p s d n a → StandsIn p s e m b → (n ≡ m) × (a ≡ b)
stands_same p s (InSpec x) (InSpec y) n m a b same h k = let place : x ≡ y = cc in (h.0 ∙ sym k.0, h.1 ∙ place ∙ sym k.1)
stands_same p s (InPackage x) (InPackage y) n m a b same h k = let place : x ≡ y = cc in (h.0 ∙ sym k.0, h.1 ∙ place ∙ sym k.1)
stands_same p s (InSpec x) (InPackage y) n m a b same h k = absurd cc
stands_same p s (InPackage x) (InSpec y) n m a b same h k = absurd cc

module _ (p s : List ℕ) (kept : WrittenPackage) (text : List ℕ) (x y : WrittenSpec) (h : IsWrittenSpec text x) (k : IsWrittenSpec text y) where
  -- both specifications are spelled by the text of one of them
  first_spells : written.Spells y.text x.spec
  first_spells = subst (λ (t : List ℕ). written.Spells t x.spec) (sym k.1) h.0

  second_spells : written.Spells y.text y.spec
  second_spells = subst (λ (t : List ℕ). written.Spells t y.spec) (sym k.1) k.0

  first_here : (d : Difference) → IsFirstDifference kept.small kept.text x.spec x.text d → IsFirstDifference kept.small kept.text x.spec y.text d
  first_here d f = subst (λ (t : List ℕ). IsFirstDifference kept.small kept.text x.spec t d) (h.1 ∙ sym k.1) f

  halts_same : (a b : Halt) → HaltsBetween p s kept x a → HaltsBetween p s kept y b → (b ≡ NoMemory → ⊥) → (a ≡ b) ⊎ (a ≡ NoMemory)
  halts_same NoMemory b f g n = inr refl
  halts_same (CannotRead l) b f g n = absurd f
  halts_same (Refused l place code) NoMemory f g n = absurd (n refl)
  halts_same (Refused l place code) (CannotRead m) f g n = absurd g
  halts_same (Refused l place code) (Refused m other kind) f g n =
      let d = one_difference kept.small kept.text x.spec y.spec y.text f.1.difference g.1.difference first_spells second_spells
      (first_here f.1.difference f.1.first) g.1.first in
      let stands = stands_same p s f.1.difference g.1.difference l m place other d f.1.stands g.1.stands in
      inl (refused_as l m place other code kind stands.0 stands.1 (f.0 ∙ sym g.0))

  -- where the operations are the same, the command doesn't halt but for want of memory
  goes_on : (a : Halt) → SameOperations kept.small x.spec → HaltsBetween p s kept y a → a ≡ NoMemory
  goes_on NoMemory same f = refl
  goes_on (CannotRead l) same f = absurd f
  goes_on (Refused l place code) same f =
      absurd (none_where_same kept.small kept.text x.spec y.spec y.text f.1.difference first_spells second_spells same f.1.first)

  went_on : (a : Halt) → HaltsBetween p s kept x a → SameOperations kept.small y.spec → a ≡ NoMemory
  went_on NoMemory f same = refl
  went_on (CannotRead l) f same = absurd f
  went_on (Refused l place code) f same =
      absurd (none_where_same kept.small kept.text y.spec x.spec y.text f.1.difference second_spells first_spells same (first_here f.1.difference f.1.first))

  specs_alike : AreAlike x.spec y.spec
  specs_alike = one_specification y.text x.spec y.spec first_spells second_spells

-- ---- the stages

abbrev pub Last : Small → Spec → List ℕ → Schedule → Course Ran
Last program s c schedule = Keeps (Plays program s c schedule.events)

abbrev pub Next : Source → List ℕ → Small → Spec → Course Ran
Next source c program s = Then source (schedules_of s) c (Last program s c)

abbrev pub Middle : Source → List ℕ → List ℕ → List ℕ → WrittenPackage → WrittenSpec → Course Ran
Middle source p s c kept spec = IfSame p s kept spec (Next source c kept.small spec.spec)

abbrev pub First : Source → List ℕ → List ℕ → List ℕ → WrittenPackage → Course Ran
First source p s c kept = Then source kept_specs s (Middle source p s c kept)

next_by : (source : Source) (c : List ℕ) (program : Small) (s t : Spec) (before after : Format) (o : Result Ran Halt) → AreAlike s t → Next source c program s before o after
    → Next source c program t before o after
next_by source c program s t before after o alike next =
    other_form source (schedules_of s) (schedules_of t) c (λ text x k. (same_schedule s t alike text x k.0, same_events s t alike x.events k.1))
    (λ text place code k. (k.0, k.1, same_refused_schedule s t alike text k.0 code k.2)) before after o (Last program s c) (Last program t c)
    (λ schedule middle k. (plays_by s t alike program c schedule.events o k.0, k.1)) next

module _ (held : List ℕ → Told) (a : Asked) (held_as : a.held ≡ held) (absent : OnlyAbsentFailed a) (o q : Result Ran Halt) (f g : Format) (b : IsBlamed a o) (n : q ≡ Err NoMemory → ⊥) where
  schedule_stage : (c : List ℕ) (program : Small) (s : Spec) (before : Format) → Next (outside held) c program s before o f → Next (as_told held) c program s before q g → SameEnd o f q g
  schedule_stage c program s before h k =
      stage_one (schedules_of s) (schedules_exact s) held c a held_as absent (one_schedule s) before f g o q (Last program s c) (Last program s c) b h k n
      (λ schedule middle e l. kept_same o q middle f g e.1 l.1 (plays_same program s c schedule.events o q e.0 l.0 n))

  middle_stage : (p s c : List ℕ) (kept : WrittenPackage) (text : List ℕ) (x y : WrittenSpec) (before : Format) → IsWrittenSpec text x → IsWrittenSpec text y
      → Middle (outside held) p s c kept x before o f → Middle (as_told held) p s c kept y before q g → SameEnd o f q g
  middle_stage p s c kept text x y before h k (inl (halt, e, d, z)) (inl (other, l, m, w)) =
      elim (halts_same p s kept text x y h k halt other d m (λ v. n (l ∙ err_same other NoMemory v))) [
        | inl same ↦ inl (e ∙ err_same halt other same ∙ sym l, z ∙ sym w)
        | inr same ↦ inr (e ∙ err_same halt NoMemory same)
      ]
  middle_stage p s c kept text x y before h k (inl (halt, e, d, z)) (inr (same, rest)) =
      inr (e ∙ err_same halt NoMemory (went_on p s kept text x y h k halt d same))
  middle_stage p s c kept text x y before h k (inr (same, next)) (inl (other, l, m, w)) =
      absurd (n (l ∙ err_same other NoMemory (goes_on p s kept text x y h k other same m)))
  middle_stage p s c kept text x y before h k (inr (same, next)) (inr (also, rest)) =
      schedule_stage c kept.small y.spec before (next_by (outside held) c kept.small x.spec y.spec before f o (specs_alike p s kept text x y h k) next) rest

  spec_stage : (p s c : List ℕ) (kept : WrittenPackage) (before : Format) → First (outside held) p s c kept before o f → First (as_told held) p s c kept before q g → SameEnd o f q g
  spec_stage p s c kept before h k =
      stage kept_specs kept_specs_exact held s a held_as absent before f g o q (Middle (outside held) p s c kept) (Middle (as_told held) p s c kept) b h k n
      (λ text x y middle e l more rest. middle_stage p s c kept text x y middle e l more rest)

  pub replays_same : (p s c : List ℕ) (before : Format) → Replays (outside held) p s c before o f → Replays (as_told held) p s c before q g → SameEnd o f q g
  replays_same p s c before h k =
      stage_one written_packages written_packages_exact held p a held_as absent one_written_package before f g o q (First (outside held) p s c) (First (as_told held) p s c) b h k n
      (λ kept middle e l. spec_stage p s c kept middle e l)

-- ---- a refusal is of one of the three files

plays_refused : (program : Small) (s : Spec) (c name : List ℕ) (lines : List Line) (place : Place) (code : Code) (o : Result Ran Halt) → o ≡ Err (Refused name place code)
    → Plays program s c lines o → name ≡ c
plays_refused program s c name lines place code (Ok x) e h = absurd cc
plays_refused program s c name lines place code (Err NoMemory) e h = absurd cc
plays_refused program s c name lines place code (Err (CannotRead m)) e h = absurd cc
plays_refused program s c name lines place code (Err (Refused m p d)) e h = let same : m ≡ name = cc in sym same ∙ h.0

stands_in : (p s : List ℕ) (d : Difference) (name : List ℕ) (place : Place) → StandsIn p s d name place → (name ≡ p) ⊎ (name ≡ s)
stands_in p s (InSpec at) name place h = inr h.0
stands_in p s (InPackage at) name place h = inl h.0

between : (p s c : List ℕ) (kept : WrittenPackage) (spec : WrittenSpec) (name : List ℕ) (place : Place) (code : Code) (halt : Halt) → halt ≡ Refused name place code
    → HaltsBetween p s kept spec halt → (name ≡ p) ⊎ ((name ≡ s) ⊎ (name ≡ c))
between p s c kept spec name place code NoMemory e h = absurd cc
between p s c kept spec name place code (CannotRead m) e h = absurd cc
between p s c kept spec name place code (Refused m at d) e h =
    let same : m ≡ name = cc in
    elim (stands_in p s h.1.difference m at h.1.stands) [
      | inl here ↦ inl (sym same ∙ here)
      | inr here ↦ inr (inl (sym same ∙ here))
    ]

middle_refused : (source : Source) (p s c : List ℕ) (kept : WrittenPackage) (spec : WrittenSpec) (name : List ℕ) (place : Place) (code : Code) (before after : Format) (o : Result Ran Halt)
    → o ≡ Err (Refused name place code) → Middle source p s c kept spec before o after → (name ≡ p) ⊎ ((name ≡ s) ⊎ (name ≡ c))
middle_refused source p s c kept spec name place code before after o e (inl (halt, f, h, z)) =
    let same : halt ≡ Refused name place code = cc in
    between p s c kept spec name place code halt same h
middle_refused source p s c kept spec name place code before after o e (inr (same, next)) =
    then_refused source (schedules_of spec.spec) c (Last kept.small spec.spec c) before after o name place code e next (λ k. inr (inr k))
    (λ schedule middle h. inr (inr (plays_refused kept.small spec.spec c name schedule.events place code o e h.0)))

pub replay_refused : (source : Source) (p s c name : List ℕ) (place : Place) (code : Code) (before after : Format) (o : Result Ran Halt) → o ≡ Err (Refused name place code)
    → Replays source p s c before o after → (name ≡ p) ⊎ ((name ≡ s) ⊎ (name ≡ c))
replay_refused source p s c name place code before after o e replays =
    then_refused source written_packages p (First source p s c) before after o name place code e replays (λ k. inl k)
    (λ kept f next. then_refused source kept_specs s (Middle source p s c kept) f after o name place code e next (λ k. inr (inl k))
    (λ spec g middle. middle_refused source p s c kept spec name place code g after o e middle))
