-- `check` comes to one outcome over files that are told.
use Rattle.std.proofs.Common.{◌≡◌, ℕ, List, Result, Ok, Err, ap, ◌⊎◌, inl, inr}
use Rattle.gv_base.specs.Outside.{Told}
use Rattle.gv_base.specs.declared.answers.Code.{Code}
use Rattle.gv_base.specs.declared.answers.Place.{Place}
use Rattle.gv_base.specs.declared.small.Small.{Small}
use Rattle.gv_report.specs.declared.format.Format.{Format}
use Rattle.gv_top.specs.declared.check.Verdict.{Verdict}
use Rattle.gv_top.specs.declared.files.Halt.{Halt}
use Rattle.gv_top.specs.declared.files.Halt.TheVariants.{NoMemory, Refused}
use Rattle.gv_top.specs.declared.small_script.SmallScript.{SmallScript}
use Rattle.gv_top.specs.Check.{Checks, Compares}
use Rattle.gv_top.specs.Files.{Source, Asked, Course, Then, Keeps, Ends, IsBlamed, outside, as_told}
use Rattle.gv_top.specs.Forms.{packages, specs_for, scripts_for, IsScriptFor}
use Rattle.gv_top.specs.Run.{OnlyAbsentFailed}
use Rattle.gv_top.proofs.DifferenceLemmas.{compares_same}
use Rattle.gv_top.proofs.LawLemmas.{one_package, one_script}
use Rattle.gv_top.proofs.OutcomeLemmas.{then_refused}
use Rattle.gv_top.proofs.PackageForm.{packages_exact}
use Rattle.gv_top.proofs.SpecForm.{one_spec, specs_exact}
use Rattle.gv_top.proofs.StageLemmas.{small_exact, Same, SameEnd, kept_same, stage_one}

ends_same : (program small : Small) (script : SmallScript) (o q : Result Verdict Halt) → Ends (Compares program small script) o → Ends (Compares program small script) q → Same o q
ends_same program small script (Ok v) (Ok w) h k = inl (ap Ok (compares_same program small script v w h k))
ends_same program small script (Ok v) (Err e) h k = absurd k
ends_same program small script (Err e) q h k = absurd h

abbrev pub Last : Small → Small → SmallScript → Course Verdict
Last program small script = Keeps (Ends (Compares program small script))

abbrev pub Next : Source → List ℕ → Small → Small → Course Verdict
Next source t program small = Then source (scripts_for program) t (Last program small)

abbrev pub First : Source → List ℕ → List ℕ → Small → Course Verdict
First source s t program = Then source (specs_for program) s (Next source t program)

module _ (held : List ℕ → Told) (a : Asked) (held_is : a.held ≡ held) (absent : OnlyAbsentFailed a) (o q : Result Verdict Halt) (f g : Format) (b : IsBlamed a o) (n : q ≡ Err NoMemory → ⊥) where
  script_stage : (t : List ℕ) (program small : Small) (before : Format) → Next (outside held) t program small before o f → Next (as_told held) t program small before q g → SameEnd o f q g
  script_stage t program small before h k =
      stage_one (scripts_for program) (small_exact (IsScriptFor program)) held t a held_is absent (λ text x y h k. one_script text x y h.0 k.0) before f g o q (Last program small) (Last program small) b h k n
      (λ script middle c d. kept_same o q middle f g c.1 d.1 (ends_same program small script o q c.0 d.0))

  spec_stage : (s t : List ℕ) (program : Small) (before : Format) → First (outside held) s t program before o f → First (as_told held) s t program before q g → SameEnd o f q g
  spec_stage s t program before h k =
      stage_one (specs_for program) (specs_exact program) held s a held_is absent (λ text x y h k. one_spec text x y h.0 k.0) before f g o q (Next (outside held) t program) (Next (as_told held) t program) b h k n
      (λ small middle c d. script_stage t program small middle c d)

  pub checks_same : (p s t : List ℕ) (before : Format) → Checks (outside held) p s t before o f → Checks (as_told held) p s t before q g → SameEnd o f q g
  checks_same p s t before h k =
      stage_one packages packages_exact held p a held_is absent (λ text x y h k. one_package text x y h.small_form k.small_form) before f g o q (First (outside held) s t) (First (as_told held) s t) b h k n
      (λ program middle c d. spec_stage s t program middle c d)

-- a refusal is of one of the three files
no_end : {O : Type 0} (Outcome : O → Type 0) (halt : Halt) (o : Result O Halt) → o ≡ Err halt → Ends Outcome o → ⊥
no_end Outcome halt (Ok v) e c = cc
no_end Outcome halt (Err h) e c = c

pub check_refused : (source : Source) (p s t name : List ℕ) (place : Place) (code : Code) (before after : Format) (o : Result Verdict Halt) → o ≡ Err (Refused name place code)
    → Checks source p s t before o after → (name ≡ p) ⊎ ((name ≡ s) ⊎ (name ≡ t))
check_refused source p s t name place code before after o e h =
    then_refused source packages p (First source s t) before after o name place code e h (λ k. inl k)
    (λ program f h. then_refused source (specs_for program) s (Next source t program) f after o name place code e h (λ k. inr (inl k))
    (λ small g h. then_refused source (scripts_for program) t (Last program small) g after o name place code e h (λ k. inr (inr k))
    (λ script middle c. absurd (no_end (Compares program small script) (Refused name place code) o e c.0))))
