-- A command, file by file.
use Rattle.std.proofs.Common.{◌≡◌, ℕ, List, Result, Ok, Err, subst, inl, inr}
use Rattle.gv_base.specs.Outside.{Told}
use Rattle.gv_report.specs.declared.format.Format.{Format}
use Rattle.gv_top.specs.declared.files.Halt.{Halt}
use Rattle.gv_top.specs.Files.{Form, Source, Course, Then, Opens, outside, HaltsAt, Reads}

-- ---- files that hold the same

module _ (held later : List ℕ → Told) (kept : (n : List ℕ) → later n ≡ held n) where
  same_held : later ≡ held
  same_held = λ i n. kept n i

  pub reads_later : {A : Type 0} (form : Form A) (name : List ℕ) (x : A) → Reads (outside later) form name x → Reads (outside held) form name x
  reads_later form name x h = subst (λ (f : List ℕ → Told). Reads (outside f) form name x) same_held h

  pub halts_later : {A : Type 0} (form : Form A) (name : List ℕ) (halt : Halt) (before after : Format) → HaltsAt {A = A} (outside later) form name halt before after
      → HaltsAt (outside held) form name halt before after
  halts_later form name halt before after h = subst (λ (f : List ℕ → Told). HaltsAt (outside f) form name halt before after) same_held h

  pub opens_later : {A : Type 0} (form : Form A) (name : List ℕ) (x : A) (before after : Format) → Opens (outside later) form name before (Ok x) after → Opens (outside held) form name before (Ok x) after
  opens_later form name x before after h = subst (λ (f : List ℕ → Told). Opens (outside f) form name before (Ok x) after) same_held h

-- ---- one file after the other

module _ {A O : Type 0} (source : Source) (form : Form A) (name : List ℕ) (Next : A → Course O) {o : Result O Halt} where
  -- a file that is read, and what comes next
  pub then_on : (x : A) {before middle after : Format} → Opens source form name before (Ok x) middle → Next x middle o after → Then source form name Next before o after
  then_on x {before} {middle} {after} (reads, is) more = inr (x, reads, subst (λ (f : Format). Next x f o after) is more)

  -- a file at which the command halts
  pub then_halts : (halt : Halt) {before after : Format} → o ≡ Err halt → HaltsAt source form name halt before after → Then source form name Next before o after
  then_halts halt e h = inl (halt, e, h)
