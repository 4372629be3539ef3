-- What comes of one file, and the error that `?` hands on.
use Rattle.std.proofs.Common.{◌≡◌, ◌≤◌, ℕ, List, length, Result, Ok, Err, refl, ap, subst, ◌∙◌, inr}
use Rattle.std.specs.Prelude.{IsErrAnd}
use Rattle.gv_report.specs.declared.format.Format.{Format}
use Rattle.gv_report.specs.Output.{noted}
use Rattle.gv_top.specs.declared.files.Halt.{Halt}
use Rattle.gv_top.specs.declared.files.Halt.TheVariants.{NoMemory, CannotRead, Refused}
use Rattle.gv_top.specs.Files.{Form, Source, Opens, IsReadUnder, any_text, longest}

pub err_is : {A E : Type 0} (r : Result A E) (e : E) → IsErrAnd r (λ x. x ≡ e) → r ≡ Err e
err_is (Ok x) e h = absurd h
err_is (Err x) e h = ap Err h

-- a text that is fetched and noted
pub fetched_text : {A : Type 0} (bytes : A → List ℕ) (source : Source) (name : List ℕ) (x : A) (seen : List ℕ) (before after : Format) → source.gives name (bytes x) → length (bytes x) ≤ longest
    → after ≡ noted before seen → seen ≡ bytes x → Opens source (any_text bytes) name before (Ok x) after
fetched_text bytes source name x seen before after given fits is same =
    (record { bytes = bytes x; given = given; fits = fits; spelled = refl }, is ∙ ap (noted before) same)

-- what comes of the file is what its text is read as
pub opened : {A T : Type 0} (bytes : T → List ℕ) (source : Source) (form : Form A) (name : List ℕ) (t : T) (seen : List ℕ) (before after : Format) (r : Result A Halt)
    → Opens source (any_text bytes) name before (Ok t) after → seen ≡ bytes t → IsReadUnder form name seen r → Opens source form name before r after
opened bytes source form name t seen before after (Ok x) (reads, is) same read =
    (record { bytes = reads.bytes; given = reads.given; fits = reads.fits; spelled = subst (λ (v : List ℕ). form.spells v x) (same ∙ reads.spelled) read }, is)
opened bytes source form name t seen before after (Err NoMemory) h same read = tt
opened bytes source form name t seen before after (Err (CannotRead n)) h same read = absurd read
opened bytes source form name t seen before after (Err (Refused n place code)) (reads, is) same read =
    (read.0, record { bytes = reads.bytes; given = reads.given; why = inr (reads.fits, subst (λ (v : List ℕ). form.refuses v place code) (same ∙ reads.spelled) read.1, is) })
