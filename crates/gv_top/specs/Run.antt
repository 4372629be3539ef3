-- What the words and the files deserve, and what `run` answers.
use Rattle.std.specs.Prelude.{◌≡◌, ◌≢◌, ℕ, ◌-◌, ◌^◌, ◌<◌, ◌≤◌, ◌⊎◌, List}
use Rattle.gv_base.specs.Outside.{Told}
use Rattle.gv_report.specs.declared.report.Report.{Report}
use Rattle.gv_report.specs.declared.report.Report.TheVariants.{Usage, OutOfMemory, CannotRead}
use Rattle.gv_report.specs.declared.format.Format.{Format}
use Rattle.gv_report.specs.declared.format.Format.TheVariants.{Text}
use Rattle.gv_report.specs.Output.{output_of}
use Rattle.gv_report.specs.Report.{status_of}
use Rattle.gv_report.specs.Heard as sink
use Rattle.gv_report.specs.Heard.{Heard, IsWritten, IsPrefixWritten}
use Rattle.gv_top.specs.Files.{Asked, Failed, NoneFailed, Source, outside, as_told, IsAbsent}
use Rattle.gv_top.specs.Commands.{Command, Asks, IsNoCommand, Comes, format_for}

-- the reports that words may have, and their formats, over what the files give: the usage line where they are no command, else what comes of it
pub data Gives (source : Source) (words : List (List ℕ)) : Report → Format → Type 0 where
  usage : IsNoCommand words → Gives source words Usage (format_for words)
  done : (command : Command) {r : Report} {f : Format} → Asks words command → Comes source command (format_for words) r f → Gives source words r f

-- a fetch failed in between just where the report says so, and of the name that it says
abbrev pub IsBlamedIn : Asked → Report → Type 0
IsBlamedIn a (CannotRead name) = Failed a name
IsBlamedIn a OutOfMemory = Unit {0}
IsBlamedIn a _ = NoneFailed a

-- a report, in its format, that the words, what files hold and what was asked of them deserve
pub record Deserves (words : List (List ℕ)) (a : Asked) (r : Report) (f : Format) : Type 0 where
  pub given : Gives (outside a.held) words r f
  pub blamed : IsBlamedIn a r

-- the report, in its format, that the words and what is told of the files define
abbrev pub Defines : List (List ℕ) → (List ℕ → Told) → Report → Format → Type 0
Defines words held r f = Gives (as_told held) words r f

-- each fetch that failed in between was of a file that is told as absent
abbrev pub OnlyAbsentFailed : Asked → Type 0
OnlyAbsentFailed a = (name : List ℕ) → Failed a name → IsAbsent (a.held name)

-- no put failed in between, and the count is not at its end
abbrev pub NoPutFailed : Heard → Type 0
NoPutFailed h = sink.NoneFailed h × (h.faults_before < 2 ^ 64 - 1)

-- this report's status, and the report written in this format
abbrev pub IsTold : Heard → Report → Format → ℕ → Type 0
IsTold h r f status = (status ≡ status_of r) × IsWritten h (output_of f r)

-- a put failed, and a prefix of a report that was deserved was written in its format
pub record IsCutOff (words : List (List ℕ)) (a : Asked) (h : Heard) : Type 0 where
  pub report : Report
  pub format : Format
  pub deserved : Deserves words a report format
  pub fault : sink.OneFailed h
  pub written : IsPrefixWritten h (output_of format report)

-- this report was deserved, and all of it was written in its format
abbrev pub Answers : List (List ℕ) → Asked → Heard → Report → Type 0
Answers words a h r = (f : Format) × Deserves words a r f × IsWritten h (output_of f r)

-- `run` on these words ended with this status; what it asked of the files, and what the sink heard of it.
pub record IsAnswered (words : List (List ℕ)) (a : Asked) (h : Heard) (status : ℕ) : Type 0 where
  -- Words that are no command are answered by 2, and never by want of memory; 2 comes for no other words.
  pub usage : IsNoCommand words → (status ≡ 2) ⊎ (status ≡ 6)
  pub usage_only : status ≡ 2 → IsNoCommand words
  -- A status other than 6 comes with a report of that status, which was deserved and written whole, and no put failed.
  pub told : status ≢ 6 → (r : Report) × (status_of r ≡ status) × Answers words a h r
  pub calm : status ≢ 6 → sink.NoneFailed h
  -- 6 comes only where a put failed, and then always; a prefix of such a report was written.
  pub cut_off : status ≡ 6 → IsCutOff words a h
  pub always_cut_off : h.faults_before < h.faults_now → status ≡ 6
  -- Where the words and what is told of the files define a report and its format, each fetch that failed was of a file that is told as
  -- absent, and no put failed, this report is answered so, or want of memory is. So each status comes wherever it must.
  pub exact : (r : Report) (f : Format) → Defines words a.held r f → r ≢ OutOfMemory → OnlyAbsentFailed a → NoPutFailed h →
      IsTold h r f status ⊎ IsTold h OutOfMemory Text status
  -- There is no other status.
  pub known : status ≤ 8
