-- A file in a form: fetched, tested for its length, and read.
use Rattle.std.specs.Prelude.{◌≡◌, ℕ, ◌+◌, ◌^◌, ◌<◌, ◌≤◌, ◌⊎◌, List, [], ◌∷◌, length, take, Option, Result, Ok, Err}
use Rattle.gv_base.specs.declared.answers.Place.{Place}
use Rattle.gv_base.specs.declared.answers.Code.{Code}
use Rattle.gv_base.specs.declared.answers.Code.TheVariants.{TooLong}
use Rattle.gv_base.specs.declared.answers.Refusal.{Refusal}
use Rattle.gv_base.specs.declared.answers.Refusal.TheVariants as refusal
use Rattle.gv_base.specs.Outside.{Told, Untold, Absent, Holds, Fetched, Rose, IsLast}
use Rattle.gv_report.specs.declared.format.Format.{Format}
use Rattle.gv_report.specs.Output.{noted}
use Rattle.gv_small.specs.Tokens.{start}
use Rattle.gv_top.specs.declared.files.Halt.{Halt}
use Rattle.gv_top.specs.declared.files.Halt.TheVariants.{NoMemory, CannotRead, Refused}

-- the longest text that is read, in bytes
abbrev pub longest : ℕ
longest = 2 ^ 24

-- ---- forms of texts

-- Which text spells which value, and at which place by which code another text is refused.
pub record Form (A : Type 0) : Type 1 where
  pub spells : List ℕ → A → Type 0
  pub refuses : List ℕ → Place → Code → Type 0

-- the same, from what a reader tells of itself
abbrev pub form_of : {A S : Type 0} → (S → List ℕ → A → Type 0) → (S → List ℕ → Place → Code → Type 0) → S → Form A
form_of spells refuses reader = record { spells = spells reader; refuses = refuses reader }

-- a reader gives the value that a text spells, or refuses it; memory is free
abbrev pub IsReadIn : {A : Type 0} → Form A → List ℕ → Result A Refusal → Type 0
IsReadIn form text (Ok x) = form.spells text x
IsReadIn form text (Err refusal.NoMemory) = Unit {0}
IsReadIn form text (Err (refusal.At place code)) = form.refuses text place code

-- the same, with the name of the text's file in a refusal
abbrev pub IsReadUnder : {A : Type 0} → Form A → List ℕ → List ℕ → Result A Halt → Type 0
IsReadUnder form name text (Ok x) = form.spells text x
IsReadUnder form name text (Err NoMemory) = Unit {0}
IsReadUnder form name text (Err (CannotRead n)) = ⊥
IsReadUnder form name text (Err (Refused n place code)) = (n ≡ name) × form.refuses text place code

-- every text spells itself
abbrev pub any_text : {A : Type 0} → (A → List ℕ) → Form A
any_text bytes = record { spells = λ text x. bytes x ≡ text; refuses = λ text place code. ⊥ }

-- ---- what was asked of files

-- What files hold, as they tell it; the counts of their faults before and after; and the name of the last fetch that failed,
-- where that is told.
pub record Asked : Type 0 where
  pub held : List ℕ → Told
  pub before : ℕ
  pub now : ℕ
  pub failed : Option (List ℕ)

-- the same, from what files tell of themselves at the two moments
abbrev pub asked : {S : Type 0} → (S → List ℕ → Told) → (S → ℕ) → (S → Option (List ℕ)) → S → S → Asked
asked held faults failed old new = record { held = held old; before = faults old; now = faults new; failed = failed new }

-- a fetch failed in between, and the last one that did was of this name, where that is told
abbrev pub Failed : Asked → List ℕ → Type 0
Failed a name = Rose a.before a.now × IsLast a.failed name

-- no fetch failed in between
abbrev pub NoneFailed : Asked → Type 0
NoneFailed a = a.now ≡ a.before

-- ---- what files give

-- The bytes that a fetch of a name may give, and the names whose fetch may fail.
pub record Source : Type 1 where
  pub gives : List ℕ → List ℕ → Type 0
  pub fails : List ℕ → Type 0

-- Files as they are: a fetch gives the first bytes of what is held, and may fail. Where nothing is told, as by real files, any
-- bytes would do: that they are the file's rests on what hands them on, not on this.
abbrev pub outside : (List ℕ → Told) → Source
outside held = record { gives = λ name bytes. Fetched (held name) longest bytes; fails = λ name. Unit {0} }

-- the bytes that are told; and no bytes of a file that is absent, or of which nothing is told
abbrev pub GivesTold : Told → List ℕ → Type 0
GivesTold Untold bytes = ⊥
GivesTold Absent bytes = ⊥
GivesTold (Holds all) bytes = bytes ≡ take (longest + 1) all

abbrev pub IsAbsent : Told → Type 0
IsAbsent Untold = ⊥
IsAbsent Absent = Unit {0}
IsAbsent (Holds all) = ⊥

-- Files that do just what is told of them: a fetch fails where there is no such file, and only there.
abbrev pub as_told : (List ℕ → Told) → Source
as_told held = record { gives = λ name bytes. GivesTold (held name) bytes; fails = λ name. IsAbsent (held name) }

-- ---- one file

-- the file under a name gives few enough bytes, which spell this value
pub record Reads {A : Type 0} (source : Source) (form : Form A) (name : List ℕ) (x : A) : Type 0 where
  pub bytes : List ℕ
  pub given : source.gives name bytes
  pub fits : length bytes ≤ longest
  pub spelled : form.spells bytes x

-- The file gives too many bytes, which is told at their first place; or bytes that the form's reader refuses. Those that are read are noted.
abbrev pub IsRefusedFor : {A : Type 0} → Form A → List ℕ → Place → Code → Format → Format → Type 0
IsRefusedFor form bytes place code before after =
    ((longest < length bytes) × (place ≡ start) × (code ≡ TooLong) × (after ≡ before))
    ⊎ ((length bytes ≤ longest) × form.refuses bytes place code × (after ≡ noted before bytes))

pub record IsRefused {A : Type 0} (source : Source) (form : Form A) (name : List ℕ) (place : Place) (code : Code) (before after : Format) : Type 0 where
  pub bytes : List ℕ
  pub given : source.gives name bytes
  pub why : IsRefusedFor form bytes place code before after

-- the command halts at this file, with these formats before and after; want of memory is free
abbrev pub HaltsAt : {A : Type 0} → Source → Form A → List ℕ → Halt → Format → Format → Type 0
HaltsAt source form name NoMemory before after = Unit {0}
HaltsAt source form name (CannotRead n) before after = (n ≡ name) × source.fails name × (after ≡ before)
HaltsAt source form name (Refused n place code) before after = (n ≡ name) × IsRefused source form name place code before after

-- what comes of one file: one that is read is noted
abbrev pub Opens : {A : Type 0} → Source → Form A → List ℕ → Format → Result A Halt → Format → Type 0
Opens source form name before (Ok x) after = (reads : Reads source form name x) × (after ≡ noted before reads.bytes)
Opens source form name before (Err halt) after = HaltsAt source form name halt before after

-- ---- several files

-- what may come of a command, or of the rest of one: between these formats, this outcome
abbrev pub Course : Type 0 → Type 1
Course O = Format → Result O Halt → Format → Type 0

-- a file decides the outcome, where the command halts at it; else it is noted, and its value goes on to what comes next
abbrev pub Then : {A O : Type 0} → Source → Form A → List ℕ → (A → Course O) → Course O
Then {A} source form name Next before outcome after =
    ((halt : Halt) × (outcome ≡ Err halt) × HaltsAt source form name halt before after)
    ⊎ ((x : A) × (reads : Reads source form name x) × Next x (noted before reads.bytes) outcome after)

-- the outcome is so, and nothing more is noted
abbrev pub Keeps : {O : Type 0} → (Result O Halt → Type 0) → Course O
Keeps Outcome before outcome after = Outcome outcome × (after ≡ before)

-- the format once these texts were read, in order
abbrev pub noted_all : Format → List (List ℕ) → Format
noted_all format [] = format
noted_all format (bytes ∷ more) = noted_all (noted format bytes) more

-- where all files are read, the command has an outcome of its own
abbrev pub Ends : {O : Type 0} → (O → Type 0) → Result O Halt → Type 0
Ends Outcome (Ok o) = Outcome o
Ends Outcome (Err halt) = ⊥

-- the same, where memory may run out before it comes to that
abbrev pub Finishes : {O : Type 0} → (O → Type 0) → Result O Halt → Type 0
Finishes Outcome (Ok o) = Outcome o
Finishes Outcome (Err NoMemory) = Unit {0}
Finishes Outcome (Err (CannotRead name)) = ⊥
Finishes Outcome (Err (Refused name place code)) = ⊥

-- a fetch failed in between just where the answer says so, and of the name that it says
abbrev pub IsBlamed : {A : Type 0} → Asked → Result A Halt → Type 0
IsBlamed a (Ok x) = NoneFailed a
IsBlamed a (Err NoMemory) = Unit {0}
IsBlamed a (Err (CannotRead name)) = Failed a name
IsBlamed a (Err (Refused name place code)) = NoneFailed a
