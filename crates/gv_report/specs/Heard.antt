-- What a sink heard of a report.
use Rattle.std.specs.Prelude.{◌≡◌, ℕ, List, ◌++◌, Option}
use Rattle.gv_base.specs.Outside.{Appended, Rose}

-- What a sink holds, where it tells that, and its count of faults, before and after.
pub record Heard : Type 0 where
  pub before : Option (List ℕ)
  pub now : Option (List ℕ)
  pub faults_before : ℕ
  pub faults_now : ℕ

-- the same, from what a sink tells of itself at the two moments
abbrev pub heard : {S : Type 0} → (S → Option (List ℕ)) → (S → ℕ) → S → S → Heard
heard written faults old new = record { before = written old; now = written new; faults_before = faults old; faults_now = faults new }

-- all of the text was appended
abbrev pub IsWritten : Heard → List ℕ → Type 0
IsWritten h text = Appended h.before text h.now

-- some prefix of the text was appended
abbrev pub IsPrefixWritten : Heard → List ℕ → Type 0
IsPrefixWritten h text = (prefix : List ℕ) × (rest : List ℕ) × (text ≡ prefix ++ rest) × Appended h.before prefix h.now

-- no put failed in between, and then one did
abbrev pub NoneFailed : Heard → Type 0
NoneFailed h = h.faults_now ≡ h.faults_before

abbrev pub OneFailed : Heard → Type 0
OneFailed h = Rose h.faults_before h.faults_now
