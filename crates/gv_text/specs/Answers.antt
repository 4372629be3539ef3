-- What reading calls answer, for any kind of text and any table of codes. Only want of memory is free.
use Rattle.std.specs.Prelude.{◌≡◌, ℕ, ◌≤◌, Result, Ok, Err, List, Vec}
use Rattle.std.specs.declared.alloc.Global.{Global}
use Rattle.gv_base.specs.Places.{place_at}
use Rattle.gv_base.specs.declared.answers.Code.{Code}
use Rattle.gv_base.specs.declared.answers.Place.{Place}
use Rattle.gv_base.specs.declared.answers.Refusal.{Refusal}
use Rattle.gv_base.specs.declared.answers.Refusal.TheVariants as refusal

-- ---- which of several faults is told

-- A fault is told before another or with it: it stands before it, or at its place and has no higher number.
pub record IsNotAfter {C : Type 0} (number_of : C → ℕ) (at : ℕ) (code : C) (other : ℕ) (other_code : C) : Type 0 where
  pub place : at ≤ other
  pub number : at ≡ other → number_of code ≤ number_of other_code

-- one of the faults, and none of them is told before it
pub record IsFirst {C : Type 0} (number_of : C → ℕ) (Has : ℕ → C → Type 0) (at : ℕ) (code : C) : Type 0 where
  pub there : Has at code
  pub others : (other : ℕ) (other_code : C) → Has other other_code → IsNotAfter number_of at code other other_code

-- ---- how a call answers, unless memory runs out

-- it reads, and what it reads is so
abbrev pub IsReadSo : {R : Type 0} → (R → Type 0) → Result R Refusal → Type 0
IsReadSo Holds (Ok read) = Holds read
IsReadSo Holds (Err refusal.NoMemory) = Unit {0}
IsReadSo Holds (Err (refusal.At place code)) = ⊥

-- it reads this value
abbrev pub IsReadAs : {V : Type 0} → V → Result V Refusal → Type 0
IsReadAs value result = IsReadSo (λ read. read ≡ value) result

-- it reads these items
abbrev pub AreReadAs : {T : Type 0} → List T → Result (Vec T Global) Refusal → Type 0
AreReadAs items result = IsReadSo (λ read. read.items ≡ items) result

-- it refuses at this place by this code
abbrev pub IsRefusedAs : {R : Type 0} → Place → Code → Result R Refusal → Type 0
IsRefusedAs place code (Ok read) = ⊥
IsRefusedAs place code (Err refusal.NoMemory) = Unit {0}
IsRefusedAs place code (Err (refusal.At found other)) = (found ≡ place) × (other ≡ code)

-- where it refuses, the text is so refused at a byte of that place
abbrev pub Refuses : List ℕ → (ℕ → Code → Type 0) → Refusal → Type 0
Refuses text IsRefused refusal.NoMemory = Unit {0}
Refuses text IsRefused (refusal.At place code) = (at : ℕ) × (place ≡ place_at text at) × IsRefused at code

-- ---- what a kind of text owes for that

-- A text spells one value at most, or is refused in one way at most, and not both.
pub record IsDecided {V : Type 0} (Reads : V → Type 0) (IsRefused : ℕ → Code → Type 0) : Type 0 where
  pub one_value : (v w : V) → Reads v → Reads w → v ≡ w
  pub one_refusal : (m n : ℕ) (c d : Code) → IsRefused m c → IsRefused n d → (m ≡ n) × (c ≡ d)
  pub not_both : (v : V) (at : ℕ) (code : Code) → Reads v → IsRefused at code → ⊥
