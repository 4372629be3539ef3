-- What holds of pieces that fit.
use Rattle.std.specs.Prelude.{◌≡◌, ◌≢◌, ◌⊎◌, ℕ, ◌+◌, ◌<◌, ◌≤◌, true, List, [], ◌∷◌, Some, slice_get}
use Rattle.gv_terms.specs.declared.value.Value.{Value}
use Rattle.gv_terms.specs.declared.value.Value.TheVariants as val
use Rattle.gv_world.specs.Store.{Disk, Store as World}
use Rattle.gv_resources.specs.Kinds as kind
use Rattle.gv_resources.specs.Kinds.{Kind, most}
use Rattle.gv_resources.specs.Ghost.{Ghost}
use Rattle.gv_resources.specs.Pieces.{Resource, Have, Piece, Telling, Fits, Changes, single}
use Rattle.gv_resources.specs.Told.{Shape, told}

-- one resource is owned once by the piece that has it alone, and no other by it
abbrev pub SingleLaw : Type 0
SingleLaw = (one e : Resource) → ((e ≡ one) × (single one e ≡ 1)) ⊎ ((e ≢ one) × (single one e ≡ 0))

-- Where a piece changes as it may beside what others own, whatever that is, its sum with what they own fits as it did.
abbrev pub FrameLaw : Type 0
FrameLaw = (old new frame : Piece) (before now : Telling) → Fits (λ e. old e + frame e) before → Changes old new before now → Fits (λ e. new e + frame e) now

-- two owners share no more than the whole
abbrev pub AreParts : Piece → Piece → Piece → Type 0
AreParts p q whole = (e : Resource) → p e + q e ≤ whole e

-- at most one of the disks under 0 and 1 has failed
abbrev pub IsOneFailed : World → Type 0
IsOneFailed w = (first second : Disk) → slice_get w.disks 0 ≡ Some first → slice_get w.disks 1 ≡ Some second → first.failed ≡ true → second.failed ≡ true → ⊥

-- What a piece can't own at once, where it fits what a world and a record beside it tell.
pub record Excludes (z : Shape) (w : World) (g : Ghost) (p : Piece) : Type 0 where
  -- what is owned under one key has one value
  pub agree : (k : Kind) (key v u : List Value) → 0 < p (Have k key v) → 0 < p (Have k key u) → v ≡ u
  -- what may be owned once is no two owners'
  pub alone : (k : Kind) (key v u : List Value) (one other : Piece) → most k ≡ Some 1 → AreParts one other p → 0 < one (Have k key v)
      → 0 < other (Have k key u) → ⊥
  -- a block's master and its lease know one value; so do a leased field and its lease, and the two of a cell of a book
  pub blocks : (key v u : List Value) → 0 < p (Have kind.Master key v) → 0 < p (Have kind.Lease key u) → v ≡ u
  pub fields : (key v u : List Value) → 0 < p (Have kind.Field key v) → 0 < p (Have kind.FieldLease key u) → v ≡ u
  pub books : (key v u : List Value) → 0 < p (Have kind.BookMaster key v) → 0 < p (Have kind.BookLease key u) → v ≡ u
  -- of one name there are two halves at most
  pub halves : (key v : List Value) → p (Have kind.Half key v) ≤ 2
  -- no cell is owned and read-only
  pub cells : (key v u : List Value) → 0 < p (Have kind.Cell key v) → 0 < p (Have kind.FrozenCell key u) → ⊥
  pub items : (key v u : List Value) → 0 < p (Have kind.Item key v) → 0 < p (Have kind.FrozenItem key u) → ⊥
  -- no object has both cells of a struct and cells of a slice
  pub one_form : (k l : Kind) (object i j : ℕ) (v u : List Value) → (k ≡ kind.Cell) ⊎ (k ≡ kind.FrozenCell) → (l ≡ kind.Item) ⊎ (l ≡ kind.FrozenItem)
      → 0 < p (Have k (val.Ref object ∷ val.Word i ∷ []) v) → 0 < p (Have l (val.Ref object ∷ val.Word j ∷ []) u) → ⊥
  -- no call may act and has acted
  pub acts : (key v u : List Value) → 0 < p (Have kind.Token key v) → 0 < p (Have kind.Done key u) → ⊥
  -- no mutex guards something and guards nothing
  pub held : (key v u : List Value) → 0 < p (Have kind.Mutex key v) → 0 < p (Have kind.Held key u) → ⊥
  pub guarded : (key v u : List Value) → 0 < p (Have kind.Mutex key v) → 0 < p (Have kind.Lock key u) → ⊥
  -- not both disks have failed
  pub disks : IsOneFailed w → (v u : List Value) → 0 < p (Have kind.Down (val.Word 0 ∷ []) v) → 0 < p (Have kind.Down (val.Word 1 ∷ []) u) → ⊥

abbrev pub ExcludesLaw : Type 0
ExcludesLaw = (z : Shape) (w : World) (g : Ghost) (p : Piece) → Fits p (told z w g) → Excludes z w g p
