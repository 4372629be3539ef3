-- What is told of blocks, and reading one.
use Rattle.std.proofs.Common.{◌≡◌, ℕ, zero, suc, ◌<◌, Bool, true, false, not, nat_lt, if◌then◌else◌, List, [], ◌∷◌, map, length, Option, Some, None, refl, sym, ap, ◌∙◌, inl, inr, arith}
use Rattle.std.specs.Prelude.{slice_get}
use Rattle.gv_base.specs.declared.answer.Answer.{Answer}
use Rattle.gv_base.specs.declared.answer.Answer.TheVariants.{Next}
use Rattle.gv_base.specs.declared.reason.Reason.TheVariants.{BadAddress}
use Rattle.gv_base.specs.declared.val.Val.TheVariants as stored
use Rattle.gv_terms.specs.declared.value.Value.{Value}
use Rattle.gv_terms.specs.declared.value.Value.TheVariants as val
use Rattle.gv_world.specs.declared.cell.Cell.{Cell}
use Rattle.gv_world.specs.Answers.{and_then, undefined_if}
use Rattle.gv_world.specs.Store as world
use Rattle.gv_world.specs.Store.{Disk, Store as World, block_bytes, fresh, with_new}
use Rattle.gv_world.specs.Disks.{block_of, found_disk, disk_with, byte_cells, block_read, disk_read}
use Rattle.gv_resources.specs.Ghost.{Ghost}
use Rattle.gv_resources.specs.Told.{told, only_if, value_of, in_block, block_at}
use Rattle.gv_resources.proofs.Sums.{below_test}
use Rattle.gv_seats.specs.Seats.{Proof, shape_of, AreShadows}
use Rattle.gv_slicing.proofs.Lists.{there_within, within_there, of_all, below_is}
use Rattle.gv_blocks.specs.Rows.{block_kind}

-- ---- a block that is owned

pub record Block (o : Proof) (w : World) (g : Ghost) (d n : ℕ) (v : Value) : Type 0 where
  pub bytes : List ℕ
  pub is : val.Bytes bytes ≡ v
  pub kept : slice_get (g.shadow d) n ≡ Some bytes
  pub below : d < o.disks
  pub disk : Disk
  pub there : slice_get w.disks d ≡ Some disk
  pub inside : n < length disk.blocks
  pub whole : length bytes ≡ block_bytes

passed : {A : Type 0} (test : Bool) (x : Option A) (v : A) → only_if test x ≡ Some v → (test ≡ true) × (x ≡ Some v)
passed true x v e = (refl, e)
passed false x v e = absurd cc

bytes_found : (found : Option (List ℕ)) (v : Value) → in_block found ≡ Some (v ∷ []) → (bytes : List ℕ) × (found ≡ Some bytes) × (val.Bytes bytes ≡ v)
bytes_found None v e = absurd cc
bytes_found (Some bytes) v e = (bytes, refl, cc)

pub block_is : (o : Proof) (w : World) (g : Ghost) (d n : ℕ) (v : Value) → AreShadows o w g → block_at (shape_of o) g d n ≡ Some (v ∷ []) → Block o w g d n v
block_is o w g d n v blocks e =
    let test = passed (nat_lt d o.disks) (in_block (slice_get (g.shadow d) n)) (v ∷ []) e in
    let (bytes, kept, is) = bytes_found (slice_get (g.shadow d) n) v test.1 in
    let below = below_is d o.disks test.0 in
    let many = blocks.as_many in
    let (disk, there) = there_within w.disks d (omega arith) in
    let inside = within_there (g.shadow d) n bytes kept in
    let long = blocks.long d below in
    let sized = blocks.sized d disk there in
    record {
      bytes = bytes;
      is = is;
      kept = kept;
      below = below;
      disk = disk;
      there = there;
      inside = omega arith;
      whole = of_all (λ block. length block ≡ block_bytes) (g.shadow d) n bytes (blocks.whole d below) kept;
    }

pub block_told : (o : Proof) (w : World) (g : Ghost) (leased : Bool) (d n : ℕ) (v : List Value) → told (shape_of o) w g (block_kind leased) (val.Word d ∷ val.Word n ∷ []) ≡ Some v
    → block_at (shape_of o) g d n ≡ Some v
block_told o w g false d n v e = e
block_told o w g true d n v e = e

-- ---- reading it

inside_test : {A : Type 0} (m n : ℕ) (answer : Answer A) → m < n → undefined_if (not (nat_lt m n)) BadAddress answer ≡ answer
inside_test m n answer l = elim (below_test m n) [
  | inl (k, t) ↦ ap (λ (b : Bool). undefined_if (not b) BadAddress answer) t
  | inr (k, t) ↦ absurd (omega arith)
]

module _ (o : Proof) (w : World) (g : Ghost) (d n : ℕ) (v : Value) (b : Block o w g d n v) where
  pub disk_found : disk_with w d n ≡ Next b.disk
  disk_found = ap (λ (x : Option Disk). found_disk x n) b.there ∙ inside_test n (length b.disk.blocks) (Next b.disk) b.inside

  -- nothing where the disk has failed
  pub read_failed : b.disk.failed ≡ true → disk_read w d n ≡ Next (w, None)
  read_failed failed =
      let (block, there) = there_within b.disk.blocks n b.inside in
      ap (λ (a : Answer Disk). and_then a (λ disk. block_read w disk (block_of disk n))) disk_found
      ∙ ap (λ (x : Option (List ℕ)). block_read w b.disk x) there
      ∙ ap (λ (t : Bool). if t then Next (w, None) else Next (with_new w (world.Cells (byte_cells block)), Some (fresh w))) failed

  -- else a copy of the block
  pub read_block : AreShadows o w g → b.disk.failed ≡ false → disk_read w d n ≡ Next (with_new w (world.Cells (byte_cells b.bytes)), Some (fresh w))
  read_block blocks alive =
      let same = blocks.same d b.disk b.there alive in
      ap (λ (a : Answer Disk). and_then a (λ disk. block_read w disk (block_of disk n))) disk_found
      ∙ ap (λ (x : Option (List ℕ)). block_read w b.disk x) (ap (λ (xs : List (List ℕ)). slice_get xs n) (sym same) ∙ b.kept)
      ∙ ap (λ (t : Bool). if t then Next (w, None) else Next (with_new w (world.Cells (byte_cells b.bytes)), Some (fresh w))) alive

-- ---- cells of bytes

pub byte_items : (bytes : List ℕ) → map (λ (c : Cell). value_of c.value) (byte_cells bytes) ≡ map (λ b. val.Bytes (b ∷ [])) bytes
byte_items [] = refl
byte_items (b ∷ bytes) = ap (λ xs. val.Bytes (b ∷ []) ∷ xs) (byte_items bytes)

abbrev byte_cell : ℕ → Cell
byte_cell b = record { value = stored.Byte b; marked = false }

pub bytes_unmarked : (bytes : List ℕ) (i : ℕ) (c : Cell) → slice_get (byte_cells bytes) i ≡ Some c → c.marked ≡ false
bytes_unmarked [] i c e = absurd cc
bytes_unmarked (b ∷ bytes) zero c e = let same : byte_cell b ≡ c = cc in ap (λ (x : Cell). x.marked) (sym same)
bytes_unmarked (b ∷ bytes) (suc i) c e = bytes_unmarked bytes i c e

pub bytes_long : (bytes : List ℕ) → length (byte_cells bytes) ≡ length bytes
bytes_long [] = refl
bytes_long (b ∷ bytes) = ap suc (bytes_long bytes)
