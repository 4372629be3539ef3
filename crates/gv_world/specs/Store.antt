-- What threads share: the heap, whose objects stand under numbers from 1, and the disks.
use Rattle.std.specs.Prelude.{ℕ, suc, ◌+◌, ◌-◌, ◌^◌, Bool, false, List, [], ◌∷◌, ◌++◌, length, map, sum, replicate, slice_set, nat_le}
use Rattle.gv_world.specs.declared.cell.Cell.{Cell}

pub data Object : Type 0 where
  -- the fields of a struct, or the items of a slice
  Cells : List Cell → Object
  -- a map from words to words, by its entries with ascending keys, and its one writing mark
  Map : List (ℕ × ℕ) → Bool → Object
  -- whether it is locked
  Mutex : Bool → Object

pub record Disk : Type 0 where
  -- the blocks, each a list of bytes
  pub blocks : List (List ℕ)
  pub failed : Bool

pub record Store : Type 0 where
  -- object number 1 comes first
  pub objects : List Object
  -- none, one or two
  pub disks : List Disk

-- how many bytes a block has
abbrev pub block_bytes : ℕ
block_bytes = 4096

abbrev pub zero_disk : ℕ → Disk
zero_disk blocks = record { blocks = replicate blocks (replicate block_bytes 0); failed = false }

-- so many disks of so many blocks, all bytes zero, and no object
abbrev pub zero_store : (disks blocks : ℕ) → Store
zero_store disks blocks = record { objects = []; disks = replicate disks (zero_disk blocks) }

-- a crash keeps the disks, which have failed or not; object numbers start again at 1
abbrev pub crashed : Store → Store
crashed s = record s { objects = [] }

-- the number that the next object gets, and the store with it
abbrev pub fresh : Store → ℕ
fresh s = length s.objects + 1

abbrev pub with_new : Store → Object → Store
with_new s object = record s { objects = s.objects ++ object ∷ [] }

-- the store with another object under a number
abbrev pub with_object : Store → ℕ → Object → Store
with_object s number object = record s { objects = slice_set s.objects (number - 1) object }

-- what an object counts: a struct its fields and at least one, a slice its capacity when it was made and at
-- least one, a map one and one for each entry, a mutex one
abbrev pub counted : Object → ℕ
counted (Cells []) = 1
counted (Cells (c ∷ cells)) = suc (length cells)
counted (Map entries marked) = suc (length entries)
counted (Mutex locked) = 1

abbrev pub live_cells : Store → ℕ
live_cells s = sum (map counted s.objects)

-- the definitions here have no limit on cells; who runs them may have this one
abbrev pub most_cells : ℕ
most_cells = 2 ^ 24

abbrev pub is_within_limit : Store → Bool
is_within_limit s = nat_le (live_cells s) most_cells
