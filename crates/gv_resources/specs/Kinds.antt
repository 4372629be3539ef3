-- What of a state can be owned, by kinds.
use Rattle.std.specs.Prelude.{ℕ, Bool, true, false, Option, Some, None, nat_eq}

pub data Kind : Type 0 where
  -- a cell of a struct, by its object and its place: what it holds; owned, or read-only
  Cell : Kind
  FrozenCell : Kind
  -- a cell of a slice, the same way
  Item : Kind
  FrozenItem : Kind
  -- a map, by its object: its entries
  Map : Kind
  -- a mutex, by its object: that it is free and guards nothing; that it is locked and guards something; what it guards
  Mutex : Kind
  Held : Kind
  Lock : Kind
  -- a block, by its disk and its address: its bytes; what writes it needs both
  Master : Kind
  Lease : Kind
  -- that a disk has failed
  Down : Kind
  -- a field of the specification, by its place: its value; what changes a leased one needs both
  Field : Kind
  FieldLease : Kind
  -- a cell of a book of the proof, by the book and its place: its value; what changes it needs both
  BookMaster : Kind
  BookLease : Kind
  -- that a call may act: its operation and its arguments; and that it has acted: its reply
  Token : Kind
  Done : Kind
  -- one of the two halves under a name: their value
  Half : Kind
  -- two that no assertion names: that a call's thread runs, and that recovery runs
  OpenCall : Kind
  Recovering : Kind

abbrev pub code_of : Kind → ℕ
code_of Cell = 0
code_of FrozenCell = 1
code_of Item = 2
code_of FrozenItem = 3
code_of Map = 4
code_of Mutex = 5
code_of Held = 6
code_of Lock = 7
code_of Master = 8
code_of Lease = 9
code_of Down = 10
code_of Field = 11
code_of FieldLease = 12
code_of BookMaster = 13
code_of BookLease = 14
code_of Token = 15
code_of Done = 16
code_of Half = 17
code_of OpenCall = 18
code_of Recovering = 19

abbrev pub kind_eq : Kind → Kind → Bool
kind_eq k l = nat_eq (code_of k) (code_of l)

-- how often one may be owned by all together: any number of times, where it can't change; a half twice; all else once
abbrev pub most : Kind → Option ℕ
most FrozenCell = None
most FrozenItem = None
most Lock = None
most Down = None
most Half = Some 2
most _ = Some 1

-- what stays after a crash
abbrev pub is_durable : Kind → Bool
is_durable Master = true
is_durable Down = true
is_durable Field = true
is_durable BookMaster = true
is_durable Token = true
is_durable _ = false

-- what may be copied
abbrev pub is_persistent : Kind → Bool
is_persistent FrozenCell = true
is_persistent FrozenItem = true
is_persistent Lock = true
is_persistent Down = true
is_persistent _ = false

abbrev pub is_token_free : Kind → Bool
is_token_free Token = false
is_token_free _ = true

-- the kinds of cells, and of a slice's, owned or read-only
abbrev pub cell_kind : Bool → Kind
cell_kind false = Cell
cell_kind true = FrozenCell

abbrev pub item_kind : Bool → Kind
item_kind false = Item
item_kind true = FrozenItem
