-- Worked rows: each command once on its happy path and once for each reason, and whole procedures step by step.
use Rattle.std.specs.Prelude.{◌≡◌, ℕ, ◌-◌, ◌^◌, Bool, true, false, List, [], ◌∷◌, ◌++◌, Some, None, map, take, replicate, slice_set}
use Rattle.gv_base.specs.declared.answers.Place.{Place}
use Rattle.gv_base.specs.declared.reason.Reason.TheVariants as reason
use Rattle.gv_base.specs.declared.answer.Answer.{Answer}
use Rattle.gv_base.specs.declared.answer.Answer.TheVariants.{Next, Blocked, Undefined}
use Rattle.gv_base.specs.declared.val.Val.{Val}
use Rattle.gv_base.specs.declared.val.Val.TheVariants as val
use Rattle.gv_base.specs.declared.slice_val.SliceVal.{SliceVal}
use Rattle.gv_world.specs.declared.cell.Cell.{Cell}
use Rattle.gv_world.specs.Store.{Object, Cells, Map, Mutex, Store as World, with_new, with_object}
use Rattle.gv_world.specs.Slices.{nil_slice, whole_of, new_cell}
use Rattle.gv_world.specs.Rows.{sample, in_writes, one_failed}
use Rattle.gv_lang.specs.declared.pure.Unary.TheVariants as unary
use Rattle.gv_lang.specs.declared.pure.Binary.TheVariants as binary
use Rattle.gv_lang.specs.declared.program.ItemKind.TheVariants as item
use Rattle.gv_lang.specs.declared.program.LocalKind.{LocalKind}
use Rattle.gv_lang.specs.declared.program.LocalKind.TheVariants as kind
use Rattle.gv_lang.specs.declared.program.Local.{Local}
use Rattle.gv_lang.specs.Tree.{Expr, Number, Nil, NilSlice, LocalAt, One, Two, Action, Let, Div, Rem, New, Load, Store, MakeSlice, At, Put, Len, NewMap, MapGet, MapPut, MapDelete, NewMutex, Lock, Unlock, DiskRead, DiskRead2, DiskWrite, DiskSize, Get64, Put64, Sub, Append, Call, Spawn, Do, If, Loop, Break, Continue, Return, Block, finish, next, Proc, Program}
use Rattle.gv_lang.specs.Todo.{Run}
use Rattle.gv_lang.specs.Threads.{Thread, new_frame, thread_of}
use Rattle.gv_lang.specs.Table.{Effect, Goes, Begins, Pushes, Starts, Pops, acted, effect}
use Rattle.gv_lang.specs.Step.{Stepped, GoesOn, Returns, stepped}
use Rattle.gv_lang.specs.Graph.{Point, points}
use Rattle.gv_lang.specs.Calls as given
use Rattle.gv_lang.specs.Calls.{recovery, all_placed, called, reply}
use Rattle.gv_lang.specs.WellShaped.{is_well_shaped}

abbrev nowhere : Place
nowhere = record { line = 0; column = 0 }

abbrev pub do_ : Action → Block → Block
do_ a rest = next (Do a nowhere) rest

-- ---- the table, over the sample store of the accesses: object 1 is a struct, 2 has two bytes and a spare one, 3 is
-- a map, 4 a mutex

abbrev two_bytes : SliceVal
two_bytes = record { object = 2; offset = 0; length = 2; capacity = 3 }

-- two cells of the struct, as a slice
abbrev two_others : SliceVal
two_others = whole_of 1 2

abbrev n : Expr
n = LocalAt 0

abbrev yes : Expr
yes = LocalAt 1

abbrev p : Expr
p = LocalAt 2

abbrev s : Expr
s = LocalAt 3

abbrev m : Expr
m = LocalAt 4

abbrev mu : Expr
mu = LocalAt 5

abbrev others : Expr
others = LocalAt 6

abbrev pub locals : List Val
locals = val.Word 1 ∷ val.Bool true ∷ val.Ref 1 ∷ val.Slice two_bytes ∷ val.Ref 3 ∷ val.Ref 4 ∷ val.Slice two_others ∷ []

-- returns its parameter
abbrev pub same : Proc
same = record {
  name = [];
  params = 1;
  locals = record { name = []; kind = kind.Word } ∷ record { name = []; kind = kind.Slice } ∷ [];
  results = kind.Word ∷ [];
  body = next (Return (LocalAt 0 ∷ []) nowhere) finish;
}

abbrev pub small : Program
small = record { structs = []; procs = same ∷ []; recover = 0; ops = [] }

abbrev pub in_sample : Action → Answer Effect
in_sample a = acted small 0 false locals sample a

abbrev pub second : Action → Answer Effect
second a = acted small 0 true locals in_writes a

abbrev pub racing : Action → Answer Effect
racing a = acted small 0 false locals in_writes a

-- the command is done in the sample store, and sets one local
abbrev pub gives : ℕ → Val → Answer Effect
gives x v = Next (Goes sample (slice_set locals x v))

-- as a fresh object
abbrev pub makes : Object → Val → Answer Effect
makes object v = Next (Goes (with_new sample object) (slice_set locals 0 v))

abbrev pub marked : Val → Cell
marked v = record { value = v; marked = true }

pub record WordRows : Type 0 where
  pub let_ : in_sample (Let 0 (Two binary.Plus n (Number (2 ^ 64 - 1)))) ≡ gives 0 (val.Word 0)
  pub let_of_another_kind : in_sample (Let 0 (Two binary.Plus n yes)) ≡ Undefined reason.Kind
  pub compares : in_sample (Let 1 (One unary.Not (Two binary.Equal p Nil))) ≡ gives 1 (val.Bool true)
  pub shift : in_sample (Let 0 (Two binary.ShiftLeft n (Number 64))) ≡ gives 0 (val.Word 0)
  pub div : in_sample (Div 0 (Number 7) (Number 2)) ≡ gives 0 (val.Word 3)
  pub div_by_zero : in_sample (Div 0 n (Number 0)) ≡ Undefined reason.DivideByZero
  pub rem : in_sample (Rem 0 (Number 7) (Number 4)) ≡ gives 0 (val.Word 3)
  pub rem_by_zero : in_sample (Rem 0 n (Number 0)) ≡ Undefined reason.DivideByZero

pub record StructRows : Type 0 where
  pub new : in_sample (New 0 0 (n ∷ yes ∷ [])) ≡ makes (Cells (new_cell (val.Word 1) ∷ new_cell (val.Bool true) ∷ [])) (val.Ref 5)
  pub load : in_sample (Load 0 p 0 0) ≡ gives 0 (val.Word 7)
  pub load_nil : in_sample (Load 0 Nil 0 0) ≡ Undefined reason.NilUse
  pub load_races : racing (Load 0 p 0 0) ≡ Undefined reason.Race
  pub load_of_a_word : in_sample (Load 0 n 0 0) ≡ Undefined reason.Kind
  pub store_begins : in_sample (Store p 0 0 n) ≡ Next (Begins (with_object sample 1 (Cells (marked (val.Word 7) ∷ new_cell (val.Bool true) ∷ []))))
  pub store_ends : second (Store p 0 0 n) ≡ Next (Goes (with_object in_writes 1 (Cells (new_cell (val.Word 1) ∷ new_cell (val.Bool true) ∷ []))) locals)
  pub store_nil : in_sample (Store Nil 0 0 n) ≡ Undefined reason.NilUse
  pub store_races : racing (Store p 0 0 n) ≡ Undefined reason.Race

-- the spare cell of the two bytes in a write
abbrev pub racing_spare : World
racing_spare = with_object sample 2 (Cells (new_cell (val.Byte 8) ∷ new_cell (val.Byte 9) ∷ marked (val.Byte 0) ∷ []))

pub record SliceRows : Type 0 where
  pub append_races_at_the_spare_cell : acted small 0 false locals racing_spare (Append 3 item.Byte s n) ≡ Undefined reason.Race
  -- where there is a spare cell, nothing looks at the extra room
  pub append_with_a_spare_cell_and_much_room : acted small (2 ^ 63) false locals sample (Append 3 item.Byte s n) ≡ Next (Begins racing_spare)
  pub make : in_sample (MakeSlice 0 item.Byte (Number 2)) ≡ makes (Cells (new_cell (val.Byte 0) ∷ new_cell (val.Byte 0) ∷ [])) (val.Slice (whole_of 5 2))
  pub make_too_long : in_sample (MakeSlice 0 item.Byte (Number (2 ^ 63))) ≡ Undefined reason.OutOfRange
  pub at : in_sample (At 0 s n) ≡ gives 0 (val.Word 9)
  pub at_out_of_range : in_sample (At 0 s (Number 2)) ≡ Undefined reason.OutOfRange
  pub at_of_nil : in_sample (At 0 NilSlice (Number 0)) ≡ Undefined reason.OutOfRange
  pub at_races : racing (At 0 others (Number 0)) ≡ Undefined reason.Race
  pub put_begins : in_sample (Put s n (Number 257))
      ≡ Next (Begins (with_object sample 2 (Cells (new_cell (val.Byte 8) ∷ marked (val.Byte 9) ∷ new_cell (val.Byte 0) ∷ []))))
  pub put_ends : acted small 0 true locals sample (Put s n (Number 257))
      ≡ Next (Goes (with_object sample 2 (Cells (new_cell (val.Byte 8) ∷ new_cell (val.Byte 1) ∷ new_cell (val.Byte 0) ∷ []))) locals)
  pub put_out_of_range : in_sample (Put s (Number 2) n) ≡ Undefined reason.OutOfRange
  pub put_races : racing (Put others (Number 0) n) ≡ Undefined reason.Race
  pub len : in_sample (Len 0 s) ≡ gives 0 (val.Word 2)
  pub sub : in_sample (Sub 3 s n (Number 3)) ≡ gives 3 (val.Slice (record { object = 2; offset = 1; length = 2; capacity = 2 }))
  pub sub_above_the_capacity : in_sample (Sub 3 s n (Number 4)) ≡ Undefined reason.OutOfRange
  pub append_begins : in_sample (Append 3 item.Byte s n)
      ≡ Next (Begins (with_object sample 2 (Cells (new_cell (val.Byte 8) ∷ new_cell (val.Byte 9) ∷ marked (val.Byte 0) ∷ []))))
  pub append_ends : acted small 0 true locals sample (Append 3 item.Byte s n)
      ≡ Next (Goes (with_object sample 2 (Cells (new_cell (val.Byte 8) ∷ new_cell (val.Byte 9) ∷ new_cell (val.Byte 1) ∷ [])))
      (slice_set locals 3 (val.Slice (whole_of 2 3))))
  pub append_grows : acted small 1 false locals sample (Append 0 item.Word others n)
      ≡ makes (Cells (new_cell (val.Word 7) ∷ new_cell (val.Bool true) ∷ new_cell (val.Word 1) ∷ new_cell (val.Word 0) ∷ []))
      (val.Slice (record { object = 5; offset = 0; length = 3; capacity = 4 }))
  pub append_races : racing (Append 0 item.Word others n) ≡ Undefined reason.Race
  pub append_of_another_kind : in_sample (Append 0 item.Ref s n) ≡ Undefined reason.Kind
  pub append_too_roomy : acted small (2 ^ 63 - 3) false locals sample (Append 0 item.Word others n) ≡ Blocked

pub record MapRows : Type 0 where
  pub new : in_sample (NewMap 0) ≡ makes (Map [] false) (val.Ref 5)
  pub get : in_sample (MapGet 0 1 m (Number 5)) ≡ Next (Goes sample (slice_set (slice_set locals 0 (val.Word 50)) 1 (val.Bool true)))
  pub get_absent : in_sample (MapGet 0 1 m (Number 6)) ≡ Next (Goes sample (slice_set (slice_set locals 0 (val.Word 0)) 1 (val.Bool false)))
  pub get_of_nil : in_sample (MapGet 0 1 Nil (Number 5)) ≡ Next (Goes sample (slice_set (slice_set locals 0 (val.Word 0)) 1 (val.Bool false)))
  pub get_races : racing (MapGet 0 1 m (Number 5)) ≡ Undefined reason.Race
  pub put_begins : in_sample (MapPut m (Number 4) n) ≡ Next (Begins (with_object sample 3 (Map ((5, 50) ∷ []) true)))
  pub put_ends : second (MapPut m (Number 4) n) ≡ Next (Goes (with_object in_writes 3 (Map ((4, 1) ∷ (5, 50) ∷ []) false)) locals)
  pub put_nil : in_sample (MapPut Nil (Number 4) n) ≡ Undefined reason.NilUse
  pub put_races : racing (MapPut m (Number 4) n) ≡ Undefined reason.Race
  pub delete_begins : in_sample (MapDelete m (Number 5)) ≡ Next (Begins (with_object sample 3 (Map ((5, 50) ∷ []) true)))
  pub delete_ends : second (MapDelete m (Number 5)) ≡ Next (Goes (with_object in_writes 3 (Map [] false)) locals)
  pub delete_of_nil_begins : in_sample (MapDelete Nil (Number 5)) ≡ Next (Begins sample)
  pub delete_of_nil_ends : second (MapDelete Nil (Number 5)) ≡ Next (Goes in_writes locals)
  pub delete_races : racing (MapDelete m (Number 5)) ≡ Undefined reason.Race

pub record MutexRows : Type 0 where
  pub new : in_sample (NewMutex 0) ≡ makes (Mutex false) (val.Ref 5)
  pub lock : in_sample (Lock mu) ≡ Next (Goes (with_object sample 4 (Mutex true)) locals)
  pub lock_waits : racing (Lock mu) ≡ Blocked
  pub lock_nil : in_sample (Lock Nil) ≡ Undefined reason.NilUse
  pub unlock : racing (Unlock mu) ≡ Next (Goes (with_object in_writes 4 (Mutex false)) locals)
  pub unlock_nil : in_sample (Unlock Nil) ≡ Undefined reason.NilUse
  pub unlock_free : in_sample (Unlock mu) ≡ Undefined reason.UnlockFree

-- the second of two disks has other bytes in block 1
abbrev pub eight_bytes : List Val
eight_bytes = val.Byte 2 ∷ val.Byte 1 ∷ val.Byte 0 ∷ val.Byte 0 ∷ val.Byte 0 ∷ val.Byte 0 ∷ val.Byte 0 ∷ val.Byte 0 ∷ []

abbrev pub with_eight : World
with_eight = record { objects = Cells (map new_cell eight_bytes) ∷ []; disks = [] }

abbrev eight : Expr
eight = LocalAt 0

abbrev pub eight_locals : List Val
eight_locals = val.Slice (whole_of 1 8) ∷ val.Slice (whole_of 1 7) ∷ []

abbrev pub in_eight : Bool → Action → Answer Effect
in_eight begun a = acted small 0 begun eight_locals with_eight a

-- the same with the last of the eight in a write
abbrev pub racing_eight : World
racing_eight = record {
  objects = Cells (map new_cell (take 7 eight_bytes) ++ marked (val.Byte 0) ∷ []) ∷ [];
  disks = [];
}

-- a slice as long as a block, its first cell in a write or not, and a disk of one block
abbrev pub whole_block : Bool → World
whole_block mark = record {
  objects = Cells (record { value = val.Byte 7; marked = mark } ∷ replicate 4095 (new_cell (val.Byte 7))) ∷ [];
  disks = record { blocks = (1 ∷ []) ∷ []; failed = false } ∷ [];
}

abbrev pub block_written : World
block_written = record {
  objects = Cells (replicate 4096 (new_cell (val.Byte 7))) ∷ [];
  disks = record { blocks = replicate 4096 7 ∷ []; failed = false } ∷ [];
}

abbrev block_locals : List Val
block_locals = val.Slice (whole_of 1 4096) ∷ []

abbrev pub writes_block : Bool → Answer Effect
writes_block mark = acted small 0 false block_locals (whole_block mark) (DiskWrite (Number 0) (Number 0) (LocalAt 0))

pub record DiskRows : Type 0 where
  pub write : writes_block false ≡ Next (Goes block_written block_locals)
  pub write_races : writes_block true ≡ Undefined reason.Race
  pub get64_races : acted small 0 false eight_locals racing_eight (Get64 1 eight) ≡ Undefined reason.Race
  pub put64_races : acted small 0 false eight_locals racing_eight (Put64 eight (Number 258)) ≡ Undefined reason.Race
  pub read : in_sample (DiskRead 0 n) ≡ makes (Cells (new_cell (val.Byte 3) ∷ new_cell (val.Byte 4) ∷ [])) (val.Slice (whole_of 5 4096))
  pub read_no_block : in_sample (DiskRead 0 (Number 2)) ≡ Undefined reason.BadAddress
  pub read2 : in_sample (DiskRead2 0 1 n (Number 0)) ≡ Next (Goes (with_new sample (Cells (new_cell (val.Byte 1) ∷ new_cell (val.Byte 2) ∷ [])))
      (slice_set (slice_set locals 0 (val.Slice (whole_of 5 4096))) 1 (val.Bool true)))
  pub read2_failed : acted small 0 false locals one_failed (DiskRead2 0 1 (Number 0) n)
      ≡ Next (Goes one_failed (slice_set (slice_set locals 0 (val.Slice nil_slice)) 1 (val.Bool false)))
  pub read2_no_disk : in_sample (DiskRead2 0 1 (Number 2) n) ≡ Undefined reason.BadAddress
  pub write_no_block : in_sample (DiskWrite n (Number 2) s) ≡ Undefined reason.BadAddress
  pub write_too_short : in_sample (DiskWrite n n s) ≡ Undefined reason.BadBlockLength
  pub size : in_sample (DiskSize 0) ≡ gives 0 (val.Word 2)
  pub get64 : in_eight false (Get64 1 eight) ≡ Next (Goes with_eight (val.Slice (whole_of 1 8) ∷ val.Word 258 ∷ []))
  pub get64_too_short : in_eight false (Get64 1 (LocalAt 1)) ≡ Undefined reason.OutOfRange
  pub put64_ends : in_eight true (Put64 eight (Number 258)) ≡ Next (Goes with_eight eight_locals)
  pub put64_begins : in_eight false (Put64 eight (Number 258)) ≡ Next (Begins (record { objects = Cells (map marked eight_bytes) ∷ []; disks = [] }))
  pub put64_too_short : in_eight false (Put64 (LocalAt 1) (Number 258)) ≡ Undefined reason.OutOfRange

pub record ControlRows : Type 0 where
  pub call : in_sample (Call (0 ∷ []) 0 (Number 9 ∷ [])) ≡ Next (Pushes (record {
    proc = 0;
    locals = val.Word 9 ∷ val.Slice nil_slice ∷ [];
    todo = Run (Return (LocalAt 0 ∷ []) nowhere) ∷ [];
    results = 0 ∷ [];
  }))
  pub call_of_none : in_sample (Call [] 1 []) ≡ Undefined reason.Kind
  pub spawn : in_sample (Spawn 0 (Number 9 ∷ [])) ≡ Next (Starts (new_frame 0 same (val.Word 9 ∷ []) []))
  pub if_ : effect small 0 false locals sample (Some (If yes finish finish nowhere)) ≡ Next (Goes sample locals)
  pub if_of_a_word : effect small 0 false locals sample (Some (If n finish finish nowhere)) ≡ Undefined reason.Kind
  pub return_ : effect small 0 false locals sample (Some (Return (n ∷ []) nowhere)) ≡ Next (Pops (val.Word 1 ∷ []))
  pub no_command : effect small 0 false locals sample None ≡ Undefined reason.Kind

-- ---- whole procedures

-- goes on with a thread that has not ended
abbrev pub resumed : Answer Stepped → (Thread → World → Answer Stepped) → Answer Stepped
resumed (Next (GoesOn w th started)) f = f th w
resumed (Next (Returns w vs)) f = Next (Returns w vs)
resumed Blocked f = Blocked
resumed (Undefined reason) f = Undefined reason

-- what a thread's steps leave, each with its room, until it ends or a step is no next one
abbrev pub run : Program → List ℕ → Thread → World → Answer Stepped
run g [] th w = Next (GoesOn w th [])
run g (extra ∷ extras) th w = resumed (stepped g extra th w) (run g extras)

abbrev no_store : World
no_store = record { objects = []; disks = [] }

abbrev of_kind : LocalKind → Local
of_kind k = record { name = []; kind = k }

-- var s []uint64; s = append(s, 4); s = append(s, 5); t := s[1:]; return t[0], over s, t and two temporaries
abbrev appending : Proc
appending = record {
  name = [];
  params = 0;
  locals = of_kind kind.Slice ∷ of_kind kind.Slice ∷ of_kind kind.Word ∷ of_kind kind.Word ∷ [];
  results = kind.Word ∷ [];
  body =
      do_ (Let 0 NilSlice)
      (do_ (Append 0 item.Word (LocalAt 0) (Number 4))
      (do_ (Append 0 item.Word (LocalAt 0) (Number 5))
      (do_ (Len 2 (LocalAt 0))
      (do_ (Sub 1 (LocalAt 0) (Number 1) (LocalAt 2))
      (do_ (At 3 (LocalAt 1) (Number 0))
      (next (Return (LocalAt 3 ∷ []) nowhere) finish))))));
}

-- var s []uint64; s = append(s, 4); t := s[0:2]; return t[0]
abbrev reaching : Proc
reaching = record {
  name = [];
  params = 0;
  locals = of_kind kind.Slice ∷ of_kind kind.Slice ∷ of_kind kind.Word ∷ [];
  results = kind.Word ∷ [];
  body =
      do_ (Let 0 NilSlice)
      (do_ (Append 0 item.Word (LocalAt 0) (Number 4))
      (do_ (Sub 1 (LocalAt 0) (Number 0) (Number 2))
      (do_ (At 2 (LocalAt 1) (Number 0))
      (next (Return (LocalAt 2 ∷ []) nowhere) finish))));
}

-- for i := 0; i < 2; i++ { if i == 0 { continue }; break }; return i: the continue has its own i++
abbrev looping : Proc
looping = record {
  name = [];
  params = 0;
  locals = of_kind kind.Word ∷ [];
  results = kind.Word ∷ [];
  body =
      do_ (Let 0 (Number 0))
      (next (Loop
      (next (If (Two binary.Less (LocalAt 0) (Number 2)) finish (next (Break nowhere) finish) nowhere)
      (next (If (Two binary.Equal (LocalAt 0) (Number 0))
      (do_ (Let 0 (Two binary.Plus (LocalAt 0) (Number 1))) (next (Continue nowhere) finish)) finish nowhere)
      (next (Break nowhere)
      (do_ (Let 0 (Two binary.Plus (LocalAt 0) (Number 1)))
      (next (Continue nowhere) finish))))) nowhere)
      (next (Return (LocalAt 0 ∷ []) nowhere) finish));
}

-- calls procedure 0 and returns its result and one
abbrev calling : Proc
calling = record {
  name = [];
  params = 0;
  locals = of_kind kind.Word ∷ [];
  results = kind.Word ∷ [];
  body =
      do_ (Call (0 ∷ []) 0 (Number 8 ∷ []))
      (next (Return (Two binary.Plus (LocalAt 0) (Number 1) ∷ []) nowhere) finish);
}

-- recovery: makes a struct without fields and returns it
abbrev recovering : Proc
recovering = record {
  name = [];
  params = 0;
  locals = of_kind kind.Ref ∷ [];
  results = kind.Ref ∷ [];
  body = do_ (New 0 0 []) (next (Return (LocalAt 0 ∷ []) nowhere) finish);
}

abbrev pub some_program : Program
some_program = record {
  structs = record { name = []; fields = [] } ∷ [];
  procs = same ∷ appending ∷ reaching ∷ looping ∷ calling ∷ recovering ∷ [];
  recover = 5;
  ops = [];
}

abbrev pub run_of : ℕ → Proc → List ℕ → Answer Stepped
run_of f p extras = run some_program extras (thread_of (new_frame f p [] [])) no_store

abbrev pub replied : Answer Stepped → Answer (List Val)
replied (Next (GoesOn w th started)) = Blocked
replied (Next (Returns w vs)) = Next vs
replied Blocked = Blocked
replied (Undefined reason) = Undefined reason

abbrev pub next_of : Point → List ℕ
next_of p = p.next

pub record ProcedureRows : Type 0 where
  pub appends : replied (run_of 1 appending (0 ∷ 0 ∷ 0 ∷ 0 ∷ 0 ∷ 0 ∷ 0 ∷ [])) ≡ Next (val.Word 5 ∷ [])
  -- the second append writes into a spare cell, in two steps
  pub appends_with_room : replied (run_of 1 appending (0 ∷ 3 ∷ 0 ∷ 0 ∷ 0 ∷ 0 ∷ 0 ∷ 0 ∷ [])) ≡ Next (val.Word 5 ∷ [])
  pub appends_not_yet : replied (run_of 1 appending (0 ∷ 3 ∷ 0 ∷ 0 ∷ 0 ∷ 0 ∷ 0 ∷ [])) ≡ Blocked
  pub reaches_too_far : replied (run_of 2 reaching (0 ∷ 0 ∷ 0 ∷ [])) ≡ Undefined reason.OutOfRange
  pub reaches_the_room : replied (run_of 2 reaching (0 ∷ 1 ∷ 0 ∷ 0 ∷ 0 ∷ [])) ≡ Next (val.Word 4 ∷ [])
  pub loops : replied (run_of 3 looping (0 ∷ 0 ∷ 0 ∷ 0 ∷ 0 ∷ 0 ∷ 0 ∷ 0 ∷ 0 ∷ 0 ∷ [])) ≡ Next (val.Word 1 ∷ [])
  pub calls : replied (run_of 4 calling (0 ∷ 0 ∷ 0 ∷ [])) ≡ Next (val.Word 9 ∷ [])
  pub recovers : replied (run_of 5 recovering (0 ∷ 0 ∷ [])) ≡ Next (val.Ref 1 ∷ [])
  -- 1 Let, 2 Loop, 3 If, 4 Break, 5 If, 6 Let, 7 Continue, 8 Break, 9 Let, 10 Continue, 11 Return
  pub successors : map next_of (points looping.body)
      ≡ (2 ∷ []) ∷ (3 ∷ []) ∷ (5 ∷ 4 ∷ []) ∷ (11 ∷ []) ∷ (6 ∷ 8 ∷ []) ∷ (7 ∷ []) ∷ (3 ∷ []) ∷ (11 ∷ []) ∷ (10 ∷ []) ∷ (3 ∷ []) ∷ [] ∷ []
  pub shaped : is_well_shaped some_program ≡ true
  pub recovery_with_a_parameter : is_well_shaped (record some_program { recover = 0 }) ≡ false
  pub operation_without_a_receiver : is_well_shaped (record some_program { ops = 0 ∷ [] }) ≡ false
  pub no_such_recovery : is_well_shaped (record some_program { recover = 6 }) ≡ false

-- ---- calls: a counter without a lock

-- c.n++ and its old value: x := c.n; c.n = x + 1; return x
abbrev incrementing : Proc
incrementing = record {
  name = [];
  params = 1;
  locals = of_kind kind.Ref ∷ of_kind kind.Word ∷ [];
  results = kind.Word ∷ [];
  body =
      do_ (Load 1 (LocalAt 0) 0 0)
      (do_ (Store (LocalAt 0) 0 0 (Two binary.Plus (LocalAt 1) (Number 1)))
      (next (Return (LocalAt 1 ∷ []) nowhere) finish));
}

-- its recovery: c := &Counter{n: 0}; return c
abbrev counting : Proc
counting = record {
  name = [];
  params = 0;
  locals = of_kind kind.Ref ∷ [];
  results = kind.Ref ∷ [];
  body = do_ (New 0 0 (Number 0 ∷ [])) (next (Return (LocalAt 0 ∷ []) nowhere) finish);
}

abbrev counter : Program
counter = record {
  structs = record { name = []; fields = of_kind kind.Word ∷ [] } ∷ [];
  procs = counting ∷ incrementing ∷ [];
  recover = 0;
  ops = 1 ∷ [];
}

abbrev counted : Val → World
counted v = record { objects = Cells (new_cell v ∷ []) ∷ []; disks = [] }

-- a call that has not made a step, on object 1
abbrev a_call : Thread
a_call = thread_of (new_frame 1 incrementing (val.Ref 1 ∷ []) [])

-- the steps of one call, then those of another
abbrev pub after_steps : List ℕ → List ℕ → Answer Stepped
after_steps first second = resumed (run counter first a_call (counted (val.Word 0))) (λ th w. run counter second a_call w)

abbrev pub third_step : Answer Stepped → Answer Bool
third_step (Next (GoesOn w th started)) = Next th.begun
third_step (Next (Returns w vs)) = Blocked
third_step Blocked = Blocked
third_step (Undefined reason) = Undefined reason

-- bytes 7, 8 in object 1, and a cell of them in a write
abbrev pub two_cells : Bool → World
two_cells mark = record { objects = Cells (new_cell (val.Byte 7) ∷ record { value = val.Byte 8; marked = mark } ∷ []) ∷ []; disks = [] }

pub record CallRows : Type 0 where
  pub shaped : is_well_shaped counter ≡ true
  pub boots : run counter (0 ∷ 0 ∷ []) (recovery counter) no_store ≡ Next (Returns (counted (val.Word 0)) (val.Ref 1 ∷ []))
  pub counts : run counter (0 ∷ 0 ∷ 0 ∷ 0 ∷ []) a_call (counted (val.Word 0)) ≡ Next (Returns (counted (val.Word 1)) (val.Word 0 ∷ []))
  -- both read, then both write: an update is lost, and no access raced
  pub after_the_read : third_step (after_steps (0 ∷ []) (0 ∷ 0 ∷ [])) ≡ Next true
  -- the second call reads between the two steps of the first one's write
  pub racing_read : after_steps (0 ∷ 0 ∷ []) (0 ∷ []) ≡ Undefined reason.Race
  pub call_starts : called counter 1 (val.Ref 1 ∷ []) [] (counted (val.Word 0)) ≡ Some (counted (val.Word 0), a_call)
  pub buffers : all_placed no_store (given.Bytes (7 ∷ 8 ∷ []) ∷ given.Word 3 ∷ [])
      ≡ Some (two_cells false, val.Slice (whole_of 1 2) ∷ val.Word 3 ∷ [])
  pub no_word : all_placed no_store (given.Word (2 ^ 64) ∷ []) ≡ None
  pub no_byte : all_placed no_store (given.Bytes (256 ∷ []) ∷ []) ≡ None
  pub replies : reply (two_cells false) (val.Slice (whole_of 1 2) ∷ []) ≡ Next (given.Bytes (7 ∷ 8 ∷ []))
  pub reply_races : reply (two_cells true) (val.Slice (whole_of 1 2) ∷ []) ≡ Undefined reason.Race
  pub reply_of_nil : reply no_store (val.Slice nil_slice ∷ []) ≡ Next (given.Bytes [])
  pub reply_of_a_reference : reply no_store (val.Ref 1 ∷ []) ≡ Undefined reason.Kind

pub record Rows : Type 0 where
  pub words : WordRows
  pub structs : StructRows
  pub slices : SliceRows
  pub maps : MapRows
  pub mutexes : MutexRows
  pub disks : DiskRows
  pub control : ControlRows
  pub procedures : ProcedureRows
  pub calls : CallRows
