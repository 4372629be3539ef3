-- What is kept of slice values, wherever they stand: no slice has more items than room, and its cells end below
-- 2 ^ 63, its spare cells counted in.
use Rattle.std.specs.Prelude.{◌+◌, Bool, true, false, ◌&&◌, List, Option, Some, nat_lt, nat_le}
use Rattle.std.specs.List.{list_all}
use Rattle.gv_base.specs.declared.val.Val.{Val}
use Rattle.gv_base.specs.declared.val.Val.TheVariants as val
use Rattle.gv_base.specs.declared.slice_val.SliceVal.{SliceVal}
use Rattle.gv_world.specs.declared.cell.Cell.{Cell}
use Rattle.gv_world.specs.Store.{Object, Cells, Map, Mutex, Store as World}
use Rattle.gv_world.specs.Slices.{too_long}
use Rattle.gv_lang.specs.Tree.{Append, Cmd, Do}
use Rattle.gv_lang.specs.Values.{value}
use Rattle.gv_lang.specs.Todo.{head}
use Rattle.gv_lang.specs.Threads.{Frame, Thread}
use Rattle.gv_lang.specs.Step.{Stepped, GoesOn, Returns}

abbrev pub is_bounded_slice : SliceVal → Bool
is_bounded_slice s = nat_le s.length s.capacity && nat_lt (s.offset + s.capacity) too_long

abbrev pub is_bounded_value : Val → Bool
is_bounded_value (val.Slice s) = is_bounded_slice s
is_bounded_value _ = true

abbrev pub are_bounded_values : List Val → Bool
are_bounded_values vs = list_all is_bounded_value vs

-- ---- the store

abbrev pub is_bounded_cell : Cell → Bool
is_bounded_cell c = is_bounded_value c.value

abbrev pub is_bounded_object : Object → Bool
is_bounded_object (Cells cells) = list_all is_bounded_cell cells
is_bounded_object (Map entries marked) = true
is_bounded_object (Mutex locked) = true

abbrev pub is_bounded_store : World → Bool
is_bounded_store w = list_all is_bounded_object w.objects

-- ---- threads

abbrev pub is_bounded_frame : Frame → Bool
is_bounded_frame f = are_bounded_values f.locals

abbrev pub is_roomy : Option Val → Bool
is_roomy (Some (val.Slice s)) = nat_lt s.length s.capacity
is_roomy _ = true

-- whether the slice of the next command, where it is an append, has a spare cell
abbrev pub has_spare_cell : List Val → Option Cmd → Bool
has_spare_cell locals (Some (Do (Append x item s v) place)) = is_roomy (value locals s)
has_spare_cell locals _ = true

-- an append that has made the first of its two steps
abbrev pub is_begun_well : Bool → List Val → Option Cmd → Bool
is_begun_well false locals next = true
is_begun_well true locals next = has_spare_cell locals next

abbrev pub is_bounded_thread : Thread → Bool
is_bounded_thread th =
    is_bounded_frame th.top && list_all is_bounded_frame th.below && is_begun_well th.begun th.top.locals (head th.top.todo)

-- ---- what a step leaves

abbrev pub is_bounded_left : Stepped → Bool
is_bounded_left (GoesOn w th started) = is_bounded_store w && is_bounded_thread th && list_all is_bounded_thread started
is_bounded_left (Returns w vs) = is_bounded_store w && are_bounded_values vs
