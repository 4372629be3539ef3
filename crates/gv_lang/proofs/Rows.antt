-- The worked rows, by computation.
use Rattle.std.proofs.Common.{refl}
use Rattle.gv_words.specs.Words as words
use Rattle.gv_lang.specs.Rows.{WordRows, StructRows, SliceRows, MapRows, MutexRows, DiskRows, ControlRows, ProcedureRows, CallRows, Rows}

word_rows : WordRows
word_rows = record {
  let_ = refl;
  let_of_another_kind = refl;
  compares = refl;
  shift = refl;
  div = refl;
  div_by_zero = refl;
  rem = refl;
  rem_by_zero = refl;
}

struct_rows : StructRows
struct_rows = record {
  new = refl;
  load = refl;
  load_nil = refl;
  load_races = refl;
  load_of_a_word = refl;
  store_begins = refl;
  store_ends = refl;
  store_nil = refl;
  store_races = refl;
}

slice_rows : SliceRows
slice_rows = record {
  append_races_at_the_spare_cell = refl;
  append_with_a_spare_cell_and_much_room = refl;
  make = refl;
  make_too_long = refl;
  at = refl;
  at_out_of_range = refl;
  at_of_nil = refl;
  at_races = refl;
  put_begins = refl;
  put_ends = refl;
  put_out_of_range = refl;
  put_races = refl;
  len = refl;
  sub = refl;
  sub_above_the_capacity = refl;
  append_begins = refl;
  append_ends = refl;
  append_grows = refl;
  append_races = refl;
  append_of_another_kind = refl;
  append_too_roomy = refl;
}

map_rows : MapRows
map_rows = record {
  new = refl;
  get = refl;
  get_absent = refl;
  get_of_nil = refl;
  get_races = refl;
  put_begins = refl;
  put_ends = refl;
  put_nil = refl;
  put_races = refl;
  delete_begins = refl;
  delete_ends = refl;
  delete_of_nil_begins = refl;
  delete_of_nil_ends = refl;
  delete_races = refl;
}

mutex_rows : MutexRows
mutex_rows = record {
  new = refl;
  lock = refl;
  lock_waits = refl;
  lock_nil = refl;
  unlock = refl;
  unlock_nil = refl;
  unlock_free = refl;
}

disk_rows : DiskRows
unfolding words.un64 words.le64
disk_rows = record {
  write = refl;
  write_races = refl;
  get64_races = refl;
  put64_races = refl;
  read = refl;
  read_no_block = refl;
  read2 = refl;
  read2_failed = refl;
  read2_no_disk = refl;
  write_no_block = refl;
  write_too_short = refl;
  size = refl;
  get64 = refl;
  get64_too_short = refl;
  put64_ends = refl;
  put64_begins = refl;
  put64_too_short = refl;
}

control_rows : ControlRows
control_rows = record {
  call = refl;
  call_of_none = refl;
  spawn = refl;
  if_ = refl;
  if_of_a_word = refl;
  return_ = refl;
  no_command = refl;
}

procedure_rows : ProcedureRows
procedure_rows = record {
  appends = refl;
  appends_with_room = refl;
  appends_not_yet = refl;
  reaches_too_far = refl;
  reaches_the_room = refl;
  loops = refl;
  calls = refl;
  recovers = refl;
  successors = refl;
  shaped = refl;
  recovery_with_a_parameter = refl;
  operation_without_a_receiver = refl;
  no_such_recovery = refl;
}

call_rows : CallRows
call_rows = record {
  shaped = refl;
  boots = refl;
  counts = refl;
  after_the_read = refl;
  racing_read = refl;
  call_starts = refl;
  buffers = refl;
  no_word = refl;
  no_byte = refl;
  replies = refl;
  reply_races = refl;
  reply_of_nil = refl;
  reply_of_a_reference = refl;
}

pub rows : Rows
rows = record {
  words = word_rows;
  structs = struct_rows;
  slices = slice_rows;
  maps = map_rows;
  mutexes = mutex_rows;
  disks = disk_rows;
  control = control_rows;
  procedures = procedure_rows;
  calls = call_rows;
}
