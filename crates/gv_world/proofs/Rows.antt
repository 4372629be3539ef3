-- The worked rows, by computation.
use Rattle.std.proofs.Common.{refl}
use Rattle.gv_world.specs.Rows.{CellRows, MapRows, MutexRows, DiskRows, SliceRows, StoreRows, Rows}

cell_rows : CellRows
cell_rows = record {
  read = refl;
  a_byte_reads_as_a_word = refl;
  nil_use = refl;
  no_cells = refl;
  no_object = refl;
  out_of_range = refl;
  race = refl;
  beside_a_write = refl;
  range_before_race = refl;
  begins = refl;
  begins_twice = refl;
  ends = refl;
  written = refl;
  byte_written = refl;
  a_byte = refl;
  no_byte = refl;
  no_such_cell = refl;
  bytes = refl;
  words_are_no_bytes = refl;
}

map_rows : MapRows
map_rows = record {
  read = refl;
  absent = refl;
  nil_use = refl;
  no_map = refl;
  race = refl;
  begins_twice = refl;
}

mutex_rows : MutexRows
mutex_rows = record {
  waits = refl;
  nil_use = refl;
  no_mutex = refl;
  free = refl;
}

disk_rows : DiskRows
disk_rows = record {
  size = refl;
  no_disk = refl;
  no_block = refl;
  no_block_of_a_failed_disk = refl;
  failed = refl;
  too_short = refl;
  too_short_for_a_failed_disk = refl;
  nil_is_too_short = refl;
  address_before_length = refl;
  block_written = refl;
  kept_where_failed = refl;
  words = refl;
  fails = refl;
  fails_once = refl;
  no_third = refl;
}

slice_rows : SliceRows
slice_rows = record {
  part = refl;
  above_the_capacity = refl;
  backwards = refl;
  of_nil = refl;
  spare = refl;
  spare_of_bytes_for_a_word = refl;
  no_spare = refl;
  grows = refl;
  of_a_nil_slice = refl;
  races = refl;
  too_roomy = refl;
  too_long = refl;
}

store_rows : StoreRows
store_rows = record {
  live = refl;
  live_after_a_crash = refl;
  numbers_start_again = refl;
}

pub rows : Rows
rows = record {
  cells = cell_rows;
  maps = map_rows;
  mutexes = mutex_rows;
  disks = disk_rows;
  slices = slice_rows;
  store = store_rows;
}
