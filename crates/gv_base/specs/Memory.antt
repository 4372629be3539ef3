-- Files and sinks in memory: what they were made with, and what their next call does.
use Rattle.std.specs.Prelude.{◌≡◌, ℕ, ◌+◌, ◌-◌, ◌^◌, min, List, [], ◌++◌, take, length, Bool, true, false, not, ◌||◌, nat_eq, nat_lt, Option, Some, is_some, if◌then◌else◌, Result, Ok, Err}
use Rattle.std.specs.List.{list_any}
use Rattle.gv_base.specs.declared.memory.Held.{Held}
use Rattle.gv_base.specs.declared.memory.MemFiles.{MemFiles}
use Rattle.gv_base.specs.declared.mem_sink.MemSink.{MemSink}
use Rattle.gv_base.specs.declared.outside.FetchFail.{FetchFail}
use Rattle.gv_base.specs.declared.outside.FetchFail.TheVariants as fetch
use Rattle.gv_base.specs.declared.outside.PutFail.{PutFail}
use Rattle.gv_base.specs.Outside.{bytes_under}

-- a count after one more, which ends at 2^64 - 1
abbrev pub counted : ℕ → ℕ
counted calls = min (calls + 1) (2 ^ 64 - 1)

-- the next call has a number of the list
abbrev pub is_listed : List ℕ → ℕ → Bool
is_listed numbers calls = list_any (λ n. nat_eq n (counted calls)) numbers

-- ---- files

-- what is held, the numbers of the fetches that are to fail, and how many fetches there were
abbrev pub holding : MemFiles → List Held
holding s = s.held

abbrev pub fetches_to_fail : MemFiles → List ℕ
fetches_to_fail s = s.fails

abbrev pub fetches : MemFiles → ℕ
fetches s = s.calls

-- the next fetch of this name fails: its number is listed, or nothing is held under the name
abbrev pub fetch_fails : MemFiles → List ℕ → Bool
fetch_fails s name = is_listed s.fails s.calls || not (is_some (bytes_under s.held name))

-- a fetch fails just where it is to, and is counted; one that wants memory changes nothing
abbrev pub IsFetchAsListed : {T : Type 0} → MemFiles → List ℕ → MemFiles → Result T FetchFail → Type 0
IsFetchAsListed before name now (Ok x) = (fetch_fails before name ≡ false) × (now.calls ≡ counted before.calls)
IsFetchAsListed before name now (Err fetch.Failed) = (fetch_fails before name ≡ true) × (now.calls ≡ counted before.calls)
IsFetchAsListed before name now (Err fetch.NoMemory) = now ≡ before

-- a fetch that fails is one fault more, and its name is the last that failed; no other moves either
abbrev pub IsFaultAsFetched : {T : Type 0} → MemFiles → List ℕ → MemFiles → Result T FetchFail → Type 0
IsFaultAsFetched before name now (Ok x) = (now.faults ≡ before.faults) × (now.failed ≡ before.failed)
IsFaultAsFetched before name now (Err fetch.Failed) = (now.faults ≡ counted before.faults) × (now.failed ≡ Some name)
IsFaultAsFetched before name now (Err fetch.NoMemory) = now ≡ before

-- ---- sinks

-- the room in bytes, the numbers of the puts that are to fail, and how many puts there were
abbrev pub room_of : MemSink → ℕ
room_of s = s.room

abbrev pub puts_to_fail : MemSink → List ℕ
puts_to_fail s = s.fails

abbrev pub puts : MemSink → ℕ
puts s = s.calls

-- the next put of this piece fails: its number is listed, or the piece goes past the room
abbrev pub put_fails : MemSink → List ℕ → Bool
put_fails s piece = is_listed s.fails s.calls || nat_lt s.room (length s.bytes.items + length piece)

-- what the next put writes: of a piece that goes past the room what fits, and nothing where the number is listed
abbrev pub put_prefix : MemSink → List ℕ → List ℕ
put_prefix s piece = if is_listed s.fails s.calls then [] else take (s.room - length s.bytes.items) piece

-- a put fails just where it is to
abbrev pub IsPutAsListed : MemSink → List ℕ → Result (Unit {0}) PutFail → Type 0
IsPutAsListed before piece (Ok x) = put_fails before piece ≡ false
IsPutAsListed before piece (Err e) = put_fails before piece ≡ true

-- a put that fails is one fault more, and no other is
abbrev pub IsFaultAsPut : MemSink → MemSink → Result (Unit {0}) PutFail → Type 0
IsFaultAsPut before now (Ok x) = now.faults ≡ before.faults
IsFaultAsPut before now (Err e) = now.faults ≡ counted before.faults
