-- Reading and writing maps from words to words. A write is two accesses, as of cells, and a map has one mark.
use Rattle.std.specs.Prelude.{ℕ, ◌-◌, Bool, true, false, List, Option, Some, None, slice_get, nat_eq}
use Rattle.gv_base.specs.declared.reason.Reason.TheVariants.{NilUse, Kind, Race}
use Rattle.gv_base.specs.declared.answer.Answer.{Answer}
use Rattle.gv_base.specs.declared.answer.Answer.TheVariants.{Next, Undefined}
use Rattle.gv_words.specs.Maps.{entry_at, with_entry, without}
use Rattle.gv_world.specs.Answers.{and_then, undefined_if}
use Rattle.gv_world.specs.Store.{Object, Cells, Map, Mutex, Store, with_object}

-- a map's entries, and its mark
abbrev pub as_map : Option Object → Answer (List (ℕ × ℕ) × Bool)
as_map (Some (Map entries marked)) = Next (entries, marked)
as_map (Some (Cells cells)) = Undefined Kind
as_map (Some (Mutex locked)) = Undefined Kind
as_map None = Undefined Kind

abbrev pub map_of : Store → ℕ → Answer (List (ℕ × ℕ) × Bool)
map_of s object = undefined_if (nat_eq object 0) NilUse (as_map (slice_get s.objects (object - 1)))

-- what stands under a key
abbrev pub map_read : Store → (object key : ℕ) → Answer (Option ℕ)
map_read s object key = and_then (map_of s object) (λ m. undefined_if m.1 Race (Next (entry_at m.0 key)))

-- marks the map, which keeps its entries
abbrev pub map_begin : Store → ℕ → Answer Store
map_begin s object = and_then (map_of s object) (λ m. undefined_if m.1 Race (Next (with_object s object (Map m.0 true))))

-- the entries with an item under a key, or without the key
abbrev pub changed : List (ℕ × ℕ) → ℕ → Option ℕ → List (ℕ × ℕ)
changed entries key (Some item) = with_entry entries key item
changed entries key None = without entries key

-- writes into a map that is marked, and unmarks it; a mark is no reason here
abbrev pub map_end : Store → (object key : ℕ) → Option ℕ → Answer Store
map_end s object key item = and_then (map_of s object) (λ m. Next (with_object s object (Map (changed m.0 key item) false)))
