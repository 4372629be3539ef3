-- What calls start, and what they answer.
use Rattle.std.specs.Prelude.{ℕ, Bool, ◌&&◌, List, [], ◌∷◌, ◌++◌, Option, Some, None, length, slice_get, find, nat_eq, nat_lt, option_map, option_and_then, if◌then◌else◌}
use Rattle.std.specs.Option.{unwrap_or}
use Rattle.std.specs.List.{list_all}
use Rattle.std.specs.Str.{bytes_eq}
use Rattle.gv_base.specs.declared.reason.Reason.TheVariants.{Kind}
use Rattle.gv_base.specs.declared.answer.Answer.{Answer}
use Rattle.gv_base.specs.declared.answer.Answer.TheVariants.{Next, Undefined}
use Rattle.gv_base.specs.declared.val.Val.{Val}
use Rattle.gv_base.specs.declared.val.Val.TheVariants as val
use Rattle.gv_base.specs.declared.slice_val.SliceVal.{SliceVal}
use Rattle.gv_words.specs.Words.{words}
use Rattle.gv_world.specs.Answers.{and_then}
use Rattle.gv_world.specs.Store.{Cells, Store as World, fresh, with_new}
use Rattle.gv_world.specs.Cells.{read_bytes}
use Rattle.gv_world.specs.Disks.{byte_cells}
use Rattle.gv_world.specs.Slices.{too_long, whole_of}
use Rattle.gv_lang.specs.Tree.{Program}
use Rattle.gv_lang.specs.Threads.{Thread, new_frame, thread_of}
use Rattle.gv_lang.specs.WellShaped.{method_at}

-- what calls take and give
pub data Given : Type 0 where
  Word : ℕ → Given
  Truth : Bool → Given
  Bytes : List ℕ → Given
  -- no reply
  Nothing : Given

-- ---- threads

abbrev pub started : Program → ℕ → List Val → Option Thread
started g f args = option_map (λ p. thread_of (new_frame f p args [])) (slice_get g.procs f)

-- a thread without anything to do, for a program without a procedure of recovery
abbrev pub idle : Thread
idle = thread_of (record { proc = 0; locals = []; todo = []; results = [] })

-- a thread that is about to run recovery
abbrev pub recovery : Program → Thread
recovery g = unwrap_or (started g g.recover []) idle

-- ---- arguments

abbrev pub is_buffer : List ℕ → Bool
is_buffer bytes = list_all (λ b. nat_lt b 256) bytes && nat_lt (length bytes) too_long

-- the bytes as a fresh object, and the slice that is all of it
abbrev pub buffered : World → List ℕ → World × Val
buffered w bytes = (with_new w (Cells (byte_cells bytes)), val.Slice (whole_of (fresh w) (length bytes)))

-- an argument as a value, bytes in a fresh buffer; none where a number or a length is out of range
abbrev pub placed : World → Given → Option (World × Val)
placed w (Word n) = if nat_lt n words then Some (w, val.Word n) else None
placed w (Truth b) = Some (w, val.Bool b)
placed w (Bytes bytes) = if is_buffer bytes then Some (buffered w bytes) else None
placed w Nothing = None

-- the arguments in their order, each in the world with the buffers of those before it
abbrev pub all_placed : World → List Given → Option (World × List Val)
all_placed w [] = Some (w, [])
all_placed w (arg ∷ args) =
    option_and_then (λ one. option_map (λ rest. (rest.0, one.1 ∷ rest.1)) (all_placed one.0 args)) (placed w arg)

-- the procedure of the operation with this method's name
abbrev pub operation : Program → List ℕ → Option ℕ
operation g name = find (λ op. bytes_eq (method_at g op) name) g.ops

abbrev pub started_in : Program → ℕ → List Val → World × List Val → Option (World × Thread)
started_in g f receiver placed = option_map (λ thread. (placed.0, thread)) (started g f (receiver ++ placed.1))

-- the thread of a call of a procedure on what recovery returned, and the world with the arguments' buffers
abbrev pub called : Program → ℕ → List Val → List Given → World → Option (World × Thread)
called g f receiver args w = option_and_then (λ found. started_in g f receiver found) (all_placed w args)

-- ---- replies

-- a slice's bytes; a slice without cells has none, whatever its object
abbrev pub contents : World → SliceVal → Answer (List ℕ)
contents w s = if nat_eq s.length 0 then Next [] else read_bytes w s.object s.offset s.length

abbrev pub reply_of : World → Val → Answer Given
reply_of w (val.Word n) = Next (Word n)
reply_of w (val.Bool b) = Next (Truth b)
reply_of w (val.Slice s) = and_then (contents w s) (λ bytes. Next (Bytes bytes))
reply_of w _ = Undefined Kind

-- what a call answers whose first frame returned these
abbrev pub reply : World → List Val → Answer Given
reply w [] = Next Nothing
reply w (v ∷ []) = reply_of w v
reply w (v ∷ u ∷ more) = Undefined Kind
