-- When a program and a specification have the same operations.
use Rattle.std.specs.Prelude.{◌≡◌, ℕ, Bool, true, false, ◌||◌, List, [], ◌∷◌, Option, Some, None, map, drop, slice_get}
use Rattle.std.specs.List.{list_any}
use Rattle.std.specs.Str.{bytes_eq}
use Rattle.gv_lang.specs.declared.program.LocalKind.{LocalKind}
use Rattle.gv_lang.specs.declared.program.LocalKind.TheVariants as kind
use Rattle.gv_lang.specs.Tree.{Action, DiskRead, Cmd, Do, If, Loop, Break, Continue, Return, Block, finish, next, Proc, Program}
use Rattle.gv_lang.specs.Kinds.{params_of}
use Rattle.gv_lang.specs.WellShaped.{method_at}
use Rattle.gv_lang.specs.Calls.{operation}
use Rattle.gv_terms.specs.declared.sort.Sort.{Sort}
use Rattle.gv_terms.specs.declared.sort.Sort.TheVariants as sort
use Rattle.gv_atomic.specs.declared.spec.Op.{Op}
use Rattle.gv_atomic.specs.declared.spec.Spec.{Spec}
use Rattle.gv_spec.specs.Atomic.{reply_sort}

-- the kind of a local that holds a value of a sort; there is none for sorts that calls neither give nor take
abbrev pub kind_for : Sort → Option LocalKind
kind_for sort.Word = Some kind.Word
kind_for sort.Bool = Some kind.Bool
kind_for sort.Bytes = Some kind.Slice
kind_for _ = None

-- the results of a procedure that replies a value of this sort, or nothing
abbrev pub results_for : Option Sort → List (Option LocalKind)
results_for None = []
results_for (Some s) = kind_for s ∷ []

-- the operation under a number is a procedure whose parameters, the receiver aside, and whose result are of the
-- kinds of its own
pub record AgreesAt (g : Program) (s : Spec) (op : ℕ) (o : Op) : Type 0 where
  pub place : ℕ
  pub proc : Proc
  pub named : operation g o.name ≡ Some place
  pub there : slice_get g.procs place ≡ Some proc
  pub params : map Some (drop 1 (params_of proc)) ≡ map (λ v. kind_for v.sort) o.params
  pub result : map Some proc.results ≡ results_for (reply_sort s op)

-- ---- reads of the one disk

abbrev pub is_one_disk_read : Action → Bool
is_one_disk_read (DiskRead x a) = true
is_one_disk_read _ = false

-- whether there is a read that names no disk, at any depth
abbrev mutual
  pub reads_one_disk : Block → Bool
  reads_one_disk finish = false
  reads_one_disk (next c b) = command_reads_one_disk c || reads_one_disk b

  pub command_reads_one_disk : Cmd → Bool
  command_reads_one_disk (Do a place) = is_one_disk_read a
  command_reads_one_disk (If e t f place) = reads_one_disk t || reads_one_disk f
  command_reads_one_disk (Loop body place) = reads_one_disk body
  command_reads_one_disk (Break place) = false
  command_reads_one_disk (Continue place) = false
  command_reads_one_disk (Return es place) = false

-- ---- the whole

pub record Agree (g : Program) (s : Spec) : Type 0 where
  pub ops : (op : ℕ) (o : Op) → slice_get s.ops op ≡ Some o → AgreesAt g s op o
  -- the program has no operation that the specification lacks
  pub methods : (place f : ℕ) → slice_get g.ops place ≡ Some f → list_any (λ o. bytes_eq o.name (method_at g f)) s.ops ≡ true
  -- of two disks, each read names its own and tells whether it could be read
  pub disks : s.disks ≡ 2 → list_any (λ p. reads_one_disk p.body) g.procs ≡ false
