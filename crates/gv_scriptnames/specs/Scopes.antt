-- What names stand for in a script: in the script itself, its specification and its program.
use Rattle.std.specs.Prelude.{ℕ, Bool, ◌&&◌, nat_lt, nat_le, List, [], ◌∷◌, ◌++◌, map, take, codes, Option, Some, None, slice_get}
use Rattle.std.specs.Option.{option_and_then}
use Rattle.std.specs.List.{find, list_any}
use Rattle.std.specs.Str.{bytes_eq}
use Rattle.gv_terms.specs.declared.sort.Sort.{Sort}
use Rattle.gv_terms.specs.declared.sort.Sort.TheVariants as sort
use Rattle.gv_lang.specs.declared.program.Struct.{Struct}
use Rattle.gv_lang.specs.declared.program.Proc.{Proc}
use Rattle.gv_lang.specs.declared.program.Program.{Program}
use Rattle.gv_lang.specs.Plain.{body_of, program_of}
use Rattle.gv_lang.specs.Graph.{size}
use Rattle.gv_lang.specs.WellShaped.{method_at}
use Rattle.gv_atomic.specs.declared.spec.Op.{Op}
use Rattle.gv_atomic.specs.declared.spec.Spec.{Spec}
use Rattle.gv_termread.specs.declared.token.SeenToken.{SeenToken}
use Rattle.gv_scriptnames.specs.declared.outline.BookOutline.{BookOutline}
use Rattle.gv_scriptnames.specs.declared.outline.PredOutline.{PredOutline}
use Rattle.gv_scriptnames.specs.declared.outline.CutOutline.{CutOutline}
use Rattle.gv_scriptnames.specs.Names.{name_in, names_in}

abbrev pub is_borne : List (List ℕ) → List ℕ → Bool
is_borne names n = list_any (bytes_eq n) names

-- the first of some with a name
abbrev pub named : {T : Type 0} → (T → List ℕ) → List T → List ℕ → Option T
named name_of items n = find (λ x. bytes_eq (name_of x) n) items

-- ---- predicates

-- the sort that a word stands for, by its number among the words of sorts
abbrev pub sorts : List Sort
sorts =
    sort.Word ∷ sort.Bool ∷ sort.Bytes ∷ sort.Words ∷ sort.Refs ∷ sort.Blocks ∷ sort.MapWW ∷ sort.MapWB ∷ sort.Ref ∷ sort.SliceS ∷ sort.Call
    ∷ sort.Name ∷ []

abbrev pub sort_of : SeenToken → Option Sort
sort_of t = slice_get sorts t.value

-- a predicate as those see it who name it: its name and the sorts of its parameters
pub record Shape : Type 0 where
  pub name : List ℕ
  pub params : List (Option Sort)

abbrev pub shape_of : List ℕ → PredOutline → Shape
shape_of text p = record { name = name_in text p.name; params = map (λ v. sort_of v.sort) p.params }

-- Declared before every script: the lease of a block, by its disk and its number, and of each book the lease of a cell, by its number.
abbrev pub block_lease : Shape
block_lease = record { name = codes "BlockLease"; params = Some sort.Word ∷ Some sort.Word ∷ [] }

abbrev pub book_lease : List ℕ → BookOutline → Shape
book_lease text b = record { name = codes "BookLease." ++ name_in text b.name; params = Some sort.Word ∷ [] }

abbrev pub shapes_of : List ℕ → List BookOutline → List PredOutline → List Shape
shapes_of text books preds = block_lease ∷ (map (book_lease text) books ++ map (shape_of text) preds)

-- a book has 1 to 65,536 cells
abbrev pub is_cell_count : ℕ → Bool
is_cell_count n = nat_lt 0 n && nat_le n 65536

-- ---- what names stand for at a place

-- the predicates, books and cuts that may be named there
pub record Scope : Type 0 where
  pub preds : List Shape
  pub books : List (List ℕ)
  pub cuts : List (List ℕ)

-- behind these predicates, where no cut stands
abbrev pub outside : List ℕ → List BookOutline → List PredOutline → Scope
outside text books preds = record { preds = shapes_of text books preds; books = names_in text (map (λ b. b.name) books); cuts = [] }

-- beside these cuts
abbrev pub beside : List ℕ → Scope → List CutOutline → Scope
beside text sc cuts = record { preds = sc.preds; books = sc.books; cuts = names_in text (map (λ c. c.name) cuts) }

abbrev pub pred_named : Scope → List ℕ → Option Shape
pred_named sc n = named (λ s. s.name) sc.preds n

-- ---- the program

-- a struct's name and a field of it, with a dot between
abbrev pub is_field_of : List ℕ → Struct → Bool
is_field_of n s = list_any (λ f. bytes_eq n (s.name ++ (46 ∷ f.name))) s.fields

abbrev pub is_cell : Program → List ℕ → Bool
is_cell program n = list_any (is_field_of n) program.structs

abbrev pub proc_named : Program → List ℕ → Option Proc
proc_named program n = named (λ p. p.name) program.procs n

-- the procedure of an operation: the one whose method bears its name
abbrev pub proc_of_op : Program → List ℕ → Option Proc
proc_of_op program n = option_and_then (λ op. slice_get program.procs op) (find (λ op. bytes_eq (method_at (program_of program) op) n) program.ops)

abbrev pub recovery : Program → Option Proc
recovery program = slice_get program.procs program.recover

-- points of a procedure are its commands, numbered from 1
abbrev pub is_point : Proc → ℕ → Bool
is_point p n = nat_lt 0 n && nat_le n (size (body_of p.body))

abbrev pub is_local : Proc → List ℕ → Bool
is_local p n = is_borne (map (λ l. l.name) p.locals) n

-- a procedure's parameters are its first locals
abbrev pub param_names : Option Proc → List (List ℕ)
param_names None = []
param_names (Some p) = map (λ l. l.name) (take p.params p.locals)

-- ---- the specification

abbrev pub is_field : Spec → List ℕ → Bool
is_field spec n = is_borne (map (λ f. f.name) spec.fields) n

abbrev pub op_named : Spec → List ℕ → Option Op
op_named spec n = named (λ o. o.name) spec.ops n
