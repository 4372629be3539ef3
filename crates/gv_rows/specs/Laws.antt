-- What holds of rows.
use Rattle.std.specs.Prelude.{◌≡◌, ℕ, Bool, List, [], ◌∷◌, Ok, Err, Some, slice_set}
use Rattle.gv_base.specs.declared.answers.Place.{Place}
use Rattle.gv_terms.specs.declared.sort.Sort.{Sort}
use Rattle.gv_terms.specs.declared.sort.Sort.TheVariants as sort
use Rattle.gv_terms.specs.declared.tree.TermTree.{TermTree}
use Rattle.gv_terms.specs.Trees.{sort_of}
use Rattle.gv_certs.specs.declared.cause.Cause.TheVariants as cause
use Rattle.gv_lang.specs.Tree.{Expr, Load, Store, At, DiskWrite, Do}
use Rattle.gv_lang.specs.Todo.{Todo, Run}
use Rattle.gv_resources.specs.Kinds as kind
use Rattle.gv_resources.specs.Kinds.{cell_kind}
use Rattle.gv_assertions.specs.Atoms.{Atom, Owns, Slice, Takes}
use Rattle.gv_assertions.specs.Standing.{number_under}
use Rattle.gv_seats.specs.Paths.{Path, term_of, number, goes_on}
use Rattle.gv_seats.specs.Seats.{Proof}
use Rattle.gv_seats.specs.Changes.{SetsBlock, changes_nothing}
use Rattle.gv_seats.specs.Soundness.{IsSoundStep, IsSoundWrite}
use Rattle.gv_rules.specs.Rows.{MayStep, MayWrite, IsLocal, IsLocalSort}
use Rattle.gv_rows.specs.Formed.{AreFormed}
use Rattle.gv_rows.specs.Rows.{Step, State, apply_row, started}
use Rattle.gv_rows.specs.Table.{load_row, store_row, at_row, disk_write_row}
use Rattle.gv_rows.specs.Told.{Told}

-- where a row has been applied, its premises hold, one after another, and it came to what it gives
abbrev pub ToldLaw : Type 0
ToldLaw = (locals : List ℕ) (row : List Step) (s t : State) → apply_row locals row s ≡ Ok t → Told locals row s t

-- what the row of a read comes to where its cell comes first, and where there is no assertion
pub record WorkedRows (h : Path) (x : ℕ) (object of field v : TermTree) (others : List Atom) : Type 0 where
  pub first : apply_row (x ∷ []) load_row (started (record h { atoms = Owns kind.Cell (object ∷ of ∷ field ∷ []) (v ∷ []) ∷ others }) (object ∷ of ∷ field ∷ []))
      ≡ Ok (record {
        path = record h { atoms = Owns kind.Cell (object ∷ of ∷ field ∷ []) (v ∷ []) ∷ others; locals = slice_set h.locals x (Some v) };
        slots = object ∷ of ∷ field ∷ v ∷ [];
        places = 0 ∷ [];
      })
  pub absent : apply_row (x ∷ []) load_row (started (record h { atoms = [] }) (object ∷ of ∷ field ∷ [])) ≡ Err cause.NoAtom

abbrev pub WorkedRowsLaw : Type 0
WorkedRowsLaw = (h : Path) (x : ℕ) (object of field v : TermTree) (others : List Atom) → WorkedRows h x object of field v others

-- a cell's value in these assertions is of a sort that a local may have
abbrev pub HasLocalSort : List Atom → (object : TermTree) → (of field : ℕ) → Type 0
HasLocalSort atoms object of field = (frozen : Bool) (v : TermTree) (left : List Atom) → Takes atoms (Owns (cell_kind frozen) (object ∷ number of ∷ number field ∷ []) (v ∷ [])) left
    → (s : Sort) × (sort_of v ≡ Some s) × IsLocalSort s

-- where the row of a read of a cell is applied, the read is sound
abbrev pub LoadRowLaw : Type 0
LoadRowLaw = (o : Proof) (h : Path) (t : State) (x : ℕ) (p : Expr) (object : TermTree) (of field : ℕ) (place : Place) (rest : Todo) → MayStep h
    → h.todo ≡ Run (Do (Load x p of field) place) ∷ rest → IsLocal h x → term_of h.locals p ≡ Some object → sort_of object ≡ Some sort.Ref → AreFormed h.atoms
    → HasLocalSort h.atoms object of field
    → apply_row (x ∷ []) load_row (started h (object ∷ number of ∷ number field ∷ [])) ≡ Ok t
    → IsSoundStep o changes_nothing h (goes_on h rest t.path.locals t.path.atoms ∷ [])

-- and so is the write of a cell
abbrev pub StoreRowLaw : Type 0
StoreRowLaw = (o : Proof) (h : Path) (t : State) (p e : Expr) (object u : TermTree) (of field : ℕ) (s : Sort) (place : Place) (rest : Todo) → MayWrite h
    → h.todo ≡ Run (Do (Store p of field e) place) ∷ rest → term_of h.locals p ≡ Some object → sort_of object ≡ Some sort.Ref → term_of h.locals e ≡ Some u
    → sort_of u ≡ Some s → IsLocalSort s → AreFormed h.atoms
    → ((v : TermTree) (left : List Atom) → Takes h.atoms (Owns kind.Cell (object ∷ number of ∷ number field ∷ []) (v ∷ [])) left → sort_of v ≡ Some s)
    → apply_row [] store_row (started h (object ∷ number of ∷ number field ∷ u ∷ [])) ≡ Ok t
    → IsSoundWrite o h (goes_on h rest t.path.locals t.path.atoms ∷ [])

-- and so is the write of a block
abbrev pub DiskWriteRowLaw : Type 0
DiskWriteRowLaw = (o : Proof) (h : Path) (t : State) (d : ℕ) (dd a e : Expr) (address s : TermTree) (place : Place) (rest : Todo) → MayStep h
    → h.todo ≡ Run (Do (DiskWrite dd a e) place) ∷ rest → term_of h.locals dd ≡ Some (number d) → term_of h.locals a ≡ Some address → sort_of address ≡ Some sort.Word
    → term_of h.locals e ≡ Some s → sort_of s ≡ Some sort.SliceS → AreFormed h.atoms
    → ((frozen : Bool) (items : TermTree) (left : List Atom) → Takes h.atoms (Slice frozen s items) left → sort_of items ≡ Some sort.Bytes)
    → apply_row [] disk_write_row (started h (number d ∷ address ∷ s ∷ number o.blocks ∷ [])) ≡ Ok t
    → IsSoundStep o (λ env. SetsBlock d (number_under env address)) h (goes_on h rest t.path.locals t.path.atoms ∷ [])

-- and the read of an item of a slice
abbrev pub ItemRowLaw : Type 0
ItemRowLaw = (o : Proof) (h : Path) (t : State) (x : ℕ) (e i : Expr) (s n : TermTree) (place : Place) (rest : Todo) → MayStep h
    → h.todo ≡ Run (Do (At x e i) place) ∷ rest → IsLocal h x → term_of h.locals e ≡ Some s → sort_of s ≡ Some sort.SliceS → term_of h.locals i ≡ Some n
    → sort_of n ≡ Some sort.Word → apply_row (x ∷ []) at_row (started h (s ∷ n ∷ [])) ≡ Ok t
    → IsSoundStep o changes_nothing h (goes_on h rest t.path.locals t.path.atoms ∷ [])
