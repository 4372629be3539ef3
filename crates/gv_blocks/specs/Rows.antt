-- Rows of rules about the blocks of disks: what a path must be like, and which paths come of it.
use Rattle.std.specs.Prelude.{◌≡◌, ℕ, ◌-◌, ◌<◌, Bool, true, false, List, [], ◌∷◌, ◌++◌, Some, slice_set}
use Rattle.gv_base.specs.declared.answers.Place.{Place}
use Rattle.gv_terms.specs.declared.sort.Sort.TheVariants as sort
use Rattle.gv_terms.specs.declared.operator.Operator.TheVariants as op
use Rattle.gv_terms.specs.declared.tree.TermTree.{TermTree}
use Rattle.gv_terms.specs.declared.tree.TermTree.TheVariants as tree
use Rattle.gv_terms.specs.declared.var.Var.{Var}
use Rattle.gv_terms.specs.Trees.{sort_of}
use Rattle.gv_world.specs.Store.{block_bytes}
use Rattle.gv_lang.specs.Tree.{Expr, DiskRead2, DiskWrite, Do}
use Rattle.gv_lang.specs.Todo.{Todo, Run}
use Rattle.gv_resources.specs.Kinds as kind
use Rattle.gv_resources.specs.Kinds.{Kind}
use Rattle.gv_assertions.specs.Atoms.{Atom, Owns, Slice, Spare, Takes}
use Rattle.gv_seats.specs.Paths.{Path, term_of, number, goes_on}
use Rattle.gv_seats.specs.Seats.{Proof}
use Rattle.gv_seats.specs.Scoping.{AreNew, variable}
use Rattle.gv_rules.specs.Rows.{MayStep, IsLocal, Replaces}
use Rattle.gv_giving.specs.Rows.{AreKnown}
use Rattle.gv_slicing.specs.Rows.{one_of, equal}

abbrev pub truth : Bool → TermTree
truth true = tree.Apply op.True []
truth false = tree.Apply op.False []

-- who owns a block knows it by its master or by its lease
abbrev pub block_kind : (leased : Bool) → Kind
block_kind false = kind.Master
block_kind true = kind.Lease

-- ---- x, ok = block a of disk d

-- what is known of a slice that was read of a block
abbrev pub block_facts : TermTree → TermTree → List TermTree
block_facts s v =
    equal (one_of op.SLen s) (number block_bytes) ∷ equal (one_of op.Len v) (number block_bytes) ∷ equal (one_of op.SCap s) (number block_bytes) ∷ []

-- the path where the disk has not failed: x is a new slice with the block's bytes
abbrev pub read_path : Path → Todo → (x ok : ℕ) → Var → TermTree → Path
read_path h rest x ok s v = record (goes_on h rest (slice_set (slice_set h.locals x (Some (variable s))) ok (Some (truth true)))
    (h.atoms ++ Slice false (variable s) v ∷ Spare (variable s) ∷ [])) { vars = s ∷ h.vars; facts = h.facts ++ block_facts (variable s) v }

-- the path where it has: x is no slice
abbrev pub failed_path : Path → Todo → (x ok : ℕ) → (d : ℕ) → Path
failed_path h rest x ok d =
    goes_on h rest (slice_set (slice_set h.locals x (Some (tree.Apply op.NilSlice []))) ok (Some (truth false))) (h.atoms ++ Owns kind.Down (number d ∷ []) [] ∷ [])

-- a read of one of two disks: the other path isn't there where the other disk is known to have failed
pub data ReadsDisk (o : Proof) (h : Path) : List Path → Type 0 where
  reads : (x ok d : ℕ) (dd a : Expr) (address v : TermTree) (leased : Bool) (left : List Atom) (s : Var) (place : Place) (rest : Todo) → MayStep h
      → h.todo ≡ Run (Do (DiskRead2 x ok dd a) place) ∷ rest → IsLocal h x → IsLocal h ok → term_of h.locals dd ≡ Some (number d) → d < 2
      → term_of h.locals a ≡ Some address → sort_of address ≡ Some sort.Word
      → Takes h.atoms (Owns (block_kind leased) (number d ∷ address ∷ []) (v ∷ [])) left
      → s.sort ≡ sort.SliceS → AreNew h.vars (s ∷ [])
      → ReadsDisk o h (read_path h rest x ok s v ∷ failed_path h rest x ok d ∷ [])
  reads_other : (x ok d : ℕ) (dd a : Expr) (address v : TermTree) (leased : Bool) (left others : List Atom) (s : Var) (place : Place) (rest : Todo) → MayStep h
      → h.todo ≡ Run (Do (DiskRead2 x ok dd a) place) ∷ rest → IsLocal h x → IsLocal h ok → term_of h.locals dd ≡ Some (number d) → d < 2
      → term_of h.locals a ≡ Some address → sort_of address ≡ Some sort.Word
      → Takes h.atoms (Owns (block_kind leased) (number d ∷ address ∷ []) (v ∷ [])) left
      → Takes h.atoms (Owns kind.Down (number (1 - d) ∷ []) []) others
      → s.sort ≡ sort.SliceS → AreNew h.vars (s ∷ [])
      → ReadsDisk o h (read_path h rest x ok s v ∷ [])

-- ---- block a of disk d = s

abbrev pub block_of : Kind → (d : ℕ) → TermTree → TermTree → Atom
block_of k d address v = Owns k (number d ∷ address ∷ []) (v ∷ [])

-- a write of a block: master and lease are owned, and get the bytes of a slice, which may be read-only
pub data WritesDisk (h : Path) : ℕ → TermTree → Path → Type 0 where
  writes : (d : ℕ) (dd a e : Expr) (address v u s t : TermTree) (frozen : Bool) (left mid after : List Atom) (place : Place) (rest : Todo) → MayStep h
      → h.todo ≡ Run (Do (DiskWrite dd a e) place) ∷ rest → term_of h.locals dd ≡ Some (number d) → term_of h.locals a ≡ Some address → sort_of address ≡ Some sort.Word
      → term_of h.locals e ≡ Some s → sort_of s ≡ Some sort.SliceS → sort_of t ≡ Some sort.Bytes → Takes h.atoms (Slice frozen s t) left
      → AreKnown h (equal (one_of op.Len t) (number block_bytes) ∷ equal (one_of op.SLen s) (number block_bytes) ∷ [])
      → Replaces h.atoms (block_of kind.Master d address v) (block_of kind.Master d address t) mid
      → Replaces mid (block_of kind.Lease d address u) (block_of kind.Lease d address t) after
      → WritesDisk h d address (goes_on h rest h.locals after)
