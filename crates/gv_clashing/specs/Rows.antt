-- Rows of clash and agree: what stands beside each other at a path, and what comes of it.
use Rattle.std.specs.Prelude.{◌≡◌, Bool, false, List, [], ◌∷◌, ◌++◌, Some}
use Rattle.gv_terms.specs.declared.operator.Operator.TheVariants as op
use Rattle.gv_terms.specs.declared.tree.TermTree.{TermTree}
use Rattle.gv_terms.specs.declared.tree.TermTree.TheVariants as tree
use Rattle.gv_certs.specs.Trees.{equation}
use Rattle.gv_resources.specs.Kinds as kind
use Rattle.gv_resources.specs.Kinds.{Kind, most}
use Rattle.gv_assertions.specs.Atoms.{Atom, Owns, Slice, Takes}
use Rattle.gv_seats.specs.Paths.{Path, number}
use Rattle.gv_giving.specs.Rows.{AreKnown}
use Rattle.gv_ranges.specs.Rows.{less}

-- ---- clash

-- two assertions that nobody owns beside each other, of whatever values
pub data Contradict : Atom → Atom → Type 0 where
  -- one resource twice, of which there is one at most
  twice : {k : Kind} {key v w : List TermTree} → most k ≡ Some 1 → Contradict (Owns k key v) (Owns k key w)
  -- a cell that is owned and read-only
  owned_and_read_only : {key v w : List TermTree} → Contradict (Owns kind.Cell key v) (Owns kind.FrozenCell key w)
  -- a call that may act and has acted
  open_and_done : {key v w : List TermTree} → Contradict (Owns kind.Token key v) (Owns kind.Done key w)
  -- both disks have failed
  both_failed : {v w : List TermTree} → Contradict (Owns kind.Down (number 0 ∷ []) v) (Owns kind.Down (number 1 ∷ []) w)

abbrev pub length_of : TermTree → TermTree
length_of t = tree.Apply op.Len (t ∷ [])

abbrev pub half : TermTree → TermTree → Atom
half name v = Owns kind.Half (name ∷ []) (v ∷ [])

-- a path at which no frame stands
pub data Clashes (h : Path) : Type 0 where
  clashes : (a b : Atom) (rest left : List Atom) → Takes h.atoms a rest → Takes rest b left → Contradict a b → Clashes h
  -- the cells of a slice that is known to have some, once owned, and once more
  of_slices : (frozen : Bool) (s t u : TermTree) (rest left : List Atom) → AreKnown h (less (number 0) (length_of t) ∷ []) → Takes h.atoms (Slice false s t) rest
      → Takes rest (Slice frozen s u) left → Clashes h
  -- three halves of one name
  of_halves : (name u v w : TermTree) (some rest left : List Atom) → Takes h.atoms (half name u) some → Takes some (half name v) rest → Takes rest (half name w) left → Clashes h

-- ---- agree

-- two assertions that tell one value, under two terms
pub data TellOne : Atom → Atom → TermTree → TermTree → Type 0 where
  of_block : {key : List TermTree} {v w : TermTree} → TellOne (Owns kind.Master key (v ∷ [])) (Owns kind.Lease key (w ∷ [])) v w
  of_field : {key : List TermTree} {v w : TermTree} → TellOne (Owns kind.Field key (v ∷ [])) (Owns kind.FieldLease key (w ∷ [])) v w
  of_book : {key : List TermTree} {v w : TermTree} → TellOne (Owns kind.BookMaster key (v ∷ [])) (Owns kind.BookLease key (w ∷ [])) v w
  of_cell : {key : List TermTree} {v w : TermTree} → TellOne (Owns kind.FrozenCell key (v ∷ [])) (Owns kind.FrozenCell key (w ∷ [])) v w
  of_half : {key : List TermTree} {v w : TermTree} → TellOne (Owns kind.Half key (v ∷ [])) (Owns kind.Half key (w ∷ [])) v w
  turned : {a b : Atom} {v w : TermTree} → TellOne a b v w → TellOne b a w v

-- agree: both are there, and stay; one half alone is there for both
pub data Agrees (h : Path) : Path → Type 0 where
  agrees : (a b : Atom) (v w : TermTree) (left others : List Atom) → Takes h.atoms a left → Takes h.atoms b others → TellOne a b v w
      → Agrees h (record h { facts = h.facts ++ equation v w ∷ [] })
