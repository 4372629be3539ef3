-- Rows of rules as data: what a row needs and what it gives, a step at a time, in the order of its table.
use Rattle.std.specs.Prelude.{ℕ, suc, Bool, true, false, not, ◌&&◌, ◌||◌, List, [], ◌∷◌, ◌++◌, Option, Some, None, Result, Ok, Err, map, slice_get, slice_set, if◌then◌else◌}
use Rattle.std.specs.Cmp.Lexicographic.{pointwise}
use Rattle.gv_terms.specs.declared.operator.Operator.{Operator}
use Rattle.gv_terms.specs.declared.tree.TermTree.{TermTree}
use Rattle.gv_terms.specs.declared.tree.TermTree.TheVariants as tree
use Rattle.gv_terms.specs.Values.{bool_eq}
use Rattle.gv_certs.specs.declared.cause.Cause.{Cause}
use Rattle.gv_certs.specs.declared.cause.Cause.TheVariants as cause
use Rattle.gv_certs.specs.Trees.{tree_eq}
use Rattle.gv_certs.specs.Known.{is_known}
use Rattle.gv_resources.specs.Kinds.{Kind, kind_eq}
use Rattle.gv_resources.specs.Ghost.{Mode, Shared}
use Rattle.gv_assertions.specs.Atoms.{Atom, Owns, Slice, Spare, Instance, Each}
use Rattle.gv_seats.specs.Paths.{Path, Bracket, Closed, Opened, Used, number}

-- ---- what stands at an assertion's root, and what stands below it

pub data Head : Type 0 where
  Owned : Kind → Head
  Cells : (frozen : Bool) → Head
  Spares : Head

abbrev pub same_head : Head → Head → Bool
same_head (Owned k) (Owned l) = kind_eq k l
same_head (Cells a) (Cells b) = bool_eq a b
same_head Spares Spares = true
same_head _ _ = false

-- the part of an assertion that a row can name: a root, a key and a value
pub record Named : Type 0 where
  pub head : Head
  pub key : List TermTree
  pub value : List TermTree

abbrev pub named : Atom → Option Named
named (Owns k key value) = Some (record { head = Owned k; key = key; value = value })
named (Slice frozen s items) = Some (record { head = Cells frozen; key = s ∷ []; value = items ∷ [] })
named (Spare s) = Some (record { head = Spares; key = s ∷ []; value = [] })
named (Instance place args) = None
named (Each index low high except a) = None

abbrev pub first_of : List TermTree → TermTree
first_of [] = number 0
first_of (t ∷ ts) = t

abbrev pub atom_of : Head → (key value : List TermTree) → Atom
atom_of (Owned k) key value = Owns k key value
atom_of (Cells frozen) key value = Slice frozen (first_of key) (first_of value)
atom_of Spares key value = Spare (first_of key)

-- ---- the language

-- a term that a row writes: one that the command has or that was found, by its number; a number; an operator over terms
pub data Shape : Type 0 where
  Slot : ℕ → Shape
  Literal : ℕ → Shape
  Over : Operator → Shape → Shape
  OverTwo : Operator → Shape → Shape → Shape

pub data Step : Type 0 where
  -- the first assertion of either root with this key: what its value has becomes the next slots, and its place the next place
  Reads : Head → Head → List Shape → Step
  -- the same, taken
  Takes : Head → List Shape → Step
  -- the assertion at a place that was found becomes another
  Becomes : ℕ → Head → (key value : List Shape) → Step
  Adds : Head → (key value : List Shape) → Step
  -- a formula is known; a formula becomes a fact
  Knows : Shape → Step
  Fact : Shape → Step
  -- the command's local under a number gets a term
  Sets : ℕ → Shape → Step
  -- of the bracket and of the mode
  NotUsed : Step
  IsClosed : Step
  NotClosed : Step
  InShared : Step
  Opens : Step
  Closes : Step
  -- the cause, always
  Fails : Cause → Step

-- a path with the terms and the places that the row has found so far
pub record State : Type 0 where
  pub path : Path
  pub slots : List TermTree
  pub places : List ℕ

-- ---- terms

abbrev pub slot_of : Option TermTree → TermTree
slot_of (Some t) = t
slot_of None = number 0

abbrev pub term : List TermTree → Shape → TermTree
term slots (Slot n) = slot_of (slice_get slots n)
term slots (Literal n) = number n
term slots (Over o a) = tree.Apply o (term slots a ∷ [])
term slots (OverTwo o a b) = tree.Apply o (term slots a ∷ term slots b ∷ [])

abbrev pub terms : List TermTree → List Shape → List TermTree
terms slots shapes = map (term slots) shapes

abbrev pub same_terms : List TermTree → List TermTree → Bool
same_terms ts us = pointwise tree_eq ts us

-- ---- what is found

pub record Spot : Type 0 where
  pub place : ℕ
  pub head : Head
  pub value : List TermTree
  pub others : List Atom

abbrev pub behind : Atom → Option Spot → Option Spot
behind a None = None
behind a (Some s) = Some (record { place = suc s.place; head = s.head; value = s.value; others = a ∷ s.others })

-- whether an assertion has one of two roots, and this key
abbrev pub fits_key : Head → Head → List TermTree → Named → Bool
fits_key h g key n = (same_head n.head h || same_head n.head g) && same_terms n.key key

-- this one, or the rest's
abbrev pub this_or : Head → Head → List TermTree → Atom → List Atom → Option Named → Option Spot → Option Spot
this_or h g key a all None later = behind a later
this_or h g key a all (Some n) later =
    if fits_key h g key n then Some (record { place = 0; head = n.head; value = n.value; others = all }) else behind a later

-- the first assertion of one of two roots with this key
abbrev pub found : Head → Head → List TermTree → List Atom → Option Spot
found h g key [] = None
found h g key (a ∷ all) = this_or h g key a all (named a) (found h g key all)

-- ---- what a step does

abbrev pub with_atoms : State → List Atom → State
with_atoms s atoms = record s { path = record (s.path) { atoms = atoms } }

abbrev pub with_slots : State → List TermTree → State
with_slots s found = record s { slots = s.slots ++ found }

abbrev pub with_place : State → ℕ → State
with_place s place = record s { places = s.places ++ place ∷ [] }

abbrev pub with_bracket : State → Bracket → State
with_bracket s b = record s { path = record (s.path) { bracket = b } }

abbrev pub place_of : Option ℕ → ℕ
place_of (Some n) = n
place_of None = 0

abbrev pub is_closed : Bracket → Bool
is_closed Closed = true
is_closed _ = false

abbrev pub is_used : Bracket → Bool
is_used Used = true
is_used _ = false

abbrev pub is_shared : Mode → Bool
is_shared Shared = true
is_shared _ = false

-- goes on where a test holds, else the cause
abbrev pub need : Bool → Cause → State → Result State Cause
need true c s = Ok s
need false c s = Err c

abbrev pub at_spot : Option Spot → (Spot → State) → Result State Cause
at_spot None next = Err cause.NoAtom
at_spot (Some s) next = Ok (next s)

abbrev pub step : List ℕ → Step → State → Result State Cause
step locals (Reads h g key) s = at_spot (found h g (terms s.slots key) s.path.atoms) (λ x. with_slots (with_place s x.place) x.value)
step locals (Takes h key) s = at_spot (found h h (terms s.slots key) s.path.atoms) (λ x. with_atoms (with_slots s x.value) x.others)
step locals (Becomes n h key value) s =
    Ok (with_atoms s (slice_set s.path.atoms (place_of (slice_get s.places n)) (atom_of h (terms s.slots key) (terms s.slots value))))
step locals (Adds h key value) s = Ok (with_atoms s (s.path.atoms ++ atom_of h (terms s.slots key) (terms s.slots value) ∷ []))
step locals (Knows f) s = need (is_known s.path.facts (term s.slots f)) cause.NotKnown s
step locals (Fact f) s = Ok (record s { path = record (s.path) { facts = s.path.facts ++ term s.slots f ∷ [] } })
step locals (Sets x t) s = Ok (record s { path = record (s.path) { locals = slice_set s.path.locals (place_of (slice_get locals x)) (Some (term s.slots t)) } })
step locals NotUsed s = need (not (is_used s.path.bracket)) cause.Bracket s
step locals IsClosed s = need (is_closed s.path.bracket) cause.Bracket s
step locals NotClosed s = need (not (is_closed s.path.bracket)) cause.Bracket s
step locals InShared s = need (is_shared s.path.mode) cause.Mode s
step locals Opens s = Ok (with_bracket s Opened)
step locals Closes s = Ok (with_bracket s Closed)
step locals (Fails c) s = Err c

-- ---- what a row does

abbrev pub and_then : Result State Cause → (State → Result State Cause) → Result State Cause
and_then (Ok s) next = next s
and_then (Err c) next = Err c

-- its steps one after another, up to the first that fails; `locals` are the command's
abbrev pub apply_row : List ℕ → List Step → State → Result State Cause
apply_row locals [] s = Ok s
apply_row locals (p ∷ row) s = and_then (step locals p s) (λ t. apply_row locals row t)

-- a row begins with the terms of its command
abbrev pub started : Path → List TermTree → State
started h slots = record { path = h; slots = slots; places = [] }
