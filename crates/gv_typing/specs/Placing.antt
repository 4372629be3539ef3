-- Which faults a term of a text has, with their places, and which of them comes first.
use Rattle.std.specs.Prelude.{◌≡◌, ℕ, Bool as Truth, true, false, List, [], ◌∷◌, ◌⊎◌, Option, Some, None, MatchOption, slice_get}
use Rattle.gv_base.specs.Codes.{code_number}
use Rattle.gv_base.specs.declared.answers.Code.{Code}
use Rattle.gv_base.specs.declared.answers.Code.TheVariants as code
use Rattle.gv_terms.specs.declared.sort.Sort.{Sort}
use Rattle.gv_terms.specs.declared.sort.Sort.TheVariants.{Word, Bool, Bytes}
use Rattle.gv_terms.specs.declared.var.Var.{Var}
use Rattle.gv_terms.specs.declared.tree.RawTerm.{RawTerm}
use Rattle.gv_terms.specs.declared.operator.Operator.{Operator}
use Rattle.gv_terms.specs.declared.tree.TermTree.{TermTree}
use Rattle.gv_terms.specs.declared.tree.TermTree.TheVariants as tree
use Rattle.gv_terms.specs.Scopes.{sort_under}
use Rattle.gv_terms.specs.Resolving.{resolved, HasFault}
use Rattle.gv_terms.specs.Trees.{sort_of}
use Rattle.gv_text.specs.Answers.{IsFirst, IsNotAfter}
use Rattle.gv_termread.specs.declared.placed.PlacedTerm.{PlacedTerm}
use Rattle.gv_termread.specs.declared.placed.Places.{Places, out-Places}
use Rattle.gv_termread.specs.declared.placed.Places.TheVariants as places
use Rattle.gv_termread.specs.declared.placed.Places.TheOpen.{At}
use Rattle.gv_typing.specs.declared.term_fault.Fault.{Fault}
use Rattle.gv_typing.specs.declared.term_fault.TermFault.{TermFault}
use Rattle.gv_typing.specs.declared.term_fault.TermFault.TheVariants as answer

-- where a node begins, and its parts
abbrev pub start_of : Places → ℕ
start_of p = elim (out-Places p) [ At start parts ↦ start ]

abbrev pub parts_of : Places → List Places
parts_of p = elim (out-Places p) [ At start parts ↦ parts ]

-- the places of a part; a part that has none begins where the node does
abbrev pub place_below : Places → ℕ → Places
place_below p i = elim (slice_get (parts_of p) i) [ None ↦ places.At (start_of p) [] | Some q ↦ q ]

-- where the node at a path begins
abbrev pub start_at : Places → List ℕ → ℕ
start_at p [] = start_of p
start_at p (i ∷ path) = start_at (place_below p i) path

-- a term whose nodes begin at these places has a fault at a byte
pub record HasPlacedFault (vars : List Var) (t : RawTerm) (p : Places) (at : ℕ) (c : Code) : Type 0 where
  pub path : List ℕ
  pub there : HasFault vars t path c
  pub place : start_at p path ≡ at

-- why there is no term: memory was refused, or this is the first of the faults
abbrev pub IsCause : (ℕ → Code → Type 0) → TermFault → Type 0
IsCause Has answer.NoMemory = Unit {0}
IsCause Has (answer.At start c) = IsFirst code_number Has start c

-- of a whole term that must have a sort that passes: a fault of its nodes, or another sort, at its first token
pub data HasTermFault (vars : List Var) (passes : Option Sort → Truth) (term : PlacedTerm) : ℕ → Code → Type 0 where
  inside : {at : ℕ} {c : Code} → HasPlacedFault vars term.term term.places at c → HasTermFault vars passes term at c
  other_sort : (t : TermTree) → resolved vars term.term ≡ Some t → passes (sort_of t) ≡ false → HasTermFault vars passes term term.start code.WrongType

-- a name is unknown, which is told here, or memory was refused
abbrev pub IsUnknown : List Var → List ℕ → ℕ → TermFault → Type 0
IsUnknown vars n at answer.NoMemory = Unit {0}
IsUnknown vars n at (answer.At start c) = (sort_under vars n ≡ None) × (start ≡ at) × (c ≡ code.Undeclared)

-- an operator over trees has no sort, which is told here, or memory was refused
abbrev pub IsUnsorted : Operator → List TermTree → ℕ → TermFault → Type 0
IsUnsorted o ts at answer.NoMemory = Unit {0}
IsUnsorted o ts at (answer.At start c) = (sort_of (tree.Apply o ts) ≡ None) × (start ≡ at) × (c ≡ code.WrongType)

-- one of two faults, the one that is told first
abbrev pub IsFirstWith : Option Fault → Fault → Fault → Type 0
IsFirstWith first g r = MatchOption first (r ≡ g)
    (λ f. ((r ≡ f) × IsNotAfter code_number f.start f.code g.start g.code) ⊎ ((r ≡ g) × IsNotAfter code_number g.start g.code f.start f.code))

-- the sorts of parameters and replies
abbrev pub is_some_plain : Option Sort → Truth
is_some_plain None = false
is_some_plain (Some Word) = true
is_some_plain (Some Bool) = true
is_some_plain (Some Bytes) = true
is_some_plain (Some other) = false
