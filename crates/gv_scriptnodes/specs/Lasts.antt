-- Lists whose nodes hold the items before them.
use Rattle.std.specs.Prelude.{◌≡◌, ℕ, ◌<◌, ◌+◌, List, [], ◌∷◌, ◌++◌, length, map}
use mathlib.Core.List.{reverse}
use Rattle.gv_scriptsyntax.specs.declared.node.Node.{Node}
use Rattle.gv_scriptnodes.specs.Places.{IsChild}
use Rattle.gv_scriptnodes.specs.declared.last.Last.{Last}
use Rattle.gv_scriptnodes.specs.declared.last.Last.TheVariants.{Empty, Item, Same}

-- A list ends with what this item tells, and the list before it stands there.
pub record IsItem {T U : Type 0} (IsAt : ℕ → List U → Type 0) (Tells : T → U → Type 0) (item : T) (before : ℕ) (whole : List U) : Type 0 where
  pub rest : List U
  pub last : U
  pub at : IsAt before rest
  pub same : Tells item last
  pub made : whole ≡ rest ++ last ∷ []

-- what is told of a list is so of this one
abbrev pub IsLast : {T U : Type 0} → (ℕ → List U → Type 0) → (T → U → Type 0) → Last T → List U → Type 0
IsLast IsAt Tells Empty whole = whole ≡ []
IsLast IsAt Tells (Item item before) whole = IsItem IsAt Tells item before whole
IsLast IsAt Tells (Same at) whole = IsAt at whole

-- it names a place before this one
abbrev pub IsBelow : {T : Type 0} → ℕ → Last T → Type 0
IsBelow at Empty = Unit {0}
IsBelow at (Item item before) = before < at
IsBelow at (Same next) = next < at

-- A list is one that stands at this place, and behind it the items that are told as these, the last one first.
pub record IsLeft {T U : Type 0} (IsAt : ℕ → List U → Type 0) (told : U → T) (place : ℕ) (taken : List T) (whole : List U) : Type 0 where
  pub rest : List U
  pub behind : List U
  pub at : IsAt place rest
  pub same : reverse taken ≡ map told behind
  pub made : whole ≡ rest ++ behind

-- A list has so many items behind one that stands at this place.
pub record IsCounted {U : Type 0} (IsAt : ℕ → List U → Type 0) (place count : ℕ) (whole : List U) : Type 0 where
  pub rest : List U
  pub at : IsAt place rest
  pub same : length whole ≡ length rest + count

-- The list that the node at `at` makes ends with what is told as this item, and the list before it is the node's part behind which so
-- many others come.
pub record IsEnd {T U : Type 0} (IsAt : ℕ → List U → Type 0) (told : U → T) (text : List ℕ) (nodes : List Node) (at number : ℕ) (item : T) (whole : List U) : Type 0 where
  pub rest : List U
  pub last : U
  pub left : (place : ℕ) → IsChild text nodes at number place → IsAt place rest
  pub same : item ≡ told last
  pub made : whole ≡ rest ++ last ∷ []
