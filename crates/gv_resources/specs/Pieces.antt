-- Pieces: how much of a state somebody owns. When a piece fits what a state tells, and how it may change beside what others own.
use Rattle.std.specs.Prelude.{◌≡◌, ◌⊎◌, ℕ, zero, suc, ◌+◌, ◌<◌, ◌≤◌, Bool, ◌&&◌, List, Option, Some, None, if◌then◌else◌}
use Rattle.std.specs.Cmp.Lexicographic.{pointwise}
use Rattle.gv_terms.specs.declared.value.Value.{Value}
use Rattle.gv_terms.specs.Values.{value_eq}
use Rattle.gv_resources.specs.Kinds.{Kind, kind_eq, most}

-- a resource: something of a kind, under a key, with a value
pub data Resource : Type 0 where
  Have : Kind → (key value : List Value) → Resource

-- a piece counts how often each resource is owned; the sum of two pieces is their sum at each resource
abbrev pub Piece : Type 0
Piece = Resource → ℕ

abbrev pub values_eq : List Value → List Value → Bool
values_eq xs ys = pointwise value_eq xs ys

abbrev pub same_resource : Resource → Resource → Bool
same_resource (Have k key v) (Have l other u) = kind_eq k l && (values_eq key other && values_eq v u)

-- one resource, once
unfoldable pub single : Resource → Piece
single one e = if same_resource e one then 1 else 0

-- how often the pieces below a number have a resource together
abbrev pub sum_below : ℕ → (ℕ → ℕ) → ℕ
sum_below zero counts = 0
sum_below (suc n) counts = counts n + sum_below n counts

-- the part of a piece whose kinds pass a test
abbrev pub part_of : (Kind → Bool) → Piece → Piece
part_of keep p (Have k key v) = if keep k then p (Have k key v) else 0

-- what a state tells: the value under a key, where there is such a thing
abbrev pub Telling : Type 0
Telling = Kind → List Value → Option (List Value)

-- each resource that is owned has the value that the state tells, and is owned no more often than its kind allows
pub record Fits (p : Piece) (tells : Telling) : Type 0 where
  pub says : (k : Kind) (key v : List Value) → 0 < p (Have k key v) → tells k key ≡ Some v
  pub few : (k : Kind) (key v : List Value) (n : ℕ) → most k ≡ Some n → p (Have k key v) ≤ n

-- nobody else has anything under this key: the piece has it as often as it may be owned; or the state told nothing there
abbrev pub IsHeldOrFresh : Piece → Telling → Kind → List Value → Type 0
IsHeldOrFresh p tells k key =
    ((v : List Value) × (n : ℕ) × (most k ≡ Some (suc n)) × (suc n ≤ p (Have k key v))) ⊎ (tells k key ≡ None)

-- a piece and what the state tells change at such keys alone, and the new piece fits
pub record Changes (old new : Piece) (before now : Telling) : Type 0 where
  pub state : (k : Kind) (key : List Value) → (now k key ≡ before k key) ⊎ IsHeldOrFresh old before k key
  pub piece : (k : Kind) (key v : List Value) → (new (Have k key v) ≤ old (Have k key v)) ⊎ IsHeldOrFresh old before k key
  pub fits : Fits new now
