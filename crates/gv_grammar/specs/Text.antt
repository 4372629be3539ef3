-- Texts: lists of tokens that spell trees by a published grammar, with levels of nesting.
use Rattle.std.specs.Prelude.{◌≡◌, ℕ, ◌+◌, ◌<◌, ◌≤◌, nat_lt, length, take, map, List, [], ◌∷◌, ◌++◌, Option, Some, None, if◌then◌else◌}
use Rattle.gv_grammar.specs.declared.read_faults.ReadFault.{ReadFault}
use Rattle.gv_grammar.specs.declared.read_faults.ReadFault.TheVariants.{NoMemory, Refused, TooDeep, End}

-- A token that opens no level, or one that opens a level above this one.
pub data Placed (X : Type 0) : Type 0 where
  plain : X → Placed X
  opens : ℕ → X → Placed X

abbrev pub token_of : {X : Type 0} → Placed X → X
token_of (plain token) = token
token_of (opens level token) = token

abbrev pub tokens_of : {X : Type 0} → List (Placed X) → List X
tokens_of placed = map token_of placed

-- the first token that opens a level above the limit, where tokens are numbered from `at` on
abbrev pub first_above : {X : Type 0} → ℕ → ℕ → List (Placed X) → Option ℕ
first_above limit at [] = None
first_above limit at (plain token ∷ placed) = first_above limit (at + 1) placed
first_above limit at (opens level token ∷ placed) = if nat_lt level limit then first_above limit (at + 1) placed else Some at

module _ {X T : Type 0} (IsText : T → List (Placed X) → Type 0) where
  -- the tokens spell the tree, at whatever levels
  pub record Spells (tree : T) (tokens : List X) : Type 0 where
    pub placed : List (Placed X)
    pub same : tokens_of placed ≡ tokens
    pub derived : IsText tree placed

  -- some text begins so
  abbrev pub Begins : List X → Type 0
  Begins front = (tree : T) × (more : List X) × Spells tree (front ++ more)

  -- no text does
  abbrev pub BeginsNone : List X → Type 0
  BeginsNone front = (tree : T) (more : List X) → Spells tree (front ++ more) → ⊥

  -- the first token such that no text begins with the tokens up to it
  pub record IsRefused (tokens : List X) (at : ℕ) : Type 0 where
    pub within : at < length tokens
    pub begins : Begins (take at tokens)
    pub none : BeginsNone (take (at + 1) tokens)

  -- the tokens begin a text, and are none
  pub record IsUnfinished (tokens : List X) : Type 0 where
    pub begins : Begins tokens
    pub none : (tree : T) → Spells tree tokens → ⊥

  -- the longest front that a text begins with
  pub record IsLongestFront (tokens : List X) (len : ℕ) : Type 0 where
    pub within : len ≤ length tokens
    pub begins : Begins (take len tokens)
    pub none : len < length tokens → BeginsNone (take (len + 1) tokens)

  module _ (limit : ℕ) where
    -- in each text that begins so, this holds of the first token that opens a level above the limit
    abbrev pub EachBegins : List X → (Option ℕ → Type 0) → Type 0
    EachBegins front P = (tree : T) (more : List X) (s : Spells tree (front ++ more)) → P (first_above limit 0 s.placed)

    -- however it is spelled, no token opens a level above the limit
    abbrev pub IsWithin : T → List X → Type 0
    IsWithin tree tokens = (s : Spells tree tokens) → first_above limit 0 s.placed ≡ None

    -- The tokens up to this one, with the next where it takes that to tell, begin a text, and in each text that begins
    -- so this is the first token that opens a level above the limit.
    pub record IsTooDeep (tokens : List X) (at : ℕ) : Type 0 where
      pub end : ℕ
      pub past : at < end
      pub near : end ≤ at + 2
      pub within : end ≤ length tokens
      pub begins : Begins (take end tokens)
      pub each : EachBegins (take end tokens) (λ deep. deep ≡ Some at)

    -- no token is too deep
    abbrev pub IsShallow : List X → Type 0
    IsShallow tokens = (at : ℕ) → IsTooDeep tokens at → ⊥

    -- what a fault says of the tokens
    abbrev pub Says : List X → ReadFault → Type 0
    Says tokens NoMemory = Unit {0}
    Says tokens (Refused at) = IsRefused tokens at × IsShallow tokens
    Says tokens (TooDeep at) = IsTooDeep tokens at
    Says tokens End = IsUnfinished tokens × IsShallow tokens

    -- what a fault says of the longest front
    abbrev pub SaysOfFront : List X → ReadFault → Type 0
    SaysOfFront tokens NoMemory = Unit {0}
    SaysOfFront tokens (Refused at) = IsRefused tokens at × IsUnfinished (take at tokens) × IsShallow tokens
    SaysOfFront tokens (TooDeep at) = IsTooDeep tokens at
    SaysOfFront tokens End = IsUnfinished tokens × IsShallow tokens
