-- What a command changes of the record that is kept beside a state.
use Rattle.std.specs.Prelude.{◌≡◌, ◌≢◌, ℕ, List, [], ◌∷◌, ◌++◌, slice_get}
use Rattle.gv_terms.specs.declared.value.Env.{Env}
use Rattle.gv_terms.specs.declared.value.Value.{Value}
use Rattle.gv_spec.specs.Move.{Move, Act}
use Rattle.gv_resources.specs.Ghost.{Ghost}

-- What is kept of objects (which are slices, which cells are read-only, what mutexes guard) any command may change. Besides:
pub data Change : Type 0 where
  -- nothing
  Nothing : Change
  -- the call under a number acts, under choices
  Acts : (call : ℕ) → (choices : List ℕ) → Change
  -- a cell of a book
  SetsBook : (book place : ℕ) → Change
  -- new halves, or the value of two
  SetsHalves : Change
  -- a block as a disk would have it that has failed
  SetsBlock : (disk address : ℕ) → Change
  -- recovery shares what it owns
  Shares : Change

-- of a command that changes nothing, whatever the values of its path
abbrev pub changes_nothing : Env → Change
changes_nothing env = Nothing

-- the explanation, longer by the act
abbrev pub with_act : Change → List (Move Value) → List (Move Value)
with_act (Acts call choices) moves = moves ++ Act call choices ∷ []
with_act _ moves = moves

-- the one record is the other but for what a change names
pub record Changed (c : Change) (g after : Ghost) : Type 0 where
  pub history : after.history ≡ g.history
  pub moves : after.moves ≡ with_act c g.moves
  pub walk : ((call : ℕ) (choices : List ℕ) → c ≢ Acts call choices) → after.walk ≡ g.walk
  pub kept : (call : ℕ) → ((choices : List ℕ) → c ≢ Acts call choices) → after.kept call ≡ g.kept call
  pub book : (book place : ℕ) → c ≢ SetsBook book place → after.book book place ≡ g.book book place
  pub halves : c ≢ SetsHalves → after.halves ≡ g.halves
  pub named : c ≢ SetsHalves → after.named ≡ g.named
  pub shadow : (disk address : ℕ) → c ≢ SetsBlock disk address → slice_get (after.shadow disk) address ≡ slice_get (g.shadow disk) address
  pub mode : c ≢ Shares → after.mode ≡ g.mode
  pub booted : after.booted ≡ g.booted
  pub calls : after.calls ≡ g.calls
  pub since : after.since ≡ g.since
  pub gone : after.gone ≡ g.gone
