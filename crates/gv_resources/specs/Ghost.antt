-- What is kept beside a machine's state to say who owns what: the explanation so far, and what neither the heap nor the disks tell.
use Rattle.std.specs.Prelude.{ℕ, Bool, List, Option}
use Rattle.gv_terms.specs.declared.value.Value.{Value}
use Rattle.gv_spec.specs.Entry.{Entry}
use Rattle.gv_spec.specs.Move.{Move}
use Rattle.gv_spec.specs.Walks.{WalkState}

-- whether recovery owns all that survived a crash, or shares it, or is about to
pub data Mode : Type 0 where
  Owned : Mode
  Sharing : Mode
  Shared : Mode

pub record Ghost : Type 0 where
  -- the history so far, the explanation of it, and where that one's walk stands
  pub history : List (Entry Value)
  pub moves : List (Move Value)
  pub walk : WalkState (List Value) Value
  -- the reply of each call that has acted, also of one that has left the table
  pub kept : ℕ → Option Value
  -- what the cells of the proof's books hold
  pub book : (book place : ℕ) → Value
  -- the value of the two halves under a name; a name that is as long as this or longer has none
  pub halves : List ℕ → Option Value
  pub named : ℕ
  -- which cells are read-only, and the cells of which objects are a slice's
  pub frozen : (object place : ℕ) → Bool
  pub sliced : ℕ → Bool
  -- what a mutex guards: the number of a predicate, and its arguments
  pub guards : ℕ → Option (ℕ × List Value)
  -- the blocks of each disk, as they would be had it not failed
  pub shadow : ℕ → List (List ℕ)
  pub mode : Mode
  -- whether recovery has returned since the last crash
  pub booted : Bool
  -- how many calls there were; how many at the last crash, which have no thread; and how many when recovery shared last, which have no token
  pub calls : ℕ
  pub since : ℕ
  pub gone : ℕ
