-- Operands that may be left alone.
use Rattle.std.specs.Prelude.{◌≡◌, ℕ, List, [], ◌∷◌, ◌++◌, length}
use Rattle.gv_lang.specs.declared.cmd.Cmd.{Cmd}
use Rattle.gv_lang.specs.declared.program.LocalKind.TheVariants as kind
use Rattle.gv_lowering.specs.Operands.{Read}
use Rattle.gv_lowerops.specs.declared.draft.Draft.{Draft}

-- A block begins behind a draft, with a temporary set aside: the commands before the block, how many temporaries are in use there, and
-- the block.
pub record IsSetAside (draft : Draft) (cs : List Cmd) (n : ℕ) (block : Draft) : Type 0 where
  pub before : cs ≡ draft.cmds.items
  pub used : n ≡ length draft.temps.items
  pub cmds : block.cmds.items ≡ []
  pub temps : block.temps.items ≡ draft.temps.items ++ kind.Bool ∷ []

-- What is made behind m temporaries uses none of its own, and is made so behind any number.
pub record IsSteadyAt (s : ℕ → Read) (m : ℕ) : Type 0 where
  pub temps : (s m).temps ≡ []
  pub same : (k : ℕ) → s k ≡ s m

-- What reads nothing has no temporaries.
abbrev pub IsSteady : (ℕ → Read) → Type 0
IsSteady s = (m : ℕ) → (s m).cmds ≡ [] → IsSteadyAt s m
