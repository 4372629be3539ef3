-- Which tokens texts of lines begin with, and the first token that none does.
use Rattle.std.specs.Prelude.{◌≡◌, ℕ, List, [], ◌∷◌, ◌++◌}
use Rattle.gv_base.specs.declared.answers.Code.{Code}
use Rattle.gv_base.specs.declared.answers.Code.TheVariants as codes
use Rattle.gv_replay.specs.declared.line.Line.{Line}
use Rattle.gv_replay.specs.declared.line.TextKind.{TextKind}
use Rattle.gv_replay.specs.declared.sight.Sight.{Sight}
use Rattle.gv_replay.specs.Sights.{code_of}
use Rattle.gv_replay.specs.Spelling.{AreLines}

-- some lines begin with these tokens
pub record IsBeginning (kind : TextKind) (front : List Sight) : Type 0 where
  pub more : List Sight
  pub lines : List Line
  pub spelled : AreLines kind (front ++ more) lines

-- The grammar's fault: the first token such that no lines begin with the tokens up to it, or the end of a text whose tokens
-- begin lines and are none.
pub data IsMisplaced (kind : TextKind) (end : ℕ) (ss : List Sight) (at : ℕ) (code : Code) : Type 0 where
  token : (front : List Sight) (s : Sight) (rest : List Sight) → ss ≡ front ++ s ∷ rest → IsBeginning kind front → (IsBeginning kind (front ++ s ∷ []) → ⊥)
      → at ≡ s.at → code ≡ code_of s.what → IsMisplaced kind end ss at code
  unfinished : IsBeginning kind ss → ((lines : List Line) → AreLines kind ss lines → ⊥) → at ≡ end → code ≡ codes.EndOfText → IsMisplaced kind end ss at code
