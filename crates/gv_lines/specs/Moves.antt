-- The lines of moves, as they are printed and as they are read.
use Rattle.std.specs.Prelude.{ℕ, List, [], ◌∷◌, ◌++◌, codes}
use Rattle.std.specs.Fmt.{decimal}
use Rattle.gv_atomic.specs.declared.spec.Spec.{Spec}
use Rattle.gv_spec.specs.declared.explanation.Move.{Move}
use Rattle.gv_spec.specs.declared.explanation.Move.TheVariants as move
use Rattle.gv_lines.specs.Lines.{entry_line}

-- choices, each with a space before it
abbrev pub choices_text : List ℕ → List ℕ
choices_text [] = []
choices_text (c ∷ choices) = (codes " " ++ decimal c) ++ choices_text choices

abbrev pub move_line : Spec → Move → List ℕ
move_line s (move.Act number choices) = codes "act " ++ decimal number ++ choices_text choices
move_line s (move.Boot choices) = codes "boot" ++ choices_text choices
move_line s (move.Other e) = entry_line s e

abbrev pub move_lines : Spec → List Move → List (List ℕ)
move_lines s [] = []
move_lines s (m ∷ moves) = move_line s m ∷ move_lines s moves
