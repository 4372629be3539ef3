-- One more choice, and one more move, of what is printed.
use Rattle.std.proofs.Common.{◌≡◌, ℕ, ◌+◌, ◌<◌, List, [], ◌∷◌, ◌++◌, length, take, get_or, refl, sym, ap, ◌∙◌, append_assoc}
use Rattle.std.specs.Prelude.{codes}
use Rattle.std.specs.Fmt.{decimal}
use Rattle.std.proofs.lemmas.List.{append-nil, take_more}
use Rattle.gv_atomic.specs.declared.spec.Spec.{Spec}
use Rattle.gv_spec.specs.declared.explanation.Move.{Move}
use Rattle.gv_lines.specs.Moves.{choices_text, move_line, move_lines}
use Rattle.gv_lines.proofs.LineLemmas.{front_next, appended}

choices_more : (cs : List ℕ) (c : ℕ) → choices_text (cs ++ c ∷ []) ≡ choices_text cs ++ (codes " " ++ decimal c)
choices_more [] c = append-nil (codes " " ++ decimal c)
choices_more (d ∷ cs) c =
    ap (λ (t : List ℕ). (codes " " ++ decimal d) ++ t) (choices_more cs c)
    ∙ sym (append_assoc (codes " " ++ decimal d) (choices_text cs) (codes " " ++ decimal c))

pub choices_next : (start out new : List ℕ) (cs : List ℕ) (i d : ℕ) → i < length cs → out ≡ start ++ choices_text (take i cs)
    → new ≡ out ++ (codes " " ++ decimal (get_or cs i d)) → new ≡ start ++ choices_text (take (i + 1) cs)
choices_next start out new cs i d h so more =
    appended start out new (choices_text (take i cs)) (codes " " ++ decimal (get_or cs i d)) (choices_text (take (i + 1) cs)) so more
    (ap choices_text (take_more cs i d h) ∙ choices_more (take i cs) (get_or cs i d))

moves_more : (s : Spec) (ms : List Move) (m : Move) → move_lines s (ms ++ m ∷ []) ≡ move_lines s ms ++ move_line s m ∷ []
moves_more s [] m = refl
moves_more s (n ∷ ms) m = ap (λ (ls : List (List ℕ)). move_line s n ∷ ls) (moves_more s ms m)

pub moves_next : (s : Spec) (ms : List Move) (i : ℕ) (m : Move) → i < length ms → m ≡ get_or ms i m
    → move_lines s (take (i + 1) ms) ≡ move_lines s (take i ms) ++ move_line s m ∷ []
moves_next s ms i m h is = ap (move_lines s) (front_next ms i m h is) ∙ moves_more s (take i ms) m
