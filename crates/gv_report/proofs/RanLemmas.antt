-- Lines one after another.
use Rattle.std.proofs.Common.{◌≡◌, ℕ, ◌+◌, ◌<◌, List, [], ◌∷◌, ◌++◌, length, take, get_or, refl, sym, ap, ◌∙◌, append_assoc}
use Rattle.std.proofs.lemmas.List.{take_more}
use Rattle.gv_report.specs.Report.{joined}

pub joined_more : (lines : List (List ℕ)) (line : List ℕ) → joined (lines ++ line ∷ []) ≡ joined lines ++ (line ++ 10 ∷ [])
joined_more [] line = refl
joined_more (first ∷ lines) line =
    ap (λ (v : List ℕ). first ++ 10 ∷ v) (joined_more lines line) ∙ sym (append_assoc first (10 ∷ joined lines) (line ++ 10 ∷ []))

pub joined_next : (text new : List ℕ) (lines : List (List ℕ)) (i : ℕ) (line : List ℕ) → i < length lines → line ≡ get_or lines i line → text ≡ joined (take i lines)
    → new ≡ text ++ (line ++ 10 ∷ []) → new ≡ joined (take (i + 1) lines)
joined_next text new lines i line h is so more =
    more ∙ ap (λ (v : List ℕ). v ++ (line ++ 10 ∷ [])) so ∙ sym (joined_more (take i lines) line)
    ∙ ap joined (ap (λ (v : List ℕ). take i lines ++ v ∷ []) is ∙ sym (take_more lines i line h))

-- the text of lines, and one behind them
pub joined_last : (text new : List ℕ) (lines : List (List ℕ)) (line : List ℕ) → text ≡ joined lines → new ≡ text ++ (line ++ 10 ∷ []) → new ≡ joined (lines ++ line ∷ [])
joined_last text new lines line so more = more ∙ ap (λ (v : List ℕ). v ++ (line ++ 10 ∷ [])) so ∙ sym (joined_more lines line)
