-- The only line of a report.
use Rattle.std.proofs.Common.{◌≡◌, ℕ, ◌+◌, ◌-◌, List, [], ◌∷◌, length, take, refl, ap, ◌∙◌, arith, length-append}
use Rattle.std.proofs.Math.Seq.{take-append_seam}
use Rattle.gv_report.specs.declared.report.Report.{Report}
use Rattle.gv_report.specs.declared.report.Report.TheVariants as report
use Rattle.gv_report.specs.declared.ran.Ran as held_ran
use Rattle.gv_report.specs.Report.{joined, lines_of}

-- it is the text without its last byte
pub without_newline : (lines : List (List ℕ)) (text rest : List ℕ) (n : ℕ) → length lines ≡ 1 → text ≡ joined lines → n ≡ length text → rest ≡ take (n - 1) text → rest ∷ [] ≡ lines
without_newline [] text rest n h is long front = absurd (let l : 0 ≡ 1 = h in omega (arith, l))
without_newline (line ∷ []) text rest n h is long front =
    let end : List ℕ = 10 ∷ [] in
    let size : length text ≡ length line + length end = ap length is ∙ length-append line end in
    let cut : n - 1 ≡ length line = omega (arith, size, long) in
    ap (λ l. l ∷ []) (front ∙ ap (λ k. take k text) cut ∙ ap (λ (v : List ℕ). take (length line) v) is ∙ take-append_seam line end)
without_newline (line ∷ next ∷ lines) text rest n h is long front = absurd (let l : length (line ∷ next ∷ lines) ≡ 1 = h in omega (arith, l))

pub one_line_else : (r : Report) → ((ran : held_ran.Ran) → r ≡ report.Ran ran → ⊥) → ((lines : List (List ℕ)) → r ≡ report.Moves lines → ⊥)
    → ((lines : List (List ℕ)) → r ≡ report.Points lines → ⊥) → length (lines_of r) ≡ 1
one_line_else (report.Ran ran) h k m = absurd (h ran refl)
one_line_else (report.Moves lines) h k m = absurd (k lines refl)
one_line_else (report.Points lines) h k m = absurd (m lines refl)
one_line_else _ h k m = refl
