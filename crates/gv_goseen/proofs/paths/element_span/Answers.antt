use Rattle.std.proofs.Common.{rules, ◌≡◌, ◌≤◌, ℕ, ◌+◌, ◌-◌, List, length, drop, sym, ap, ◌∙◌, arith}
use Rattle.std.specs.Prelude.{slice_range}
use Rattle.gv_gotypes.specs.Literals as literals
use Rattle.gv_goseen.proofs.Spans.{range_length, two_within, within_quotes, range_drop}
use Rattle.gv_goseen.proofs.paths.element_span.Goals as goal

pub returns : goal.returns
returns c =
    let text : List ℕ = c.args.text.now in
    let s : ℕ = c.args.token.start in
    let e : ℕ = c.end_within-end.result in
    let k : ℕ = c.element_start-start.result in
    let same : slice_range text s c.args.token.end ≡ slice_range text s e = c.end_within-end.ensures.same in
    let quoted : c.bytes_between-quoted.result.now ≡ slice_range text s e = search (rules, same) in
    let path : c.unquoted.result.now ≡ literals.unquoted (slice_range text s e) = c.unquoted.ensures ∙ ap literals.unquoted quoted in
    let two : s + 2 ≤ e = two_within text s e (omega (arith, c.if-quoted-lt2.false, ap length quoted)) in
    let within : e ≤ length text = c.end_within-end.ensures.within in
    let plain : literals.unquoted (slice_range text s e) ≡ slice_range text (s + 1) (e - 1) = within_quotes text s e two within in
    let inner : length (slice_range text (s + 1) (e - 1)) ≡ e - 1 - (s + 1) = range_length text (s + 1) (e - 1) (omega (arith, two)) (omega (arith, within)) in
    let few : k ≤ e - 1 - (s + 1) = omega (arith, c.element_start-start.ensures.within, ap length (path ∙ plain), inner) in
    sym (range_drop text (s + 1) (e - 1) k few)
    ∙ ap (drop k) (sym (path ∙ plain))
    ∙ c.element_start-start.ensures.element
    ∙ ap (λ (p : List ℕ). literals.last_element p p) path
    ∙ ap literals.element_of (sym same)
