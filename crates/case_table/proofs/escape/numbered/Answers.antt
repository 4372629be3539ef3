use Rattle.std.proofs.Common.{◌+◌, ◌-◌, ◌*◌, ◌∷◌, length, take, drop, sym, ap₂, subst}
use Rattle.case_table.specs.Escapes.{Begins}
use Rattle.case_table.proofs.EscapeLemmas.{numbered_first}
use Rattle.case_table.proofs.escape.numbered.Goals as goal

pub returns : goal.returns
returns c =
    let digits = c.args.digits.now in
    subst (λ byte. Begins (120 ∷ digits) byte (take (length digits - 2) (drop 2 digits)))
    (sym (ap₂ (λ high low. 16 * high + low) c.in_ok-high.ensures.value c.in_ok-low.ensures.value))
    (numbered_first digits c.in-len2-up.len_at_least c.in_ok-high.ensures.small c.in_ok-low.ensures.small)
