use Rattle.std.proofs.Common.{sym, ◌∙◌, arith, refl}
use Rattle.std.proofs.lemmas.Grind.{common_steps}
use Rattle.gv_small.proofs.NumberLemmas.{one_more_digit, too_large}
use Rattle.gv_small.proofs.part.value_of.Goals as goal

pub returns-in_err-value : goal.returns-in_err-value
returns-in_err-value c =
    let i = c.loop-byte.byte-index in
    c.from_residual.ensures ∙ sym (too_large c.args.word.now i c.loop-byte.value c.from-digit.result c.requires (grind (arith, common_steps)) c.loop-byte.invariant.value c.from-digit.ensures c.in_err-value.ensures.none)

pub loop-byte-preserved : goal.loop-byte-preserved
loop-byte-preserved c =
    let i = c.loop-byte.byte-index in
    record {
      value = c.in_ok-value.ensures.some ∙ one_more_digit c.args.word.now i c.loop-byte.value c.from-digit.result c.requires (grind (arith, common_steps)) c.loop-byte.invariant.value c.from-digit.ensures;
      fits = c.in_ok-value.ensures.fits;
    }
