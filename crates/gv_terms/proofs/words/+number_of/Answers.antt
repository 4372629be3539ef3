use Rattle.std.proofs.Common.{arith}
use Rattle.gv_terms.proofs.WordBytes.{rest_below}
use Rattle.gv_terms.proofs.words.+number_of.Goals as goal

pub overflow_mul-result : goal.overflow_mul-result
overflow_mul-result t c =
    omega (arith, c.number_of.ensures, rest_below c.args.bytes.now c.requires (λ k. omega (arith, c.type_inv.bytes k)))

pub overflow_add-result : goal.overflow_add-result
overflow_add-result t c =
    omega (arith, c.number_of.ensures, c.from.ensures, c.type_inv.bytes 0, rest_below c.args.bytes.now c.requires (λ k. omega (arith, c.type_inv.bytes k)))
