use Rattle.std.proofs.Common.{refl, arith}
use Rattle.std.proofs.lemmas.Fmt.{decimal_digit}
use Rattle.gv_pointlines.specs.Worked.{Worked}

pub worked : Worked
worked =
    let d1 = decimal_digit 1 (omega arith) in
    let d2 = decimal_digit 2 (omega arith) in
    let d6 = decimal_digit 6 (omega arith) in
    record { adder = rw d1 (rw d2 (rw d6 refl)) }
