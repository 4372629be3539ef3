-- The number that a word tells.
use Rattle.std.proofs.Common.{◌≡◌, ℕ, ◌^◌, ◌<◌, true, false, List, Result, Ok, Err, subst, arith}
use Rattle.std.specs.Prelude.{not}
use Rattle.std.specs.Str.{bytes_eq}
use Rattle.std.specs.Str.Parse.{ParsesUnsigned}
use Rattle.std.proofs.lemmas.Fmt.{parse-decimal}
use Rattle.std.proofs.lemmas.Slice.Eq.{bytes_eq-Decides}
use Rattle.gv_top.specs.Judge.{IsMost}

-- a word that tells a number of nodes is read as that number
pub told_most : {E : Type 0} (word : List ℕ) (r : Result ℕ E) → ParsesUnsigned 64 10 word r → (most : ℕ) → IsMost word most → r ≡ Ok most
told_most word r parsed most h =
    let few = h.within.few in
    let small : most < 2 ^ 64 = omega (arith, few) in
    parse-decimal 64 most word r small small h.spelled parsed

pub never_both : {E : Type 0} (r : Result ℕ E) (e : E) (n : ℕ) → r ≡ Err e → r ≡ Ok n → ⊥
never_both r e n h k = cc

pub same_number : {E : Type 0} (r : Result ℕ E) (m n : ℕ) → r ≡ Ok m → r ≡ Ok n → m ≡ n
same_number r m n h k = cc

-- texts that are one are not told to differ
pub never_other : (xs ys : List ℕ) → xs ≡ ys → true ≡ not (bytes_eq xs ys) → ⊥
never_other xs ys e n =
    let same : bytes_eq xs ys ≡ true = (bytes_eq-Decides xs ys).1 e in
    let clash : true ≡ false = subst (λ b. true ≡ not b) same n in
    cc
