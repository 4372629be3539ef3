-- Lemmas on lists of items.
use Rattle.std.proofs.Common.{◌≡◌, ℕ, ◌+◌, ◌-◌, min, List, length, take, drop, sym, ap, ◌∙◌, arith, length-take}
use Rattle.std.proofs.lemmas.List.{take_min, drop_min, drop-take}

-- the range that stays within the list
pub part_is : {X : Type 0} (xs : List X) (a b to from : ℕ) → to ≡ min b (length xs) → from ≡ min a to → take (to - from) (drop from xs) ≡ drop a (take b xs)
part_is xs a b to from e f =
    let same : take to xs ≡ take b xs = ap (λ n. take n xs) e ∙ take_min b xs in
    let long : length (take to xs) ≡ to = omega (arith, length-take to xs) in
    let sum : from + (to - from) ≡ to = omega arith in
    let cut : drop from (take to xs) ≡ take (to - from) (drop from xs) = ap (λ n. drop from (take n xs)) (sym sum) ∙ drop-take from (to - from) xs in
    let start : drop from (take to xs) ≡ drop a (take to xs) = ap (λ n. drop n (take to xs)) (f ∙ ap (λ n. min a n) (sym long)) ∙ drop_min a (take to xs) in
    sym cut ∙ start ∙ ap (λ l. drop a l) same
