-- Atoms that are numbered, and one more.
use Rattle.std.proofs.Common.{◌≡◌, ℕ, suc, ◌+◌, List, [], ◌∷◌, ◌++◌, length, refl, arith, ap, ◌∙◌, subst}
use Rattle.gv_terms.specs.declared.term.Term.{Term}
use Rattle.gv_commands.specs.declared.atom.Atom.{Atom}
use Rattle.gv_asserts.specs.declared.stamped.Stamped.{Stamped}
use Rattle.gv_asserts.specs.Stamps.{Ascend, numbered}

pub ascend_more : (low high : ℕ) (items : List Stamped) (a : Atom Term) → Ascend low high items
    → Ascend low (high + 1) (items ++ (record { stamp = high + 1; atom = a }) ∷ [])
ascend_more low high [] a l = (omega (arith, l), omega arith)
ascend_more low high (s ∷ items) a asc = (asc.0, ascend_more s.stamp high items a asc.1)

pub ascend_numbered : (n : ℕ) (items : List Stamped) → Ascend n (n + length items) (numbered (suc n) items)
ascend_numbered n [] = omega arith
ascend_numbered n (s ∷ items) =
    (omega arith, subst (λ m. Ascend (suc n) m (numbered (suc (suc n)) items)) (omega arith) (ascend_numbered (suc n) items))

pub numbered_more : (n : ℕ) (items : List Stamped) (k : ℕ) (a : Atom Term)
    → numbered n (items ++ (record { stamp = k; atom = a }) ∷ []) ≡ numbered n items ++ (record { stamp = n + length items; atom = a }) ∷ []
numbered_more n [] k a = ap (λ m. (record { stamp = m; atom = a }) ∷ []) (omega arith)
numbered_more n (s ∷ items) k a =
    ap (λ (ss : List Stamped). record s { stamp = n } ∷ ss)
    (numbered_more (suc n) items k a ∙ ap (λ m. numbered (suc n) items ++ (record { stamp = m; atom = a }) ∷ []) (omega arith))

pub as_many : (n : ℕ) (items : List Stamped) → length (numbered n items) ≡ length items
as_many n [] = refl
as_many n (s ∷ items) = ap suc (as_many (suc n) items)

-- all numbered from 1, and one more
pub anew : (items : List Stamped) (a : Atom Term) → Ascend 0 (length items + 1) (numbered 1 items ++ (record { stamp = length items + 1; atom = a }) ∷ [])
anew items a = ascend_more 0 (length items) (numbered 1 items) a (subst (λ m. Ascend 0 m (numbered 1 items)) (omega arith) (ascend_numbered 0 items))
