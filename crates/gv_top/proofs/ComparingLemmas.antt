-- Lists beside each other, up to a place where they differ.
use Rattle.std.proofs.Common.{◌≡◌, ℕ, zero, suc, ◌+◌, ◌<◌, List, [], ◌∷◌, ◌++◌, length, take, drop, get_or, refl, sym, ap, subst, ◌∙◌, arith, append_assoc}
use Rattle.std.specs.Prelude.{map, Bool, true, false, IsTrue, ◌↔◌}
use Rattle.gv_small.proofs.Cuts.{false_true}
use Rattle.std.proofs.lemmas.List.{take_more, take-append-drop, length-take-le}
use Rattle.std.proofs.lemmas.Option.{slice_get_read}
use Rattle.gv_base.specs.declared.small.SmallOp.{SmallOp}
use Rattle.gv_top.specs.declared.small_script.SmallBlock.{SmallBlock}
use Rattle.gv_top.specs.Comparing.{SameSum, AllSameSums, IsFirstDifference}

-- what two equal lists of values have at one place
pub at_both : {A B C : Type 0} (f : A → C) (g : B → C) (xs : List A) (ys : List B) (i : ℕ) (a : A) (b : B) → i < length xs → i < length ys → a ≡ get_or xs i a → map f xs ≡ map g ys → f a ≡ g (get_or ys i b)
at_both f g [] ys i a b h k p e = absurd (let l : i < 0 = h in omega (arith, l))
at_both f g (x ∷ xs) [] i a b h k p e = absurd (let l : i < 0 = k in omega (arith, l))
at_both f g (x ∷ xs) (y ∷ ys) zero a b h k p e = let heads : f x ≡ g y = cc in ap f p ∙ heads
at_both f g (x ∷ xs) (y ∷ ys) (suc i) a b h k p e =
    let tails : map f xs ≡ map g ys = cc in
    let l : suc i < suc (length xs) = h in
    let m : suc i < suc (length ys) = k in
    at_both f g xs ys i a b (omega (arith, l)) (omega (arith, m)) p tails

-- a list cut at a place
pub cut_at : {A : Type 0} (xs : List A) (i : ℕ) (a : A) → i < length xs → a ≡ get_or xs i a → xs ≡ take i xs ++ a ∷ drop (i + 1) xs
cut_at xs i a h e =
    sym (take-append-drop (i + 1) xs) ∙ ap (λ (ys : List _). ys ++ drop (i + 1) xs) (take_more xs i a h) ∙ append_assoc (take i xs) (get_or xs i a ∷ []) (drop (i + 1) xs) ∙ ap (λ x. take i xs ++ x ∷ drop (i + 1) xs) (sym e)

pub first_difference : (ops others : List SmallOp) (blocks : List SmallBlock) (i : ℕ) (op other : SmallOp) (block : SmallBlock) → i < length ops → i < length others → i < length blocks →
    op ≡ get_or ops i op → other ≡ get_or others i other → block ≡ get_or blocks i block → AllSameSums (take i ops) (take i others) → (SameSum op other → ⊥) → IsFirstDifference ops others blocks block.step
first_difference ops others blocks i op other block h k l p q r same differs = record {
  prefix = take i ops;
  op = op;
  after = drop (i + 1) ops;
  other_prefix = take i others;
  other = other;
  other_after = drop (i + 1) others;
  block = block;
  ops_are = cut_at ops i op h p;
  others_are = cut_at others i other k q;
  there = slice_get_read blocks (length blocks) (length (take i ops)) block refl (let e = length-take-le i ops (omega (arith, h)) in omega (arith, e, l)) (r ∙ ap (λ n. get_or blocks n block) (sym (length-take-le i ops (omega (arith, h)))));
  before = same;
  differs = differs;
  place_is = refl;
}

-- where a test of a part fails, the whole is not
pub not_then : (P Q : Type 0) (b : Bool) → IsTrue b ↔ P → b ≡ false → (Q → P) → IsTrue false ↔ Q
not_then P Q true h e f = absurd cc
not_then P Q false h e f = (λ t. absurd (false_true t), λ q. h.1 (f q))

-- the same as the loop meets it
pub first_difference_at : (ops others : List SmallOp) (blocks : List SmallBlock) (i : ℕ) (op other : SmallOp) (block : SmallBlock) (same : Bool) → i < length ops → i < length others → i < length blocks →
    op ≡ get_or ops i op → other ≡ get_or others i other → block ≡ get_or blocks i block → AllSameSums (take i ops) (take i others) → IsTrue same ↔ SameSum op other → same ≡ false →
    IsFirstDifference ops others blocks (get_or blocks i block).step
first_difference_at ops others blocks i op other block same h k l p q r before test e =
    let differs : SameSum op other → ⊥ = (λ s. let t : IsTrue same = test.1 s in absurd (false_true (sym e ∙ t))) in
    subst (λ b. IsFirstDifference ops others blocks b.step) r (first_difference ops others blocks i op other block h k l p q r before differs)
