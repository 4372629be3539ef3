-- The first operation whose Sums differ is one.
use Rattle.std.proofs.Common.{◌≡◌, ℕ, zero, suc, ◌<◌, List, [], ◌∷◌, ◌++◌, length, get_or, Some, refl, sym, ap, ◌∙◌, arith}
use Rattle.std.specs.Prelude.{map, slice_get}
use Rattle.std.proofs.lemmas.Grind.{common_steps}
use Rattle.gv_base.specs.declared.answers.Place.{Place}
use Rattle.gv_base.specs.declared.small.Small.{Small}
use Rattle.gv_base.specs.declared.small.SmallOp.{SmallOp}
use Rattle.gv_top.specs.Check.{Compares}
use Rattle.gv_top.specs.Comparing.{AllSameSums, IsFirstDifference}
use Rattle.gv_top.specs.declared.check.Verdict.{Verdict}
use Rattle.gv_top.specs.declared.check.Verdict.TheVariants.{Unjustified, AcceptedWithoutCrash}
use Rattle.gv_top.specs.declared.small_script.SmallBlock.{SmallBlock}
use Rattle.gv_top.specs.declared.small_script.SmallScript.{SmallScript}
use Rattle.gv_top.proofs.ComparingLemmas.{at_both}

some_same : {A : Type 0} (x y : A) → Some x ≡ Some y → x ≡ y
some_same x y e = cc

at_split : {A C : Type 0} (f : A → C) (xs ys : List A) (a b : A) (more others : List A) → map f xs ≡ map f ys → map f (xs ++ a ∷ more) ≡ map f (ys ++ b ∷ others) → f a ≡ f b
at_split f [] [] a b more others h e = cc
at_split f [] (y ∷ ys) a b more others h e = absurd cc
at_split f (x ∷ xs) [] a b more others h e = absurd cc
at_split f (x ∷ xs) (y ∷ ys) a b more others h e = at_split f xs ys a b more others (cc) (cc)

no_difference : (ops others : List SmallOp) (blocks : List SmallBlock) (place : Place) → IsFirstDifference ops others blocks place → AllSameSums ops others → ⊥
no_difference ops others blocks place d s =
    d.differs (
      at_split (λ op. op.first) d.prefix d.other_prefix d.op d.other d.after d.other_after d.before.0 (ap (map (λ op. op.first)) (sym d.ops_are) ∙ s.0 ∙ ap (map (λ op. op.first)) d.others_are),
      at_split (λ op. op.rest) d.prefix d.other_prefix d.op d.other d.after d.other_after d.before.1 (ap (map (λ op. op.rest)) (sym d.ops_are) ∙ s.1 ∙ ap (map (λ op. op.rest)) d.others_are),
    )

map_length : {A C : Type 0} (f : A → C) (xs ys : List A) → map f xs ≡ map f ys → length xs ≡ length ys
map_length f [] [] e = refl
map_length f [] (y ∷ ys) e = absurd cc
map_length f (x ∷ xs) [] e = absurd cc
map_length f (x ∷ xs) (y ∷ ys) e = ap suc (map_length f xs ys (cc))

-- what stands behind a prefix, and within a longer one
get_behind : {A : Type 0} (xs : List A) (a : A) (more : List A) (d : A) → get_or (xs ++ a ∷ more) (length xs) d ≡ a
get_behind [] a more d = refl
get_behind (x ∷ xs) a more d = get_behind xs a more d

get_within : {A : Type 0} (xs more : List A) (i : ℕ) (d : A) → i < length xs → get_or (xs ++ more) i d ≡ get_or xs i d
get_within [] more i d h = absurd (let l : i < 0 = h in omega (arith, l))
get_within (x ∷ xs) more zero d h = refl
get_within (x ∷ xs) more (suc i) d h = get_within xs more i d (let l : suc i < suc (length xs) = h in omega (arith, l))

not_before : (ops others : List SmallOp) (blocks : List SmallBlock) (p q : Place) (d : IsFirstDifference ops others blocks p) (e : IsFirstDifference ops others blocks q) → length d.prefix < length e.prefix → ⊥
not_before ops others blocks p q d e h =
    let i = length d.prefix in
    let n1 : length d.other_prefix ≡ i = sym (map_length (λ op. op.first) d.prefix d.other_prefix d.before.0) in
    let n2 : length e.other_prefix ≡ length e.prefix = sym (map_length (λ op. op.first) e.prefix e.other_prefix e.before.0) in
    let k : i < length e.other_prefix = omega (arith, h, n2) in
    let op_is : d.op ≡ get_or e.prefix i d.op = sym (get_behind d.prefix d.op d.after d.op) ∙ ap (λ (xs : List SmallOp). get_or xs i d.op) (sym d.ops_are ∙ e.ops_are) ∙ get_within e.prefix (e.op ∷ e.after) i d.op h in
    let other_is : d.other ≡ get_or e.other_prefix i d.other =
    sym (get_behind d.other_prefix d.other d.other_after d.other) ∙ ap (λ n. get_or (d.other_prefix ++ d.other ∷ d.other_after) n d.other) n1 ∙ ap (λ (xs : List SmallOp). get_or xs i d.other) (sym d.others_are ∙ e.others_are)
    ∙ get_within e.other_prefix (e.other ∷ e.other_after) i d.other k in
    d.differs (
      at_both (λ op. op.first) (λ op. op.first) e.prefix e.other_prefix i d.op d.other h k op_is e.before.0 ∙ ap (λ op. op.first) (sym other_is),
      at_both (λ op. op.rest) (λ op. op.rest) e.prefix e.other_prefix i d.op d.other h k op_is e.before.1 ∙ ap (λ op. op.rest) (sym other_is),
    )

difference_same : (ops others : List SmallOp) (blocks : List SmallBlock) (p q : Place) → IsFirstDifference ops others blocks p → IsFirstDifference ops others blocks q → p ≡ q
difference_same ops others blocks p q d e =
    let a = not_before ops others blocks p q d e in
    let b = not_before ops others blocks q p e d in
    let same : length d.prefix ≡ length e.prefix = equal (length d.prefix) (length e.prefix) a b in
    let block_is : d.block ≡ e.block = some_same d.block e.block (sym d.there ∙ ap (slice_get blocks) same ∙ e.there) in
    sym d.place_is ∙ ap (λ x. x.step) block_is ∙ e.place_is
  where
    equal : (m n : ℕ) → (m < n → ⊥) → (n < m → ⊥) → m ≡ n
    equal m n a b = grind (arith, common_steps)

-- ---- one verdict

pub compares_same : (program small : Small) (script : SmallScript) (v w : Verdict) → Compares program small script v → Compares program small script w → v ≡ w
compares_same program small script (Unjustified p c) (Unjustified q d) h k =
    ap (λ x. Unjustified p x) (h.0 ∙ sym k.0) ∙ ap (λ x. Unjustified x d) (difference_same program.ops small.ops script.ops p q h.1 k.1)
compares_same program small script (Unjustified p c) AcceptedWithoutCrash h k = absurd (no_difference program.ops small.ops script.ops p h.1 k)
compares_same program small script AcceptedWithoutCrash (Unjustified q d) h k = absurd (no_difference program.ops small.ops script.ops q k.1 h)
compares_same program small script AcceptedWithoutCrash AcceptedWithoutCrash h k = refl
