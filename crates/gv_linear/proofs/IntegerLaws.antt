-- Products of whole numbers over sums.
use Rattle.std.proofs.Common.{◌≡◌, sym, ap, subst, ◌∙◌, arith}
use Rattle.std.proofs.Math.IntN.{ℤ, pos, negsuc, ◌+ℤ◌, ◌*ℤ◌, neg_ℤ, suc_ℤ, pred_ℤ, ℤ_ind, suc_ℤ-*ℤ, pred_ℤ-*ℤ, zero-*ℤ, *ℤ_comm, +ℤ_one, -ℤ_one, pos-*ℤ-pos}
use Rattle.std.specs.Prelude.{◌≤ℤ◌}
use Rattle.std.proofs.lemmas.Int.{ints}

pub spread : (a b c : ℤ) → a *ℤ (b +ℤ c) ≡ (a *ℤ b) +ℤ (a *ℤ c)
spread a b c = ℤ_ind (λ a. a *ℤ (b +ℤ c) ≡ (a *ℤ b) +ℤ (a *ℤ c)) (omega (arith, ints, zero-*ℤ (b +ℤ c), zero-*ℤ b, zero-*ℤ c)) (λ n h. rw (+ℤ_one (pos n)) (omega (arith, ints, h, suc_ℤ-*ℤ (pos n) (b +ℤ c), suc_ℤ-*ℤ (pos n) b, suc_ℤ-*ℤ (pos n) c))) (λ n h. rw (-ℤ_one (neg_ℤ (pos n))) (omega (arith, ints, h, pred_ℤ-*ℤ (neg_ℤ (pos n)) (b +ℤ c), pred_ℤ-*ℤ (neg_ℤ (pos n)) b, pred_ℤ-*ℤ (neg_ℤ (pos n)) c))) a

pub spread_right : (a b c : ℤ) → (a +ℤ b) *ℤ c ≡ (a *ℤ c) +ℤ (b *ℤ c)
spread_right a b c = *ℤ_comm (a +ℤ b) c ∙ spread c a b ∙ ap (λ y. y +ℤ (c *ℤ b)) (*ℤ_comm c a) ∙ ap (λ y. (a *ℤ c) +ℤ y) (*ℤ_comm c b)

regroup_suc : (a b c : ℤ) → (a *ℤ b) *ℤ c ≡ a *ℤ (b *ℤ c) → (suc_ℤ a *ℤ b) *ℤ c ≡ suc_ℤ a *ℤ (b *ℤ c)
regroup_suc a b c h = ap (λ y. y *ℤ c) (suc_ℤ-*ℤ a b) ∙ spread_right (a *ℤ b) b c ∙ ap (λ y. y +ℤ (b *ℤ c)) h ∙ sym (suc_ℤ-*ℤ a (b *ℤ c))

regroup_pred : (a b c : ℤ) → (a *ℤ b) *ℤ c ≡ a *ℤ (b *ℤ c) → (pred_ℤ a *ℤ b) *ℤ c ≡ pred_ℤ a *ℤ (b *ℤ c)
regroup_pred a b c h =
    let taken : ((pred_ℤ a *ℤ b) +ℤ b) *ℤ c ≡ (a *ℤ b) *ℤ c = ap (λ y. y *ℤ c) (let e = pred_ℤ-*ℤ a b in omega (arith, ints, e)) in
    let apart = spread_right (pred_ℤ a *ℤ b) b c in
    let e = pred_ℤ-*ℤ a (b *ℤ c) in
    omega (arith, ints, e, h, taken, apart)

pub regroup : (a b c : ℤ) → (a *ℤ b) *ℤ c ≡ a *ℤ (b *ℤ c)
regroup a b c =
    let P : ℤ → Type 0 = λ y. (y *ℤ b) *ℤ c ≡ y *ℤ (b *ℤ c) in
    ℤ_ind P (ap (λ y. y *ℤ c) (zero-*ℤ b) ∙ zero-*ℤ c ∙ sym (zero-*ℤ (b *ℤ c))) (λ n h. subst P (sym (+ℤ_one (pos n))) (regroup_suc (pos n) b c h)) (λ n h. subst P (sym (-ℤ_one (neg_ℤ (pos n)))) (regroup_pred (neg_ℤ (pos n)) b c h)) a

-- neither below 0
pub product_not_below : (a b : ℤ) → pos 0 ≤ℤ a → pos 0 ≤ℤ b → pos 0 ≤ℤ (a *ℤ b)
product_not_below (pos m) (pos n) p q = omega (arith, ints, pos-*ℤ-pos m n)
product_not_below (negsuc m) b p q = absurd (omega (arith, ints))
product_not_below (pos m) (negsuc n) p q = absurd (omega (arith, ints))
