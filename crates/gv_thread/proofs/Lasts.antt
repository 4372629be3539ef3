-- Folds over lists whose last item changes.
use Rattle.std.proofs.Common.{◌≡◌, ℕ, suc, ◌-◌, ◌<◌, List, [], ◌∷◌, ◌++◌, length, take, fold, get_or, sym, ap, ◌∙◌, arith}
use Rattle.std.proofs.Math.ListN.{set, length-set}
use Rattle.std.proofs.Math.Seq.{take-suc, take-suc-set}
use Rattle.std.proofs.lemmas.List.Sums.{fold-append}
use Rattle.std.proofs.lemmas.List.{take_all}

module _ {A B : Type 0} (f : B → A → B) (z : B) where
  pub fold_push : (xs : List A) (x : A) → fold f z (xs ++ x ∷ []) ≡ f (fold f z xs) x
  fold_push xs x = fold-append f z xs (x ∷ [])

  -- with the last item, whose place is n
  at_end : (xs : List A) (n : ℕ) (d : A) → length xs ≡ suc n → fold f z xs ≡ f (fold f z (take n xs)) (get_or xs n d)
  at_end xs n d e =
      ap (fold f z) (sym (take_all (suc n) xs (omega arith)) ∙ take-suc xs n d (omega arith)) ∙ fold_push (take n xs) (get_or xs n d)

  set_at : (xs : List A) (n : ℕ) (x : A) → length xs ≡ suc n → fold f z (set xs n x) ≡ f (fold f z (take n xs)) x
  set_at xs n x e =
      ap (fold f z) (sym (take_all (suc n) (set xs n x) (omega (arith, length-set xs n x))) ∙ take-suc-set xs n x (omega arith))
      ∙ fold_push (take n xs) x

  pub fold_last : (xs : List A) (count : ℕ) (d : A) → count ≡ length xs → 0 < count
      → fold f z xs ≡ f (fold f z (take (count - 1) xs)) (get_or xs (count - 1) d)
  fold_last xs count d e some = at_end xs (count - 1) d (omega arith)

  pub fold_set : (xs : List A) (count : ℕ) (x : A) → count ≡ length xs → 0 < count
      → fold f z (set xs (count - 1) x) ≡ f (fold f z (take (count - 1) xs)) x
  fold_set xs count x e some = set_at xs (count - 1) x (omega arith)
