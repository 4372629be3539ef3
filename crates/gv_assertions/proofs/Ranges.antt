-- Numbers taken out of ranges and put back; ranges split and joined.
use Rattle.std.proofs.Common.{◌≡◌, ℕ, ◌<◌, ◌≤◌, inl, inr, nat_lt, min, if◌then◌else◌, List, [], ◌∷◌, refl, sym, arith, subst}
use Rattle.gv_terms.specs.declared.tree.TermTree.{TermTree}
use Rattle.gv_terms.specs.declared.value.Env.{Env}
use Rattle.gv_resources.specs.Pieces.{Resource, Piece, sum_below}
use Rattle.gv_resources.proofs.Sums.{number_test, below_test, sum_split, sum_changed, sum_zero, sum_cut, sum_fewer, sum_mixed, with_piece, piece_there, piece_elsewhere}
use Rattle.gv_assertions.specs.Atoms.{Atom, Each, Predicate}
use Rattle.gv_assertions.specs.Standing.{AreParts, StandsFor, each, IsNoneOf, indexed, number_under}
use Rattle.gv_assertions.specs.Laws.{Parted, RangesLaw}
use Rattle.gv_assertions.proofs.Lists.{more_for}

module _ (preds : List Predicate) (env : Env) (index : List ℕ) where
  -- a part of a range for each number
  PartsFor : TermTree → TermTree → List TermTree → Atom → (ℕ → Piece) → Type 0
  PartsFor low high except a parts = (n : ℕ) → number_under env low ≤ n → n < number_under env high → IsNoneOf env except n → StandsFor preds (indexed env index n) a (parts n)

  ranged : (low high : TermTree) (except : List TermTree) (a : Atom) (p : Piece) (parts : ℕ → Piece) → ((e : Resource) → sum_below (number_under env high) (λ n. parts n e) ≤ p e)
      → ((n : ℕ) → number_under env low ≤ n → n < number_under env high → IsNoneOf env except n → StandsFor preds (indexed env index n) a (parts n))
      → StandsFor preds env (Each index low high except a) p
  ranged low high except a p parts sums stands = each parts sums stands

  take : (low high t : TermTree) (except : List TermTree) (a : Atom) (p : Piece) → number_under env low ≤ number_under env t → number_under env t < number_under env high
      → IsNoneOf env except (number_under env t) → StandsFor preds env (Each index low high except a) p
      → Parted (StandsFor preds (indexed env index (number_under env t)) a) (StandsFor preds env (Each index low high (t ∷ except) a)) p
  take low high t except a p from below free (each parts sums stands) =
      let k = number_under env t in
      let left = with_piece parts k (λ e. 0) in (
        parts k,
        (λ e. sum_below (number_under env high) (λ n. left n e)),
        (λ e. let s = sums e in let a = sum_split (number_under env high) (λ n. parts n e) k below in let b = sum_changed (number_under env high) (λ n. parts n e) k 0 below in omega arith),
        stands k from below free,
        ranged low high (t ∷ except) a (λ e. sum_below (number_under env high) (λ n. left n e)) left (λ e. omega arith)
            (λ n l h f. more_for (λ e. let s = piece_elsewhere parts k n (λ e. 0) e f.0 in omega arith) (stands n l h f.1)),
      )

  within : (low high t : TermTree) (except : List TermTree) (a : Atom) (p q r : Piece) → number_under env t < number_under env high → AreParts q r p
      → StandsFor preds (indexed env index (number_under env t)) a q → (parts : ℕ → Piece)
      → ((e : Resource) → sum_below (number_under env high) (λ n. parts n e) ≤ r e)
      → ((n : ℕ) → number_under env low ≤ n → n < number_under env high → IsNoneOf env (t ∷ except) n → StandsFor preds (indexed env index n) a (parts n))
      → StandsFor preds env (Each index low high except a) p
  within low high t except a p q r below split one parts sums stands =
      let k = number_under env t in
      let all = with_piece parts k q in
      ranged low high except a p all
      (λ e. let s = sums e in let l = split e in let a = sum_split (number_under env high) (λ n. parts n e) k below in let b = sum_changed (number_under env high) (λ n. parts n e) k (q e) below in omega arith)
      (λ n l h f. elim (number_test n k) [
        | inl (same, b) ↦ more_for (λ e. let s : with_piece parts k q n e ≡ q e = rw same (piece_there parts k q e) in omega arith)
            (subst (λ j. StandsFor preds (indexed env index j) a q) (sym same) one)
        | inr (ne, b) ↦ more_for (λ e. let s = piece_elsewhere parts k n q e ne in omega arith) (stands n l h (ne, f))
      ])

  put : (low high t : TermTree) (except : List TermTree) (a : Atom) (p q r : Piece) → AreParts q r p
      → StandsFor preds (indexed env index (number_under env t)) a q → StandsFor preds env (Each index low high (t ∷ except) a) r
      → StandsFor preds env (Each index low high except a) p
  put low high t except a p q r split one (each parts sums stands) = elim (below_test (number_under env t) (number_under env high)) [
    | inl (below, b) ↦ within low high t except a p q r below split one parts sums stands
    | inr (above, b) ↦ ranged low high except a p parts (λ e. let s = sums e in let l = split e in omega arith) (λ n l h f. stands n l h ((λ same. omega (arith, same, h, above)), f))
  ]

  split : (low mid high : TermTree) (a : Atom) (p : Piece) → number_under env low ≤ number_under env mid → number_under env mid ≤ number_under env high
      → StandsFor preds env (Each index low high [] a) p
      → Parted (StandsFor preds env (Each index low mid [] a)) (StandsFor preds env (Each index mid high [] a)) p
  split low mid high a p from inside (each parts sums stands) =
      let m = number_under env mid in
      let upper = λ (n : ℕ) (e : Resource). if nat_lt n m then 0 else parts n e in (
        (λ e. sum_below m (λ n. parts n e)),
        (λ e. sum_below (number_under env high) (λ n. upper n e)),
        (λ e. let s = sums e in let c = sum_cut (number_under env high) m (λ n. parts n e) inside in omega arith),
        ranged low mid [] a (λ e. sum_below m (λ n. parts n e)) parts (λ e. omega arith) (λ n l h f. stands n l (omega arith) tt),
        ranged mid high [] a (λ e. sum_below (number_under env high) (λ n. upper n e)) upper (λ e. omega arith)
            (λ n l h f. more_for (λ e. let s : upper n e ≡ parts n e = grind arith in omega arith) (stands n (omega arith) h tt)),
      )

  others : (low high : TermTree) (except more : List TermTree) (a : Atom) (p : Piece) → ((n : ℕ) → IsNoneOf env more n → IsNoneOf env except n)
      → StandsFor preds env (Each index low high except a) p → StandsFor preds env (Each index low high more a) p
  others low high except more a p fewer (each parts sums stands) = ranged low high more a p parts sums (λ n l h f. stands n l h (fewer n f))

  join : (low mid high : TermTree) (a : Atom) (p q r : Piece) → AreParts q r p → StandsFor preds env (Each index low mid [] a) q
      → StandsFor preds env (Each index mid high [] a) r → StandsFor preds env (Each index low high [] a) p
  join low mid high a p q r split (each parts sums stands) (each others more_sums more_stands) =
      let m = number_under env mid in
      let n = number_under env high in
      let mixed = λ (k : ℕ) (e : Resource). if nat_lt k m then parts k e else others k e in
      ranged low high [] a p mixed
      (λ e. let a = sums e in let b = more_sums e in let c = split e in let d = sum_mixed n m (λ k. parts k e) (λ k. others k e) in
      let f = sum_fewer m (min n m) (λ k. parts k e) (omega arith) in omega arith)
      (λ k l h f. elim (below_test k m) [
        | inl (b, t) ↦ more_for (λ e. let s : mixed k e ≡ parts k e = rw t refl in omega arith) (stands k l b tt)
        | inr (b, t) ↦ more_for (λ e. let s : mixed k e ≡ others k e = rw t refl in omega arith) (more_stands k b h tt)
      ])

  empty : (low high : TermTree) (except : List TermTree) (a : Atom) (p : Piece) → number_under env high ≤ number_under env low
      → StandsFor preds env (Each index low high except a) p
  empty low high except a p none =
      ranged low high except a p (λ n e. 0) (λ e. let z = sum_zero (number_under env high) in omega arith) (λ n l h f. absurd (omega arith))

pub range_laws : RangesLaw
range_laws preds = record {
  take = λ env index low high t except a p from below free s. take preds env index low high t except a p from below free s;
  put = λ env index low high t except a p (q, r, parts, one, s). put preds env index low high t except a p q r parts one s;
  others = λ env index low high except more a p fewer s. others preds env index low high except more a p fewer s;
  split = λ env index low mid high a p from inside s. split preds env index low mid high a p from inside s;
  join = λ env index low mid high a p (q, r, parts, s, t). join preds env index low mid high a p q r parts s t;
  empty = λ env index low high except a p none. empty preds env index low high except a p none;
}
