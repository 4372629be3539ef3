-- How many entries there are once an item stands under a key, or none does.
use Rattle.std.proofs.Common.{◌≡◌, ℕ, suc, ◌+◌, ◌-◌, List, ◌∷◌, Option, Some, None, take, drop, length, ap, ◌∙◌, sym, arith}
use Rattle.std.proofs.lemmas.List.{length-take, length-drop, length-append, length-set}
use Rattle.gv_words.specs.Maps.{with_entry, without}
use Rattle.gv_world.specs.FiniteMaps.{changed}
use Rattle.gv_words.specs.Entries.{HoldsAt, FitsAt}
use Rattle.gv_words.proofs.Placed.{with_new, with_old, without_new, without_old}

module _ {V : Type 0} where
  pub length_new : (m : List (ℕ × V)) (k : ℕ) (v : V) (i : ℕ) → FitsAt m k i → length (with_entry m k v) ≡ length m + 1
  length_new m k v i fits =
      let e = ap length (with_new m k v i fits) in
      let e1 = length-append (take i m) ((k, v) ∷ drop i m) in
      let e2 = length-take i m in
      let e3 = length-drop i m in
      let in_range = fits.0 in
      omega arith

  pub length_old : (m : List (ℕ × V)) (k : ℕ) (v : V) (i : ℕ) → HoldsAt m k i → length (with_entry m k v) ≡ length m
  length_old m k v i holds = ap length (with_old m k v i holds) ∙ length-set m i (k, v)

  pub length_without_new : (m : List (ℕ × V)) (k i : ℕ) → FitsAt m k i → length (without m k) ≡ length m
  length_without_new m k i fits = ap length (without_new m k i fits)

  pub length_without_old : (m : List (ℕ × V)) (k i : ℕ) (d : ℕ × V) → HoldsAt m k i → length (without m k) ≡ length m - 1
  length_without_old m k i d holds =
      let e = ap length (without_old m k i d holds) in
      let e1 = length-append (take i m) (drop (suc i) m) in
      let e2 = length-take i m in
      let e3 = length-drop (suc i) m in
      let in_range = holds.0 in
      omega arith

-- ---- as the code counts: `l` is what it looked at, `m` the map, `n` the number of entries

pub put_over : (l m : List (ℕ × ℕ)) (k v i n : ℕ) (o : Option ℕ) → l ≡ m → length l ≡ n → o ≡ Some v → HoldsAt l k i → n ≡ length (changed m k o)
put_over l m k v i n o e count is holds = rw (← e, is) (sym count ∙ sym (length_old l k v i holds))

pub put_beside : (l m : List (ℕ × ℕ)) (k v i n : ℕ) (o : Option ℕ) → l ≡ m → length l ≡ n → o ≡ Some v → FitsAt l k i → n + 1 ≡ length (changed m k o)
put_beside l m k v i n o e count is fits = rw (← e, is) (ap (λ x. x + 1) (sym count) ∙ sym (length_new l k v i fits))

pub deleted : (l m : List (ℕ × ℕ)) (k i n : ℕ) (o : Option ℕ) → l ≡ m → length l ≡ n → o ≡ None → HoldsAt l k i → n - 1 ≡ length (changed m k o)
deleted l m k i n o e count is holds = rw (← e, is) (ap (λ x. x - 1) (sym count) ∙ sym (length_without_old l k i (0, 0) holds))

pub not_there : (l m : List (ℕ × ℕ)) (k i n : ℕ) (o : Option ℕ) → l ≡ m → length l ≡ n → o ≡ None → FitsAt l k i → n ≡ length (changed m k o)
not_there l m k i n o e count is fits = rw (← e, is) (sym count ∙ sym (length_without_new l k i fits))
