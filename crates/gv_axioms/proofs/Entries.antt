-- The axioms of maps.
use Rattle.std.proofs.Common.{◌≡◌, ℕ, [], true, false, not, ⊎_elim, Option, Some, None, unwrap_or, refl, ap, sym, ◌∙◌}
use Rattle.std.specs.Option.{is_some}
use Rattle.gv_terms.specs.declared.sort.Sort.{Sort}
use Rattle.gv_terms.specs.declared.sort.Sort.TheVariants as sort
use Rattle.gv_terms.specs.declared.value.Value.{Value}
use Rattle.gv_terms.specs.declared.value.Value.TheVariants as val
use Rattle.gv_terms.specs.Sorts.{entry_sort}
use Rattle.gv_terms.specs.Values.{zero_of, sort_of_value, word_of, bytes_of, truth_of}
use Rattle.gv_terms.specs.Meaning.{held_at, holds_at, map_with, map_without}
use Rattle.gv_words.specs.Maps.{entry_at}
use Rattle.gv_terms.proofs.MapLaws.{put_same, put_other, gone, left_other}
use Rattle.gv_axioms.specs.Filling.{with_some, held}
use Rattle.gv_axioms.specs.Table as table
use Rattle.gv_axioms.proofs.Worth.{Holds}
use Rattle.gv_axioms.proofs.Values.{is_word, is_bytes, apart, equal, yes, denied}

abbrev IsMapOf : Value → Sort → Type 0
IsMapOf m s = with_some (sort_of_value m) entry_sort ≡ Some s

put_here : (m : Value) (k : ℕ) (v : Value) (s : Sort) → IsMapOf m s → with_some (sort_of_value m) held ≡ sort_of_value v → held_at (map_with m k v) k ≡ v
put_here (val.MapWW m) k v s e h = ap (λ o. val.Word (unwrap_or o 0)) (put_same m k (word_of v)) ∙ sym (is_word v (sym h))
put_here (val.MapWB m) k v s e h = ap (λ o. val.Bytes (unwrap_or o [])) (put_same m k (bytes_of v)) ∙ sym (is_bytes v (sym h))
put_here _ k v s e h = absurd cc

put_elsewhere : (m : Value) (k j : ℕ) (v : Value) (s : Sort) → IsMapOf m s → (j ≡ k → ⊥) → held_at (map_with m k v) j ≡ held_at m j
put_elsewhere (val.MapWW m) k j v s e ne = ap (λ o. val.Word (unwrap_or o 0)) (put_other m k (word_of v) j ne)
put_elsewhere (val.MapWB m) k j v s e ne = ap (λ o. val.Bytes (unwrap_or o [])) (put_other m k (bytes_of v) j ne)
put_elsewhere _ k j v s e ne = absurd cc

put_has : (m : Value) (k : ℕ) (v : Value) (s : Sort) → IsMapOf m s → holds_at (map_with m k v) k ≡ val.Bool true
put_has (val.MapWW m) k v s e = ap (λ o. val.Bool (is_some o)) (put_same m k (word_of v))
put_has (val.MapWB m) k v s e = ap (λ o. val.Bool (is_some o)) (put_same m k (bytes_of v))
put_has _ k v s e = absurd cc

put_has_others : (m : Value) (k j : ℕ) (v : Value) (s : Sort) → IsMapOf m s → (j ≡ k → ⊥) → holds_at (map_with m k v) j ≡ holds_at m j
put_has_others (val.MapWW m) k j v s e ne = ap (λ o. val.Bool (is_some o)) (put_other m k (word_of v) j ne)
put_has_others (val.MapWB m) k j v s e ne = ap (λ o. val.Bool (is_some o)) (put_other m k (bytes_of v) j ne)
put_has_others _ k j v s e ne = absurd cc

deleted : (m : Value) (k : ℕ) (s : Sort) → IsMapOf m s → holds_at (map_without m k) k ≡ val.Bool false
deleted (val.MapWW m) k s e = ap (λ o. val.Bool (is_some o)) (gone m k)
deleted (val.MapWB m) k s e = ap (λ o. val.Bool (is_some o)) (gone m k)
deleted _ k s e = absurd cc

left_has : (m : Value) (k j : ℕ) (s : Sort) → IsMapOf m s → (j ≡ k → ⊥) → holds_at (map_without m k) j ≡ holds_at m j
left_has (val.MapWW m) k j s e ne = ap (λ o. val.Bool (is_some o)) (left_other m k j ne)
left_has (val.MapWB m) k j s e ne = ap (λ o. val.Bool (is_some o)) (left_other m k j ne)
left_has _ k j s e ne = absurd cc

left_holds : (m : Value) (k j : ℕ) (s : Sort) → IsMapOf m s → (j ≡ k → ⊥) → held_at (map_without m k) j ≡ held_at m j
left_holds (val.MapWW m) k j s e ne = ap (λ o. val.Word (unwrap_or o 0)) (left_other m k j ne)
left_holds (val.MapWB m) k j s e ne = ap (λ o. val.Bytes (unwrap_or o [])) (left_other m k j ne)
left_holds _ k j s e ne = absurd cc

nothing : {V : Type 0} (o : Option V) (d : V) → is_some o ≡ false → unwrap_or o d ≡ d
nothing None d e = refl
nothing (Some x) d e = absurd cc

absent : (m : Value) (k : ℕ) (s : Sort) → IsMapOf m s → truth_of (holds_at m k) ≡ false → held_at m k ≡ zero_of s
absent (val.MapWW m) k s e h = let w : sort.Word ≡ s = cc in ap (λ n. val.Word n) (nothing (entry_at m k) 0 h) ∙ ap zero_of w
absent (val.MapWB m) k s e h = let w : sort.Bytes ≡ s = cc in ap (λ n. val.Bytes n) (nothing (entry_at m k) [] h) ∙ ap zero_of w
absent _ k s e h = absurd cc

empty_has : (m : Value) (k : ℕ) → m ≡ val.MapWW [] → val.Bool (not (truth_of (holds_at m k))) ≡ val.Bool true
empty_has m k e = ap (λ x. val.Bool (not (truth_of (holds_at x k)))) e

empty_holds : (m : Value) (k : ℕ) → m ≡ val.MapWB [] → val.Bool (not (truth_of (holds_at m k))) ≡ val.Bool true
empty_holds m k e = ap (λ x. val.Bool (not (truth_of (holds_at x k)))) e

pub holds_50 : Holds table.axiom_50
holds_50 v in_range is met = equal _ (v.value 2) (put_here (v.value 0) (word_of (v.value 1)) (v.value 2) is.0.0 is.0.1 is.1.1.0)

pub holds_51 : Holds table.axiom_51
holds_51 v in_range is met =
    equal _ _ (put_elsewhere (v.value 0) (word_of (v.value 1)) (word_of (v.value 2)) (v.value 3) is.0.0 is.0.1 (apart (v.value 2) (v.value 1) is.1.1.0 is.1.0 (met.0 tt)))

pub holds_52 : Holds table.axiom_52
holds_52 v in_range is met = put_has (v.value 0) (word_of (v.value 1)) (v.value 2) is.0.0 is.0.1

pub holds_53 : Holds table.axiom_53
holds_53 v in_range is met =
    equal _ _ (put_has_others (v.value 0) (word_of (v.value 1)) (word_of (v.value 2)) (v.value 3) is.0.0 is.0.1 (apart (v.value 2) (v.value 1) is.1.1.0 is.1.0 (met.0 tt)))

pub holds_54 : Holds table.axiom_54
holds_54 v in_range is met = ap (λ x. val.Bool (not (truth_of x))) (deleted (v.value 0) (word_of (v.value 1)) is.0.0 is.0.1)

pub holds_55 : Holds table.axiom_55
holds_55 v in_range is met =
    equal _ _ (left_has (v.value 0) (word_of (v.value 1)) (word_of (v.value 2)) is.0.0 is.0.1 (apart (v.value 2) (v.value 1) is.1.1.0 is.1.0 (met.0 tt)))

pub holds_56 : Holds table.axiom_56
holds_56 v in_range is met =
    equal _ _ (left_holds (v.value 0) (word_of (v.value 1)) (word_of (v.value 2)) is.0.0 is.0.1 (apart (v.value 2) (v.value 1) is.1.1.0 is.1.0 (met.0 tt)))

pub holds_57 : Holds table.axiom_57
holds_57 v in_range is met =
    equal _ _ (absent (v.value 0) (word_of (v.value 1)) is.0.0 is.0.1 (denied _ (yes _ (met.0 tt))) ∙ sym is.0.2)

pub holds_58 : Holds table.axiom_58
holds_58 v in_range is met = ⊎_elim (empty_has (v.value 0) (word_of (v.value 1))) (empty_holds (v.value 0) (word_of (v.value 1))) is.0
