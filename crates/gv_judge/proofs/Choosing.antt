-- The lists that picks allow are those of `allowed_lists`, and are words.
use Rattle.std.proofs.Common.{◌≡◌, ℕ, ◌<◌, ◌^◌, Bool, true, false, ◌&&◌, ◌||◌, cond, eqb, eqb-true, eq-eqb, List, [], ◌∷◌, ◌++◌, map, Option, Some, None, refl, sym, subst, inl, inr, arith, nat_lt}
use Rattle.std.proofs.lemmas.Bool.Decides.{nat_tests}
use Rattle.std.specs.Prelude.{slice_get}
use Rattle.gv_terms.specs.declared.tree.TermTree.{TermTree}
use Rattle.gv_terms.specs.declared.value.Value.{Value}
use Rattle.gv_terms.specs.declared.value.Binding.{Binding}
use Rattle.gv_atomic.specs.declared.spec.Pick.{Pick}
use Rattle.gv_atomic.specs.declared.spec.Op.{Op}
use Rattle.gv_atomic.specs.declared.spec.Spec.{Spec}
use Rattle.gv_atomic.specs.Choices.{picked, limit_of, fits, are_allowed}
use Rattle.gv_atomic.specs.Specification.{fields_bound, op_before, crash_chooses, crash_fields}
use Rattle.gv_spec.specs.Atomic.{atomic_of}
use Rattle.gv_spec.specs.Meaning.{op_chooses_or, fields_after, reply_of}
use Rattle.gv_judge.specs.SearchLaws.{IsIn, AreWords, IsChoosing}
use Rattle.gv_judge.specs.Choosing.{how_many, words_within, allowed_lists, lists_of_op, choosing_of}
use Rattle.gv_judge.proofs.Members.{map_in, in_map, flat_in, in_flat, counted, count_of}

both : (a b : Bool) → a ≡ true → b ≡ true → (a && b) ≡ true
both true b h k = k
both false b h k = h

first : (a b : Bool) → (a && b) ≡ true → a ≡ true
first true b h = refl
first false b h = h

second : (a b : Bool) → (a && b) ≡ true → b ≡ true
second true b h = h
second false b h = absurd cc

-- a word fits exactly where it is below as many as fit
pub fits_below : (c limit : ℕ) → fits c limit ≡ true → c < 2 ^ 64 → c < how_many limit
fits_below c limit h word = go (nat_lt limit (2 ^ 64)) refl (eqb limit 0) refl (nat_lt c limit) refl h
  where
    go : (s : Bool) → nat_lt limit (2 ^ 64) ≡ s → (t : Bool) → eqb limit 0 ≡ t → (u : Bool) → nat_lt c limit ≡ u → (u || (t && eqb c 0)) ≡ true → c < cond s (cond t 1 limit) (2 ^ 64)
    go false a t b u d k = word
    go true a true b true d k = grind (arith, nat_tests)
    go true a true b false d k = (let none = eqb-true c 0 k in omega (arith, none))
    go true a false b true d k = grind (arith, nat_tests)
    go true a false b false d k = absurd cc

pub below_fits : (c limit : ℕ) → c < how_many limit → (fits c limit ≡ true) × (c < 2 ^ 64)
below_fits c limit h = go (nat_lt limit (2 ^ 64)) refl (eqb limit 0) refl (nat_lt c limit) refl h
  where
    go : (s : Bool) → nat_lt limit (2 ^ 64) ≡ s → (t : Bool) → eqb limit 0 ≡ t → (u : Bool) → nat_lt c limit ≡ u → c < cond s (cond t 1 limit) (2 ^ 64) → ((u || (t && eqb c 0)) ≡ true) × (c < 2 ^ 64)
    go true a true b true d k = (refl, omega (arith, k))
    go true a true b false d k = (eq-eqb c 0 (omega (arith, k)), omega (arith, k))
    go true a false b true d k = (refl, grind (arith, nat_tests))
    go true a false b false d k = absurd (grind (arith, nat_tests))
    go false a t b true d k = (refl, k)
    go false a t b false d k = absurd (grind (arith, nat_tests))

module _ (ts : List TermTree) where
  pub allowed_in : (before : List Binding) (picks : List Pick) (choices : List ℕ) → IsIn choices (allowed_lists ts before picks) → (are_allowed ts before picks choices ≡ true) × AreWords choices
  allowed_in before [] choices (inl e) = subst (λ cs. (are_allowed ts before [] cs ≡ true) × AreWords cs) (sym e) (refl, tt)
  allowed_in before [] choices (inr h) = absurd h
  allowed_in before (p ∷ picks) choices h =
      let lists : ℕ → List (List ℕ) = λ c. map (λ cs. c ∷ cs) (allowed_lists ts (before ++ picked p c ∷ []) picks) in
      let a = in_flat lists choices (words_within (limit_of ts before p)) h in
      let s = in_map (λ cs. a.from ∷ cs) choices (allowed_lists ts (before ++ picked p a.from ∷ []) picks) a.holds in
      let fit = below_fits a.from (limit_of ts before p) (let n = count_of (how_many (limit_of ts before p)) 0 a.from a.is_in in omega (arith, n.1)) in
      let rest = allowed_in (before ++ picked p a.from ∷ []) picks s.from s.is_in in
      subst (λ cs. (are_allowed ts before (p ∷ picks) cs ≡ true) × AreWords cs) (sym s.image)
      (both (fits a.from (limit_of ts before p)) (are_allowed ts (before ++ picked p a.from ∷ []) picks s.from) fit.0 rest.0, (fit.1, rest.1))

  pub in_allowed : (before : List Binding) (picks : List Pick) (choices : List ℕ) → are_allowed ts before picks choices ≡ true → AreWords choices → IsIn choices (allowed_lists ts before picks)
  in_allowed before [] [] h words = inl refl
  in_allowed before [] (c ∷ choices) h words = absurd cc
  in_allowed before (p ∷ picks) [] h words = absurd cc
  in_allowed before (p ∷ picks) (c ∷ choices) h words =
      let limit = limit_of ts before p in
      let fit = first (fits c limit) (are_allowed ts (before ++ picked p c ∷ []) picks choices) h in
      let rest = second (fits c limit) (are_allowed ts (before ++ picked p c ∷ []) picks choices) h in
      let low = fits_below c limit fit words.0 in
      flat_in (λ c. map (λ cs. c ∷ cs) (allowed_lists ts (before ++ picked p c ∷ []) picks)) (c ∷ choices) c (words_within limit)
      (counted (how_many limit) 0 c (omega arith) (omega (arith, low)))
      (map_in (λ cs. c ∷ cs) choices (allowed_lists ts (before ++ picked p c ∷ []) picks) (in_allowed (before ++ picked p c ∷ []) picks choices rest words.1))

-- a written specification's lists
module _ (s : Spec) where
  chosen_some : {A : Type 0} (b : Bool) (x after : A) → cond b (Some x) None ≡ Some after → b ≡ true
  chosen_some true x after h = refl
  chosen_some false x after h = absurd cc

  act_in : (o : Option Op) (args : List Value) (fields : List Value) (choices : List ℕ) → op_chooses_or s o args choices fields ≡ true → AreWords choices
      → IsIn choices (lists_of_op s o args fields)
  act_in None args fields choices h words = absurd cc
  act_in (Some o) args fields choices h words = in_allowed s.store (op_before s o args fields) o.picks choices h words

  acts_words : (o : Option Op) (args : List Value) (fields : List Value) (choices : List ℕ) → IsIn choices (lists_of_op s o args fields) → AreWords choices
  acts_words None args fields choices h = absurd h
  acts_words (Some o) args fields choices h = (allowed_in s.store (op_before s o args fields) o.picks choices h).1

  pub is_choosing : IsChoosing (atomic_of s) (choosing_of s)
  is_choosing = record {
    acts = λ op args fields choices h. acts_words (slice_get s.ops op) args fields choices h;
    act = λ op args fields choices after words e. act_in (slice_get s.ops op) args fields choices
        (chosen_some (op_chooses_or s (slice_get s.ops op) args choices fields) (fields_after s op args choices fields, reply_of s op args choices fields) after e) words;
    boots = λ fields choices h. (allowed_in s.store (fields_bound s.fields fields) s.crash_picks choices h).1;
    boot = λ fields choices after words e. in_allowed s.store (fields_bound s.fields fields) s.crash_picks choices
        (chosen_some (crash_chooses s choices fields) (crash_fields s choices fields) after e) words;
  }
