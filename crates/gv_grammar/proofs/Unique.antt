-- A list has one derivation.
use Rattle.std.proofs.Common.{◌≡◌, ℕ, true, inl, inr, List, [], ◌∷◌, ◌++◌, refl, ap, subst, arith}
use Rattle.std.specs.Prelude.{take, drop, zero, suc, ◌==◌}
use Rattle.std.specs.List.{list_all}
use Rattle.gv_grammar.specs.declared.symbols.Symbol.{Symbol}
use Rattle.gv_grammar.specs.declared.steps.Step.{Step}
use Rattle.gv_grammar.specs.declared.steps.Step.TheVariants.{Take, Do}
use Rattle.gv_grammar.specs.Derivation.{Tables, Derives, Spells, done, token, act, named, symbols_of, is_among}
use Rattle.gv_grammar.specs.Predictive.{Certificate, MayBegin, certificate_of, is_shown_by}
use Rattle.gv_grammar.specs.Engine.{IsSound}
use Rattle.gv_grammar.proofs.Tests.{either_left, either_right, either}
use Rattle.gv_grammar.proofs.Theory.{entry_of, sound_token, sound_act, sound_rule, sound_start}
use Rattle.gv_grammar.proofs.Narrowing.{shown_of}

module _ (g : Tables) (c : Certificate) (shown : is_shown_by g c ≡ true) where
  one_from : {ss : List Symbol} {ps qs : List Step} {us : List ℕ} → IsSound g c ss → Derives g ss ps us → Derives g ss qs us → ps ≡ qs
  one_from s done done = refl
  one_from s (token {set = set} {more = more} t d) (token t' d') = ap (λ (xs : List Step). Take ∷ xs) (one_from (sound_token g c shown set more s) d d')
  one_from s (act {number = number} {more = more} d) (act d') = ap (λ (xs : List Step). Do number ∷ xs) (one_from (sound_act g c shown number more s) d d')
  one_from {ps = ps} {qs = qs} {us = us} s (named {name = name} rule {more = more} n d) (named rule' n' d') =
      let a = entry_of g c shown rule name more ps us s n d in
      let b = entry_of g c shown rule' name more qs us s n' d' in
      let r : rule' ≡ rule = omega (arith, a, b) in
      one_from (sound_rule g c shown rule name more n s) d (subst (λ (y : ℕ). Derives g (symbols_of g y ++ more) qs us) r d')

pub one_derivation : (g : Tables) (root : ℕ) → MayBegin g root → (ps qs : List Step) (us : List ℕ) → Spells g root ps us → Spells g root qs us → ps ≡ qs
one_derivation g root p ps qs us d d' = one_from g (certificate_of g) (shown_of g p.0) (sound_start g (certificate_of g) (shown_of g p.0) root p.1) d d'

among_take : (k n : ℕ) (xs : List ℕ) → is_among k (take n xs) ≡ true → is_among k xs ≡ true
among_take k zero xs h = absurd cc
among_take k (suc n) [] h = h
among_take k (suc n) (x ∷ xs) h = elim (either (x == k) (is_among k (take n xs)) h) [ inl e ↦ either_left (x == k) (is_among k xs) e | inr e ↦ either_right (x == k) (is_among k xs) (among_take k n xs e) ]

among_drop : (k n : ℕ) (xs : List ℕ) → is_among k (drop n xs) ≡ true → is_among k xs ≡ true
among_drop k zero xs h = h
among_drop k (suc n) [] h = h
among_drop k (suc n) (x ∷ xs) h = either_right (x == k) (is_among k xs) (among_drop k n xs h)

-- each class of a derived list is one of the grammar's
pub classes_known : {g : Tables} {ss : List Symbol} {ps : List Step} {us : List ℕ} → Derives g ss ps us → list_all (λ k. is_among k g.classes) us ≡ true
classes_known done = refl
classes_known {g = g} (token {class = class} {classes = us} t d) =
    let a : is_among class g.classes ≡ true = among_drop class _ g.classes (among_take class _ _ t) in
    rw a (classes_known d)
classes_known (act d) = classes_known d
classes_known (named rule n d) = classes_known d
