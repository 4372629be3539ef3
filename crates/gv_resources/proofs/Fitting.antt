-- How what fits changes, a resource at a time.
use Rattle.std.proofs.Common.{◌≡◌, ◌≢◌, ℕ, ◌+◌, ◌-◌, ◌<◌, ◌≤◌, ◌⊎◌, inl, inr, Bool, ◌&&◌, if◌then◌else◌, List, Option, Some, None, refl, sym, ap, arith, subst, ◌∙◌}
use Rattle.gv_terms.specs.declared.value.Value.{Value}
use Rattle.gv_resources.specs.Kinds.{Kind, kind_eq, most}
use Rattle.gv_resources.specs.Pieces.{Resource, Have, Piece, Telling, Fits, single, values_eq}
use Rattle.gv_resources.proofs.Equality.{Tells, kind_tells, values_tell, single_test, single_same}

-- what is told, with another answer under one key
abbrev pub retold : Telling → Kind → List Value → Option (List Value) → Telling
retold tells at_kind at_key answer k key = if kind_eq k at_kind && values_eq key at_key then answer else tells k key

retold_cases : {A : Type 0} (k l : Kind) (key other : List Value) (a b : Bool) (x y : A) → Tells k l a → Tells key other b
    → ((k ≡ l) × (key ≡ other) × ((if a && b then x else y) ≡ x)) ⊎ ((k ≡ l → key ≢ other) × ((if a && b then x else y) ≡ y))
retold_cases k l key other a b x y p q = grind arith

pub retold_test : (tells : Telling) (at_kind : Kind) (at_key : List Value) (answer : Option (List Value)) (k : Kind) (key : List Value)
    → ((k ≡ at_kind) × (key ≡ at_key) × (retold tells at_kind at_key answer k key ≡ answer))
    ⊎ ((k ≡ at_kind → key ≢ at_key) × (retold tells at_kind at_key answer k key ≡ tells k key))
retold_test tells at_kind at_key answer k key =
    retold_cases k at_kind key at_key (kind_eq k at_kind) (values_eq key at_key) answer (tells k key) (kind_tells k at_kind) (values_tell key at_key)

pub retold_there : (tells : Telling) (k : Kind) (key : List Value) (answer : Option (List Value)) → retold tells k key answer k key ≡ answer
retold_there tells k key answer = elim (retold_test tells k key answer k key) [ inl (a, b, t) ↦ t | inr (ne, t) ↦ absurd (ne refl refl) ]

pub fits_less : {p q : Piece} {tells : Telling} → ((e : Resource) → q e ≤ p e) → Fits p tells → Fits q tells
fits_less le f = record {
  says = λ k key v l. f.says k key v (let m = le (Have k key v) in omega arith);
  few = λ k key v n e. let m = le (Have k key v) in let b = f.few k key v n e in omega arith;
}

-- what is told may change where nothing is owned, or be told the same
pub fits_keeps : {p : Piece} {tells now : Telling} → ((k : Kind) (key v : List Value) → 0 < p (Have k key v) → tells k key ≡ Some v → now k key ≡ Some v)
    → Fits p tells → Fits p now
fits_keeps keeps f = record { says = λ k key v l. keeps k key v l (f.says k key v l); few = f.few }

pub fits_same : {p : Piece} {tells now : Telling} → ((k : Kind) (key : List Value) → tells k key ≡ now k key) → Fits p tells → Fits p now
fits_same same f = record { says = λ k key v l. sym (same k key) ∙ f.says k key v l; few = f.few }

moved : (p : Piece) {k l : Kind} {key other : List Value} (v : List Value) → k ≡ l → key ≡ other → 0 < p (Have k key v) → 0 < p (Have l other v)
moved p {l = l} {key = key} v a b h = subst (λ (x : List Value). 0 < p (Have l x v)) b (subst (λ (x : Kind). 0 < p (Have x key v)) a h)

-- a resource that may be owned once is given up: what is told under its key is free
pub fits_remove : {p q : Piece} {tells : Telling} (k0 : Kind) (key0 v0 : List Value) (answer : Option (List Value)) → Fits p tells → most k0 ≡ Some 1
    → ((e : Resource) → q e + single (Have k0 key0 v0) e ≤ p e) → Fits q (retold tells k0 key0 answer)
fits_remove {p} {q} {tells} k0 key0 v0 answer f once le = record { says = says; few = λ k key v n e. let m = le (Have k key v) in let b = f.few k key v n e in omega arith }
  where
    gone : (v : List Value) → 0 < q (Have k0 key0 v) → ⊥
    gone v l =
        let here = le (Have k0 key0 v0) in
        let one = single_same (Have k0 key0 v0) in
        let there = le (Have k0 key0 v) in
        let a = f.says k0 key0 v0 (omega arith) in
        let b = f.says k0 key0 v (omega arith) in
        let c = f.few k0 key0 v0 1 once in
        let same : v ≡ v0 = cc in
        let back : 0 < q (Have k0 key0 v0) = subst (λ (x : List Value). 0 < q (Have k0 key0 x)) same l in
        omega arith

    says : (k : Kind) (key v : List Value) → 0 < q (Have k key v) → retold tells k0 key0 answer k key ≡ Some v
    says k key v l = elim (retold_test tells k0 key0 answer k key) [
      | inl (a, b, t) ↦ absurd (gone v (moved q v a b l))
      | inr (ne, t) ↦ t ∙ f.says k key v (let m = le (Have k key v) in omega arith)
    ]

-- a resource comes where nothing was told under its key
pub fits_add : {p q : Piece} {tells : Telling} (k0 : Kind) (key0 v0 : List Value) → Fits p tells → tells k0 key0 ≡ None → most k0 ≢ Some 0
    → ((e : Resource) → q e ≤ p e + single (Have k0 key0 v0) e) → Fits q (retold tells k0 key0 (Some v0))
fits_add {p} {q} {tells} k0 key0 v0 f free some le = record { says = says; few = few }
  where
    none_here : (v : List Value) → 0 < p (Have k0 key0 v) → ⊥
    none_here v l = let a = f.says k0 key0 v l in cc

    new : (v : List Value) → 0 < q (Have k0 key0 v) → v ≡ v0
    new v l = elim (single_test (Have k0 key0 v0) (Have k0 key0 v)) [
      | inl (e, t) ↦ cc
      | inr (e, t) ↦ absurd (none_here v (let m = le (Have k0 key0 v) in omega arith))
    ]

    elsewhere : (k : Kind) (key v : List Value) → (k ≡ k0 → key ≢ key0) → 0 < q (Have k key v) → 0 < p (Have k key v)
    elsewhere k key v ne l = elim (single_test (Have k0 key0 v0) (Have k key v)) [
      | inl (e, t) ↦ (let a : k ≡ k0 = cc in let b : key ≡ key0 = cc in absurd (ne a b))
      | inr (e, t) ↦ (let m = le (Have k key v) in omega arith)
    ]

    says : (k : Kind) (key v : List Value) → 0 < q (Have k key v) → retold tells k0 key0 (Some v0) k key ≡ Some v
    says k key v l = elim (retold_test tells k0 key0 (Some v0) k key) [
      | inl (a, b, t) ↦ t ∙ ap Some (sym (new v (moved q v a b l)))
      | inr (ne, t) ↦ t ∙ f.says k key v (elsewhere k key v ne l)
    ]

    positive : (n : ℕ) → most k0 ≡ Some n → 0 < n
    positive n e = let z : n ≢ 0 = (λ q. some (e ∙ ap Some q)) in omega arith

    few : (k : Kind) (key v : List Value) (n : ℕ) → most k ≡ Some n → q (Have k key v) ≤ n
    few k key v n e = elim (single_test (Have k0 key0 v0) (Have k key v)) [
      | inl (q, t) ↦ (let m = le (Have k key v) in let none : p (Have k key v) ≡ 0 = rw q (let z = none_here v0 in omega arith) in let a : k0 ≡ k = cc in let b = positive n (ap most a ∙ e) in omega arith)
      | inr (q, t) ↦ (let m = le (Have k key v) in let b = f.few k key v n e in omega arith)
    ]

-- a resource that is owned alone gets another value
pub fits_change : {p q : Piece} {tells : Telling} (k0 : Kind) (key0 v0 v1 : List Value) → Fits p tells → most k0 ≡ Some 1
    → ((e : Resource) → q e + single (Have k0 key0 v0) e ≤ p e + single (Have k0 key0 v1) e) → 0 < p (Have k0 key0 v0) → Fits q (retold tells k0 key0 (Some v1))
fits_change {p} {q} {tells} k0 key0 v0 v1 f once le has =
    fits_same twice (fits_add k0 key0 v1 (fits_remove {q = λ e. q e - single (Have k0 key0 v1) e} k0 key0 v0 None f once (λ e. let l = le e in less e l)) (retold_there tells k0 key0 None)
    (λ e. let b : Some 1 ≡ Some 0 = sym once ∙ e in cc) (λ e. omega arith))
  where
    less : (e : Resource) → q e + single (Have k0 key0 v0) e ≤ p e + single (Have k0 key0 v1) e → q e - single (Have k0 key0 v1) e + single (Have k0 key0 v0) e ≤ p e
    less e l = elim (single_test (Have k0 key0 v0) e) [
      | inl (q, t) ↦ (let low : 0 < p e = subst (λ x. 0 < p x) (sym q) has in omega arith)
      | inr (q, t) ↦ omega arith
    ]

    twice : (k : Kind) (key : List Value) → retold (retold tells k0 key0 None) k0 key0 (Some v1) k key ≡ retold tells k0 key0 (Some v1) k key
    twice k key = elim (retold_test (retold tells k0 key0 None) k0 key0 (Some v1) k key) [
      | inl (a, b, t) ↦ elim (retold_test tells k0 key0 (Some v1) k key) [ inl (c, d, u) ↦ t ∙ sym u | inr (ne, u) ↦ absurd (ne a b) ]
      | inr (ne, t) ↦ elim (retold_test tells k0 key0 None k key) [
        | inl (a, b, u) ↦ absurd (ne a b)
        | inr (other, u) ↦ elim (retold_test tells k0 key0 (Some v1) k key) [ inl (c, d, s) ↦ absurd (ne c d) | inr (ne2, s) ↦ t ∙ u ∙ sym s ]
      ]
    ]

-- a resource that any number may own comes out of what is told
pub fits_told : {p q : Piece} {tells : Telling} (k0 : Kind) (key0 v0 : List Value) → Fits p tells → most k0 ≡ None → tells k0 key0 ≡ Some v0
    → ((e : Resource) → q e ≤ p e + single (Have k0 key0 v0) e) → Fits q tells
fits_told {p} {q} {tells} k0 key0 v0 f shared is le = record { says = says; few = few }
  where
    says : (k : Kind) (key v : List Value) → 0 < q (Have k key v) → tells k key ≡ Some v
    says k key v l = elim (single_test (Have k0 key0 v0) (Have k key v)) [
      | inl (e, t) ↦ (let a : k ≡ k0 = cc in let b : key ≡ key0 = cc in let c : v ≡ v0 = cc in rw (a, b, c) is)
      | inr (e, t) ↦ f.says k key v (let m = le (Have k key v) in omega arith)
    ]

    few : (k : Kind) (key v : List Value) (n : ℕ) → most k ≡ Some n → q (Have k key v) ≤ n
    few k key v n m = elim (single_test (Have k0 key0 v0) (Have k key v)) [
      | inl (e, t) ↦ (let a : k ≡ k0 = cc in let b : None ≡ Some n = sym shared ∙ ap most (sym a) ∙ m in absurd (cc))
      | inr (e, t) ↦ (let l = le (Have k key v) in let b = f.few k key v n m in omega arith)
    ]
