-- What holds along each rule holds of all that is derived.
use Rattle.std.proofs.Common.{◌≡◌, ℕ, suc, zero, ◌+◌, Bool, true, false, ◌||◌, eqb, ◌⊎◌, inl, inr, ⊎_elim, List, [], ◌∷◌, ◌++◌, Some, refl, sym, ap, subst, ◌∙◌, arith, append_assoc}
use Rattle.std.proofs.lemmas.Bool.Decides.{nat_tests}
use Rattle.gv_grammar.specs.Text.{Placed, tokens_of}
use Rattle.gv_grammar.proofs.Tests.{either}
use Rattle.std.specs.Prelude.{slice_get, map}
use Rattle.gv_grammar.specs.declared.symbols.Symbol.{Symbol}
use Rattle.gv_grammar.specs.declared.symbols.Symbol.TheVariants.{Token, Name, Act}
use Rattle.gv_grammar.specs.declared.steps.Step.{Step}
use Rattle.gv_grammar.specs.Derivation.{Tables, Derives, done, token, act, named, symbols_of, takes}

-- a list of tokens by these symbols, where M says what the names mean
pub data Meant (g : Tables) (X : Type 0) (class_of : X → ℕ) (M : ℕ → List X → Type 0) : List Symbol → List X → Type 0 where
  none : Meant g X class_of M [] []
  taken : {set : ℕ} {ss : List Symbol} {us : List X} (t : X) → takes g set (class_of t) ≡ true → Meant g X class_of M ss us → Meant g X class_of M (Token set ∷ ss) (t ∷ us)
  acted : {number : ℕ} {ss : List Symbol} {us : List X} → Meant g X class_of M ss us → Meant g X class_of M (Act number ∷ ss) us
  means : {name : ℕ} {ss : List Symbol} {ts us : List X} → M name ts → Meant g X class_of M ss us → Meant g X class_of M (Name name ∷ ss) (ts ++ us)

module _ (g : Tables) (X : Type 0) (class_of : X → ℕ) (M : ℕ → List X → Type 0) where
  meant_split : (xs : List Symbol) {ys : List Symbol} {us : List X} → Meant g X class_of M (xs ++ ys) us → (ts : List X) × (vs : List X) × (us ≡ ts ++ vs) × Meant g X class_of M xs ts × Meant g X class_of M ys vs
  meant_split [] {us = us} m = ([], us, refl, none, m)
  meant_split (Token set ∷ xs) (taken t k m) = let (ts, vs, e, a, b) = meant_split xs m in (t ∷ ts, vs, ap (λ ws. t ∷ ws) e, taken t k a, b)
  meant_split (Act number ∷ xs) (acted m) = let (ts, vs, e, a, b) = meant_split xs m in (ts, vs, e, acted a, b)
  meant_split (Name name ∷ xs) (means {ts = ws} w m) =
      let (ts, vs, e, a, b) = meant_split xs m in (ws ++ ts, vs, ap (λ us. ws ++ us) e ∙ sym (append_assoc ws ts vs), means w a, b)

  -- each rule keeps the meaning
  abbrev pub RulesMean : List ℕ → ℕ → Type 0
  RulesMean [] rule = Unit {0}
  RulesMean (name ∷ names) rule = ((us : List X) → Meant g X class_of M (symbols_of g rule) us → M name us) × RulesMean names (rule + 1)

  rule_means : (names : List ℕ) (first i name : ℕ) → RulesMean names first → slice_get names i ≡ Some name → (us : List X) → Meant g X class_of M (symbols_of g (first + i)) us → M name us
  rule_means [] first i name h e us m = absurd cc
  rule_means (n ∷ ns) first zero name h e us m =
      let q : n ≡ name = cc in
      let z : first + 0 ≡ first = omega arith in
      subst (λ (k : ℕ). M k us) q (h.0 us (subst (λ (r : ℕ). Meant g X class_of M (symbols_of g r) us) z m))
  rule_means (n ∷ ns) first (suc i) name h e us m =
      let z : first + suc i ≡ (first + 1) + i = omega arith in
      rule_means ns (first + 1) i name h.1 e us (subst (λ (r : ℕ). Meant g X class_of M (symbols_of g r) us) z m)

  pub all_mean : RulesMean g.names 0 → {ss : List Symbol} {ps : List Step} {ks : List ℕ} → Derives g ss ps ks → (us : List X) → map class_of us ≡ ks → Meant g X class_of M ss us
  all_mean h done [] e = none
  all_mean h done (t ∷ us) e = absurd cc
  all_mean h (token {class = k} {classes = ks} t d) [] e = absurd cc
  all_mean h (token {set = set} {class = k} {classes = ks} t d) (u ∷ us) e =
      let q : class_of u ≡ k = cc in
      let r : map class_of us ≡ ks = cc in
      taken u (subst (λ (c : ℕ). takes g set c ≡ true) (sym q) t) (all_mean h d us r)
  all_mean h (act d) us e = acted (all_mean h d us e)
  all_mean h (named {name = name} rule {more = more} n d) us e =
      let (ts, vs, split, a, b) = meant_split (symbols_of g rule) (all_mean h d us e) in
      let z : 0 + rule ≡ rule = omega arith in
      let m : M name ts = rule_means g.names 0 rule name h n ts (subst (λ (r : ℕ). Meant g X class_of M (symbols_of g r) ts) (sym z) a) in
      subst (λ (ws : List X). Meant g X class_of M (Name name ∷ more) ws) (sym split) (means m b)

-- the tokens spell something
pub record Made {X E : Type 0} (P : E → List (Placed X) → Type 0) (us : List X) : Type 0 where
  pub tree : E
  pub placed : List (Placed X)
  pub same : tokens_of placed ≡ us
  pub spelled : P tree placed

-- a tree of these tokens
pub mk : {X E : Type 0} (P : E → List (Placed X) → Type 0) {us : List X} (e : E) (ps : List (Placed X)) → P e ps → tokens_of ps ≡ us → Made P us
mk P e ps h q = record { tree = e; placed = ps; same = q; spelled = h }

-- the same at an equal list
pub at : {X E : Type 0} {P : E → List (Placed X) → Type 0} {xs ys : List X} → xs ≡ ys → Made P xs → Made P ys
at e m = record { tree = m.tree; placed = m.placed; same = m.same ∙ e; spelled = m.spelled }

-- what a name may mean: a phrase at any level, or what goes on after a phrase of another kind
abbrev pub Phrase : {X E : Type 0} → (ℕ → E → List (Placed X) → Type 0) → List X → Type 0
Phrase P us = (n : ℕ) → Made (P n) us

abbrev pub Tail : {X D E : Type 0} → (ℕ → D → List (Placed X) → Type 0) → (ℕ → E → List (Placed X) → Type 0) → List X → Type 0
Tail {X} {D} Q P us = (n : ℕ) (x : D) (xs : List (Placed X)) → Q n x xs → Made (P n) (tokens_of xs ++ us)

-- the meaning of the name with this number
abbrev pub meaning_at : {X : Type 0} → List (List X → Type 0) → ℕ → List X → Type 0
meaning_at [] n us = Unit {0}
meaning_at (m ∷ ms) zero us = m us
meaning_at (m ∷ ms) (suc n) us = meaning_at ms n us

-- a token is of the classes of a set that was tested
pub one_class : (m k : ℕ) → (eqb m k || false) ≡ true → k ≡ m
one_class m k h = grind (arith, nat_tests)

pub more_classes : (m k : ℕ) (rest : Bool) → (eqb m k || rest) ≡ true → (k ≡ m) ⊎ (rest ≡ true)
more_classes m k rest h = ⊎_elim (λ (i : eqb m k ≡ true). let q : k ≡ m = grind (arith, nat_tests) in inl q) (λ (i : rest ≡ true). inr i) (either (eqb m k) rest h)
