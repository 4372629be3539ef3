-- What one step of the engine keeps.
use Rattle.std.proofs.Common.{◌≡◌, ℕ, ◌+◌, true, false, List, [], ◌∷◌, ◌++◌, Some, refl, sym, ap, subst, ◌∙◌, arith, append_assoc}
use Rattle.std.specs.Prelude.{slice_get, reverse}
use Rattle.std.proofs.lemmas.List.{reverse-append}
use Rattle.std.proofs.lemmas.Bool.{false≢true}
use Rattle.gv_grammar.specs.declared.symbols.Symbol.{Symbol}
use Rattle.gv_grammar.specs.declared.symbols.Symbol.TheVariants.{Token, Name, Act}
use Rattle.gv_grammar.specs.declared.steps.Step.{Step}
use Rattle.gv_grammar.specs.declared.steps.Step.TheVariants.{Take, Do}
use Rattle.gv_grammar.specs.Derivation.{Tables, Derives, done, token, act, named, symbols_of, takes}
use Rattle.gv_grammar.specs.Predictive.{Certificate, is_predictive, certificate_of, entry, is_shown_by}
use Rattle.gv_grammar.specs.Engine.{look, IsSound, Narrows, Takes, Refuses}
use Rattle.gv_grammar.proofs.Theory.{decided}

pub narrows_none : (g : Tables) (class : ℕ) (stack : List Symbol) → Narrows g class stack stack []
narrows_none g class stack = record { up = λ ps us d. d; down = λ ps us e d. (ps, refl, d) }

push_assoc : (xs : List Step) (x : Step) (ys : List Step) → (xs ++ x ∷ []) ++ ys ≡ xs ++ (x ∷ ys)
push_assoc xs x ys = append_assoc xs (x ∷ []) ys

module _ (g : Tables) (c : Certificate) (shown : is_shown_by g c ≡ true) where
  -- one name more was replaced
  pub narrows_rule : (class name rule : ℕ) (old more : List Symbol) (added : List Step) → IsSound g c (Name name ∷ more) → slice_get g.names rule ≡ Some name
      → entry g name class ≡ rule + 1 → Narrows g class old (Name name ∷ more) added → Narrows g class old (symbols_of g rule ++ more) added
  narrows_rule class name rule old more added s n e h = record {
    up = λ ps us d. h.up ps us (named rule n d);
    down = λ ps us l d.
        let (rest, split, d') = h.down ps us l d in
        let (r, n', e', d'') = decided g c shown name more rest us s d' in
        let same_entry : entry g name (look us) ≡ entry g name class = ap (entry g name) l in
        let q : r ≡ rule = omega (arith, e, e', same_entry) in
        (rest, split, subst (λ (x : ℕ). Derives g (symbols_of g x ++ more) rest us) q d'');
  }

  -- the table has nothing
  pub refuses_rule : (class name : ℕ) (old more : List Symbol) (added : List Step) → IsSound g c (Name name ∷ more)
      → ((rule : ℕ) → slice_get g.names rule ≡ Some name → entry g name class ≡ rule + 1 → ⊥)
      → Narrows g class old (Name name ∷ more) added → Refuses g class old
  refuses_rule class name old more added s none h ps us l d =
      let (rest, split, d') = h.down ps us l d in
      let (r, n', e', d'') = decided g c shown name more rest us s d' in
      none r n' (sym (ap (entry g name) l) ∙ e')

pub narrows_act : (g : Tables) (class number : ℕ) (old more : List Symbol) (added : List Step) → Narrows g class old (Act number ∷ more) added → Narrows g class old more (added ++ Do number ∷ [])
narrows_act g class number old more added h = record {
  up = λ ps us d. rw push_assoc (h.up (Do number ∷ ps) us (act d));
  down = λ ps us l d.
      let (rest, split, d') = h.down ps us l d in
      go ps us rest split d';
}
  where
    go : (ps : List Step) (us : List ℕ) (rest : List Step) → ps ≡ added ++ rest → Derives g (Act number ∷ more) rest us
        → (after : List Step) × (ps ≡ (added ++ Do number ∷ []) ++ after) × Derives g more after us
    go ps us rest split (act {steps = after} d) = (after, rw push_assoc split, d)

pub takes_token : (g : Tables) (class set : ℕ) (old more : List Symbol) (added : List Step) → takes g set class ≡ true
    → Narrows g class old (Token set ∷ more) added → Takes g class old more (added ++ Take ∷ [])
takes_token g class set old more added t h = record {
  up = λ ps us d. rw push_assoc (h.up (Take ∷ ps) (class ∷ us) (token t d));
  down = λ ps us l d.
      let (rest, split, d') = h.down ps us l d in
      go ps us l rest split d';
}
  where
    go : (ps : List Step) (us : List ℕ) → look us ≡ class → (rest : List Step) → ps ≡ added ++ rest → Derives g (Token set ∷ more) rest us
        → (after : List Step) × (vs : List ℕ) × (us ≡ class ∷ vs) × (ps ≡ (added ++ Take ∷ []) ++ after) × Derives g more after vs
    go ps us l rest split (token {class = k} {steps = after} {classes = vs} t' d) = (after, vs, ap (λ (x : ℕ). x ∷ vs) l, rw push_assoc split, d)

pub refuses_token : (g : Tables) (class set : ℕ) (old more : List Symbol) (added : List Step) → takes g set class ≡ false
    → Narrows g class old (Token set ∷ more) added → Refuses g class old
refuses_token g class set old more added t h ps us l d =
    let (rest, split, d') = h.down ps us l d in go us l rest d'
  where
    go : (us : List ℕ) → look us ≡ class → (rest : List Step) → Derives g (Token set ∷ more) rest us → ⊥
    go us l rest (token {class = k} t' d) = false≢true (sym t ∙ subst (λ (x : ℕ). takes g set x ≡ true) l t')

-- nothing is left to derive
pub derives_nothing : (g : Tables) (ps : List Step) (us : List ℕ) → Derives g [] ps us → (ps ≡ []) × (us ≡ [])
derives_nothing g ps us done = (refl, refl)

-- the stack before a symbol was taken off it
pub popped : (xs ys : List Symbol) (x y : Symbol) → xs ≡ ys ++ x ∷ [] → x ≡ y → reverse xs ≡ y ∷ reverse ys
popped xs ys x y e i = ap reverse e ∙ (reverse-append ys (x ∷ []) ∙ ap (λ (z : Symbol). z ∷ reverse ys) i)

pub shown_of : (g : Tables) → is_predictive g ≡ true → is_shown_by g (certificate_of g) ≡ true
unfolding is_predictive
shown_of g h = h

pub pushed_more : (old now new added : List Step) (x : Step) → new ≡ now ++ x ∷ [] → now ≡ old ++ added → new ≡ old ++ (added ++ x ∷ [])
pushed_more old now new added x e i = e ∙ (ap (λ (xs : List Step). xs ++ x ∷ []) i ∙ append_assoc old added (x ∷ []))
