-- Unknowns are found one after another, in the order of their first use.
use Rattle.std.proofs.Common.{◌≡◌, ℕ, zero, suc, ◌+◌, ◌<◌, ◌≤◌, List, [], ◌∷◌, ◌++◌, length, drop, take, get_or, Bool, true, false, cond, Option, Some, None, refl, sym, ap, ◌∙◌, subst, arith}
use Rattle.std.proofs.lemmas.List.{append_assoc}
use Rattle.std.proofs.lemmas.List.{drop_more, drop_all, take_more, take_all}
use Rattle.std.specs.List.{All}
use Rattle.std.specs.Option.{is_some}
use Rattle.gv_terms.specs.declared.term.Term.{Term}
use Rattle.gv_terms.specs.declared.tree.TermTree.{TermTree}
use Rattle.gv_terms.specs.Store.{tree_at, trees_at, AreIn}
use Rattle.gv_certs.specs.Trees.{contains, tree_eq}
use Rattle.gv_certs.specs.Sums.{Summands, summands, with_unknown, with_unknowns, place_in, number_in}
use Rattle.gv_certs.specs.Proving.{unknowns_in, sides as both_sides}
use Rattle.gv_sums.specs.declared.summand.Summand.{Summand}
use Rattle.gv_sums.specs.declared.comparison.Compared.{Compared}
use Rattle.gv_sums.specs.Reading.{summands_at, terms_in, sides_in, comparisons_at, IsWithin, IsShort, AreShort}

abbrev pub none : Term
none = record { id = 0 }

abbrev pub nothing : Summand
nothing = record { negative = false; term = none }

-- ---- places

module _ (st : List TermTree) (us : List Term) (t : TermTree) where
  abbrev place_from : ℕ → ℕ
  place_from i = i + place_in (trees_at st (drop i us)) t

  step : (i : ℕ) (b : Bool) → i < length us → b ≡ tree_eq (tree_at st (get_or us i none).id) t → place_in (trees_at st (drop i us)) t ≡ cond b 0 (suc (place_in (trees_at st (drop (i + 1) us)) t))
  step i b lt is = ap (λ vs. place_in (trees_at st vs) t) (drop_more us i none lt) ∙ ap (λ c. cond c 0 (suc (place_in (trees_at st (drop (i + 1) us)) t))) (sym is)

  pub found_here : (i : ℕ) (b : Bool) → i < length us → b ≡ tree_eq (tree_at st (get_or us i none).id) t → b ≡ true → place_from i ≡ place_in (trees_at st us) t → i ≡ place_in (trees_at st us) t
  found_here i b lt is high stand =
      let here : place_in (trees_at st (drop i us)) t ≡ 0 = step i b lt is ∙ ap (λ c. cond c 0 (suc (place_in (trees_at st (drop (i + 1) us)) t))) high in
      omega (arith, here, stand)

  pub not_here : (i : ℕ) (b : Bool) → i < length us → b ≡ tree_eq (tree_at st (get_or us i none).id) t → b ≡ false → place_from i ≡ place_in (trees_at st us) t → place_from (i + 1) ≡ place_in (trees_at st us) t
  not_here i b lt is low stand =
      let here : place_in (trees_at st (drop i us)) t ≡ suc (place_in (trees_at st (drop (i + 1) us)) t) = step i b lt is ∙ ap (λ c. cond c 0 (suc (place_in (trees_at st (drop (i + 1) us)) t))) low in
      omega (arith, here, stand)

  pub nowhere : (i : ℕ) → i ≡ length us → place_from i ≡ place_in (trees_at st us) t → length us ≡ place_in (trees_at st us) t
  nowhere i e stand =
      let here : place_in (trees_at st (drop i us)) t ≡ 0 = ap (λ vs. place_in (trees_at st vs) t) (drop_all i us (omega arith)) in
      omega (arith, here, stand, e)

-- ---- one unknown

pub added : (us : List TermTree) (t : TermTree) (o : Option ℕ) (b : Bool) → is_some o ≡ false → b ≡ contains us t → b ≡ false → us ++ (t ∷ []) ≡ with_unknown us t o
added us t (Some n) b e is low = absurd cc
added us t None b e is low = ap (λ c. cond c us (us ++ (t ∷ []))) (sym low ∙ is)

pub literal : (us : List TermTree) (t : TermTree) (o : Option ℕ) → is_some o ≡ true → us ≡ with_unknown us t o
literal us t (Some n) e = refl
literal us t None e = absurd cc

pub there : (us : List TermTree) (t : TermTree) (o : Option ℕ) (b : Bool) → is_some o ≡ false → b ≡ contains us t → b ≡ true → us ≡ with_unknown us t o
there us t (Some n) b e is high = absurd cc
there us t None b e is high = ap (λ c. cond c us (us ++ (t ∷ []))) (sym high ∙ is)

-- ---- all unknowns of summands

module _ (st : List TermTree) (ss : List Summand) where
  -- the unknowns after the first summands, and what all are
  pub one_summand : (us vs whole : List TermTree) (i : ℕ) → i < length ss
      → vs ≡ with_unknown us (tree_at st (get_or ss i nothing).term.id) (number_in (tree_at st (get_or ss i nothing).term.id))
      → with_unknowns us (summands_at st (drop i ss)) ≡ whole → with_unknowns vs (summands_at st (drop (i + 1) ss)) ≡ whole
  one_summand us vs whole i lt e stand =
      ap (λ ws. with_unknowns ws (summands_at st (drop (i + 1) ss))) e
      ∙ sym (ap (λ xs. with_unknowns us (summands_at st xs)) (drop_more ss i nothing lt)) ∙ stand

  pub all_summands : (us whole : List TermTree) (i : ℕ) → length ss ≤ i → with_unknowns us (summands_at st (drop i ss)) ≡ whole → us ≡ whole
  all_summands us whole i le stand = sym (ap (λ xs. with_unknowns us (summands_at st xs)) (drop_all i ss le)) ∙ stand

-- a term of a list of summands is in the store
pub term_within : (st : List TermTree) (ss : List Summand) (i : ℕ) → AreIn st (terms_in ss) → i < length ss → (get_or ss i nothing).term.id < length st
term_within st [] i within lt = absurd (omega arith)
term_within st (s ∷ ss) zero within lt = within 0 none (omega arith)
term_within st (s ∷ ss) (suc i) within lt = term_within st ss i (λ k d l. within (suc k) d (omega arith)) (omega arith)

-- ---- all unknowns of terms

module _ (st sums : List TermTree) (terms : List Term) where
  pub one_term : (us vs whole : List TermTree) (i : ℕ) → i < length terms
      → vs ≡ with_unknowns us (summands sums (tree_at st (get_or terms i none).id))
      → unknowns_in sums us (trees_at st (drop i terms)) ≡ whole → unknowns_in sums vs (trees_at st (drop (i + 1) terms)) ≡ whole
  one_term us vs whole i lt e stand =
      ap (λ ws. unknowns_in sums ws (trees_at st (drop (i + 1) terms))) e
      ∙ sym (ap (λ ts. unknowns_in sums us (trees_at st ts)) (drop_more terms i none lt)) ∙ stand

  pub all_terms : (us whole : List TermTree) (i : ℕ) → length terms ≤ i → unknowns_in sums us (trees_at st (drop i terms)) ≡ whole → us ≡ whole
  all_terms us whole i le stand = sym (ap (λ ts. unknowns_in sums us (trees_at st ts)) (drop_all i terms le)) ∙ stand

  -- those that are left are short where these are, so all are
  pub one_short : (i : ℕ) → i < length terms → IsShort (summands sums (tree_at st (get_or terms i none).id))
      → (AreShort sums (trees_at st (drop i terms)) → AreShort sums (trees_at st terms)) → AreShort sums (trees_at st (drop (i + 1) terms)) → AreShort sums (trees_at st terms)
  one_short i lt here stand rest = stand (subst (λ ts. AreShort sums (trees_at st ts)) (sym (drop_more terms i none lt)) (here, rest))

  pub all_short : (i : ℕ) → length terms ≤ i → (AreShort sums (trees_at st (drop i terms)) → AreShort sums (trees_at st terms)) → AreShort sums (trees_at st terms)
  all_short i le stand = stand (subst (λ ts. AreShort sums (trees_at st ts)) (sym (drop_all i terms le)) tt)

pub unknowns_append : (sums us ts vs : List TermTree) → unknowns_in sums us (ts ++ vs) ≡ unknowns_in sums (unknowns_in sums us ts) vs
unknowns_append sums us [] vs = refl
unknowns_append sums us (t ∷ ts) vs = unknowns_append sums (with_unknowns us (summands sums t)) ts vs

pub short_append : (sums ts vs : List TermTree) → AreShort sums ts → AreShort sums vs → AreShort sums (ts ++ vs)
short_append sums [] vs h g = g
short_append sums (t ∷ ts) vs h g = (h.0, short_append sums ts vs h.1 g)

-- ---- sides

pub sides_are : (st : List TermTree) (cs : List Compared) → trees_at st (sides_in cs) ≡ both_sides (comparisons_at st cs)
sides_are st [] = refl
sides_are st (c ∷ cs) = ap (λ ts. tree_at st c.low.id ∷ tree_at st c.high.id ∷ ts) (sides_are st cs)

pub sides_within : (st : List TermTree) (cs : List Compared) → All (IsWithin st) cs → AreIn st (sides_in cs)
sides_within st [] within = λ k d lt. absurd (omega arith)
sides_within st (c ∷ cs) within = by_place (within 0 c (omega arith)) (sides_within st cs (λ k d lt. within (suc k) d (omega arith)))
  where
    by_place : IsWithin st c → AreIn st (sides_in cs) → (k : ℕ) (d : Term) → k < length (sides_in (c ∷ cs)) → (get_or (sides_in (c ∷ cs)) k d).id < length st
    by_place here rest zero d lt = here.0
    by_place here rest (suc zero) d lt = here.1
    by_place here rest (suc (suc k)) d lt = rest k d (omega arith)

abbrev pub nowhere_compared : Compared
nowhere_compared = record { same = false; strict = false; low = none; high = none }

-- one comparison more
pub sides_more : (cs : List Compared) (i : ℕ) (ts us vs : List Term) → i < length cs → ts ≡ sides_in (take i cs)
    → us ≡ ts ++ (get_or cs i nowhere_compared).low ∷ [] → vs ≡ us ++ (get_or cs i nowhere_compared).high ∷ [] → vs ≡ sides_in (take (i + 1) cs)
sides_more cs i ts us vs lt stand e f =
    f ∙ ap (λ ws. ws ++ (get_or cs i nowhere_compared).high ∷ []) (e ∙ ap (λ ws. ws ++ (get_or cs i nowhere_compared).low ∷ []) stand)
    ∙ append_assoc (sides_in (take i cs)) ((get_or cs i nowhere_compared).low ∷ []) ((get_or cs i nowhere_compared).high ∷ [])
    ∙ sym (ap sides_in (take_more cs i nowhere_compared lt) ∙ sides_append (take i cs) (get_or cs i nowhere_compared ∷ []))
  where
    sides_append : (x y : List Compared) → sides_in (x ++ y) ≡ sides_in x ++ sides_in y
    sides_append [] y = refl
    sides_append (c ∷ x) y = ap (λ ws. c.low ∷ c.high ∷ ws) (sides_append x y)

pub sides_all : (cs : List Compared) (i : ℕ) (ts : List Term) → length cs ≤ i → ts ≡ sides_in (take i cs) → ts ≡ sides_in cs
sides_all cs i ts le stand = stand ∙ ap sides_in (take_all i cs le)

pub shorter : (sums : List TermTree) (t : TermTree) (ss : Summands) → ss ≡ summands sums t → IsShort ss → IsShort (summands sums t)
shorter sums t ss e short = subst IsShort e short
