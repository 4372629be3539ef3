-- What holds of assertions that a piece stands for.
use Rattle.std.specs.Prelude.{◌↔◌, ℕ, ◌<◌, ◌≤◌, Bool, List, [], ◌∷◌, ◌++◌}
use Rattle.gv_terms.specs.declared.tree.TermTree.{TermTree}
use Rattle.gv_terms.specs.declared.value.Env.{Env}
use Rattle.gv_resources.specs.Kinds.{Kind}
use Rattle.gv_resources.specs.Pieces.{Resource, Piece, part_of}
use Rattle.gv_assertions.specs.Atoms.{Atom, Each, Predicate, Takes}
use Rattle.gv_assertions.specs.Standing.{AreParts, StandsFor, StandForAll, IsNoneOf, indexed, number_under}
use Rattle.gv_assertions.specs.Kept.{AreOfKinds}

-- two parts of a piece stand for two things
abbrev pub Parted : (P Q : Piece → Type 0) → Piece → Type 0
Parted P Q p = (q r : Piece) × AreParts q r p × P q × Q r

-- ---- lists of assertions

pub record ListLaws (preds : List Predicate) : Type 0 where
  -- who owns more stands for it too
  pub more : (env : Env) (all : List Atom) (p q : Piece) → ((e : Resource) → p e ≤ q e) → StandForAll preds env all p → StandForAll preds env all q
  -- any assertion may be taken out first, so their order is no matter
  pub taken : (env : Env) (a : Atom) (all rest : List Atom) (p : Piece) → Takes all a rest
      → StandForAll preds env all p ↔ Parted (StandsFor preds env a) (StandForAll preds env rest) p
  -- two lists, one behind the other
  pub joined : (env : Env) (all others : List Atom) (p : Piece)
      → StandForAll preds env (all ++ others) p ↔ Parted (StandForAll preds env all) (StandForAll preds env others) p

abbrev pub ListsLaw : Type 0
ListsLaw = (preds : List Predicate) → ListLaws preds

-- ---- kinds

-- an assertion whose resources are all of some kinds is stood for by the part of these kinds
abbrev pub PartsLaw : Type 0
PartsLaw = (keeps : Kind → Bool) (preds : List Predicate) (env : Env) (all : List Atom) (p : Piece) → AreOfKinds keeps preds all → StandForAll preds env all p
    → StandForAll preds env all (part_of keeps p)

-- ---- ranges

-- a part stands for the assertion of one number, and another for the range without it
abbrev pub IsTakenOutOf : List Predicate → Env → List ℕ → (low high t : TermTree) → List TermTree → Atom → Piece → Type 0
IsTakenOutOf preds env index low high t except a p =
    Parted (StandsFor preds (indexed env index (number_under env t)) a) (StandsFor preds env (Each index low high (t ∷ except) a)) p

pub record RangeLaws (preds : List Predicate) : Type 0 where
  -- a number that is in the range and not left out comes out of it, and is left out then
  pub take : (env : Env) (index : List ℕ) (low high t : TermTree) (except : List TermTree) (a : Atom) (p : Piece)
      → number_under env low ≤ number_under env t → number_under env t < number_under env high → IsNoneOf env except (number_under env t)
      → StandsFor preds env (Each index low high except a) p
      → IsTakenOutOf preds env index low high t except a p
  -- and goes back
  pub put : (env : Env) (index : List ℕ) (low high t : TermTree) (except : List TermTree) (a : Atom) (p : Piece)
      → IsTakenOutOf preds env index low high t except a p → StandsFor preds env (Each index low high except a) p
  -- the numbers that are left out may be told in another order, or more often, or be more
  pub others : (env : Env) (index : List ℕ) (low high : TermTree) (except more : List TermTree) (a : Atom) (p : Piece)
      → ((n : ℕ) → IsNoneOf env more n → IsNoneOf env except n)
      → StandsFor preds env (Each index low high except a) p → StandsFor preds env (Each index low high more a) p
  -- a range falls into two at a number between its ends, and two such ranges are one
  pub split : (env : Env) (index : List ℕ) (low mid high : TermTree) (a : Atom) (p : Piece)
      → number_under env low ≤ number_under env mid → number_under env mid ≤ number_under env high
      → StandsFor preds env (Each index low high [] a) p
      → Parted (StandsFor preds env (Each index low mid [] a)) (StandsFor preds env (Each index mid high [] a)) p
  pub join : (env : Env) (index : List ℕ) (low mid high : TermTree) (a : Atom) (p : Piece)
      → Parted (StandsFor preds env (Each index low mid [] a)) (StandsFor preds env (Each index mid high [] a)) p
      → StandsFor preds env (Each index low high [] a) p
  -- a range that holds no number owns nothing
  pub empty : (env : Env) (index : List ℕ) (low high : TermTree) (except : List TermTree) (a : Atom) (p : Piece)
      → number_under env high ≤ number_under env low → StandsFor preds env (Each index low high except a) p

abbrev pub RangesLaw : Type 0
RangesLaw = (preds : List Predicate) → RangeLaws preds
