-- Assertions that become others, each in its place.
use Rattle.std.proofs.Common.{◌+◌, List, [], ◌∷◌, map, arith}
use Rattle.gv_terms.specs.declared.value.Env.{Env}
use Rattle.gv_resources.specs.Pieces.{Piece}
use Rattle.gv_assertions.specs.Atoms.{Atom, Predicate, Takes, here, there}
use Rattle.gv_assertions.specs.Standing.{AreParts, StandsFor, StandForAll, both, none}
use Rattle.gv_assertions.proofs.Lists.{front, parted, put_back, more_for}
use Rattle.gv_giving.specs.Rows.{TakesAll, takes_none, takes_one}
use Rattle.gv_acting.specs.Acts.{Became, Renews, renews_none, stays, becomes}

abbrev pub olds_of : List Became → List Atom
olds_of became = map (λ b. b.old) became

abbrev pub news_of : List Became → List Atom
news_of became = map (λ b. b.new) became

pub record Renewed (preds : List Predicate) (env : Env) (became : List Became) (after : List Atom) (p : Piece) : Type 0 where
  pub first : Piece
  pub others : Piece
  pub split : AreParts first others p
  pub stands : StandForAll preds env (olds_of became) first
  pub again : (q r : Piece) → AreParts q others r → StandForAll preds env (news_of became) q → StandForAll preds env after r

pub renewed : {preds : List Predicate} {env : Env} {all after : List Atom} {became : List Became} {p : Piece} → Renews all after became → StandForAll preds env all p
    → Renewed preds env became after p
renewed {p = p} renews_none s = record { first = λ e. 0; others = p; split = λ e. omega arith; stands = none; again = λ q r parts n. none }
renewed (stays more) (both q r split a s) =
    let rest = renewed more s in
    record {
      first = rest.first;
      others = λ e. q e + rest.others e;
      split = λ e. let l = split e in let m = rest.split e in omega arith;
      stands = rest.stands;
      again = λ x y parts n. both q (λ e. x e + rest.others e) (λ e. let l = parts e in omega arith) a (rest.again x (λ e. x e + rest.others e) (λ e. omega arith) n);
    }
renewed {preds = preds} {env = env} (becomes {b = b} {after = after} {became = became} more) (both q r split a s) =
    let rest = renewed more s in
    record {
      first = λ e. q e + rest.first e;
      others = rest.others;
      split = λ e. let l = split e in let m = rest.split e in omega arith;
      stands = both q rest.first (λ e. omega arith) a rest.stands;
      again = λ x y parts n. behind rest.others rest.again x y parts n;
    }
  where
    behind : (others : Piece) → ((q r : Piece) → AreParts q others r → StandForAll preds env (news_of became) q → StandForAll preds env after r) → (x y : Piece) → AreParts x others y
        → StandForAll preds env (b.new ∷ news_of became) x → StandForAll preds env (b.new ∷ after) y
    behind others again x y parts (both one more split a n) =
        both one (λ e. more e + others e) (λ e. let l = parts e in let m = split e in omega arith) a (again more (λ e. more e + others e) (λ e. omega arith) n)

-- ---- another order

mapped : {A B : Type 0} (f : A → B) {all left : List A} {x : A} → Takes all x left → Takes (map f all) (f x) (map f left)
mapped f here = here
mapped f (there t) = there (mapped f t)

pub all_mapped : {A B : Type 0} (f : A → B) {all xs left : List A} → TakesAll all xs left → TakesAll (map f all) (map f xs) (map f left)
all_mapped f takes_none = takes_none
all_mapped f (takes_one t more) = takes_one (mapped f t) (all_mapped f more)

pub all_back : {preds : List Predicate} {env : Env} {all xs : List Atom} {p : Piece} → TakesAll all xs [] → StandForAll preds env xs p → StandForAll preds env all p
all_back takes_none s = s
all_back (takes_one t more) (both q r split a s) = put_back t (both q r split a (all_back more s))

-- one of several
pub one_of : {preds : List Predicate} {env : Env} {all left : List Atom} {a : Atom} {p : Piece} → Takes all a left → StandForAll preds env all p → StandsFor preds env a p
one_of t s = let (q, r, split, stands, others) = parted (front t s) in more_for (λ e. let l = split e in omega arith) stands
