-- Acts on a stack of parts.
use Rattle.std.proofs.Common.{◌≡◌, ℕ, zero, suc, ◌-◌, ◌<◌, Bool, true, false, List, [], ◌∷◌, ◌++◌, length, Option, Some, None, refl, ap, arith}
use Rattle.std.specs.Prelude.{slice_get}
use Rattle.std.proofs.lemmas.Bool.{false≢true}
use Rattle.gv_grammar.specs.declared.levels.TheConstants.{FIRST_ACT}
use Rattle.gv_grammar.specs.Building.{Reduction, has_tops, accepts, made_by}

get_within : {X : Type 0} (xs : List X) (i : ℕ) (x : X) → slice_get xs i ≡ Some x → i < length xs
get_within [] i x e = absurd cc
get_within (y ∷ xs) zero x e = omega arith
get_within (y ∷ xs) (suc i) x e = let l = get_within xs i x e in omega (arith, l)

-- an act that is done is one of the list
pub accepted_within : {P : Type 0} (acts : List (Reduction P)) (number : ℕ) (parts : List P) → accepts acts number parts ≡ true → number - FIRST_ACT < length acts
accepted_within {P} acts number parts h = go (slice_get acts (number - FIRST_ACT)) refl h
  where
    go : (found : Option (Reduction P)) → slice_get acts (number - FIRST_ACT) ≡ found → (elim found [ None ↦ false | Some act ↦ has_tops act.takes parts ]) ≡ true → number - FIRST_ACT < length acts
    go None e h = absurd (false≢true h)
    go (Some act) e h = get_within acts (number - FIRST_ACT) act e

pub get_first : {X : Type 0} (xs ys : List X) (i : ℕ) → i < length xs → slice_get (xs ++ ys) i ≡ slice_get xs i
get_first [] ys i l = absurd (omega (arith, l))
get_first (x ∷ xs) ys zero l = refl
get_first (x ∷ xs) ys (suc i) l = get_first xs ys i (omega (arith, l))

-- acts that stand first take and make the same among more
pub accepts_first : {P : Type 0} (acts more : List (Reduction P)) (number : ℕ) (parts : List P) → number - FIRST_ACT < length acts → accepts (acts ++ more) number parts ≡ accepts acts number parts
accepts_first {P} acts more number parts l =
    ap (λ (found : Option (Reduction P)). elim found as (λ _. Bool) [ None ↦ false | Some act ↦ has_tops act.takes parts ]) (get_first acts more (number - FIRST_ACT) l)

pub made_first : {P : Type 0} (acts more : List (Reduction P)) (number : ℕ) (parts : List P) → number - FIRST_ACT < length acts → made_by (acts ++ more) number parts ≡ made_by acts number parts
made_first {P} acts more number parts l =
    ap (λ (found : Option (Reduction P)). elim found as (λ _. List P) [ None ↦ parts | Some act ↦ act.makes parts ]) (get_first acts more (number - FIRST_ACT) l)
