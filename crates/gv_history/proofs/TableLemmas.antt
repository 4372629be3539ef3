-- The standings that the table of calls tells.
use Rattle.std.proofs.Common.{◌≡◌, ℕ, ◌+◌, ◌≤◌, Bool, true, false, eqb, cond, Option, Some, None, refl, sym, ap, ◌∙◌, arith, nat_eq}
use Rattle.std.proofs.lemmas.Bool.{ne_eqb}
use Rattle.std.specs.HashMap.{get}
use Rattle.gv_terms.specs.declared.value.Value.{Value}
use Rattle.gv_spec.specs.Walks.{Standing, NeverCalled, Called, Acted, Answered, Dropped, dropped}
use Rattle.gv_history.specs.declared.seen.Seen.{Seen}
use Rattle.gv_history.specs.declared.seen.Standing as held
use Rattle.gv_history.specs.Seen.{Calls, standing_of, standing_since, present_since, AreSeenBy}

dropped_twice : (s : Standing Value) → dropped (dropped s) ≡ dropped s
dropped_twice NeverCalled = refl
dropped_twice (Called op args) = refl
dropped_twice (Acted reply) = refl
dropped_twice Answered = refl
dropped_twice Dropped = refl

-- one boot more drops what stands in the table
booted_one : (boots : ℕ) (o : Option Seen) → ((seen : Seen) → o ≡ Some seen → seen.boots ≤ boots) → standing_since (boots + 1) o ≡ dropped (standing_since boots o)
booted_one boots None by = refl
booted_one boots (Some seen) by =
    let le : seen.boots ≤ boots = by seen refl in
    let later : eqb seen.boots (boots + 1) ≡ false = ne_eqb seen.boots (boots + 1) (λ e. absurd (omega (arith, e, le))) in
    ap (λ b. cond b (standing_of seen.standing) (dropped (standing_of seen.standing))) later ∙ go (eqb seen.boots boots)
  where
    go : (b : Bool) → dropped (standing_of seen.standing) ≡ dropped (cond b (standing_of seen.standing) (dropped (standing_of seen.standing)))
    go true = refl
    go false = sym (dropped_twice (standing_of seen.standing))

pub booted : (calls : Calls) (boots : ℕ) → AreSeenBy calls boots → (n : ℕ) → standing_since (boots + 1) (get nat_eq calls n) ≡ dropped (standing_since boots (get nat_eq calls n))
booted calls boots by n = booted_one boots (get nat_eq calls n) (by n)

-- what is present stands in the table
pub present_stands : (boots : ℕ) (o : Option Seen) (k : held.Standing) → present_since boots o ≡ Some k → standing_since boots o ≡ standing_of k
present_stands boots None k e = absurd cc
present_stands boots (Some seen) k e = go (eqb seen.boots boots) e
  where
    go : (b : Bool) → cond b (Some seen.standing) None ≡ Some k → cond b (standing_of seen.standing) (dropped (standing_of seen.standing)) ≡ standing_of k
    go true h = let same : seen.standing ≡ k = cc in ap standing_of same
    go false h = absurd cc
