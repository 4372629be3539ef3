-- What is added to the facts of a path, where it follows from them, leaves a frame where it stands; and where nothing meets the facts, no frame stands there.
use Rattle.std.proofs.Common.{◌≡◌, zero, suc, List, [], ◌∷◌, ◌++◌, Some, refl, arith, ap, sym, ◌∙◌, subst}
use Rattle.std.specs.List.{All}
use Rattle.std.specs.Prelude.{Option}
use Rattle.gv_terms.specs.declared.tree.TermTree.{TermTree}
use Rattle.gv_terms.specs.declared.value.Env.{Env}
use Rattle.gv_axioms.specs.Truth.{IsTrueUnder}
use Rattle.gv_assertions.specs.Standing.{AreTrueUnder}
use Rattle.gv_seats.specs.Changes.{changes_nothing}
use Rattle.gv_seats.specs.Soundness.{IsSoundMove}
use Rattle.gv_seats.proofs.Bases.{arrived}
use Rattle.gv_have.specs.Telling.{Follows, IsAdded}
use Rattle.gv_asserts.specs.Knowing.{FollowsFrom, MeetNothing, with_facts, KnowingLaw, EndingLaw, IsSoundAddition, IsSoundEnd}

-- facts by their places
pub by_places : (env : Env) (facts : List TermTree) → AreTrueUnder env facts → All (IsTrueUnder env) facts
by_places env [] are k d l = absurd (omega (arith, l))
by_places env (f ∷ facts) are zero d l = are.0
by_places env (f ∷ facts) are (suc k) d l = by_places env facts are.1 k d (omega (arith, l))

-- one behind the others
and_one : (env : Env) (facts : List TermTree) (f : TermTree) → AreTrueUnder env facts → IsTrueUnder env f → AreTrueUnder env (facts ++ f ∷ [])
and_one env [] f are is = (is, tt)
and_one env (g ∷ facts) f are is = (are.0, and_one env facts f are.1 is)

pub knowing_law : KnowingLaw
knowing_law o h f follows w g start frame rest s =
    arrived o w g start frame h (with_facts h (h.facts ++ f ∷ [])) rest refl (record {
      env = s.env;
      piece = s.piece;
      pool = s.pool;
      locks = s.locks;
      described = record {
        todo = s.described.todo;
        as_many = s.described.as_many;
        locals = s.described.locals;
        valuation = s.described.valuation;
        started = s.described.started;
        facts = and_one s.env h.facts f s.described.facts (follows s.env s.described.valuation (by_places s.env h.facts s.described.facts));
        stands = s.described.stands;
      };
      base = s.base;
      still = s.still;
    })

pub ending_law : EndingLaw
ending_law o h never w g start frame rest s = absurd (never s.env s.described.valuation (by_places s.env h.facts s.described.facts))

-- what a certificate's check tells is enough
pub added_soundly : (facts more : List TermTree) (o : Option TermTree) (f : TermTree) → o ≡ Some f → Follows facts o → IsAdded facts o more → IsSoundAddition facts more
added_soundly facts more o f e follows added proof p same =
    subst (λ fs. IsSoundMove proof changes_nothing p (with_facts p fs ∷ [])) (ap (λ fs. fs ++ f ∷ []) same ∙ sym (added f e))
    (knowing_law proof p f (subst (λ fs. FollowsFrom fs f) (sym same) (follows f e)))

pub ended_soundly : (facts : List TermTree) → MeetNothing facts → IsSoundEnd facts
ended_soundly facts never proof p same = ending_law proof p (subst (λ fs. MeetNothing fs) (sym same) never)
