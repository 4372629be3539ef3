-- Which choices are allowed, by places, and specifications without picks.
use Rattle.std.proofs.Common.{◌≡◌, ℕ, zero, suc, List, [], ◌∷◌, ◌++◌, true, cond, take, Some, None, refl, sym, ap, ◌∙◌, append_assoc, append-nil, arith}
use Rattle.std.specs.Prelude.{slice_get}
use Rattle.gv_terms.specs.declared.tree.TermTree.{TermTree}
use Rattle.gv_terms.specs.declared.value.Value.{Value}
use Rattle.gv_terms.specs.declared.value.Binding.{Binding}
use Rattle.gv_atomic.specs.declared.spec.Pick.{Pick}
use Rattle.gv_atomic.specs.Choices.{picked, picks_bound, fits, limit_of, are_allowed, AreAllowed, binds}
use Rattle.gv_atomic.specs.Specification.{fields_bound, op_before, assigned, reply_value}
use Rattle.gv_atomic.specs.Plain.{unless_chosen}
use Rattle.gv_atomic.specs.Laws.{ChoicesFit, OperationsWithoutPicks, CrashesWithoutPicks}
use Rattle.gv_atomic.proofs.DistinctNames.{both, parted}

-- one pick stands before the others
moved : (ts : List TermTree) (before : List Binding) (p : Pick) (c : ℕ) (picks : List Pick) (choices : List ℕ) (q : Pick) → limit_of ts ((before ++ picked p c ∷ []) ++ picks_bound picks choices) q ≡ limit_of ts (before ++ picks_bound (p ∷ picks) (c ∷ choices)) q
moved ts before p c picks choices q = ap (λ bs. limit_of ts bs q) (append_assoc before (picked p c ∷ []) (picks_bound picks choices))

to : (ts : List TermTree) (before : List Binding) (picks : List Pick) (choices : List ℕ) → are_allowed ts before picks choices ≡ true → AreAllowed ts before picks choices
to ts before [] [] e = record { as_many = refl; each = λ n p c f g. absurd cc }
to ts before [] (c ∷ choices) e = absurd cc
to ts before (p ∷ picks) [] e = absurd cc
to ts before (p ∷ picks) (c ∷ choices) e =
    let two = parted (fits c (limit_of ts before p)) (are_allowed ts (before ++ picked p c ∷ []) picks choices) e in
    let rest = to ts (before ++ picked p c ∷ []) picks choices two.1 in
    record {
      as_many = ap suc rest.as_many;
      each = by two.0 rest.each;
    }
  where
    Each : List Binding → List Pick → List ℕ → Type 0
    Each bs ps cs = (n : ℕ) (q : Pick) (d : ℕ) → slice_get ps n ≡ Some q → slice_get cs n ≡ Some d → fits d (limit_of ts (bs ++ picks_bound (take n ps) cs) q) ≡ true

    by : fits c (limit_of ts before p) ≡ true → Each (before ++ picked p c ∷ []) picks choices → Each before (p ∷ picks) (c ∷ choices)
    by h rest zero q d f g =
        let first : p ≡ q = cc in
        let number : c ≡ d = cc in
        ap (λ bs. fits d (limit_of ts bs q)) (append-nil before) ∙ ap (λ r. fits d (limit_of ts before r)) (sym first) ∙ ap (λ k. fits k (limit_of ts before p)) (sym number) ∙ h
    by h rest (suc n) q d f g = ap (fits d) (sym (moved ts before p c (take n picks) choices q)) ∙ rest n q d f g

back : (ts : List TermTree) (before : List Binding) (picks : List Pick) (choices : List ℕ) → AreAllowed ts before picks choices → are_allowed ts before picks choices ≡ true
back ts before [] [] h = refl
back ts before [] (c ∷ choices) h = absurd (omega (arith, h.as_many))
back ts before (p ∷ picks) [] h = absurd (omega (arith, h.as_many))
back ts before (p ∷ picks) (c ∷ choices) h =
    both (fits c (limit_of ts before p)) (are_allowed ts (before ++ picked p c ∷ []) picks choices)
    (ap (λ bs. fits c (limit_of ts bs p)) (sym (append-nil before)) ∙ h.each 0 p c refl refl)
    (back ts (before ++ picked p c ∷ []) picks choices (record {
      as_many = omega (arith, h.as_many);
      each = λ n q d f g. ap (fits d) (moved ts before p c (take n picks) choices q) ∙ h.each (suc n) q d f g;
    }))

pub choices_fit : ChoicesFit
choices_fit ts before picks choices = (to ts before picks choices, back ts before picks choices)

-- No picks.

nothing_picked : (before : List Binding) → before ++ picks_bound [] [] ≡ before
nothing_picked before = append-nil before

-- where there are no picks, what stands before them is all
unpicked : {A : Type 0} (ts : List TermTree) (before : List Binding) (picks : List Pick) (choices : List ℕ) (outcome : List Binding → A) → picks ≡ []
    → cond (are_allowed ts before picks choices) (Some (outcome (before ++ picks_bound picks choices))) None ≡ unless_chosen choices (outcome before)
unpicked ts before (p ∷ picks) choices outcome e = absurd cc
unpicked ts before [] [] outcome e = ap (λ bs. Some (outcome bs)) (nothing_picked before)
unpicked ts before [] (c ∷ choices) outcome e = refl

pub operations_without_picks : OperationsWithoutPicks
operations_without_picks s o args choices fields none =
    let outcome : List Binding → List Value × Value = λ bs. (assigned s.store (binds bs) o.body fields, reply_value s.store (binds bs) o.reply) in
    unpicked s.store (op_before s o args fields) o.picks choices outcome none

pub crashes_without_picks : CrashesWithoutPicks
crashes_without_picks s choices fields none =
    let outcome : List Binding → List Value = λ bs. assigned s.store (binds bs) s.crash fields in
    unpicked s.store (fields_bound s.fields fields) s.crash_picks choices outcome none
