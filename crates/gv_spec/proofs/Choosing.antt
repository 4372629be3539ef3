-- One pick after another: what is bound so far, and what is left.
use Rattle.std.proofs.Common.{◌≡◌, ℕ, ◌<◌, List, [], ◌∷◌, ◌++◌, Bool, true, false, ◌&&◌, length, sym, ap, subst, ◌∙◌, append_assoc}
use Rattle.std.specs.List.{All}
use Rattle.std.proofs.lemmas.List.Elements.{All-tail}
use Rattle.gv_terms.specs.declared.tree.TermTree.{TermTree}
use Rattle.gv_terms.specs.declared.value.Binding.{Binding}
use Rattle.gv_atomic.specs.declared.spec.Pick.{Pick}
use Rattle.gv_atomic.specs.Choices.{picked, picks_bound, fits, limit_of, are_allowed}
use Rattle.gv_atomic.specs.Specification.{ArePicksWithin}
use Rattle.gv_atomic.proofs.DistinctNames.{first_false}

module _ (ts : List TermTree) (before : List Binding) (picks : List Pick) (choices : List ℕ) (p : Pick) (c : ℕ) (ps : List Pick) (cs : List ℕ) (is : picks ≡ p ∷ ps) (has : choices ≡ c ∷ cs) where
  opened : are_allowed ts before picks choices ≡ (fits c (limit_of ts before p) && are_allowed ts (before ++ picked p c ∷ []) ps cs)
  opened = ap (λ qs. are_allowed ts before qs choices) is ∙ ap (λ ns. are_allowed ts before (p ∷ ps) ns) has

  -- a number that doesn't fit
  pub refused : fits c (limit_of ts before p) ≡ false → are_allowed ts before picks choices ≡ false
  refused e = opened ∙ first_false (fits c (limit_of ts before p)) (are_allowed ts (before ++ picked p c ∷ []) ps cs) e

  -- one that does: what is left is as allowed as before
  pub accepted : (after : List Binding) → fits c (limit_of ts before p) ≡ true → after ≡ before ++ picked p c ∷ [] → are_allowed ts after ps cs ≡ are_allowed ts before picks choices
  accepted after e to = sym (opened ∙ ap (λ b. b && are_allowed ts (before ++ picked p c ∷ []) ps cs) e ∙ ap (λ bs. are_allowed ts bs ps cs) (sym to))

  -- and so is what will be bound
  pub bound_next : (after : List Binding) → after ≡ before ++ picked p c ∷ [] → after ++ picks_bound ps cs ≡ before ++ picks_bound picks choices
  bound_next after to =
      ap (λ bs. bs ++ picks_bound ps cs) to ∙ append_assoc before (picked p c ∷ []) (picks_bound ps cs)
      ∙ sym (ap (λ qs. before ++ picks_bound qs choices) is ∙ ap (λ ns. before ++ picks_bound (p ∷ ps) ns) has)

pub within_rest : (ts : List TermTree) (picks : List Pick) (p : Pick) (ps : List Pick) → picks ≡ p ∷ ps → ArePicksWithin ts picks → ArePicksWithin ts ps
within_rest ts picks p ps is all = All-tail (λ q. q.bound.id < length ts) p ps (subst (ArePicksWithin ts) is all)
