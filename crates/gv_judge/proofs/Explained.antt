-- Full nodes and explanations, of moves as the program holds them.
use Rattle.std.proofs.Common.{◌≡◌, ℕ, ◌≤◌, suc, List, [], ◌∷◌, map, length, get_or, Option, Some, None, Result, Ok, Err, refl, sym, ap, subst, ◌∙◌, arith}
use Rattle.std.specs.Prelude.{slice_get}
use Rattle.std.proofs.lemmas.Option.{slice_get_within, slice_get-get_or}
use Rattle.gv_atomic.specs.declared.spec.Op.{Op}
use Rattle.gv_atomic.specs.Specification.{fields_bound, op_before}
use Rattle.gv_judge.specs.Bound.{ChoosesNothing}
use Rattle.gv_judge.proofs.Bound.{few_nodes}
use Rattle.gv_terms.specs.declared.value.Value.{Value}
use Rattle.gv_atomic.specs.declared.spec.Spec.{Spec}
use Rattle.gv_spec.specs.declared.entry.Entry.TheVariants as held
use Rattle.gv_spec.specs.declared.explanation.Move as held_moves
use Rattle.gv_spec.specs.declared.explanation.Move.TheVariants as held_move
use Rattle.gv_spec.specs.Entry as entry
use Rattle.gv_spec.specs.Move as move
use Rattle.gv_spec.specs.Entry.{Entry}
use Rattle.gv_spec.specs.Move.{Move, entries_of}
use Rattle.gv_spec.specs.Specification.{Specification}
use Rattle.gv_spec.specs.Walks.{WalkState, WalkCause, onward, walk_moved, walk_from, Explains}
use Rattle.gv_spec.specs.Atomic.{atomic_of}
use Rattle.gv_spec.specs.History.{entry_of, move_of}
use Rattle.gv_judge.specs.Choosing.{choosing_of, lists_of_op, allowed_lists}
use Rattle.gv_judge.specs.SearchLaws.{AreWritten}
use Rattle.gv_judge.specs.Explained.{FullNodesAreExplanations, HoldWords, NoFullNodeNoExplanation, PicksNothing, FewNodesWithoutPicks}
use Rattle.gv_judge.proofs.SearchLaws.{full_explain}
use Rattle.gv_judge.proofs.Choosing.{is_choosing}

pub full_are_explanations : (s : Spec) → FullNodesAreExplanations s
full_are_explanations s history moves written =
    let law = full_explain (atomic_of s) (choosing_of s) (is_choosing s) (map entry_of history) (map move_of moves) in
    ((λ h. (law.0 h).0), (λ x. law.1 (x, written)))

-- a boot that tells its choices
told : held_moves.Move → Move Value
told (held_move.Act n choices) = move.Act n choices
told (held_move.Boot choices) = move.Boot choices
told (held_move.Other held.Boot) = move.Boot []
told (held_move.Other held.Crash) = move.Other entry.Crash
told (held_move.Other (held.Call n op args)) = move.Other (entry.Call n op args)
told (held_move.Other (held.Answer n reply)) = move.Other (entry.Answer n reply)

told_all : List held_moves.Move → List (Move Value)
told_all [] = []
told_all (m ∷ moves) = told m ∷ told_all moves

module _ (atomic : Specification (List Value) Value) where
  told_moved : (w : WalkState (List Value) Value) (m : held_moves.Move) → walk_moved atomic w (told m) ≡ walk_moved atomic w (move_of m)
  unfolding told
  told_moved w (held_move.Act n choices) = refl
  told_moved w (held_move.Boot choices) = refl
  told_moved w (held_move.Other held.Boot) = refl
  told_moved w (held_move.Other held.Crash) = refl
  told_moved w (held_move.Other (held.Call n op args)) = refl
  told_moved w (held_move.Other (held.Answer n reply)) = refl

  told_walk : (w : WalkState (List Value) Value) (moves : List held_moves.Move) → walk_from atomic w (told_all moves) ≡ walk_from atomic w (map move_of moves)
  unfolding told_all
  told_walk w [] = refl
  told_walk w (m ∷ moves) = ap (λ r. onward (λ v. walk_from atomic v (told_all moves)) r) (told_moved w m) ∙ go (walk_moved atomic w (move_of m)) (λ u. told_walk u moves)
    where
      go : (r : Result (WalkState (List Value) Value) WalkCause) → ((u : WalkState (List Value) Value) → walk_from atomic u (told_all moves) ≡ walk_from atomic u (map move_of moves))
          → onward (λ v. walk_from atomic v (told_all moves)) r ≡ onward (λ v. walk_from atomic v (map move_of moves)) r
      go (Ok u) h = h u
      go (Err cause) h = refl

told_entries : (moves : List held_moves.Move) → entries_of (told_all moves) ≡ entries_of (map move_of moves)
unfolding told_all told
told_entries [] = refl
told_entries (held_move.Act n choices ∷ moves) = told_entries moves
told_entries (held_move.Boot choices ∷ moves) = ap (λ es. entry.Boot ∷ es) (told_entries moves)
told_entries (held_move.Other held.Boot ∷ moves) = ap (λ es. entry.Boot ∷ es) (told_entries moves)
told_entries (held_move.Other held.Crash ∷ moves) = ap (λ es. entry.Crash ∷ es) (told_entries moves)
told_entries (held_move.Other (held.Call n op args) ∷ moves) = ap (λ es. entry.Call n op args ∷ es) (told_entries moves)
told_entries (held_move.Other (held.Answer n reply) ∷ moves) = ap (λ es. entry.Answer n reply ∷ es) (told_entries moves)

told_written : (moves : List held_moves.Move) → HoldWords moves → AreWritten (told_all moves)
unfolding told_all told
told_written [] h = tt
told_written (held_move.Act n choices ∷ moves) h = (h.0, told_written moves h.1)
told_written (held_move.Boot choices ∷ moves) h = (h.0, told_written moves h.1)
told_written (held_move.Other held.Boot ∷ moves) h = (tt, told_written moves h)
told_written (held_move.Other held.Crash ∷ moves) h = (tt, told_written moves h)
told_written (held_move.Other (held.Call n op args) ∷ moves) h = (tt, told_written moves h)
told_written (held_move.Other (held.Answer n reply) ∷ moves) h = (tt, told_written moves h)

pub no_full_no_explanation : (s : Spec) → NoFullNodeNoExplanation s
no_full_no_explanation s history none moves words x =
    let explained : Explains (atomic_of s) (told_all moves) (map entry_of history) =
    record { entries = told_entries moves ∙ x.entries; end = x.end; passes = told_walk (atomic_of s) _ moves ∙ x.passes } in
    let full = (full_explain (atomic_of s) (choosing_of s) (is_choosing s) (map entry_of history) (told_all moves)).1 (explained, told_written moves words) in
    none (told_all moves) full.0 full.1

-- ---- histories in which calls come one after the other

module _ (s : Spec) (none : PicksNothing s) where
  one_list : (op : ℕ) (o : Option Op) → slice_get s.ops op ≡ o → (args fields : List Value) → length (lists_of_op s o args fields) ≤ 1
  one_list op None e args fields = omega arith
  one_list op (Some o) e args fields =
      let within = slice_get_within s.ops op o e in
      let read : Some o ≡ Some (get_or s.ops op o) = sym e ∙ slice_get-get_or s.ops op o within in
      let at : o ≡ get_or s.ops op o = cc in
      let empty : o.picks ≡ [] = ap (λ x. x.picks) at ∙ none.ops op o within in
      subst (λ picks. length (allowed_lists s.store (op_before s o args fields) picks) ≤ 1) (sym empty) (omega arith)

  chooses_nothing : ChoosesNothing (choosing_of s)
  chooses_nothing = record {
    acts = λ op args fields. one_list op (slice_get s.ops op) refl args fields;
    boots = λ fields. subst (λ picks. length (allowed_lists s.store (fields_bound s.fields fields) picks) ≤ 1) (sym none.crash) (omega arith);
  }

length_map : {A B : Type 0} (f : A → B) (xs : List A) → length (map f xs) ≡ length xs
length_map f [] = refl
length_map f (x ∷ xs) = ap suc (length_map f xs)

pub few_without_picks : (s : Spec) → FewNodesWithoutPicks s
few_without_picks s none history one =
    let few = few_nodes (List Value) Value (atomic_of s) (choosing_of s) (chooses_nothing s none) (map entry_of history) one in
    let long = length_map entry_of history in
    omega (arith, few, long)
