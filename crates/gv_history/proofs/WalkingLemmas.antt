-- The loop along the moves: what one turn does, and what stands at its end.
use Rattle.std.proofs.Common.{◌≡◌, ℕ, ◌+◌, ◌<◌, ◌≤◌, List, [], ◌∷◌, length, get_or, drop, map, Bool, true, false, eqb, suc, eqb-true, Result, Ok, Err, refl, sym, ap, subst, ◌∙◌, add-one, drop-cons, arith}
use Rattle.std.specs.Prelude.{IfErr, IsErrAnd}
use Rattle.std.proofs.Math.ListN.{drop_of_length-le}
use Rattle.gv_terms.specs.declared.value.Value.{Value}
use Rattle.gv_atomic.specs.declared.spec.Spec.{Spec}
use Rattle.gv_spec.specs.declared.entry.Entry as held_entry
use Rattle.gv_spec.specs.declared.explanation.Move as held_move
use Rattle.gv_spec.specs.Entry.{Entry}
use Rattle.gv_spec.specs.Move.{Move, shown}
use Rattle.gv_spec.specs.Atomic.{atomic_of}
use Rattle.gv_spec.specs.History.{entry_of, move_of, walked}
use Rattle.gv_spec.specs.Specification.{Specification}
use Rattle.gv_spec.specs.Walks.{WalkState, WalkCause, WalkFault, Missing, Explains, left_after, moved_beside, walk, walk_beside}
use Rattle.gv_spec.proofs.WalkLaws.{walk_tells}
use Rattle.gv_history.specs.declared.fault.WalkFault as held_fault
use Rattle.gv_history.specs.declared.fault.WalkFault.TheVariants as fault
use Rattle.gv_history.specs.Fault.{cause_of, IsFaultOf, IsRefused, IsUnexplained}
use Rattle.gv_history.proofs.BesideLemmas.{after_move, at_refusal}

drop_at : {A : Type 0} (xs : List A) (i : ℕ) (x : A) → i < length xs → x ≡ get_or xs i x → drop i xs ≡ x ∷ drop (i + 1) xs
drop_at xs i x h e = rw (add-one, drop-cons xs i x) (ap (λ y. y ∷ drop (suc i) xs) (sym e))

-- the test of emptiness
pub none_left : {A : Type 0} (xs : List A) (b : Bool) → b ≡ eqb (length xs) 0 → b ≡ true → xs ≡ []
none_left [] b e h = refl
none_left (x ∷ xs) b e h = let zero : length (x ∷ xs) ≡ 0 = eqb-true (length (x ∷ xs)) 0 (sym e ∙ h) in absurd (omega (arith, zero))

pub some_left : {A : Type 0} (xs : List A) (b : Bool) → b ≡ eqb (length xs) 0 → b ≡ false → xs ≡ [] → ⊥
some_left xs b e h none = let test : eqb (length xs) 0 ≡ true = ap (λ l. eqb (length l) 0) none in let clash = sym test ∙ sym e ∙ h in cc

abbrev pub Ends : Type 0
Ends = Result (WalkState (List Value) Value) WalkFault

module _ (s : Spec) (i : ℕ) (w : WalkState (List Value) Value) (left : List held_entry.Entry) (items : List held_move.Move) (all : Ends)
    (beside : walk_beside (atomic_of s) (i + 1) w (map entry_of left) (map move_of (drop i items)) ≡ all) where
  at_move : (m : held_move.Move) → i < length items → m ≡ get_or items i m → walk_beside (atomic_of s) (i + 1) w (map entry_of left) (move_of m ∷ map move_of (drop (i + 1) items)) ≡ all
  at_move m h e = subst (λ (xs : List held_move.Move). walk_beside (atomic_of s) (i + 1) w (map entry_of left) (map move_of xs) ≡ all) (drop_at items i m h e) beside

  -- a move that isn't refused
  pub turn : (u : WalkState (List Value) Value) (m : held_move.Move) (rest : List held_entry.Entry) → i < length items → m ≡ get_or items i m
      → map entry_of rest ≡ left_after (map entry_of left) (shown (move_of m)) → moved_beside (atomic_of s) w (map entry_of left) (move_of m) ≡ Ok u
      → walk_beside (atomic_of s) (i + 1 + 1) u (map entry_of rest) (map move_of (drop (i + 1) items)) ≡ all
  turn u m rest h e after moved =
      let next = after_move (atomic_of s) (i + 1) w u (map entry_of left) (move_of m) (map move_of (drop (i + 1) items)) all (at_move m h e) moved in
      subst (λ (es : List (Entry Value)). walk_beside (atomic_of s) (i + 1 + 1) u es (map move_of (drop (i + 1) items)) ≡ all) (sym after) next

  -- a move that is
  pub refusal : (m : held_move.Move) (cause : WalkCause) → i < length items → m ≡ get_or items i m → moved_beside (atomic_of s) w (map entry_of left) (move_of m) ≡ Err cause
      → all ≡ Err (record { index = i + 1; cause = cause })
  refusal m cause h e moved = at_refusal (atomic_of s) (i + 1) w (map entry_of left) (move_of m) (map move_of (drop (i + 1) items)) all cause (at_move m h e) moved

  no_moves : length items ≤ i → walk_beside (atomic_of s) (i + 1) w (map entry_of left) [] ≡ all
  no_moves h = subst (λ (xs : List held_move.Move). walk_beside (atomic_of s) (i + 1) w (map entry_of left) (map move_of xs) ≡ all) (drop_of_length-le items h) beside

  -- no move and no entry is left
  pub ended : length items ≤ i → left ≡ [] → all ≡ Ok w
  ended h e = sym (subst (λ (es : List held_entry.Entry). walk_beside (atomic_of s) (i + 1) w (map entry_of es) [] ≡ all) e (no_moves h))

  -- history is left after the last move
  pub missing : length items ≤ i → (left ≡ [] → ⊥) → all ≡ Err (record { index = i + 1; cause = Missing })
  missing h more = go left refl
    where
      go : (es : List held_entry.Entry) → left ≡ es → all ≡ Err (record { index = i + 1; cause = Missing })
      go [] e = absurd (more e)
      go (x ∷ es) e = sym (subst (λ (l : List held_entry.Entry). walk_beside (atomic_of s) (i + 1) w (map entry_of l) [] ≡ all) e (no_moves h))

-- a walk without a fault is an explanation
pub explained : {F V : Type 0} (atomic : Specification F V) (history : List (Entry V)) (moves : List (Move V)) (end : WalkState F V) → walk atomic history moves ≡ Ok end → Explains atomic moves history
explained {F} {V} atomic history moves end h = let told = (walk_tells F V atomic history moves end).0 h in record { entries = told.0; end = end; passes = told.1 }

-- a move's refusal that is handed on is the walk's fault
pub handed_on : {A W B : Type 0} (index : ℕ) (moved : Result W WalkCause) (walked : Result B WalkFault) (r : Result A held_fault.WalkFault) (e : held_fault.WalkFault) → IsErrAnd r (λ x. x ≡ e) → IsRefused index moved e
    → ((cause : WalkCause) → moved ≡ Err cause → walked ≡ Err (record { index = index; cause = cause })) → IfErr r (IsFaultOf walked)
handed_on index moved walked (Ok a) e is h at = tt
handed_on index moved walked (Err x) e is h at = subst (λ y. IsFaultOf walked y) (sym is) (go e h)
  where
    go : (y : held_fault.WalkFault) → IsRefused index moved y → IsFaultOf walked y
    go fault.NoMemory k = tt
    go (fault.At place cause) k = subst (λ n. walked ≡ Err (record { index = n; cause = cause_of cause })) (sym k.0) (at (cause_of cause) k.1)

-- no explanation has a fault
pub unexplained : (s : Spec) (history : List held_entry.Entry) (moves : List held_move.Move) (e : held_fault.WalkFault) → IsFaultOf (walked s history moves) e → IsUnexplained s moves history e
unexplained s history moves fault.NoMemory h = tt
unexplained s history moves (fault.At index cause) h = λ x.
    let passes = (walk_tells (List Value) Value (atomic_of s) (map entry_of history) (map move_of moves) x.end).1 (x.entries, x.passes) in
    let clash = sym passes ∙ h in
    cc
