-- The explanation in which each call acts just before its answer, and walks along lists in two parts.
use Rattle.std.proofs.Common.{◌≡◌, ◌≢◌, ℕ, Bool, true, false, eqb, cond, List, [], ◌∷◌, ◌++◌, Result, Ok, Err, refl, ap, eq-eqb, arith}
use Rattle.std.proofs.lemmas.Bool.Decides.{nat_tests}
use Rattle.gv_spec.specs.Entry as entry
use Rattle.gv_spec.specs.Move as move
use Rattle.gv_spec.specs.Entry.{Entry}
use Rattle.gv_spec.specs.Move.{Move, entries_of}
use Rattle.gv_spec.specs.Specification.{Specification}
use Rattle.gv_spec.specs.Walks.{Standing, WalkState, WalkCause, entered, onward, walk_moved, walk_from}

abbrev pub moves_of : {V : Type 0} → List (Entry V) → List (Move V)
moves_of [] = []
moves_of (entry.Call n op args ∷ es) = move.Other (entry.Call n op args) ∷ moves_of es
moves_of (entry.Answer n reply ∷ es) = move.Act n [] ∷ move.Other (entry.Answer n reply) ∷ moves_of es
moves_of (entry.Crash ∷ es) = move.Other entry.Crash ∷ moves_of es
moves_of (entry.Boot ∷ es) = move.Other entry.Boot ∷ moves_of es

pub entries_moves : {V : Type 0} (es : List (Entry V)) → entries_of (moves_of es) ≡ es
entries_moves [] = refl
entries_moves (entry.Call n op args ∷ es) = ap (λ x. entry.Call n op args ∷ x) (entries_moves es)
entries_moves (entry.Answer n reply ∷ es) = ap (λ x. entry.Answer n reply ∷ x) (entries_moves es)
entries_moves (entry.Crash ∷ es) = ap (λ x. entry.Crash ∷ x) (entries_moves es)
entries_moves (entry.Boot ∷ es) = ap (λ x. entry.Boot ∷ x) (entries_moves es)

pub moves_append : {V : Type 0} (es fs : List (Entry V)) → moves_of (es ++ fs) ≡ moves_of es ++ moves_of fs
moves_append [] fs = refl
moves_append (entry.Call n op args ∷ es) fs = ap (λ x. move.Other (entry.Call n op args) ∷ x) (moves_append es fs)
moves_append (entry.Answer n reply ∷ es) fs = ap (λ x. move.Act n [] ∷ move.Other (entry.Answer n reply) ∷ x) (moves_append es fs)
moves_append (entry.Crash ∷ es) fs = ap (λ x. move.Other entry.Crash ∷ x) (moves_append es fs)
moves_append (entry.Boot ∷ es) fs = ap (λ x. move.Other entry.Boot ∷ x) (moves_append es fs)

pub entered_same : {V : Type 0} (table : ℕ → Standing V) (n : ℕ) (c : Standing V) → entered table n c n ≡ c
entered_same table n c = rw (eq-eqb n n refl) refl

pub entered_other : {V : Type 0} (table : ℕ → Standing V) (n : ℕ) (c : Standing V) (m : ℕ) → m ≢ n → entered table n c m ≡ table m
entered_other table n c m h = go (eqb m n) refl
  where
    go : (b : Bool) → eqb m n ≡ b → cond (eqb m n) c (table m) ≡ table m
    go true e = absurd (h (grind (arith, nat_tests)))
    go false e = rw e refl

module _ {F V : Type 0} (atomic : Specification F V) where
  pub walk_append : (w : WalkState F V) (ms ns : List (Move V)) → walk_from atomic w (ms ++ ns) ≡ onward (λ v. walk_from atomic v ns) (walk_from atomic w ms)
  walk_append w [] ns = refl
  walk_append w (m ∷ ms) ns = go (walk_moved atomic w m) (λ v. walk_append v ms ns)
    where
      go : (r : Result (WalkState F V) WalkCause) → ((v : WalkState F V) → walk_from atomic v (ms ++ ns) ≡ onward (λ u. walk_from atomic u ns) (walk_from atomic v ms))
          → onward (λ v. walk_from atomic v (ms ++ ns)) r ≡ onward (λ v. walk_from atomic v ns) (onward (λ v. walk_from atomic v ms) r)
      go (Err cause) h = refl
      go (Ok v) h = h v

  -- a walk along more moves goes on where the walk along the first of them ended
  pub more_moves : (w v : WalkState F V) (es fs : List (Entry V)) → walk_from atomic w (moves_of es) ≡ Ok v → walk_from atomic w (moves_of (es ++ fs)) ≡ walk_from atomic v (moves_of fs)
  more_moves w v es fs e = rw (moves_append es fs, walk_append w (moves_of es) (moves_of fs), e) refl
