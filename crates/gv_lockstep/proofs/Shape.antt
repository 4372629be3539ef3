-- In a body of a good shape each successor is a point.
use Rattle.std.proofs.Common.{◌≡◌, ℕ, suc, ◌+◌, ◌<◌, ◌≤◌, List, [], true, false, ◌&&◌, not, refl, arith}
use Rattle.std.specs.List.{AllByRecursion}
use Rattle.gv_lang.specs.Tree.{Cmd, Do, If, Loop, Break, Continue, Return, Block, finish, next}
use Rattle.gv_lang.specs.Graph.{Point, size, command_size, entry, block_points, command_points, points}
use Rattle.gv_lang.specs.Shape.{breaks, command_breaks, repeats, command_repeats, ends, command_ends, is_continue, ends_in_continue, loops_end, command_loops_end, is_shaped}
use Rattle.gv_lockstep.proofs.Lists.{or_left, or_right, and_left, and_right, off_left, off_right, not_on, not_off, all_joined}

abbrev pub IsWithin : ℕ → ℕ → Type 0
IsWithin count k = (0 < k) × (k ≤ count)

abbrev pub Aims : ℕ → List Point → Type 0
Aims count ps = AllByRecursion (λ (p : Point). AllByRecursion (IsWithin count) p.next) ps

-- the successors of each point are points, and there is an entry
pub record TargetsAreIn (body : Block) : Type 0 where
  pub targets : Aims (size body) (points body)
  pub entry : 0 < size body

command_is_there : (c : Cmd) → 0 < command_size c
command_is_there (If e t f place) = omega arith
command_is_there (Loop body place) = omega arith
command_is_there (Do a place) = omega arith
command_is_there (Break place) = omega arith
command_is_there (Continue place) = omega arith
command_is_there (Return es place) = omega arith

entry_within : (count : ℕ) (b : Block) (at after : ℕ) → 0 < at → at + size b ≤ suc count
    → (ends b ≡ false → ends_in_continue b ≡ false → IsWithin count after) → IsWithin count (entry b at after)
entry_within count finish at after p q ok = ok refl refl
entry_within count (next c b) at after p q ok = let s = command_is_there c in (p, omega arith)

mutual
  block_aims : (count : ℕ) (b : Block) (at after leave again : ℕ) → 0 < at → at + size b ≤ suc count
      → (ends b ≡ false → ends_in_continue b ≡ false → IsWithin count after)
      → (breaks b ≡ true → IsWithin count leave) → (repeats b ≡ true → IsWithin count again) → loops_end b ≡ true
      → Aims count (block_points b at after leave again)
  block_aims count finish at after leave again p q ok br rp le = tt
  block_aims count (next c finish) at after leave again p q ok br rp le =
      all_joined _ (command_points c at after leave again) []
      (command_aims count c at after leave again p (omega arith) ok
      (λ e. br (or_left (command_breaks c) false e)) (λ e. rp (or_left (command_repeats c) false e)) (and_left (command_loops_end c) true le))
      tt
  block_aims count (next c (next d b)) at after leave again p q ok br rp le =
      let s = command_is_there d in
      all_joined _ (command_points c at (at + command_size c) leave again) (block_points (next d b) (at + command_size c) after leave again)
      (command_aims count c at (at + command_size c) leave again p (omega arith) (λ _ _. (omega arith, omega arith))
      (λ e. br (or_left (command_breaks c) (breaks (next d b)) e)) (λ e. rp (or_left (command_repeats c) (repeats (next d b)) e))
      (and_left (command_loops_end c) (loops_end (next d b)) le))
      (block_aims count (next d b) (at + command_size c) after leave again (omega arith) (omega arith) ok
      (λ e. br (or_right (command_breaks c) (breaks (next d b)) e)) (λ e. rp (or_right (command_repeats c) (repeats (next d b)) e))
      (and_right (command_loops_end c) (loops_end (next d b)) le))

  command_aims : (count : ℕ) (c : Cmd) (at after leave again : ℕ) → 0 < at → at + command_size c ≤ suc count
      → (command_ends c ≡ false → is_continue c ≡ false → IsWithin count after)
      → (command_breaks c ≡ true → IsWithin count leave) → (command_repeats c ≡ true → IsWithin count again) → command_loops_end c ≡ true
      → Aims count (command_points c at after leave again)
  command_aims count (Do a place) at after leave again p q ok br rp le = ((ok refl refl, tt), tt)
  command_aims count (If e t f place) at after leave again p q ok br rp le =
      let ok_t : (ends t ≡ false → ends_in_continue t ≡ false → IsWithin count after) = λ e1 e2. ok (off_left (ends t) (ends f) e1) refl in
      let ok_f : (ends f ≡ false → ends_in_continue f ≡ false → IsWithin count after) = λ e1 e2. ok (off_right (ends t) (ends f) e1) refl in (
        (entry_within count t (at + 1) after (omega arith) (omega arith) ok_t, (entry_within count f (at + 1 + size t) after (omega arith) (omega arith) ok_f, tt)),
        all_joined _ (block_points t (at + 1) after leave again) (block_points f (at + 1 + size t) after leave again)
            (block_aims count t (at + 1) after leave again (omega arith) (omega arith) ok_t
            (λ e1. br (or_left (breaks t) (breaks f) e1)) (λ e1. rp (or_left (repeats t) (repeats f) e1)) (and_left (loops_end t) (loops_end f) le))
            (block_aims count f (at + 1 + size t) after leave again (omega arith) (omega arith) ok_f
            (λ e1. br (or_right (breaks t) (breaks f) e1)) (λ e1. rp (or_right (repeats t) (repeats f) e1)) (and_right (loops_end t) (loops_end f) le)),
      )
  command_aims count (Loop body place) at after leave again p q ok br rp le =
      let ec = and_left (ends_in_continue body) (loops_end body) le in
      let ok_b : (ends body ≡ false → ends_in_continue body ≡ false → IsWithin count 0) = λ e1 e2. absurd cc in
      let first = entry_within count body (at + 1) 0 (omega arith) (omega arith) ok_b in (
        (first, tt),
        block_aims count body (at + 1) 0 after (entry body (at + 1) 0) (omega arith) (omega arith) ok_b
            (λ e1. ok (not_on (breaks body) e1) refl) (λ e1. first) (and_right (ends_in_continue body) (loops_end body) le),
      )
  command_aims count (Break place) at after leave again p q ok br rp le = ((br refl, tt), tt)
  command_aims count (Continue place) at after leave again p q ok br rp le = ((rp refl, tt), tt)
  command_aims count (Return es place) at after leave again p q ok br rp le = (tt, tt)

some_size : (b : Block) → ends b ≡ true → 0 < size b
some_size finish e = absurd cc
some_size (next c b) e = let s = command_is_there c in omega arith

pub targets_are_in : (body : Block) → is_shaped body ≡ true → TargetsAreIn body
targets_are_in body e =
    let a = and_left (not (breaks body) && not (repeats body) && loops_end body) (ends body) e in
    let en = and_right (not (breaks body) && not (repeats body) && loops_end body) (ends body) e in
    let b = and_left (not (breaks body) && not (repeats body)) (loops_end body) a in
    let l = and_right (not (breaks body) && not (repeats body)) (loops_end body) a in
    let n1 = not_off (breaks body) (and_left (not (breaks body)) (not (repeats body)) b) in
    let n2 = not_off (repeats body) (and_right (not (breaks body)) (not (repeats body)) b) in
    record {
      targets = block_aims (size body) body 1 0 0 0 (omega arith) (omega arith) (λ e1 e2. absurd cc) (λ e1. absurd cc) (λ e1. absurd cc) l;
      entry = some_size body en;
    }
