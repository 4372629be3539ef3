-- Points and sites of a body are the same, and the table goes the same ways with numbers.
use Rattle.std.proofs.Common.{◌≡◌, ℕ, zero, suc, ◌+◌, List, [], ◌∷◌, ◌++◌, length, Bool, true, false, Some, refl, ap, sym, subst, arith, slice_get, map, length-append}
use Rattle.std.specs.Prelude.{option_map}
use Rattle.gv_lang.specs.Tree.{Cmd, Do, If, Loop, Break, Continue, Return, Block, finish, next}
use Rattle.gv_lang.specs.Todo.{Run, put, left, repeated, onward}
use Rattle.gv_lang.specs.Graph.{size, command_size, entry, block_points, command_points}
use Rattle.gv_lockstep.specs.Sites.{Numbered, RunAt, MarkAt, plain, numbered_put, numbered_left, numbered_repeated, numbered_onward, here, number, Site, block_sites, command_sites, sites, point_of, nth}
use Rattle.gv_lockstep.specs.Lockstep.{NumbersAreAside, PointsAreSites}
use Rattle.gv_lockstep.proofs.Lists.{map_joined, length_mapped}

-- ---- numbers aside

pub plain_put : (n : ℕ) (b : Block) (z : List Numbered) → plain (numbered_put n b z) ≡ put b (plain z)
plain_put n finish z = refl
plain_put n (next c b) z = ap (λ t. Run c ∷ t) (plain_put (n + command_size c) b z)

plain_left : (z : List Numbered) → left (plain z) ≡ option_map plain (numbered_left z)
plain_left [] = refl
plain_left (RunAt n c ∷ z) = plain_left z
plain_left (MarkAt n body ∷ z) = refl

plain_repeated : (z : List Numbered) → repeated (plain z) ≡ option_map plain (numbered_repeated z)
plain_repeated [] = refl
plain_repeated (RunAt n c ∷ z) = plain_repeated z
plain_repeated (MarkAt n body ∷ z) = ap (λ t. Some t) (sym (plain_put n body (MarkAt n body ∷ z)))

pub plain_onward : (v : Bool) (z : List Numbered) → onward v (plain z) ≡ option_map plain (numbered_onward v z)
plain_onward v [] = refl
plain_onward v (MarkAt n body ∷ z) = refl
plain_onward v (RunAt n (Do a place) ∷ z) = refl
plain_onward true (RunAt n (If e t f place) ∷ z) = ap (λ t. Some t) (sym (plain_put (n + 1) t z))
plain_onward false (RunAt n (If e t f place) ∷ z) = ap (λ t. Some t) (sym (plain_put (n + 1 + size t) f z))
plain_onward v (RunAt n (Loop body place) ∷ z) = ap (λ t. Some t) (sym (plain_put (n + 1) body (MarkAt (n + 1) body ∷ z)))
plain_onward v (RunAt n (Break place) ∷ z) = plain_left z
plain_onward v (RunAt n (Continue place) ∷ z) = plain_repeated z
plain_onward v (RunAt n (Return es place) ∷ z) = refl

pub numbers_are_aside : NumbersAreAside
numbers_are_aside = record { put = plain_put; onward = plain_onward }

-- ---- points are sites

pub here_put : (n : ℕ) (b : Block) (z : List Numbered) → here (numbered_put n b z) ≡ entry b n (here z)
here_put n finish z = refl
here_put n (next c b) z = refl

left_put : (n : ℕ) (b : Block) (z : List Numbered) → numbered_left (numbered_put n b z) ≡ numbered_left z
left_put n finish z = refl
left_put n (next c b) z = left_put (n + command_size c) b z

repeated_put : (n : ℕ) (b : Block) (z : List Numbered) → numbered_repeated (numbered_put n b z) ≡ numbered_repeated z
repeated_put n finish z = refl
repeated_put n (next c b) z = repeated_put (n + command_size c) b z

mutual
  same_block : (n : ℕ) (b : Block) (z : List Numbered)
      → block_points b n (here z) (number (numbered_left z)) (number (numbered_repeated z)) ≡ map point_of (block_sites n b z)
  same_block n finish z = refl
  same_block n (next c b) z =
      let e1 = here_put (n + command_size c) b z in
      let e2 = left_put (n + command_size c) b z in
      let e3 = repeated_put (n + command_size c) b z in
      let e4 = same_command n c (numbered_put (n + command_size c) b z) in
      let e5 = same_block (n + command_size c) b z in
      let e6 = map_joined point_of (command_sites n c (numbered_put (n + command_size c) b z)) (block_sites (n + command_size c) b z) in
      cc

  same_command : (n : ℕ) (c : Cmd) (z : List Numbered)
      → command_points c n (here z) (number (numbered_left z)) (number (numbered_repeated z)) ≡ map point_of (command_sites n c z)
  same_command n (Do a place) z = refl
  same_command n (If e t f place) z =
      let e1 = here_put (n + 1) t z in
      let e2 = here_put (n + 1 + size t) f z in
      let e3 = same_block (n + 1) t z in
      let e4 = same_block (n + 1 + size t) f z in
      let e5 = map_joined point_of (block_sites (n + 1) t z) (block_sites (n + 1 + size t) f z) in
      cc
  same_command n (Loop body place) z =
      let e1 = here_put (n + 1) body (MarkAt (n + 1) body ∷ z) in
      let e2 = same_block (n + 1) body (MarkAt (n + 1) body ∷ z) in
      cc
  same_command n (Break place) z = refl
  same_command n (Continue place) z = refl
  same_command n (Return es place) z = refl

mutual
  pub block_count : (n : ℕ) (b : Block) (z : List Numbered) → length (block_sites n b z) ≡ size b
  block_count n finish z = refl
  block_count n (next c b) z =
      let e1 = command_count n c (numbered_put (n + command_size c) b z) in
      let e2 = block_count (n + command_size c) b z in
      let e3 = length-append (command_sites n c (numbered_put (n + command_size c) b z)) (block_sites (n + command_size c) b z) in
      omega arith

  pub command_count : (n : ℕ) (c : Cmd) (z : List Numbered) → length (command_sites n c z) ≡ command_size c
  command_count n (Do a place) z = refl
  command_count n (If e t f place) z =
      let e1 = block_count (n + 1) t z in
      let e2 = block_count (n + 1 + size t) f z in
      let e3 = length-append (block_sites (n + 1) t z) (block_sites (n + 1 + size t) f z) in
      omega arith
  command_count n (Loop body place) z = let e1 = block_count (n + 1) body (MarkAt (n + 1) body ∷ z) in omega arith
  command_count n (Break place) z = refl
  command_count n (Continue place) z = refl
  command_count n (Return es place) z = refl

-- ---- numbers

-- numbered one after the other
abbrev Counts : ℕ → List Site → Type 0
Counts n [] = Unit {0}
Counts n (s ∷ ss) = (s.number ≡ n) × Counts (n + 1) ss

counts_joined : (n m : ℕ) (ss ts : List Site) → m ≡ n + length ss → Counts n ss → Counts m ts → Counts n (ss ++ ts)
counts_joined n m [] ts e a b = subst (λ k. Counts k ts) (omega arith) b
counts_joined n m (s ∷ ss) ts e a b = (a.0, counts_joined (n + 1) m ss ts (omega arith) a.1 b)

mutual
  block_counts : (n : ℕ) (b : Block) (z : List Numbered) → Counts n (block_sites n b z)
  block_counts n finish z = tt
  block_counts n (next c b) z =
      let e = command_count n c (numbered_put (n + command_size c) b z) in
      counts_joined n (n + command_size c) (command_sites n c (numbered_put (n + command_size c) b z)) (block_sites (n + command_size c) b z)
      (omega arith) (command_counts n c (numbered_put (n + command_size c) b z)) (block_counts (n + command_size c) b z)

  command_counts : (n : ℕ) (c : Cmd) (z : List Numbered) → Counts n (command_sites n c z)
  command_counts n (Do a place) z = (refl, tt)
  command_counts n (If e t f place) z =
      let e1 = block_count (n + 1) t z in (
        refl,
        counts_joined (n + 1) (n + 1 + size t) (block_sites (n + 1) t z) (block_sites (n + 1 + size t) f z)
            (omega arith) (block_counts (n + 1) t z) (block_counts (n + 1 + size t) f z),
      )
  command_counts n (Loop body place) z = (refl, block_counts (n + 1) body (MarkAt (n + 1) body ∷ z))
  command_counts n (Break place) z = (refl, tt)
  command_counts n (Continue place) z = (refl, tt)
  command_counts n (Return es place) z = (refl, tt)

counted : (n : ℕ) (ss : List Site) (i : ℕ) (s : Site) → Counts n ss → slice_get ss i ≡ Some s → s.number ≡ n + i
counted n [] i s a e = absurd cc
counted n (t ∷ ss) zero s a e = let e1 : t ≡ s = cc in let e2 = ap (λ (r : Site). r.number) e1 in let e3 = a.0 in omega arith
counted n (t ∷ ss) (suc i) s a e = let r = counted (n + 1) ss i s a.1 e in omega arith

pub number_is : (body : Block) (k : ℕ) (s : Site) → nth (sites body) k ≡ Some s → s.number ≡ k
number_is body zero s e = absurd cc
number_is body (suc i) s e = let r = counted 1 (sites body) i s (block_counts 1 body []) e in omega arith

pub points_are_sites : (body : Block) → PointsAreSites body
points_are_sites body =
    let e1 = same_block 1 body [] in
    let e2 = block_count 1 body [] in
    let e3 = length_mapped point_of (sites body) in
    record { same = e1; numbers = number_is body; count = cc }
