-- What is to do at a site is laid out among the sites of its body.
use Rattle.std.proofs.Common.{◌≡◌, ℕ, ◌+◌, ◌<◌, List, [], ◌∷◌, Bool, true, false, Some, refl, subst, arith}
use Rattle.std.specs.List.{AllByRecursion}
use Rattle.gv_lang.specs.Tree.{Cmd, Do, If, Loop, Break, Continue, Return, Block, finish, next}
use Rattle.gv_lang.specs.Graph.{size, command_size}
use Rattle.gv_lockstep.specs.Sites.{Numbered, RunAt, MarkAt, numbered_put, numbered_left, numbered_repeated, numbered_onward, here, Site, to_do, block_sites, command_sites, sites, nth}
use Rattle.gv_lockstep.proofs.Lists.{Has, has_parts, has_own, all_joined, all_nth}
use Rattle.gv_lockstep.proofs.Sites.{block_count, command_count}

abbrev pub Laid : List Site → List Numbered → Type 0
Laid P [] = Unit {0}
Laid P (RunAt n c ∷ z) = Has P n (command_sites n c z) × Laid P z
Laid P (MarkAt n body ∷ z) = Has P n (block_sites n body (MarkAt n body ∷ z)) × Laid P z

laid_put : (P : List Site) (n : ℕ) (b : Block) (z : List Numbered) → Laid P z → Has P n (block_sites n b z) → Laid P (numbered_put n b z)
laid_put P n finish z l h = l
laid_put P n (next c b) z l h =
    let e = command_count n c (numbered_put (n + command_size c) b z) in
    let r = has_parts P n (n + command_size c) (command_sites n c (numbered_put (n + command_size c) b z)) (block_sites (n + command_size c) b z) (omega arith) h in
    (r.0, laid_put P (n + command_size c) b z l r.1)

laid_left : (P : List Site) (z after : List Numbered) → Laid P z → numbered_left z ≡ Some after → Laid P after
laid_left P [] after l e = absurd cc
laid_left P (RunAt n c ∷ z) after l e = laid_left P z after l.1 e
laid_left P (MarkAt n body ∷ z) after l e = let q : z ≡ after = cc in subst (λ t. Laid P t) q l.1

laid_repeated : (P : List Site) (z after : List Numbered) → Laid P z → numbered_repeated z ≡ Some after → Laid P after
laid_repeated P [] after l e = absurd cc
laid_repeated P (RunAt n c ∷ z) after l e = laid_repeated P z after l.1 e
laid_repeated P (MarkAt n body ∷ z) after l e =
    let q : numbered_put n body (MarkAt n body ∷ z) ≡ after = cc in
    subst (λ t. Laid P t) q (laid_put P n body (MarkAt n body ∷ z) l l.0)

-- the table stays among the sites
pub laid_onward : (P : List Site) (v : Bool) (n : ℕ) (c : Cmd) (z after : List Numbered) → Laid P (RunAt n c ∷ z) → numbered_onward v (RunAt n c ∷ z) ≡ Some after → Laid P after
laid_onward P v n (Do a place) z after l e = let q : z ≡ after = cc in subst (λ t. Laid P t) q l.1
laid_onward P true n (If x t f place) z after l e =
    let s = block_count (n + 1) t z in
    let r = has_parts P (n + 1) (n + 1 + size t) (block_sites (n + 1) t z) (block_sites (n + 1 + size t) f z) (omega arith) l.0.1 in
    let q : numbered_put (n + 1) t z ≡ after = cc in
    subst (λ t. Laid P t) q (laid_put P (n + 1) t z l.1 r.0)
laid_onward P false n (If x t f place) z after l e =
    let s = block_count (n + 1) t z in
    let r = has_parts P (n + 1) (n + 1 + size t) (block_sites (n + 1) t z) (block_sites (n + 1 + size t) f z) (omega arith) l.0.1 in
    let q : numbered_put (n + 1 + size t) f z ≡ after = cc in
    subst (λ t. Laid P t) q (laid_put P (n + 1 + size t) f z l.1 r.1)
laid_onward P v n (Loop body place) z after l e =
    let q : numbered_put (n + 1) body (MarkAt (n + 1) body ∷ z) ≡ after = cc in
    subst (λ t. Laid P t) q (laid_put P (n + 1) body (MarkAt (n + 1) body ∷ z) (l.0.1, l.1) l.0.1)
laid_onward P v n (Break place) z after l e = laid_left P z after l.1 e
laid_onward P v n (Continue place) z after l e = laid_repeated P z after l.1 e
laid_onward P v n (Return es place) z after l e = absurd cc

-- what is laid out at the head is a site
laid_head : (P : List Site) (n : ℕ) (c : Cmd) (z : List Numbered) → Laid P (RunAt n c ∷ z) → nth P n ≡ Some (record { number = n; command = c; rest = z })
laid_head P n (Do a place) z l = l.0.0
laid_head P n (If e t f place) z l = l.0.0
laid_head P n (Loop body place) z l = l.0.0
laid_head P n (Break place) z l = l.0.0
laid_head P n (Continue place) z l = l.0.0
laid_head P n (Return es place) z l = l.0.0

-- every site is laid out
mutual
  all_laid : (P : List Site) (n : ℕ) (b : Block) (z : List Numbered) → Laid P z → Has P n (block_sites n b z) → AllByRecursion (λ (s : Site). Laid P (to_do s)) (block_sites n b z)
  all_laid P n finish z l h = tt
  all_laid P n (next c b) z l h =
      let e = command_count n c (numbered_put (n + command_size c) b z) in
      let r = has_parts P n (n + command_size c) (command_sites n c (numbered_put (n + command_size c) b z)) (block_sites (n + command_size c) b z) (omega arith) h in
      all_joined (λ (s : Site). Laid P (to_do s)) (command_sites n c (numbered_put (n + command_size c) b z)) (block_sites (n + command_size c) b z)
      (all_laid_command P n c (numbered_put (n + command_size c) b z) (laid_put P (n + command_size c) b z l r.1) r.0)
      (all_laid P (n + command_size c) b z l r.1)

  all_laid_command : (P : List Site) (n : ℕ) (c : Cmd) (z : List Numbered) → Laid P z → Has P n (command_sites n c z)
      → AllByRecursion (λ (s : Site). Laid P (to_do s)) (command_sites n c z)
  all_laid_command P n (Do a place) z l h = ((h, l), tt)
  all_laid_command P n (If e t f place) z l h =
      let s = block_count (n + 1) t z in
      let r = has_parts P (n + 1) (n + 1 + size t) (block_sites (n + 1) t z) (block_sites (n + 1 + size t) f z) (omega arith) h.1 in (
        (h, l),
        all_joined (λ (s : Site). Laid P (to_do s)) (block_sites (n + 1) t z) (block_sites (n + 1 + size t) f z)
            (all_laid P (n + 1) t z l r.0) (all_laid P (n + 1 + size t) f z l r.1),
      )
  all_laid_command P n (Loop body place) z l h = ((h, l), all_laid P (n + 1) body (MarkAt (n + 1) body ∷ z) (h.1, l) h.1)
  all_laid_command P n (Break place) z l h = ((h, l), tt)
  all_laid_command P n (Continue place) z l h = ((h, l), tt)
  all_laid_command P n (Return es place) z l h = ((h, l), tt)

pub site_laid : (b : Block) (k : ℕ) (s : Site) → nth (sites b) k ≡ Some s → Laid (sites b) (to_do s)
site_laid b k s e = all_nth (λ (s : Site). Laid (sites b) (to_do s)) (sites b) k s (all_laid (sites b) 1 b [] tt (has_own (sites b))) e

pub entry_laid : (b : Block) → Laid (sites b) (numbered_put 1 b [])
entry_laid b = laid_put (sites b) 1 b [] tt (has_own (sites b))

-- what is to do from a command on stands at a site
pub record Stands (b : Block) (z : List Numbered) : Type 0 where
  pub site : Site
  pub same : z ≡ to_do site
  pub there : nth (sites b) (here z) ≡ Some site

pub stands : (b : Block) (z : List Numbered) → Laid (sites b) z → 0 < here z → Stands b z
stands b [] l p = absurd (omega arith)
stands b (MarkAt n body ∷ z) l p = absurd (omega arith)
stands b (RunAt n c ∷ z) l p = record { site = record { number = n; command = c; rest = z }; same = refl; there = laid_head (sites b) n c z l }
