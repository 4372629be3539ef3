-- The extents that a command adds, and where they stand.
use Rattle.std.proofs.Common.{◌≡◌, ◌∙◌, ℕ, zero, suc, ◌+◌, ◌-◌, ◌<◌, ◌≤◌, List, [], ◌∷◌, ◌++◌, length, take, drop, get_or, Some, refl, ap, sym, subst, arith, slice_get, append_assoc, length-append}
use Rattle.std.specs.Prelude.{slice_set}
use Rattle.std.proofs.Math.Seq.{set-append_seam}
use Rattle.gv_lang.specs.declared.cmd.Cmd.{Cmd as Declared}
use Rattle.gv_lang.specs.Plain.{tree_of, body_of}
use Rattle.gv_lang.specs.Tree.{Cmd, Do, If, Loop, Break, Continue, Return, Block, finish, next}
use Rattle.gv_lang.specs.Graph.{Point, size, command_size, entry, block_points, command_points}
use Rattle.gv_lang.specs.Outlines.{Sketch, Branches, Loops, sketch}
use Rattle.gv_lang.proofs.Outlines.{size_by, sketch_size}
use Rattle.gv_lockstep.specs.Sites.{point_with}
use Rattle.gv_points.specs.declared.extents.Extent.{Extent}
use Rattle.gv_points.specs.Extents.{extent, block_extents, command_extents, HasFrom, Holds}
use Rattle.gv_points.proofs.Outlines.{sketch_extents, extents_by, sketch_points, points_by}

-- the first of what was added is set
set_first : (old new rest : List Extent) (x y : Extent) (at : ℕ) → new ≡ (old ++ x ∷ []) ++ rest → at ≡ length old → slice_set new at y ≡ old ++ (y ∷ rest)
set_first old new rest x y at e l =
    ap (λ n. slice_set n at y) (e ∙ append_assoc old (x ∷ []) rest) ∙ (ap (λ i. slice_set (old ++ x ∷ rest) i y) l ∙ set-append_seam old x rest y)

pub measured_if : (c : Cmd) (t f : Block) (old m1 m2 m3 : List Extent) (x : Extent) (at a b : ℕ) → Branches t f ≡ sketch c
    → m1 ≡ old ++ x ∷ [] → m2 ≡ m1 ++ block_extents t → m3 ≡ m2 ++ block_extents f → at ≡ length old → a ≡ size t → b ≡ size f
    → slice_set m3 at (extent (a + b + 1) a) ≡ old ++ command_extents c
measured_if c t f old m1 m2 m3 x at a b s e1 e2 e3 l ea eb =
    let e4 : m3 ≡ (old ++ x ∷ []) ++ (block_extents t ++ block_extents f) =
    e3 ∙ (ap (λ m. m ++ block_extents f) (e2 ∙ ap (λ m. m ++ block_extents t) e1) ∙ append_assoc (old ++ x ∷ []) (block_extents t) (block_extents f)) in
    let e5 = set_first old m3 (block_extents t ++ block_extents f) x (extent (a + b + 1) a) at e4 l in
    let e6 : extent (a + b + 1) a ≡ extent (size t + size f + 1) (size t) = cc in
    let e7 : command_extents c ≡ extent (size t + size f + 1) (size t) ∷ block_extents t ++ block_extents f = extents_by c ∙ ap sketch_extents (sym s) in
    e5 ∙ (ap (λ y. old ++ (y ∷ (block_extents t ++ block_extents f))) e6 ∙ ap (λ z. old ++ z) (sym e7))

pub measured_loop : (c : Cmd) (body : Block) (old m1 m2 : List Extent) (x : Extent) (at a : ℕ) → Loops body ≡ sketch c
    → m1 ≡ old ++ x ∷ [] → m2 ≡ m1 ++ block_extents body → at ≡ length old → a ≡ size body
    → slice_set m2 at (extent (a + 1) a) ≡ old ++ command_extents c
measured_loop c body old m1 m2 x at a s e1 e2 l ea =
    let e5 = set_first old m2 (block_extents body) x (extent (a + 1) a) at (e2 ∙ ap (λ m. m ++ block_extents body) e1) l in
    let e6 : extent (a + 1) a ≡ extent (size body + 1) (size body) = cc in
    let e7 : command_extents c ≡ extent (size body + 1) (size body) ∷ block_extents body = extents_by c ∙ ap sketch_extents (sym s) in
    e5 ∙ (ap (λ y. old ++ y ∷ block_extents body) e6 ∙ ap (λ z. old ++ z) (sym e7))

-- ---- where they stand

mutual
  block_count : (b : Block) → length (block_extents b) ≡ size b
  block_count finish = refl
  block_count (next c b) =
      let e1 = command_count c in
      let e2 = block_count b in
      let e3 = length-append (command_extents c) (block_extents b) in
      omega arith

  command_count : (c : Cmd) → length (command_extents c) ≡ command_size c
  command_count (If e t f place) =
      let e1 = block_count t in
      let e2 = block_count f in
      let e3 = length-append (block_extents t) (block_extents f) in
      omega arith
  command_count (Loop body place) = let e1 = block_count body in omega arith
  command_count (Do a place) = refl
  command_count (Break place) = refl
  command_count (Continue place) = refl
  command_count (Return es place) = refl

has_parts : (list : List Extent) (k m : ℕ) (xs ys : List Extent) → m ≡ k + length xs → HasFrom list k (xs ++ ys) → HasFrom list k xs × HasFrom list m ys
has_parts list k m [] ys e h = (tt, subst (λ i. HasFrom list i ys) (omega arith) h)
has_parts list k m (x ∷ xs) ys e h = let r = has_parts list (k + 1) m xs ys (omega arith) h.1 in ((h.0, r.0), r.1)

has_shift : (y : Extent) (list xs : List Extent) (k : ℕ) → HasFrom list k xs → HasFrom (y ∷ list) (k + 1) xs
has_shift y list [] k h = tt
has_shift y list (x ∷ xs) k h =
    let e : suc k ≡ k + 1 = omega arith in
    (subst (λ i. slice_get (y ∷ list) i ≡ Some x) e h.0, has_shift y list xs (k + 1) h.1)

has_own : (list : List Extent) → HasFrom list 0 list
has_own [] = tt
has_own (x ∷ xs) = (refl, has_shift x xs xs 0 (has_own xs))

-- behind one item that stands for no command
pub all_held : (y : Extent) (list xs : List Extent) → list ≡ y ∷ xs → Holds list 1 xs
all_held y list xs e = record { there = subst (λ l. HasFrom l 1 xs) (sym e) (has_shift y xs xs 0 (has_own xs)) }

pub first_held : (list : List Extent) (at : ℕ) (c : Cmd) (b whole : Block) → whole ≡ next c b → Holds list at (block_extents whole) → Holds list at (command_extents c)
first_held list at c b whole e h =
    record {
      there = (has_parts list at (at + command_size c) (command_extents c) (block_extents b) (let n = command_count c in omega arith)
          (subst (λ w. HasFrom list at (block_extents w)) e h.there)).0;
    }

pub rest_held : (list : List Extent) (at width : ℕ) (c : Cmd) (b whole : Block) → whole ≡ next c b → width ≡ command_size c → Holds list at (block_extents whole)
    → Holds list (at + width) (block_extents b)
rest_held list at width c b whole e w h =
    record {
      there = (has_parts list at (at + width) (command_extents c) (block_extents b) (let n = command_count c in omega arith)
          (subst (λ w. HasFrom list at (block_extents w)) e h.there)).1;
    }

held_by : (list : List Extent) (at : ℕ) (c : Cmd) (s : Sketch) → s ≡ sketch c → Holds list at (command_extents c) → HasFrom list at (sketch_extents s)
held_by list at c s e h = subst (λ xs. HasFrom list at xs) (extents_by c ∙ ap sketch_extents (sym e)) h.there

pub then_held : (list : List Extent) (at : ℕ) (c : Cmd) (t f : Block) → Branches t f ≡ sketch c → Holds list at (command_extents c) → Holds list (at + 1) (block_extents t)
then_held list at c t f e h =
    record {
      there = (has_parts list (at + 1) (at + 1 + size t) (block_extents t) (block_extents f) (let n = block_count t in omega arith)
          (held_by list at c (Branches t f) e h).1).0;
    }

pub other_held : (list : List Extent) (at first : ℕ) (c : Cmd) (t f : Block) → Branches t f ≡ sketch c → first ≡ size t → Holds list at (command_extents c)
    → Holds list (at + 1 + first) (block_extents f)
other_held list at first c t f e w h =
    record {
      there = (has_parts list (at + 1) (at + 1 + first) (block_extents t) (block_extents f) (let n = block_count t in omega arith)
          (held_by list at c (Branches t f) e h).1).1;
    }

pub body_held : (list : List Extent) (at : ℕ) (c : Cmd) (body : Block) → Loops body ≡ sketch c → Holds list at (command_extents c) → Holds list (at + 1) (block_extents body)
body_held list at c body e h = record { there = (held_by list at c (Loops body) e h).1 }

-- ---- what is read there

get_there : {A : Type 0} (xs : List A) (i : ℕ) (x d : A) → slice_get xs i ≡ Some x → (i < length xs) × (get_or xs i d ≡ x)
get_there [] i x d e = absurd cc
get_there (y ∷ ys) zero x d e = (omega arith, cc)
get_there (y ∷ ys) (suc i) x d e = let r = get_there ys i x d e in (omega arith, r.1)

abbrev Own : List Extent → ℕ → Cmd → Type 0
Own list at c = (x : Extent) × (slice_get list at ≡ Some x) × (x.whole ≡ command_size c)

own_of : (list : List Extent) (at : ℕ) (c : Cmd) → HasFrom list at (command_extents c) → Own list at c
own_of list at (If e t f place) h = (extent (size t + size f + 1) (size t), h.0, omega arith)
own_of list at (Loop body place) h = (extent (size body + 1) (size body), h.0, omega arith)
own_of list at (Do a place) h = (extent 1 0, h.0, refl)
own_of list at (Break place) h = (extent 1 0, h.0, refl)
own_of list at (Continue place) h = (extent 1 0, h.0, refl)
own_of list at (Return es place) h = (extent 1 0, h.0, refl)

pub there : (list : List Extent) (at : ℕ) (c : Cmd) → Holds list at (command_extents c) → at < length list
there list at c h = let (x, e, w) = own_of list at c h.there in (get_there list at x x e).0

pub whole_there : (list : List Extent) (at : ℕ) (c : Cmd) (d : Extent) → Holds list at (command_extents c) → (get_or list at d).whole ≡ command_size c
whole_there list at c d h = let (x, e, w) = own_of list at c h.there in ap (λ (y : Extent). y.whole) (get_there list at x d e).1 ∙ w

pub first_there : (list : List Extent) (at : ℕ) (c : Cmd) (t f : Block) (d : Extent) → Branches t f ≡ sketch c → Holds list at (command_extents c)
    → (get_or list at d).first ≡ size t
first_there list at c t f d e h = ap (λ (y : Extent). y.first) (get_there list at (extent (size t + size f + 1) (size t)) d (held_by list at c (Branches t f) e h).0).1

-- ---- the first command of a block

take_whole : {A : Type 0} (zs : List A) → take (length zs) zs ≡ zs
take_whole [] = refl
take_whole (z ∷ zs) = ap (λ us. z ∷ us) (take_whole zs)

split_first : {A : Type 0} (xs : List A) (x : A) → 1 ≤ length xs → x ≡ get_or xs 0 x → xs ≡ x ∷ take (length xs - 1) (drop 1 xs)
split_first [] x long e = absurd (omega (arith, long))
split_first (y ∷ ys) x long e =
    let n : length (y ∷ ys) - 1 ≡ length ys = omega arith in
    ap (λ z. z ∷ ys) (sym e) ∙ ap (λ zs. x ∷ zs) (sym (ap (λ k. take k ys) n ∙ take_whole ys))

pub split_body : (xs : List Declared) (x : Declared) → 1 ≤ length xs → x ≡ get_or xs 0 x
    → body_of xs ≡ next (tree_of x) (body_of (take (length xs - 1) (drop 1 xs)))
split_body xs x long e = ap body_of (split_first xs x long e)

-- what a command leaves to say of the rest of its block
pub kept_emitted : (whole rest : Block) (c : Cmd) (here width after leave again then_at : ℕ) (old new all : List Point) → whole ≡ next c rest → width ≡ command_size c
    → then_at ≡ entry rest (here + width) after → new ≡ old ++ command_points c here then_at leave again → old ++ block_points whole here after leave again ≡ all
    → new ++ block_points rest (here + width) after leave again ≡ all
kept_emitted whole rest c here width after leave again then_at old new all e w n p h =
    let e1 : old ++ (command_points c here (entry rest (here + command_size c) after) leave again ++ block_points rest (here + command_size c) after leave again) ≡ all =
    ap (λ b. old ++ block_points b here after leave again) (sym e) ∙ h in
    let e2 = append_assoc old (command_points c here then_at leave again) (block_points rest (here + width) after leave again) in
    cc

pub sized : (whole rest : Block) (c : Cmd) → whole ≡ next c rest → size whole ≡ command_size c + size rest
sized whole rest c e = ap size e

-- what an If adds to the points
pub if_emitted : (c : Cmd) (t f : Block) (at after leave again one two first : ℕ) (old m1 m2 m3 : List Point)
    → (successors : List ℕ) → Branches t f ≡ sketch c → first ≡ size t → one ≡ entry t (at + 1) after → two ≡ entry f (at + 1 + first) after
    → successors ≡ one ∷ two ∷ [] → m1 ≡ old ++ point_with c successors ∷ []
    → m2 ≡ m1 ++ block_points t (at + 1) after leave again
    → m3 ≡ m2 ++ block_points f (at + 1 + first) after leave again
    → m3 ≡ old ++ command_points c at after leave again
if_emitted c t f at after leave again one two first old m1 m2 m3 successors s ef ey en e0 e1 e2 e3 =
    let x : Point = point_with c (one ∷ two ∷ []) in
    let e4 = append_assoc old (x ∷ []) (block_points t (at + 1) after leave again) in
    let e5 = append_assoc old (x ∷ block_points t (at + 1) after leave again) (block_points f (at + 1 + size t) after leave again) in
    let e6 : command_points c at after leave again ≡ point_with c (entry t (at + 1) after ∷ entry f (at + 1 + size t) after ∷ [])
    ∷ block_points t (at + 1) after leave again ++ block_points f (at + 1 + size t) after leave again
    = points_by c at after leave again ∙ ap (λ y. sketch_points c y at after leave again) (sym s) in
    cc

-- the size of a command with blocks
pub sized_if : (c : Cmd) (t f : Block) → Branches t f ≡ sketch c → command_size c ≡ suc (size t + size f)
sized_if c t f s = size_by c ∙ ap sketch_size (sym s)
