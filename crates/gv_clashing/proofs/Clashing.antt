-- What fits excludes: what nobody owns at once stands at no path, and what tells one value has one.
use Rattle.std.proofs.Common.{◌≡◌, ℕ, suc, ◌+◌, ◌<◌, ◌≤◌, Bool, true, false, List, [], ◌∷◌, ◌++◌, length, Some, refl, arith, ap, sym, ◌∙◌, subst}
use Rattle.std.specs.Prelude.{map}
use Rattle.gv_base.specs.declared.slice_val.SliceVal.{SliceVal}
use Rattle.gv_terms.specs.declared.operator.Operator.TheVariants as op
use Rattle.gv_terms.specs.declared.tree.TermTree.{TermTree}
use Rattle.gv_terms.specs.declared.value.Env.{Env}
use Rattle.gv_terms.specs.declared.value.Value.{Value}
use Rattle.gv_terms.specs.declared.value.Value.TheVariants as val
use Rattle.gv_terms.specs.Meaning.{operate}
use Rattle.gv_terms.specs.Trees.{value_under}
use Rattle.gv_terms.specs.Values.{slice_of, word_of}
use Rattle.gv_terms.proofs.Valued.{value_apply}
use Rattle.gv_terms.proofs.Equality.{value_eq_decides}
use Rattle.gv_world.specs.Store.{Store as World}
use Rattle.gv_lang.specs.Threads.{Frame}
use Rattle.gv_certs.specs.Trees.{equation}
use Rattle.gv_resources.specs.Kinds as kind
use Rattle.gv_resources.specs.Kinds.{Kind, most, item_kind}
use Rattle.gv_resources.specs.Ghost.{Ghost}
use Rattle.gv_resources.specs.Pieces.{Resource, Have, Piece, Fits}
use Rattle.gv_resources.specs.Told.{told}
use Rattle.gv_resources.specs.Laws.{Excludes}
use Rattle.gv_resources.proofs.Excluding.{excludes_law}
use Rattle.gv_resources.proofs.Fitting.{fits_less}
use Rattle.gv_assertions.specs.Atoms.{Atom, Owns, Slice, Predicate, Takes}
use Rattle.gv_assertions.specs.Standing.{StandsFor, AreTrueUnder, IsTrueUnder, OwnsSlice, OwnsItems, items_of, cell_key, owned_key, valued, number_under, owns, slice}
use Rattle.gv_assertions.proofs.Lists.{front, parted, more_for}
use Rattle.gv_seats.specs.Paths.{Path, number}
use Rattle.gv_seats.specs.Seats.{Proof, shape_of, Seat}
use Rattle.gv_seats.proofs.Bases.{arrived}
use Rattle.gv_ranges.proofs.Numbers.{less_is}
use Rattle.gv_clashing.specs.Rows as row
use Rattle.gv_clashing.specs.Rows.{Contradict, TellOne, twice, owned_and_read_only, open_and_done, both_failed, clashes, of_slices, of_halves, half, of_block, of_field, of_book, of_cell, of_half, turned, agrees}
use Rattle.gv_clashing.specs.Laws.{ClashesLaw, AgreesLaw}

has : {preds : List Predicate} {env : Env} {k : Kind} {key value : List TermTree} {p : Piece} → StandsFor preds env (Owns k key value) p → 0 < p (Have k (owned_key k (valued env key)) (valued env value))
has (owns h) = h

cells_of : {preds : List Predicate} {env : Env} {frozen : Bool} {s items : TermTree} {p : Piece} → StandsFor preds env (Slice frozen s items) p
    → OwnsSlice frozen (slice_of (value_under env s)) (value_under env items) p
cells_of (slice h) = h

-- ---- lists with an item

record HasItem (items : List Value) : Type 0 where
  first : Value
  rest : List Value
  are : items ≡ first ∷ rest

item_in : (items : List Value) → 0 < length items → HasItem items
item_in [] l = absurd (omega arith)
item_in (v ∷ items) l = record { first = v; rest = items; are = refl }

mapped : {A B : Type 0} (f : A → B) (xs : List A) → length (map f xs) ≡ length xs
mapped f [] = refl
mapped f (x ∷ xs) = ap suc (mapped f xs)

some_same : {A : Type 0} (x y : A) → Some x ≡ Some y → x ≡ y
some_same x y e = cc

-- as many items as the list is long
as_long : (v : Value) (items : List Value) → items_of v ≡ Some items → length items ≡ word_of (operate op.Len (v ∷ []))
as_long (val.Bytes x) items e = ap length (sym (some_same _ items e)) ∙ mapped _ x
as_long (val.Words x) items e = ap length (sym (some_same _ items e)) ∙ mapped _ x
as_long (val.Refs x) items e = ap length (sym (some_same _ items e)) ∙ mapped _ x
as_long _ items e = absurd cc

first_cell : (k : Kind) (s : SliceVal) (items : List Value) (p : Piece) → HasItem items → OwnsItems k s 0 items p → (v : Value) × (0 < p (Have k (cell_key s 0) (v ∷ [])))
first_cell k s items p h own = (h.first, (subst (λ xs. OwnsItems k s 0 xs p) h.are own).0)

number_is : (env : Env) (n : ℕ) → number_under env (number n) ≡ n
number_is env n = ap word_of (value_apply env (op.Number n) [])

-- ---- at a seat

module _ (o : Proof) (w : World) (g : Ghost) (start : Env) (f : Frame) (h : Path) (rest : Piece) (s : Seat o w g start f h rest) where
  fits : Fits s.piece (told (shape_of o) w g)
  fits = fits_less (λ e. omega arith) s.base.fits

  excluded : Excludes (shape_of o) w g s.piece
  excluded = excludes_law (shape_of o) w g s.piece fits

  -- two parts of the frame's piece
  record Two (a b : Atom) : Type 0 where
    one : Piece
    other : Piece
    within : (e : Resource) → one e + other e ≤ s.piece e
    first : StandsFor o.preds s.env a one
    second : StandsFor o.preds s.env b other

  two : (a b : Atom) (mid left : List Atom) → Takes h.atoms a mid → Takes mid b left → Two a b
  two a b mid left first second =
      let (q, r, split, one, others) = parted (front first s.described.stands) in
      let (x, y, parts, other, more) = parted (front second others) in
      record { one = q; other = x; within = λ e. (let l = split e in let m = parts e in omega arith); first = one; second = other }

  one_failed : (a b : Piece) → ((e : Resource) → a e + b e ≤ s.piece e) → (v u : List Value) → 0 < a (Have kind.Down (val.Word 0 ∷ []) v) → 0 < b (Have kind.Down (val.Word 1 ∷ []) u) → ⊥
  one_failed a b within v u l m =
      let x = within (Have kind.Down (val.Word 0 ∷ []) v) in
      let y = within (Have kind.Down (val.Word 1 ∷ []) u) in
      excluded.disks (λ first second is is_too failed failed_too. differ (s.base.consistent.failures.one 0 1 first second is is_too failed failed_too)) v u (omega arith) (omega arith)
    where
      differ : ◌≡◌ {A = ℕ} 0 1 → ⊥
      differ e = cc

  key_of_disk : (n : ℕ) → valued s.env (number n ∷ []) ≡ val.Word n ∷ []
  key_of_disk n = ap (λ (v : Value). v ∷ []) (value_apply s.env (op.Number n) [])

  contradicted : (a b : Atom) → Contradict a b → Two a b → ⊥
  contradicted _ _ (twice {k = k} {key = key} {v = v} {w = u} alone) t =
      excluded.alone k (owned_key k (valued s.env key)) (valued s.env v) (valued s.env u) t.one t.other alone t.within (has t.first) (has t.second)
  contradicted _ _ (owned_and_read_only {key = key} {v = v} {w = u}) t =
      let l = has t.first in
      let m = has t.second in
      let x = t.within (Have kind.Cell (owned_key kind.Cell (valued s.env key)) (valued s.env v)) in
      let y = t.within (Have kind.FrozenCell (owned_key kind.Cell (valued s.env key)) (valued s.env u)) in
      excluded.cells (owned_key kind.Cell (valued s.env key)) (valued s.env v) (valued s.env u) (omega arith) (omega arith)
  contradicted _ _ (open_and_done {key = key} {v = v} {w = u}) t =
      let l = has t.first in
      let m = has t.second in
      let x = t.within (Have kind.Token (valued s.env key) (valued s.env v)) in
      let y = t.within (Have kind.Done (valued s.env key) (valued s.env u)) in
      excluded.acts (valued s.env key) (valued s.env v) (valued s.env u) (omega arith) (omega arith)
  contradicted _ _ (both_failed {v = v} {w = u}) t =
      one_failed t.one t.other t.within (valued s.env v) (valued s.env u)
      (subst (λ x. 0 < t.one (Have kind.Down x (valued s.env v))) (key_of_disk 0) (has t.first))
      (subst (λ x. 0 < t.other (Have kind.Down x (valued s.env u))) (key_of_disk 1) (has t.second))

  -- the first cell of a slice with an item, owned twice
  slices : (frozen : Bool) (sl t u : TermTree) → number_under s.env (number 0) < number_under s.env (row.length_of t) → Two (Slice false sl t) (Slice frozen sl u) → ⊥
  slices frozen sl t u some two =
      let at : SliceVal = slice_of (value_under s.env sl) in
      let a = cells_of two.first in
      let b = cells_of two.second in
      let long = as_long (value_under s.env t) a.items a.of_list in
      let len : number_under s.env (row.length_of t) ≡ word_of (operate op.Len (value_under s.env t ∷ [])) = ap word_of (value_apply s.env op.Len (t ∷ [])) in
      let none = number_is s.env 0 in
      let many = a.as_many in
      let as_many = b.as_many in
      let (v, l) = first_cell kind.Item at a.items two.one (item_in a.items (omega (arith, some, none, len, long))) a.cells in
      let (x, m) = first_cell (item_kind frozen) at b.items two.other (item_in b.items (omega (arith, some, none, len, long, many, as_many))) b.cells in
      meet frozen (cell_key at 0) (v ∷ []) (x ∷ []) two.one two.other two.within l m
    where
      meet : (frozen : Bool) (key v x : List Value) (one other : Piece) → ((e : Resource) → one e + other e ≤ s.piece e) → 0 < one (Have kind.Item key v)
          → 0 < other (Have (item_kind frozen) key x) → ⊥
      meet false key v x one other within l m = excluded.alone kind.Item key v x one other refl within l m
      meet true key v x one other within l m =
          let a = within (Have kind.Item key v) in
          let b = within (Have kind.FrozenItem key x) in
          excluded.items key v x (omega arith) (omega arith)

  halves : (name u v x : TermTree) (some mid left : List Atom) → Takes h.atoms (half name u) some → Takes some (half name v) mid → Takes mid (half name x) left → ⊥
  halves name u v x some mid left first second third =
      let (q, r, split, one, others) = parted (front first s.described.stands) in
      let (q2, r2, split2, other, more) = parted (front second others) in
      let (q3, r3, split3, last, end) = parted (front third more) in
      let key = valued s.env (name ∷ []) in
      let a = has one in
      let b = has other in
      let c = has last in
      three key (valued s.env (u ∷ [])) (valued s.env (v ∷ [])) (valued s.env (x ∷ [])) q q2 q3 (λ e. let l = split e in let m = split2 e in let n = split3 e in omega arith) a b c
    where
      three : (key a b c : List Value) (p q r : Piece) → ((e : Resource) → p e + (q e + r e) ≤ s.piece e) → 0 < p (Have kind.Half key a) → 0 < q (Have kind.Half key b)
          → 0 < r (Have kind.Half key c) → ⊥
      three key a b c p q r within l m n =
          let x = within (Have kind.Half key a) in
          let y = within (Have kind.Half key b) in
          let z = within (Have kind.Half key c) in
          let ab : a ≡ b = excluded.agree kind.Half key a b (omega arith) (omega arith) in
          let ac : a ≡ c = excluded.agree kind.Half key a c (omega arith) (omega arith) in
          let mb : 0 < q (Have kind.Half key a) = subst (λ y. 0 < q (Have kind.Half key y)) (sym ab) m in
          let nc : 0 < r (Have kind.Half key a) = subst (λ y. 0 < r (Have kind.Half key y)) (sym ac) n in
          let few = excluded.halves key a in
          omega (arith, x, l, mb, nc, few)

  -- ---- one value

  one_of : (v u : TermTree) → valued s.env (v ∷ []) ≡ valued s.env (u ∷ []) → value_under s.env v ≡ value_under s.env u
  one_of v u e = cc

  owned : (a : Atom) (left : List Atom) → Takes h.atoms a left → StandsFor o.preds s.env a s.piece
  owned a left takes = let (q, r, split, one, others) = parted (front takes s.described.stands) in more_for (λ e. let l = split e in omega arith) one

  same : (a b : Atom) (v u : TermTree) → TellOne a b v u → StandsFor o.preds s.env a s.piece → StandsFor o.preds s.env b s.piece → value_under s.env v ≡ value_under s.env u
  same _ _ v u of_block a b = one_of v u (excluded.blocks _ _ _ (has a) (has b))
  same _ _ v u of_field a b = one_of v u (excluded.fields _ _ _ (has a) (has b))
  same _ _ v u of_book a b = one_of v u (excluded.books _ _ _ (has a) (has b))
  same _ _ v u of_cell a b = one_of v u (excluded.agree kind.FrozenCell _ _ _ (has a) (has b))
  same _ _ v u of_half a b = one_of v u (excluded.agree kind.Half _ _ _ (has a) (has b))
  same a b v u (turned t) x y = sym (same b a u v t y x)

-- ---- laws

pub clashes_law : ClashesLaw
clashes_law o h (clashes a b mid left first second contradict) w g start f rest s =
    absurd (contradicted o w g start f h rest s a b contradict (two o w g start f h rest s a b mid left first second))
clashes_law o h (of_slices frozen sl t u mid left known first second) w g start f rest s =
    let met = known s.env s.described.valuation s.described.facts in
    absurd (slices o w g start f h rest s frozen sl t u (less_is s.env (number 0) (row.length_of t) met.0)
    (two o w g start f h rest s (Slice false sl t) (Slice frozen sl u) mid left first second))
clashes_law o h (of_halves name u v x some mid left first second third) w g start f rest s = absurd (halves o w g start f h rest s name u v x some mid left first second third)

and_one : (env : Env) (facts : List TermTree) (t : TermTree) → AreTrueUnder env facts → IsTrueUnder env t → AreTrueUnder env (facts ++ t ∷ [])
and_one env [] t are is = (is, tt)
and_one env (g ∷ facts) t are is = (are.0, and_one env facts t are.1 is)

equal_is : (env : Env) (v u : TermTree) → value_under env v ≡ value_under env u → IsTrueUnder env (equation v u)
equal_is env v u e = value_apply env op.Equal (v ∷ u ∷ []) ∙ ap (λ (b : Bool). val.Bool b) ((value_eq_decides (value_under env v) (value_under env u)).1 e)

pub agrees_law : AgreesLaw
agrees_law o h k (agrees a b v u left others first second tell) w g start f rest s =
    arrived o w g start f h _ rest refl (record {
      env = s.env;
      piece = s.piece;
      pool = s.pool;
      locks = s.locks;
      described = record {
        todo = s.described.todo;
        as_many = s.described.as_many;
        locals = s.described.locals;
        valuation = s.described.valuation;
        started = s.described.started;
        facts = and_one s.env h.facts (equation v u) s.described.facts (equal_is s.env v u
            (same o w g start f h rest s a b v u tell (owned o w g start f h rest s a left first) (owned o w g start f h rest s b others second)));
        stands = s.described.stands;
      };
      base = s.base;
      still = s.still;
    })
