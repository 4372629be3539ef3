-- The operation with a name is the procedure behind recovery that stands in the text's order.
use Rattle.std.proofs.Common.{◌≡◌, ℕ, zero, suc, ◌+◌, nat_eq, Bool, true, false, ◌||◌, cond, List, [], ◌∷◌, ◌++◌, map, slice_get, Option, Some, option_map, refl, sym, ap, subst, ◌∙◌, arith}
use Rattle.std.specs.Prelude.{not, find, codes}
use Rattle.std.specs.Option.{unwrap_or}
use Rattle.std.specs.List.{list_all}
use Rattle.std.specs.Str.{bytes_eq}
use Rattle.std.proofs.lemmas.Slice.Eq.{bytes_eq-Decides}
use Rattle.gv_base.specs.declared.answers.Place.{Place}
use Rattle.gv_base.specs.declared.small.SmallOp.{SmallOp}
use Rattle.gv_small.specs.Tokens.{is_among}
use Rattle.gv_small.specs.Forms.{is_distinct}
use Rattle.gv_lang.specs.Tree.{Proc, Program}
use Rattle.gv_lang.specs.WellShaped.{after_dot, method_of, method_at}
use Rattle.gv_smallprogram.specs.Program.{Unkept, method_proc, methods_from, numbers_from}
use Rattle.gv_smallprogram.specs.Laws.{IsWord}
use Rattle.gv_smallprogram.proofs.Sums.{and_first, and_second}

-- ---- a method's name

not_dot : (c : ℕ) (x y : Option (List ℕ)) → not (nat_eq c 46) ≡ true → cond (nat_eq c 46) x y ≡ y
not_dot c x y e = go (nat_eq c 46) e
  where
    go : (b : Bool) → not b ≡ true → cond b x y ≡ y
    go true h = absurd cc
    go false h = refl

after_word : (word name : List ℕ) → list_all (λ c. not (nat_eq c 46)) word ≡ true → after_dot (word ++ 46 ∷ name) ≡ Some name
after_word [] name e = refl
after_word (c ∷ cs) name e =
    not_dot c (Some (cs ++ 46 ∷ name)) (after_dot (cs ++ 46 ∷ name)) (and_first (not (nat_eq c 46)) (list_all (λ d. not (nat_eq d 46)) cs) e)
    ∙ after_word cs name (and_second (not (nat_eq c 46)) (list_all (λ d. not (nat_eq d 46)) cs) e)

method_name : (word name : List ℕ) → list_all (λ c. not (nat_eq c 46)) word ≡ true → method_of (word ++ (codes "." ++ name)) ≡ name
method_name word name e = ap (λ o. unwrap_or o (word ++ 46 ∷ name)) (after_word word name e)

-- ---- where the methods stand

-- a method of the operation stands under a number
pub record IsMethodAt (unkept : Unkept) (procs : List Proc) (number : ℕ) (op : SmallOp) : Type 0 where
  pub receiver : List ℕ
  pub place : Place
  pub there : slice_get procs number ≡ Some (method_proc unkept.type_name receiver place op)

-- the methods of operations stand from a number on
abbrev pub Stand : Unkept → List Proc → (from number : ℕ) → List SmallOp → Type 0
Stand unkept procs from number ops = (i : ℕ) → slice_get procs (from + i) ≡ slice_get (methods_from unkept number ops) i

pub stand_behind : (unkept : Unkept) (recovery : Proc) (ops : List SmallOp) → Stand unkept (recovery ∷ methods_from unkept 0 ops) 1 0 ops
stand_behind unkept recovery ops i = (let next : 1 + i ≡ suc i = omega arith in ap (slice_get (recovery ∷ methods_from unkept 0 ops)) next)

module _ (unkept : Unkept) (procs : List Proc) where
  pub first_stands : (from number : ℕ) (op : SmallOp) (ops : List SmallOp) → Stand unkept procs from number (op ∷ ops) → IsMethodAt unkept procs from op
  first_stands from number op ops h = record {
    receiver = unkept.receiver number;
    place = unkept.returns number;
    there = (let same : from ≡ from + 0 = omega arith in ap (slice_get procs) same ∙ h 0);
  }

  pub rest_stands : (from number : ℕ) (op : SmallOp) (ops : List SmallOp) → Stand unkept procs from number (op ∷ ops) → Stand unkept procs (suc from) (suc number) ops
  rest_stands from number op ops h i = (let same : suc from + i ≡ from + suc i = omega arith in ap (slice_get procs) same ∙ h (suc i))

-- ---- their names

module _ (unkept : Unkept) (g : Program) (word : IsWord unkept) where
  pub name_at : (number : ℕ) (op : SmallOp) → IsMethodAt unkept g.procs number op → method_at g number ≡ op.name
  name_at number op at =
      ap (λ o. method_of (unwrap_or (option_map (λ p. p.name) o) [])) at.there ∙ method_name unkept.type_name op.name word

  pub names_are : (from number : ℕ) (ops : List SmallOp) → Stand unkept g.procs from number ops → map (method_at g) (numbers_from from ops) ≡ map (λ op. op.name) ops
  names_are from number [] h = refl
  names_are from number (op ∷ ops) h =
      ap (λ n. n ∷ map (method_at g) (numbers_from (suc from) ops)) (name_at from op (first_stands unkept g.procs from number op ops h))
      ∙ ap (λ ns. op.name ∷ ns) (names_are (suc from) (suc number) ops (rest_stands unkept g.procs from number op ops h))

  -- the first procedure with the operation's name is its own
  pub record IsFound (from : ℕ) (ops : List SmallOp) (op : SmallOp) : Type 0 where
    pub number : ℕ
    pub is : find (λ n. bytes_eq (method_at g n) op.name) (numbers_from from ops) ≡ Some number
    pub at : IsMethodAt unkept g.procs number op

  either : (b c : Bool) → c ≡ true → (b || c) ≡ true
  either true c e = refl
  either false c e = e

  among : (ops : List SmallOp) (place : ℕ) (op : SmallOp) (name : List ℕ) → slice_get ops place ≡ Some op → name ≡ op.name → is_among (map (λ o. o.name) ops) name ≡ true
  among [] place op name e same = absurd cc
  among (o ∷ ops) zero op name e same =
      let first : o ≡ op = cc in
      let equal : bytes_eq name o.name ≡ true = (bytes_eq-Decides name o.name).1 (same ∙ ap (λ x. x.name) (sym first)) in
      rw equal refl
  among (o ∷ ops) (suc place) op name e same = either (bytes_eq name o.name) (is_among (map (λ x. x.name) ops) name) (among ops place op name e same)

  found_first : (from : ℕ) (ops : List SmallOp) (op : SmallOp) → IsMethodAt unkept g.procs from op → IsFound from (op ∷ ops) op
  found_first from ops op at = record {
    number = from;
    is = (let equal : bytes_eq (method_at g from) op.name ≡ true = (bytes_eq-Decides (method_at g from) op.name).1 (name_at from op at) in rw equal refl);
    at = at;
  }

  passed : (from : ℕ) (first : SmallOp) (ops : List SmallOp) (op : SmallOp) → bytes_eq (method_at g from) op.name ≡ false → IsFound (suc from) ops op → IsFound from (first ∷ ops) op
  passed from first ops op differs found = record { number = found.number; is = (rw differs found.is); at = found.at }

  not_both : (b : Bool) → b ≡ true → not b ≡ true → ⊥
  not_both true e h = cc
  not_both false e h = cc

  later : (from number : ℕ) (o : SmallOp) (ops : List SmallOp) (place : ℕ) (op : SmallOp) → Stand unkept g.procs from number (o ∷ ops)
      → is_distinct (map (λ x. x.name) (o ∷ ops)) ≡ true → slice_get ops place ≡ Some op → IsFound (suc from) ops op → IsFound from (o ∷ ops) op
  later from number o ops place op h distinct e behind = go (bytes_eq (method_at g from) op.name) refl
    where
      own : method_at g from ≡ o.name
      own = name_at from o (first_stands unkept g.procs from number o ops h)

      alone : not (is_among (map (λ x. x.name) ops) o.name) ≡ true
      alone = and_first (not (is_among (map (λ x. x.name) ops) o.name)) (is_distinct (map (λ x. x.name) ops)) distinct

      go : (b : Bool) → bytes_eq (method_at g from) op.name ≡ b → IsFound from (o ∷ ops) op
      go true equal =
          let same : o.name ≡ op.name = sym own ∙ (bytes_eq-Decides (method_at g from) op.name).0 equal in
          absurd (not_both (is_among (map (λ x. x.name) ops) o.name) (among ops place op o.name e same) alone)
      go false differs = passed from o ops op differs behind

  pub found : (from number : ℕ) (ops : List SmallOp) (place : ℕ) (op : SmallOp) → Stand unkept g.procs from number ops → is_distinct (map (λ o. o.name) ops) ≡ true
      → slice_get ops place ≡ Some op → IsFound from ops op
  found from number [] place op h distinct e = absurd cc
  found from number (o ∷ ops) zero op h distinct e =
      let first : o ≡ op = cc in
      subst (λ x. IsFound from (x ∷ ops) op) (sym first) (found_first from ops op (subst (IsMethodAt unkept g.procs from) first (first_stands unkept g.procs from number o ops h)))
  found from number (o ∷ ops) (suc place) op h distinct e =
      later from number o ops place op h distinct e
      (found (suc from) (suc number) ops place op (rest_stands unkept g.procs from number o ops h)
      (and_second (not (is_among (map (λ x. x.name) ops) o.name)) (is_distinct (map (λ x. x.name) ops)) distinct) e)
