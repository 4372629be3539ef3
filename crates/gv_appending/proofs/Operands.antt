-- What the row of an append finds where its frame stands.
use Rattle.std.proofs.Common.{◌≡◌, ◌+◌, ◌≤◌, false, List, Option, Some, ap, subst, ◌∙◌, arith}
use Rattle.gv_base.specs.declared.answer.Answer.TheVariants.{Next}
use Rattle.gv_base.specs.declared.val.Val.{Val}
use Rattle.gv_base.specs.declared.val.Val.TheVariants as stored
use Rattle.gv_base.specs.declared.slice_val.SliceVal.{SliceVal}
use Rattle.gv_terms.specs.declared.sort.Sort.TheVariants as sort
use Rattle.gv_terms.specs.declared.tree.TermTree.{TermTree}
use Rattle.gv_terms.specs.declared.value.Env.{Env}
use Rattle.gv_terms.specs.declared.value.Value.{Value}
use Rattle.gv_terms.specs.declared.value.Value.TheVariants as val
use Rattle.gv_terms.specs.Trees.{sort_of, value_under}
use Rattle.gv_terms.specs.Values.{slice_of}
use Rattle.gv_terms.proofs.ValueSorts.{values_have_sorts}
use Rattle.gv_lang.specs.declared.program.ItemKind.{ItemKind}
use Rattle.gv_lang.specs.Tree.{Expr}
use Rattle.gv_lang.specs.Table.{as_item}
use Rattle.gv_lang.specs.Threads.{Frame}
use Rattle.gv_lang.specs.Values.{value}
use Rattle.gv_resources.specs.Pieces.{Resource, Piece}
use Rattle.gv_assertions.specs.Atoms.{Atom, Slice, Spare, Takes, Predicate}
use Rattle.gv_assertions.specs.Standing.{StandsFor, StandForAll, spare, OwnsSlice, OwnsSpare}
use Rattle.gv_assertions.proofs.Lists.{front, parted}
use Rattle.gv_seats.specs.Paths.{term_of}
use Rattle.gv_seats.specs.Seats.{HaveValues}
use Rattle.gv_seats.proofs.Expressions.{expressions_law}
use Rattle.gv_slicing.proofs.Items.{owned_slice}
use Rattle.gv_slicing.proofs.Operands.{slice_is, slice_value}
use Rattle.gv_putting.specs.Rows.{one_sort}
use Rattle.gv_appending.proofs.Singles.{Single, single_item}

-- ---- the values of the operands

pub record Operands (k : ItemKind) (e y : Expr) (s v : TermTree) (f : Frame) (env : Env) : Type 0 where
  pub sl : SliceVal
  pub given : Val
  pub s_value : value f.locals e ≡ Some (stored.Slice sl)
  pub s_is : value_under env s ≡ val.SliceS sl
  pub single : Single k given (value_under env v)
  pub kept_is : as_item k (value f.locals y) ≡ Next single.kept

pub operands : (k : ItemKind) (e y : Expr) (s v : TermTree) (f : Frame) (env : Env) (terms : List (Option TermTree)) → HaveValues env terms f.locals → term_of terms e ≡ Some s
    → sort_of s ≡ Some sort.SliceS → term_of terms y ≡ Some v → sort_of v ≡ Some (one_sort k) → Operands k e y s v f env
operands k e y s v f env terms have e_term s_sort y_term v_sort =
    let (sv, s_found, s_plain) = expressions_law env terms f.locals have e s sort.SliceS e_term s_sort in
    let (sl, s_is) = slice_value (value_under env s) (values_have_sorts env s sort.SliceS s_sort) in
    let (given, y_found, y_is) = expressions_law env terms f.locals have y v (one_sort k) y_term v_sort in
    let single = single_item k given (value_under env v) y_is (values_have_sorts env v (one_sort k) v_sort) in
    record {
      sl = sl;
      given = given;
      s_value = s_found ∙ ap Some (slice_is sv sl (s_plain ∙ ap Some s_is));
      s_is = s_is;
      single = single;
      kept_is = ap (λ (u : Option Val). as_item k u) y_found ∙ single.is;
    }

-- ---- the parts of the piece

pub record Parts (preds : List Predicate) (env : Env) (sl : SliceVal) (t : TermTree) (left : List Atom) (piece : Piece) : Type 0 where
  pub mine : Piece
  pub spares : Piece
  pub others : Piece
  pub split : (e : Resource) → mine e + (spares e + others e) ≤ piece e
  pub has : OwnsSlice false sl (value_under env t) mine
  pub has_spare : OwnsSpare sl spares
  pub stands : StandForAll preds env left others

owned_spare : {preds : List Predicate} {env : Env} {s : TermTree} {p : Piece} (sl : SliceVal) → value_under env s ≡ val.SliceS sl → StandsFor preds env (Spare s) p → OwnsSpare sl p
owned_spare {p = p} sl is (spare h) = subst (λ (x : Value). OwnsSpare (slice_of x) p) is h

pub parts : {preds : List Predicate} {env : Env} {all without left : List Atom} {piece : Piece} (s t : TermTree) (sl : SliceVal) → value_under env s ≡ val.SliceS sl
    → Takes all (Slice false s t) without → Takes without (Spare s) left → StandForAll preds env all piece → Parts preds env sl t left piece
parts s t sl is takes takes_spare stands =
    let (mine, more, split, slice_stands, rest) = parted (front takes stands) in
    let (spares, others, split_too, spare_stands, left_stand) = parted (front takes_spare rest) in
    record {
      mine = mine;
      spares = spares;
      others = others;
      split = λ e. let a = split e in let b = split_too e in omega arith;
      has = owned_slice sl is slice_stands;
      has_spare = owned_spare sl is spare_stands;
      stands = left_stand;
    }
