-- Which faults a specification has that its grammar allows: names, sorts and counts. Each rule is a constructor, which tells where its
-- fault stands and by which code.
use Rattle.std.specs.Prelude.{◌≡◌, ℕ, ◌&&◌, Bool as Truth, true, false, List, [], Option, Some, None, map, option_map, is_some, take, nat_lt, nat_le}
use Rattle.std.specs.List.{find}
use Rattle.std.specs.Str.{bytes_eq}
use Rattle.gv_base.specs.declared.answers.Code.{Code}
use Rattle.gv_base.specs.declared.answers.Code.TheVariants.{Undeclared, Twice, WrongType, WrongCount, TooMany}
use Rattle.gv_terms.specs.declared.sort.Sort.{Sort}
use Rattle.gv_terms.specs.declared.sort.Sort.TheVariants.{Word, Bool}
use Rattle.gv_terms.specs.declared.var.Var.{Var}
use Rattle.gv_terms.specs.Values.{is_sort}
use Rattle.gv_atomic.specs.Typed.{names_of, is_plain, is_field_sort}
use Rattle.gv_atomic.specs.Marks.{is_new}
use Rattle.gv_termread.specs.declared.placed.PlacedTerm.{PlacedTerm}
use Rattle.gv_typing.specs.Placing.{HasTermFault}
use Rattle.gv_specread.specs.declared.tree.Span.{Span}
use Rattle.gv_specread.specs.declared.tree.PlacedSort.{PlacedSort}
use Rattle.gv_specread.specs.declared.tree.PlacedNumber.{PlacedNumber}
use Rattle.gv_specread.specs.declared.tree.DisksTree.{DisksTree}
use Rattle.gv_specread.specs.declared.tree.DisksTree.TheVariants as disks
use Rattle.gv_specread.specs.declared.tree.FieldTree.{FieldTree}
use Rattle.gv_specread.specs.declared.tree.ParamTree.{ParamTree}
use Rattle.gv_specread.specs.declared.tree.PickTree.{PickTree}
use Rattle.gv_specread.specs.declared.tree.AssignTree.{AssignTree}
use Rattle.gv_specread.specs.declared.tree.ReplyTree.{ReplyTree}
use Rattle.gv_specread.specs.declared.tree.BodyTree.{BodyTree}
use Rattle.gv_specread.specs.declared.tree.OpTree.{OpTree}
use Rattle.gv_specread.specs.declared.tree.SpecTree.{SpecTree}
use Rattle.gv_specs.specs.declared.field_table.NumberedSort.{NumberedSort}
use Rattle.gv_specs.specs.Names.{name_in, Named, field_named, with_fields, with_params, with_picks, with_ops}
use Rattle.gv_specs.specs.Told.{HasItemFault}

-- ---- what is declared

-- a name is a constant of terms, or one of these bears it already
pub data HasNameFault (text : List ℕ) (vars : List Var) (name : Span) : ℕ → Code → Type 0 where
  twice : is_new (names_of vars) (name_in text name) ≡ false → HasNameFault text vars name name.start Twice

-- a sort may not stand here
pub data HasSortFault (passes : Sort → Truth) (s : PlacedSort) : ℕ → Code → Type 0 where
  wrong_sort : passes s.sort ≡ false → HasSortFault passes s s.start WrongType

-- a disk has 1 to 65,536 blocks
abbrev pub is_block_count : ℕ → Truth
is_block_count n = nat_lt 0 n && nat_le n 65536

pub data HasDisksFault : DisksTree → ℕ → Code → Type 0 where
  one_disk : (n : PlacedNumber) → is_block_count n.value ≡ false → HasDisksFault (disks.One n) n.start TooMany
  two_disks : (n : PlacedNumber) → is_block_count n.value ≡ false → HasDisksFault (disks.Two n) n.start TooMany

-- behind these fields; its initial value has no variable
pub data HasFieldFault (text : List ℕ) (vars : List Var) (f : FieldTree) (at : ℕ) (code : Code) : Type 0 where
  field_name : HasNameFault text vars f.name at code → HasFieldFault text vars f at code
  field_sort : HasSortFault is_field_sort f.sort at code → HasFieldFault text vars f at code
  initial : HasTermFault [] (is_sort f.sort.sort) f.first at code → HasFieldFault text vars f at code

-- behind the fields and these parameters
pub data HasParamFault (text : List ℕ) (vars : List Var) (p : ParamTree) (at : ℕ) (code : Code) : Type 0 where
  param_name : HasNameFault text vars p.name at code → HasParamFault text vars p at code
  param_sort : HasSortFault is_plain p.sort at code → HasParamFault text vars p at code

-- ---- bodies

-- behind the fields, the parameters and these picks, which its bound speaks of
pub data HasPickFault (text : List ℕ) (vars : List Var) (p : PickTree) (at : ℕ) (code : Code) : Type 0 where
  pick_name : HasNameFault text vars p.name at code → HasPickFault text vars p at code
  pick_bound : HasTermFault vars (is_sort Word) p.bound at code → HasPickFault text vars p at code

-- The name is no field, or was assigned before in the body; or the term, which speaks of the variables, has not the field's sort.
pub data HasAssignFault (text : List ℕ) (named : Named) (vars : List Var) (before : List AssignTree) (a : AssignTree) : ℕ → Code → Type 0 where
  no_field : named (name_in text a.name) ≡ None → HasAssignFault text named vars before a a.name.start Undeclared
  assigned_again : is_some (find (bytes_eq (name_in text a.name)) (map (λ b. name_in text b.name) before)) ≡ true
      → HasAssignFault text named vars before a a.name.start Twice
  assigned_term : (e : NumberedSort) {at : ℕ} {code : Code} → named (name_in text a.name) ≡ Some e → HasTermFault vars (is_sort e.sort) a.term at code
      → HasAssignFault text named vars before a at code

-- A body replies exactly where a reply of some sort is wanted; else its count is wrong, which is told where the body begins.
pub data HasReplyFault (vars : List Var) : Option Sort → ℕ → Option ReplyTree → ℕ → Code → Type 0 where
  no_reply : (s : Sort) (start : ℕ) → HasReplyFault vars (Some s) start None start WrongCount
  unwanted_reply : (r : ReplyTree) (start : ℕ) → HasReplyFault vars None start (Some r) start WrongCount
  reply_term : (s : Sort) (start : ℕ) (r : ReplyTree) {at : ℕ} {code : Code} → HasTermFault vars (is_sort s) r.term at code
      → HasReplyFault vars (Some s) start (Some r) at code

-- A body over fields, by their names, and the variables before its picks, from which a reply of some sort is wanted.
pub data HasBodyFault (text : List ℕ) (named : Named) (vars : List Var) (wanted : Option Sort) (b : BodyTree) (at : ℕ) (code : Code) : Type 0 where
  body_pick : HasItemFault (λ i p. HasPickFault text (with_picks text vars (take i b.picks)) p) b.picks at code → HasBodyFault text named vars wanted b at code
  body_assign : HasItemFault (λ i a. HasAssignFault text named (with_picks text vars b.picks) (take i b.assigns) a) b.assigns at code
      → HasBodyFault text named vars wanted b at code
  body_reply : HasReplyFault (with_picks text vars b.picks) wanted b.start b.reply at code → HasBodyFault text named vars wanted b at code

-- ---- operations

pub data HasReturnsFault : Option PlacedSort → ℕ → Code → Type 0 where
  returns : (s : PlacedSort) {at : ℕ} {code : Code} → HasSortFault is_plain s at code → HasReturnsFault (Some s) at code

pub data HasAllowedFault (params : List Var) : Option PlacedTerm → ℕ → Code → Type 0 where
  allowed : (t : PlacedTerm) {at : ℕ} {code : Code} → HasTermFault params (is_sort Bool) t at code → HasAllowedFault params (Some t) at code

-- behind operations of these names; the condition behind `where` speaks of the parameters alone
pub data HasOpFault (text : List ℕ) (named : Named) (fields names : List Var) (o : OpTree) (at : ℕ) (code : Code) : Type 0 where
  op_name : HasNameFault text names o.name at code → HasOpFault text named fields names o at code
  op_param : HasItemFault (λ i p. HasParamFault text (with_params text fields (take i o.params)) p) o.params at code
      → HasOpFault text named fields names o at code
  op_returns : HasReturnsFault o.returns at code → HasOpFault text named fields names o at code
  op_allowed : HasAllowedFault (with_params text [] o.params) o.allowed at code → HasOpFault text named fields names o at code
  op_body : HasBodyFault text named (with_params text fields o.params) (option_map (λ s. s.sort) o.returns) o.body at code
      → HasOpFault text named fields names o at code

-- ---- the whole

-- a crash is a body over the fields alone that replies nothing
pub data HasFault (text : List ℕ) (tree : SpecTree) (at : ℕ) (code : Code) : Type 0 where
  its_disks : HasDisksFault tree.disks at code → HasFault text tree at code
  its_field : HasItemFault (λ i f. HasFieldFault text (with_fields text [] (take i tree.fields)) f) tree.fields at code → HasFault text tree at code
  its_op : HasItemFault (λ i o. HasOpFault text (field_named text tree.fields) (with_fields text [] tree.fields) (with_ops text [] (take i tree.ops)) o)
      tree.ops at code
      → HasFault text tree at code
  its_crash : HasBodyFault text (field_named text tree.fields) (with_fields text [] tree.fields) None tree.crash at code → HasFault text tree at code
