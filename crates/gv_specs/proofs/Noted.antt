-- The faults of a part are those of its parts.
use Rattle.std.proofs.Common.{◌≡◌, ℕ, ◌⊎◌, inl, inr, ⊎_elim, Bool, true, false, not, List, [], Option, Some, None, option_map, is_some, is_none, take, refl, sym, ap, subst, ◌∙◌}
use Rattle.std.specs.Prelude.{map, IfSome}
use Rattle.std.specs.List.{find}
use Rattle.std.specs.Str.{bytes_eq}
use Rattle.gv_base.specs.declared.answers.Code.{Code}
use Rattle.gv_base.specs.declared.answers.Code.TheVariants as code
use Rattle.gv_terms.specs.declared.sort.Sort.{Sort}
use Rattle.gv_terms.specs.declared.sort.Sort.TheVariants as sort
use Rattle.gv_terms.specs.declared.var.Var.{Var}
use Rattle.gv_terms.specs.declared.tree.TermTree.{TermTree}
use Rattle.gv_atomic.specs.declared.spec.Assign.{Assign}
use Rattle.gv_terms.specs.Values.{is_sort}
use Rattle.gv_termread.specs.declared.placed.PlacedTerm.{PlacedTerm}
use Rattle.gv_typing.specs.declared.term_fault.Fault.{Fault}
use Rattle.gv_typing.specs.Placing.{HasTermFault}
use Rattle.gv_atomic.specs.Typed.{names_of, is_plain, is_field_sort}
use Rattle.gv_atomic.specs.Marks.{is_new}
use Rattle.gv_specread.specs.declared.tree.Span.{Span}
use Rattle.gv_specread.specs.declared.tree.PlacedSort.{PlacedSort}
use Rattle.gv_specread.specs.declared.tree.PlacedNumber.{PlacedNumber}
use Rattle.gv_specread.specs.declared.tree.DisksTree.TheVariants as disks
use Rattle.gv_specread.specs.declared.tree.FieldTree.{FieldTree}
use Rattle.gv_specread.specs.declared.tree.ParamTree.{ParamTree}
use Rattle.gv_specread.specs.declared.tree.PickTree.{PickTree}
use Rattle.gv_specread.specs.declared.tree.AssignTree.{AssignTree}
use Rattle.gv_specread.specs.declared.tree.ReplyTree.{ReplyTree}
use Rattle.gv_specread.specs.declared.tree.BodyTree.{BodyTree}
use Rattle.gv_specread.specs.declared.tree.OpTree.{OpTree}
use Rattle.gv_specread.specs.declared.tree.SpecTree.{SpecTree}
use Rattle.gv_specs.specs.declared.field_table.NumberedSort.{NumberedSort}
use Rattle.gv_specs.specs.Names.{name_in, with_fields, with_params, with_picks, with_ops, Named, field_named}
use Rattle.gv_specs.specs.Told.{IsFault, this, IsFaultUnless, this_unless, HasItemFault, Adds}
use Rattle.gv_specs.specs.Faults as fault
use Rattle.gv_specs.specs.Faults.{HasNameFault, HasSortFault, HasDisksFault, HasFieldFault, HasParamFault, HasPickFault, HasAssignFault, HasReplyFault, HasBodyFault, HasReturnsFault, HasAllowedFault, HasOpFault, HasFault, is_block_count}
use Rattle.gv_specs.specs.declared.field_table.FieldTable.{FieldTable}
use Rattle.gv_specs.specs.FieldTable.{entry_in, IsTableOf}
use Rattle.gv_specs.specs.Bodies.{IsUndeclared, undeclared, HasAssignedFault}
use Rattle.gv_specs.specs.Spelled.{IsTermOf, IsAssign}
use Rattle.gv_specs.proofs.Firsts.{adds_same, adds_then, adds_nothing, untold}

pub adds_pair : (P Q R : ℕ → Code → Type 0) (a b c : Option Fault) → ((m : ℕ) (k : Code) → P m k → R m k) → ((m : ℕ) (k : Code) → Q m k → R m k) → ((m : ℕ) (k : Code) → R m k → P m k ⊎ Q m k)
    → Adds P a b → Adds Q b c → Adds R a c
adds_pair P Q R a b c left right back p q = adds_same (λ m k. P m k ⊎ Q m k) R a c (λ m k h. ⊎_elim (λ x. left m k x) (λ y. right m k y) h) back (adds_then P Q a b c p q)

pub adds_triple : (P Q R S : ℕ → Code → Type 0) (a b c d : Option Fault) → ((m : ℕ) (k : Code) → P m k → S m k) → ((m : ℕ) (k : Code) → Q m k → S m k) → ((m : ℕ) (k : Code) → R m k → S m k)
    → ((m : ℕ) (k : Code) → S m k → P m k ⊎ (Q m k ⊎ R m k)) → Adds P a b → Adds Q b c → Adds R c d → Adds S a d
adds_triple P Q R S a b c d one two three back p q r =
    adds_pair P (λ m k. Q m k ⊎ R m k) S a b d one (λ m k h. ⊎_elim (λ x. two m k x) (λ y. three m k y) h) back p (adds_then Q R b c d q r)

-- ---- names and sorts

name_there : (text : List ℕ) (vars : List Var) (s : Span) (m : ℕ) (k : Code) → IsFaultUnless (is_new (names_of vars) (name_in text s)) s.start code.Twice m k → HasNameFault text vars s m k
name_there text vars s m k (this_unless e) = fault.twice e

name_back : (text : List ℕ) (vars : List Var) (s : Span) (m : ℕ) (k : Code) → HasNameFault text vars s m k → IsFaultUnless (is_new (names_of vars) (name_in text s)) s.start code.Twice m k
name_back text vars s m k (fault.twice e) = this_unless e

pub name_noted : (text : List ℕ) (vars : List Var) (s : Span) (new : Bool) (a b : Option Fault) → new ≡ is_new (names_of vars) (name_in text s) → Adds (IsFaultUnless new s.start code.Twice) a b → Adds (HasNameFault text vars s) a b
name_noted text vars s new a b e h =
    adds_same (IsFaultUnless (is_new (names_of vars) (name_in text s)) s.start code.Twice) (HasNameFault text vars s) a b (λ m k w. name_there text vars s m k w) (λ m k w. name_back text vars s m k w)
    (subst (λ (x : Bool). Adds (IsFaultUnless x s.start code.Twice) a b) e h)

sort_there : (passes : Sort → Bool) (s : PlacedSort) (m : ℕ) (k : Code) → IsFaultUnless (passes s.sort) s.start code.WrongType m k → HasSortFault passes s m k
sort_there passes s m k (this_unless e) = fault.wrong_sort e

sort_back : (passes : Sort → Bool) (s : PlacedSort) (m : ℕ) (k : Code) → HasSortFault passes s m k → IsFaultUnless (passes s.sort) s.start code.WrongType m k
sort_back passes s m k (fault.wrong_sort e) = this_unless e

pub sort_noted : (passes : Sort → Bool) (s : PlacedSort) (right : Bool) (a b : Option Fault) → right ≡ passes s.sort → Adds (IsFaultUnless right s.start code.WrongType) a b → Adds (HasSortFault passes s) a b
sort_noted passes s right a b e h =
    adds_same (IsFaultUnless (passes s.sort) s.start code.WrongType) (HasSortFault passes s) a b (λ m k w. sort_there passes s m k w) (λ m k w. sort_back passes s m k w)
    (subst (λ (x : Bool). Adds (IsFaultUnless x s.start code.WrongType) a b) e h)

-- ---- fields and parameters

field_back : (text : List ℕ) (vars : List Var) (f : FieldTree) (m : ℕ) (k : Code) → HasFieldFault text vars f m k → HasNameFault text vars f.name m k ⊎ (HasSortFault is_field_sort f.sort m k ⊎ HasTermFault [] (is_sort f.sort.sort) f.first m k)
field_back text vars f m k (fault.field_name w) = inl w
field_back text vars f m k (fault.field_sort w) = inr (inl w)
field_back text vars f m k (fault.initial w) = inr (inr w)

pub field_noted : (text : List ℕ) (vars none : List Var) (f : FieldTree) (right : Bool) (a b c d : Option Fault) → none ≡ [] → right ≡ is_field_sort f.sort.sort → Adds (HasNameFault text vars f.name) a b
    → Adds (IsFaultUnless right f.sort.start code.WrongType) b c → Adds (HasTermFault none (is_sort f.sort.sort) f.first) c d → Adds (HasFieldFault text vars f) a d
field_noted text vars none f right a b c d e r p q s =
    adds_triple (HasNameFault text vars f.name) (HasSortFault is_field_sort f.sort) (HasTermFault [] (is_sort f.sort.sort) f.first) (HasFieldFault text vars f) a b c d
    (λ m k w. fault.field_name w) (λ m k w. fault.field_sort w) (λ m k w. fault.initial w) (λ m k w. field_back text vars f m k w)
    p (sort_noted is_field_sort f.sort right b c r q) (subst (λ (vs : List Var). Adds (HasTermFault vs (is_sort f.sort.sort) f.first) c d) e s)

param_back : (text : List ℕ) (vars : List Var) (p : ParamTree) (m : ℕ) (k : Code) → HasParamFault text vars p m k → HasNameFault text vars p.name m k ⊎ HasSortFault is_plain p.sort m k
param_back text vars p m k (fault.param_name w) = inl w
param_back text vars p m k (fault.param_sort w) = inr w

pub param_noted : (text : List ℕ) (vars : List Var) (p : ParamTree) (right : Bool) (a b c : Option Fault) → right ≡ is_plain p.sort.sort → Adds (HasNameFault text vars p.name) a b
    → Adds (IsFaultUnless right p.sort.start code.WrongType) b c → Adds (HasParamFault text vars p) a c
param_noted text vars p right a b c r h q =
    adds_pair (HasNameFault text vars p.name) (HasSortFault is_plain p.sort) (HasParamFault text vars p) a b c (λ m k w. fault.param_name w) (λ m k w. fault.param_sort w) (λ m k w. param_back text vars p m k w)
    h (sort_noted is_plain p.sort right b c r q)

-- ---- bodies

pick_back : (text : List ℕ) (vars : List Var) (p : PickTree) (m : ℕ) (k : Code) → HasPickFault text vars p m k → HasTermFault vars (is_sort sort.Word) p.bound m k ⊎ HasNameFault text vars p.name m k
pick_back text vars p m k (fault.pick_name w) = inr w
pick_back text vars p m k (fault.pick_bound w) = inl w

pub pick_noted : (text : List ℕ) (vars : List Var) (p : PickTree) (a b c : Option Fault) → Adds (HasTermFault vars (is_sort sort.Word) p.bound) a b → Adds (HasNameFault text vars p.name) b c → Adds (HasPickFault text vars p) a c
pick_noted text vars p a b c = adds_pair (HasTermFault vars (is_sort sort.Word) p.bound) (HasNameFault text vars p.name) (HasPickFault text vars p) a b c
    (λ m k w. fault.pick_bound w) (λ m k w. fault.pick_name w) (λ m k w. pick_back text vars p m k w)

undeclared_there : (entry : Option NumberedSort) (start m : ℕ) (k : Code) → IsFaultUnless (is_some entry) start code.Undeclared m k → IsUndeclared entry start m k
undeclared_there None start m k (this_unless e) = undeclared refl
undeclared_there (Some d) start m k (this_unless e) = absurd cc

undeclared_back : (entry : Option NumberedSort) (start m : ℕ) (k : Code) → IsUndeclared entry start m k → IsFaultUnless (is_some entry) start code.Undeclared m k
undeclared_back entry start m k (undeclared e) = this_unless (ap is_some e)

pub target_noted : (entry : Option NumberedSort) (start : ℕ) (found : Bool) (a b : Option Fault) → found ≡ is_some entry → Adds (IsFaultUnless found start code.Undeclared) a b → Adds (IsUndeclared entry start) a b
target_noted entry start found a b e h =
    adds_same (IsFaultUnless (is_some entry) start code.Undeclared) (IsUndeclared entry start) a b (λ m k w. undeclared_there entry start m k w) (λ m k w. undeclared_back entry start m k w)
    (subst (λ (x : Bool). Adds (IsFaultUnless x start code.Undeclared) a b) e h)

module _ (text : List ℕ) (named : Named) (vars : List Var) (before : List AssignTree) (t : AssignTree) where
  abbrev again : Bool
  again = is_some (find (bytes_eq (name_in text t.name)) (map (λ b. name_in text b.name) before))

  declared_there : (m : ℕ) (k : Code) → IsUndeclared (named (name_in text t.name)) t.name.start m k → HasAssignFault text named vars before t m k
  declared_there m k (undeclared e) = fault.no_field e

  negated : (b : Bool) → not b ≡ false → b ≡ true
  negated true e = refl
  negated false e = absurd cc

  again_there : (m : ℕ) (k : Code) → IsFaultUnless (not again) t.name.start code.Twice m k → HasAssignFault text named vars before t m k
  again_there m k (this_unless e) = fault.assigned_again (negated again e)

  term_there : (o : Option NumberedSort) → named (name_in text t.name) ≡ o → (m : ℕ) (k : Code) → HasAssignedFault vars o t.term m k → HasAssignFault text named vars before t m k
  term_there None e m k w = absurd w
  term_there (Some d) e m k w = fault.assigned_term d e w

  assign_back : (m : ℕ) (k : Code) → HasAssignFault text named vars before t m k
      → IsUndeclared (named (name_in text t.name)) t.name.start m k ⊎ (IsFaultUnless (not again) t.name.start code.Twice m k ⊎ HasAssignedFault vars (named (name_in text t.name)) t.term m k)
  assign_back m k (fault.no_field e) = inl (undeclared e)
  assign_back m k (fault.assigned_again e) = inr (inl (this_unless (ap not e)))
  assign_back m k (fault.assigned_term d e w) = inr (inr (subst (λ (o : Option NumberedSort). HasAssignedFault vars o t.term m k) (sym e) w))

  pub assign_noted : (entry : Option NumberedSort) (was : Bool) (a b c d : Option Fault) → entry ≡ named (name_in text t.name) → was ≡ again → Adds (IsUndeclared entry t.name.start) a b
      → Adds (IsFaultUnless (not was) t.name.start code.Twice) b c → Adds (HasAssignedFault vars entry t.term) c d → Adds (HasAssignFault text named vars before t) a d
  assign_noted entry was a b c d e f p q r =
      adds_triple (IsUndeclared (named (name_in text t.name)) t.name.start) (IsFaultUnless (not again) t.name.start code.Twice) (HasAssignedFault vars (named (name_in text t.name)) t.term) (HasAssignFault text named vars before t) a b c d
      declared_there again_there (term_there (named (name_in text t.name)) refl) assign_back
      (subst (λ (o : Option NumberedSort). Adds (IsUndeclared o t.name.start) a b) e p)
      (subst (λ (x : Bool). Adds (IsFaultUnless (not x) t.name.start code.Twice) b c) f q)
      (subst (λ (o : Option NumberedSort). Adds (HasAssignedFault vars o t.term) c d) e r)

pub nothing_assigned : (vars : List Var) (entry : Option NumberedSort) (t : PlacedTerm) (a : Option Fault) → entry ≡ None → Adds (HasAssignedFault vars entry t) a a
nothing_assigned vars entry t a e = adds_nothing (HasAssignedFault vars entry t) a (λ m k w. subst (λ (o : Option NumberedSort). HasAssignedFault vars o t m k) e w)

pub reply_noted : (vars : List Var) (s : Sort) (start : ℕ) (r : ReplyTree) (a b : Option Fault) → Adds (HasTermFault vars (is_sort s) r.term) a b → Adds (HasReplyFault vars (Some s) start (Some r)) a b
reply_noted vars s start r a b = adds_same (HasTermFault vars (is_sort s) r.term) (HasReplyFault vars (Some s) start (Some r)) a b (λ m k w. fault.reply_term s start r w) back
  where
    back : (m : ℕ) (k : Code) → HasReplyFault vars (Some s) start (Some r) m k → HasTermFault vars (is_sort s) r.term m k
    back m k (fault.reply_term s start r w) = w

pub unwanted_noted : (vars : List Var) (wanted : Option Sort) (start : ℕ) (r : ReplyTree) (a b : Option Fault) → wanted ≡ None → Adds (IsFault start code.WrongCount) a b → Adds (HasReplyFault vars wanted start (Some r)) a b
unwanted_noted vars wanted start r a b e h =
    subst (λ (o : Option Sort). Adds (HasReplyFault vars o start (Some r)) a b) (sym e) (adds_same (IsFault start code.WrongCount) (HasReplyFault vars None start (Some r)) a b there back h)
  where
    there : (m : ℕ) (k : Code) → IsFault start code.WrongCount m k → HasReplyFault vars None start (Some r) m k
    there m k this = fault.unwanted_reply r start

    back : (m : ℕ) (k : Code) → HasReplyFault vars None start (Some r) m k → IsFault start code.WrongCount m k
    back m k (fault.unwanted_reply r start) = this

pub wanted_noted : (vars : List Var) (wanted : Option Sort) (start : ℕ) (right : Bool) (a b : Option Fault) → right ≡ is_none wanted → Adds (IsFaultUnless right start code.WrongCount) a b → Adds (HasReplyFault vars wanted start None) a b
wanted_noted vars wanted start right a b e h =
    adds_same (IsFaultUnless (is_none wanted) start code.WrongCount) (HasReplyFault vars wanted start None) a b (there wanted) (back wanted) (subst (λ (x : Bool). Adds (IsFaultUnless x start code.WrongCount) a b) e h)
  where
    there : (o : Option Sort) (m : ℕ) (k : Code) → IsFaultUnless (is_none o) start code.WrongCount m k → HasReplyFault vars o start None m k
    there None m k (this_unless f) = absurd cc
    there (Some s) m k (this_unless f) = fault.no_reply s start

    back : (o : Option Sort) (m : ℕ) (k : Code) → HasReplyFault vars o start None m k → IsFaultUnless (is_none o) start code.WrongCount m k
    back o m k (fault.no_reply s start) = this_unless refl

body_back : (text : List ℕ) (named : Named) (vars : List Var) (wanted : Option Sort) (b : BodyTree) (m : ℕ) (k : Code) → HasBodyFault text named vars wanted b m k
    → HasItemFault (λ i p. HasPickFault text (with_picks text vars (take i b.picks)) p) b.picks m k
    ⊎ (HasItemFault (λ i a. HasAssignFault text named (with_picks text vars b.picks) (take i b.assigns) a) b.assigns m k ⊎ HasReplyFault (with_picks text vars b.picks) wanted b.start b.reply m k)
body_back text named vars wanted b m k (fault.body_pick w) = inl w
body_back text named vars wanted b m k (fault.body_assign w) = inr (inl w)
body_back text named vars wanted b m k (fault.body_reply w) = inr (inr w)

pub body_noted : (text : List ℕ) (named : Named) (vars scope : List Var) (wanted : Option Sort) (b : BodyTree) (w x y z : Option Fault) → scope ≡ with_picks text vars b.picks
    → Adds (HasItemFault (λ i p. HasPickFault text (with_picks text vars (take i b.picks)) p) b.picks) w x
    → Adds (HasItemFault (λ i a. HasAssignFault text named scope (take i b.assigns) a) b.assigns) x y → Adds (HasReplyFault scope wanted b.start b.reply) y z
    → Adds (HasBodyFault text named vars wanted b) w z
body_noted text named vars scope wanted b w x y z e p q r =
    adds_triple (HasItemFault (λ i p. HasPickFault text (with_picks text vars (take i b.picks)) p) b.picks) (HasItemFault (λ i a. HasAssignFault text named (with_picks text vars b.picks) (take i b.assigns) a) b.assigns)
    (HasReplyFault (with_picks text vars b.picks) wanted b.start b.reply) (HasBodyFault text named vars wanted b) w x y z (λ m k h. fault.body_pick h) (λ m k h. fault.body_assign h) (λ m k h. fault.body_reply h) (λ m k h. body_back text named vars wanted b m k h)
    p (subst (λ (vs : List Var). Adds (HasItemFault (λ i a. HasAssignFault text named vs (take i b.assigns) a) b.assigns) x y) e q) (subst (λ (vs : List Var). Adds (HasReplyFault vs wanted b.start b.reply) y z) e r)

-- ---- operations

pub returns_noted : (s : PlacedSort) (right : Bool) (a b : Option Fault) → right ≡ is_plain s.sort → Adds (IsFaultUnless right s.start code.WrongType) a b → Adds (HasReturnsFault (Some s)) a b
returns_noted s right a b e h = adds_same (HasSortFault is_plain s) (HasReturnsFault (Some s)) a b (λ m k w. fault.returns s w) back (sort_noted is_plain s right a b e h)
  where
    back : (m : ℕ) (k : Code) → HasReturnsFault (Some s) m k → HasSortFault is_plain s m k
    back m k (fault.returns s w) = w

pub no_returns_noted : (a : Option Fault) → Adds (HasReturnsFault None) a a
no_returns_noted a = adds_nothing (HasReturnsFault None) a none
  where
    none : (m : ℕ) (k : Code) → HasReturnsFault None m k → ⊥
    none m k w = elim w [ ]

pub allowed_noted : (vars : List Var) (t : PlacedTerm) (a b : Option Fault) → Adds (HasTermFault vars (is_sort sort.Bool) t) a b → Adds (HasAllowedFault vars (Some t)) a b
allowed_noted vars t a b = adds_same (HasTermFault vars (is_sort sort.Bool) t) (HasAllowedFault vars (Some t)) a b (λ m k w. fault.allowed t w) back
  where
    back : (m : ℕ) (k : Code) → HasAllowedFault vars (Some t) m k → HasTermFault vars (is_sort sort.Bool) t m k
    back m k (fault.allowed t w) = w

pub all_allowed_noted : (vars : List Var) (a : Option Fault) → Adds (HasAllowedFault vars None) a a
all_allowed_noted vars a = adds_nothing (HasAllowedFault vars None) a none
  where
    none : (m : ℕ) (k : Code) → HasAllowedFault vars None m k → ⊥
    none m k w = elim w [ ]

module _ (text : List ℕ) (named : Named) (fields names : List Var) (o : OpTree) where
  abbrev Name : ℕ → Code → Type 0
  Name = HasNameFault text names o.name

  abbrev Params : ℕ → Code → Type 0
  Params = HasItemFault (λ i p. HasParamFault text (with_params text fields (take i o.params)) p) o.params

  abbrev Body : ℕ → Code → Type 0
  Body = HasBodyFault text named (with_params text fields o.params) (option_map (λ s. s.sort) o.returns) o.body

  abbrev Allowed : ℕ → Code → Type 0
  Allowed = HasAllowedFault (with_params text [] o.params) o.allowed

  op_back : (m : ℕ) (k : Code) → HasOpFault text named fields names o m k → Name m k ⊎ (Params m k ⊎ (HasReturnsFault o.returns m k ⊎ (Allowed m k ⊎ Body m k)))
  op_back m k (fault.op_name w) = inl w
  op_back m k (fault.op_param w) = inr (inl w)
  op_back m k (fault.op_returns w) = inr (inr (inl w))
  op_back m k (fault.op_allowed w) = inr (inr (inr (inl w)))
  op_back m k (fault.op_body w) = inr (inr (inr (inr w)))

  pub op_noted : (a b c d e f : Option Fault) → Adds Name a b → Adds Params b c → Adds (HasReturnsFault o.returns) c d → Adds Allowed d e → Adds Body e f → Adds (HasOpFault text named fields names o) a f
  op_noted a b c d e f p q r s t =
      adds_pair Name (λ m k. Params m k ⊎ (HasReturnsFault o.returns m k ⊎ (Allowed m k ⊎ Body m k))) (HasOpFault text named fields names o) a b f
      (λ m k w. fault.op_name w)
      (λ m k w. ⊎_elim (λ x. fault.op_param x) (λ y. ⊎_elim (λ x. fault.op_returns x) (λ z. ⊎_elim (λ x. fault.op_allowed x) (λ x. fault.op_body x) z) y) w)
      op_back p
      (adds_then Params (λ m k. HasReturnsFault o.returns m k ⊎ (Allowed m k ⊎ Body m k)) b c f q
      (adds_then (HasReturnsFault o.returns) (λ m k. Allowed m k ⊎ Body m k) c d f r (adds_then Allowed Body d e f s t)))

-- ---- the whole

pub no_disks_noted : (a : Option Fault) → Adds (HasDisksFault disks.Zero) a a
no_disks_noted a = adds_nothing (HasDisksFault disks.Zero) a none
  where
    none : (m : ℕ) (k : Code) → HasDisksFault disks.Zero m k → ⊥
    none m k w = elim w [ ]

one_there : (n : PlacedNumber) (m : ℕ) (k : Code) → IsFaultUnless (is_block_count n.value) n.start code.TooMany m k → HasDisksFault (disks.One n) m k
one_there n m k (this_unless e) = fault.one_disk n e

one_back : (n : PlacedNumber) (m : ℕ) (k : Code) → HasDisksFault (disks.One n) m k → IsFaultUnless (is_block_count n.value) n.start code.TooMany m k
one_back n m k (fault.one_disk q e) = this_unless e

two_there : (n : PlacedNumber) (m : ℕ) (k : Code) → IsFaultUnless (is_block_count n.value) n.start code.TooMany m k → HasDisksFault (disks.Two n) m k
two_there n m k (this_unless e) = fault.two_disks n e

two_back : (n : PlacedNumber) (m : ℕ) (k : Code) → HasDisksFault (disks.Two n) m k → IsFaultUnless (is_block_count n.value) n.start code.TooMany m k
two_back n m k (fault.two_disks q e) = this_unless e

pub one_disk_noted : (n : PlacedNumber) (a b : Option Fault) → Adds (IsFaultUnless (is_block_count n.value) n.start code.TooMany) a b → Adds (HasDisksFault (disks.One n)) a b
one_disk_noted n a b = adds_same (IsFaultUnless (is_block_count n.value) n.start code.TooMany) (HasDisksFault (disks.One n)) a b (λ m k w. one_there n m k w) (λ m k w. one_back n m k w)

pub two_disks_noted : (n : PlacedNumber) (a b : Option Fault) → Adds (IsFaultUnless (is_block_count n.value) n.start code.TooMany) a b → Adds (HasDisksFault (disks.Two n)) a b
two_disks_noted n a b = adds_same (IsFaultUnless (is_block_count n.value) n.start code.TooMany) (HasDisksFault (disks.Two n)) a b (λ m k w. two_there n m k w) (λ m k w. two_back n m k w)

module _ (text : List ℕ) (t : SpecTree) where
  abbrev Fields : ℕ → Code → Type 0
  Fields = HasItemFault (λ i f. HasFieldFault text (with_fields text [] (take i t.fields)) f) t.fields

  abbrev Ops : ℕ → Code → Type 0
  Ops = HasItemFault (λ i o. HasOpFault text (field_named text t.fields) (with_fields text [] t.fields) (with_ops text [] (take i t.ops)) o) t.ops

  abbrev Crash : ℕ → Code → Type 0
  Crash = HasBodyFault text (field_named text t.fields) (with_fields text [] t.fields) None t.crash

  whole_back : (m : ℕ) (k : Code) → HasFault text t m k → HasDisksFault t.disks m k ⊎ (Fields m k ⊎ (Ops m k ⊎ Crash m k))
  whole_back m k (fault.its_disks w) = inl w
  whole_back m k (fault.its_field w) = inr (inl w)
  whole_back m k (fault.its_op w) = inr (inr (inl w))
  whole_back m k (fault.its_crash w) = inr (inr (inr w))

  pub whole_noted : (a b c d e : Option Fault) → Adds (HasDisksFault t.disks) a b → Adds Fields b c → Adds Ops c d → Adds Crash d e → Adds (HasFault text t) a e
  whole_noted a b c d e p q r s =
      adds_pair (HasDisksFault t.disks) (λ m k. Fields m k ⊎ (Ops m k ⊎ Crash m k)) (HasFault text t) a b e
      (λ m k w. fault.its_disks w)
      (λ m k w. ⊎_elim (λ x. fault.its_field x) (λ y. ⊎_elim (λ x. fault.its_op x) (λ x. fault.its_crash x) y) w)
      whole_back p (adds_then Fields (λ m k. Ops m k ⊎ Crash m k) b c e q (adds_then Ops Crash c d e r s))

-- ---- fields by their names

-- a table of fields is what they name
pub table_names : (text : List ℕ) (fields : List FieldTree) (table : FieldTable) → IsTableOf text fields table → entry_in table ≡ field_named text fields
table_names text fields table h = λ i. λ n. h n i

pub assign_read : (text : List ℕ) (ts : List TermTree) (named : Named) (vars : List Var) (t : AssignTree) (a : Assign) (entry : Option NumberedSort) (x y : Option Fault) → entry ≡ named (name_in text t.name) → Adds (IsUndeclared entry t.name.start) x y → y ≡ None
    → IfSome entry (λ e. (a.field ≡ e.number) × IsTermOf ts vars t.term a.term) → IsAssign text ts named vars t a
assign_read text ts named vars t a None x y e h nothing is = absurd (untold (IsUndeclared None t.name.start) x y h nothing t.name.start code.Undeclared (undeclared refl))
assign_read text ts named vars t a (Some d) x y e h nothing is = record { name = ap (option_map (λ (g : NumberedSort). g.number)) (sym e) ∙ ap Some (sym is.0); term = is.1 }
