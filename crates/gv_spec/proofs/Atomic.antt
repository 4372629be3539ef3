-- What the values and the assignments of a typed specification are.
use Rattle.std.proofs.Common.{◌≡◌, ◌≢◌, ℕ, zero, suc, ◌<◌, Bool, true, false, ◌&&◌, cond, List, [], ◌∷◌, ◌++◌, Option, Some, None, map, length, set, refl, sym, ap, subst, ◌∙◌, arith, eqb-true, eq-eqb}
use Rattle.std.specs.Prelude.{not, nat_eq, nat_lt, is_some, slice_get, IsTrue}
use Rattle.std.specs.List.{find, list_all}
use Rattle.std.proofs.lemmas.List.{length-set}
use Rattle.std.proofs.lemmas.Option.{same_Some}
use Rattle.gv_terms.specs.declared.sort.Sort.{Sort}
use Rattle.gv_terms.specs.declared.tree.TermTree.{TermTree}
use Rattle.gv_terms.specs.declared.term.Term.{Term}
use Rattle.gv_terms.specs.declared.value.Value.{Value}
use Rattle.gv_terms.specs.declared.value.Env.{Env}
use Rattle.gv_terms.specs.declared.var.Var.{Var}
use Rattle.gv_atomic.specs.declared.spec.Field.{Field}
use Rattle.gv_atomic.specs.declared.spec.Assign.{Assign}
use Rattle.gv_atomic.specs.declared.spec.Op.{Op}
use Rattle.gv_atomic.specs.declared.spec.Spec.{Spec}
use Rattle.gv_terms.specs.Values.{has_sort, is_sort, sort_of_value}
use Rattle.gv_terms.specs.Trees.{sort_of}
use Rattle.gv_terms.specs.Store.{tree_at}
use Rattle.gv_terms.specs.Scopes.{is_closed}
use Rattle.gv_atomic.specs.Typed.{is_term, is_field, is_field_sort, is_assigned, is_assign, is_body, is_reply, is_some_plain, is_op, are_distinct, var_of, with_picks}
use Rattle.gv_atomic.specs.Choices.{term_value, binds}
use Rattle.gv_atomic.proofs.TypedFacts.{ops_pass, fields_pass, crash_typed, chosen_body, op_body, op_reply}
use Rattle.gv_atomic.specs.Specification.{reply_value, assigned, op_env, first_fields, crash_env, crash_fields, crash_chooses, crashed}
use Rattle.gv_terms.proofs.ValueSorts.{values_have_sorts}
use Rattle.gv_spec.specs.Meaning.{chooses, fields_after, op_fields_or, reply_of, op_reply_or, applied}
use Rattle.gv_spec.specs.Atomic.{are_of, field_vars, term_sort, reply_sort, reply_sort_of, own_value, EachItsOwn, EachOfOp, EachOfCrash}

-- Tests.

left : (a b : Bool) → (a && b) ≡ true → a ≡ true
left true b e = refl
left false b e = absurd cc

right : (a b : Bool) → (a && b) ≡ true → b ≡ true
right true b e = e
right false b e = absurd cc

both : (a b : Bool) → a ≡ true → b ≡ true → (a && b) ≡ true
both true b e f = f
both false b e f = absurd cc

all_at : {A : Type 0} (test : A → Bool) (xs : List A) (i : ℕ) (x : A) → list_all test xs ≡ true → slice_get xs i ≡ Some x → test x ≡ true
all_at test [] i x e f = absurd cc
all_at test (y ∷ xs) zero x e f = let same : y ≡ x = cc in ap test (sym same) ∙ left (test y) (list_all test xs) e
all_at test (y ∷ xs) (suc i) x e f = all_at test xs i x (right (test y) (list_all test xs) e) f

-- Lists with another item.

set_here : {A : Type 0} (xs : List A) (i : ℕ) (x : A) → i < length xs → slice_get (set xs i x) i ≡ Some x
set_here [] i x lt = absurd (omega arith)
set_here (y ∷ xs) zero x lt = refl
set_here (y ∷ xs) (suc i) x lt = set_here xs i x (omega arith)

set_elsewhere : {A : Type 0} (xs : List A) (i j : ℕ) (x : A) → i ≢ j → slice_get (set xs i x) j ≡ slice_get xs j
set_elsewhere [] i j x ne = refl
set_elsewhere (y ∷ xs) zero zero x ne = absurd (ne refl)
set_elsewhere (y ∷ xs) zero (suc j) x ne = refl
set_elsewhere (y ∷ xs) (suc i) zero x ne = refl
set_elsewhere (y ∷ xs) (suc i) (suc j) x ne = set_elsewhere xs i j x (λ e. ne (ap suc e))

-- Assignments.

-- a field that is assigned once isn't assigned by the others
no_other : (m : ℕ) (body : List Assign) → not (is_some (find (λ b. nat_eq m b.field) body)) ≡ true → find (λ b. nat_eq b.field m) body ≡ None
no_other m [] e = refl
no_other m (b ∷ body) e = at (nat_eq m b.field) (nat_eq b.field m) refl refl (no_other m body) e
  where
    at : (t u : Bool) → nat_eq m b.field ≡ t → nat_eq b.field m ≡ u
        → (not (is_some (find (λ c. nat_eq m c.field) body)) ≡ true → find (λ c. nat_eq c.field m) body ≡ None)
        → not (is_some (cond t (Some b) (find (λ c. nat_eq m c.field) body))) ≡ true
        → cond u (Some b) (find (λ c. nat_eq c.field m) body) ≡ None
    at true u f g none h = absurd cc
    at false true f g none h = let e : nat_eq m b.field ≡ true = eq-eqb m b.field (sym (eqb-true b.field m g)) in absurd cc
    at false false f g none h = none h

module _ (ts : List TermTree) (env : Env) where
  length_assigned : (body : List Assign) (fields : List Value) → length (assigned ts env body fields) ≡ length fields
  length_assigned [] fields = refl
  length_assigned (a ∷ body) fields =
      let value = term_value ts env a.term in
      length_assigned body (set fields a.field value) ∙ length-set fields a.field value

  each_own : (body : List Assign) (fields : List Value) (n : ℕ) → are_distinct (λ a b. nat_eq a.field b.field) body ≡ true → n < length fields
      → slice_get (assigned ts env body fields) n ≡ own_value ts env (find (λ a. nat_eq a.field n) body) (slice_get fields n)
  each_own [] fields n distinct lt = refl
  each_own (a ∷ body) fields n distinct lt =
      let new = set fields a.field (term_value ts env a.term) in
      let none_again = not (is_some (find (λ b. nat_eq a.field b.field) body)) in
      let rest = are_distinct (λ b c. nat_eq b.field c.field) body in
      at (nat_eq a.field n) refl (left none_again rest distinct)
      (each_own body new n (right none_again rest distinct) (omega (arith, length-set fields a.field (term_value ts env a.term))))
    where
      at : (t : Bool) → nat_eq a.field n ≡ t → not (is_some (find (λ b. nat_eq a.field b.field) body)) ≡ true
          → slice_get (assigned ts env body (set fields a.field (term_value ts env a.term))) n
          ≡ own_value ts env (find (λ b. nat_eq b.field n) body) (slice_get (set fields a.field (term_value ts env a.term)) n)
          → slice_get (assigned ts env body (set fields a.field (term_value ts env a.term))) n
          ≡ own_value ts env (cond t (Some a) (find (λ b. nat_eq b.field n) body)) (slice_get fields n)
      at true e once others =
          let value = term_value ts env a.term in
          let here : a.field ≡ n = eqb-true a.field n e in
          let none : find (λ b. nat_eq b.field n) body ≡ None = subst (λ m. find (λ b. nat_eq b.field m) body ≡ None) here (no_other a.field body once) in
          let found : slice_get (set fields a.field value) n ≡ Some value = ap (λ m. slice_get (set fields m value) n) here ∙ set_here fields n value lt in
          others ∙ ap (λ o. own_value ts env o (slice_get (set fields a.field value) n)) none ∙ found
      at false e once others =
          let elsewhere : a.field ≢ n = (λ same. let t : nat_eq a.field n ≡ true = eq-eqb a.field n same in absurd cc) in
          others ∙ ap (own_value ts env (find (λ b. nat_eq b.field n) body)) (set_elsewhere fields a.field n (term_value ts env a.term) elsewhere)

  each_its_own : (fields vars : List Var) (body : List Assign) (values : List Value) → is_body ts fields vars body ≡ true → EachItsOwn ts env body values (assigned ts env body values)
  each_its_own fields vars body values typed =
      let distinct = right (list_all (is_assign ts fields vars) body) (are_distinct (λ a b. nat_eq a.field b.field) body) typed in
      record {
        as_many = length_assigned body values;
        each = λ n lt. each_own body values n distinct lt;
      }

  -- Sorts.

  -- the value of a term has the term's sort
  value_sort : (s : Sort) (t : Term) (o : Option Sort) → sort_of (tree_at ts t.id) ≡ o → is_sort s o ≡ true → has_sort (term_value ts env t) s ≡ true
  value_sort s t None e f = absurd cc
  value_sort s t (Some r) e f = ap (is_sort s) (values_have_sorts env (tree_at ts t.id) r e) ∙ f

  typed_value : (vars : List Var) (s : Sort) (t : Term) → is_term ts vars s t ≡ true → has_sort (term_value ts env t) s ≡ true
  typed_value vars s t typed =
      let of_sort = left (is_sort s (sort_of (tree_at ts t.id))) (is_closed vars (tree_at ts t.id)) (right (nat_lt t.id (length ts)) _ typed) in
      value_sort s t (sort_of (tree_at ts t.id)) refl of_sort

  set_of : (vars : List Var) (values : List Value) (i : ℕ) (x : Var) (v : Value) → slice_get vars i ≡ Some x → has_sort v x.sort ≡ true → are_of vars values ≡ true → are_of vars (set values i v) ≡ true
  set_of [] values i x v e f g = absurd cc
  set_of (y ∷ vars) [] i x v e f g = absurd cc
  set_of (y ∷ vars) (w ∷ values) zero x v e f g =
      let same : x ≡ y = cc in
      both (has_sort v y.sort) (are_of vars values) (ap (λ z. has_sort v z.sort) (sym same) ∙ f) (right (has_sort w y.sort) (are_of vars values) g)
  set_of (y ∷ vars) (w ∷ values) (suc i) x v e f g =
      both (has_sort w y.sort) (are_of vars (set values i v)) (left (has_sort w y.sort) (are_of vars values) g)
      (set_of vars values i x v e f (right (has_sort w y.sort) (are_of vars values) g))

  set_typed : (fields vars : List Var) (values : List Value) (i : ℕ) (t : Term) (f : Option Var) → slice_get fields i ≡ f → is_assigned ts vars f t ≡ true → are_of fields values ≡ true → are_of fields (set values i (term_value ts env t)) ≡ true
  set_typed fields vars values i t None e typed g = absurd cc
  set_typed fields vars values i t (Some x) e typed g = set_of fields values i x (term_value ts env t) e (typed_value vars x.sort t typed) g

  assigned_sorts : (fields vars : List Var) (body : List Assign) (values : List Value) → list_all (is_assign ts fields vars) body ≡ true → are_of fields values ≡ true → are_of fields (assigned ts env body values) ≡ true
  assigned_sorts fields vars [] values typed g = g
  assigned_sorts fields vars (a ∷ body) values typed g =
      assigned_sorts fields vars body (set values a.field (term_value ts env a.term)) (right (is_assign ts fields vars a) (list_all (is_assign ts fields vars) body) typed)
      (set_typed fields vars values a.field a.term (slice_get fields a.field) refl (left (is_assign ts fields vars a) (list_all (is_assign ts fields vars) body) typed) g)

  body_sorts : (fields vars : List Var) (body : List Assign) (values : List Value) → is_body ts fields vars body ≡ true → are_of fields values ≡ true → are_of fields (assigned ts env body values) ≡ true
  body_sorts fields vars body values typed g =
      assigned_sorts fields vars body values (left (list_all (is_assign ts fields vars) body) (are_distinct (λ a b. nat_eq a.field b.field) body) typed) g

  fields_sorts : (fields : List Field) → list_all (is_field ts) fields ≡ true → are_of (map var_of fields) (map (λ f. term_value ts env f.first) fields) ≡ true
  fields_sorts [] typed = refl
  fields_sorts (f ∷ fields) typed =
      let first = right (is_field_sort f.sort) (is_term ts [] f.sort f.first) (left (is_field ts f) (list_all (is_field ts) fields) typed) in
      both (has_sort (term_value ts env f.first) f.sort) (are_of (map var_of fields) (map (λ g. term_value ts env g.first) fields))
      (typed_value [] f.sort f.first first) (fields_sorts fields (right (is_field ts f) (list_all (is_field ts) fields) typed))

  plain_sort : (t : Term) (o : Option Sort) → sort_of (tree_at ts t.id) ≡ o → is_some_plain o ≡ true → sort_of_value (term_value ts env t) ≡ sort_of (tree_at ts t.id)
  plain_sort t None e f = absurd cc
  plain_sort t (Some r) e f = values_have_sorts env (tree_at ts t.id) r e ∙ sym e

  reply_value_sort : (vars : List Var) (reply : Option Term) → is_reply ts vars reply ≡ true → sort_of_value (reply_value ts env reply) ≡ term_sort ts reply
  reply_value_sort vars None typed = refl
  reply_value_sort vars (Some t) typed =
      let plain = left (is_some_plain (sort_of (tree_at ts t.id))) (is_closed vars (tree_at ts t.id)) (right (nat_lt t.id (length ts)) _ typed) in
      plain_sort t (sort_of (tree_at ts t.id)) refl plain

-- Specifications.

module _ (s : Spec) where
  op_typed : (op : ℕ) (o : Op) → slice_get s.ops op ≡ Some o → is_op s.store (field_vars s) o ≡ true
  op_typed op o e = all_at (is_op s.store (field_vars s)) s.ops op o (ops_pass s.disks s.blocks s.fields s.ops s.crash_picks s.crash s.store s.typed) e

  op_body_typed : (op : ℕ) (o : Op) → slice_get s.ops op ≡ Some o → is_body s.store (field_vars s) (with_picks (field_vars s ++ o.params) o.picks) o.body ≡ true
  op_body_typed op o e = chosen_body s.store (field_vars s) (field_vars s ++ o.params) o.picks o.body (op_body s.store (field_vars s) o (op_typed op o e))

  crash_body_typed : is_body s.store (field_vars s) (with_picks (field_vars s) s.crash_picks) s.crash ≡ true
  crash_body_typed = chosen_body s.store (field_vars s) (field_vars s) s.crash_picks s.crash (crash_typed s.disks s.blocks s.fields s.ops s.crash_picks s.crash s.store s.typed)

  pub first_sorts : IsTrue (are_of (field_vars s) (first_fields s))
  first_sorts = fields_sorts s.store (binds []) s.fields (fields_pass s.disks s.blocks s.fields s.ops s.crash_picks s.crash s.store s.typed)

  pub op_each : (op : ℕ) (args : List Value) (choices : List ℕ) (fields : List Value) → EachOfOp s op args choices fields (fields_after s op args choices fields)
  op_each op args choices fields o e =
      subst (λ q. EachItsOwn s.store (op_env s o args choices fields) o.body fields (op_fields_or s q args choices fields)) (sym e)
      (each_its_own s.store (op_env s o args choices fields) (field_vars s) (with_picks (field_vars s ++ o.params) o.picks) o.body fields (op_body_typed op o e))

  pub op_sorts : (op : ℕ) (args : List Value) (choices : List ℕ) (fields : List Value) → IsTrue (are_of (field_vars s) fields) → IsTrue (are_of (field_vars s) (fields_after s op args choices fields))
  op_sorts op args choices fields g = at (slice_get s.ops op) refl
    where
      at : (q : Option Op) → slice_get s.ops op ≡ q → IsTrue (are_of (field_vars s) (op_fields_or s q args choices fields))
      at None e = g
      at (Some o) e = body_sorts s.store (op_env s o args choices fields) (field_vars s) (with_picks (field_vars s ++ o.params) o.picks) o.body fields (op_body_typed op o e) g

  pub reply_sorts : (op : ℕ) (args : List Value) (choices : List ℕ) (fields : List Value) → sort_of_value (reply_of s op args choices fields) ≡ reply_sort s op
  reply_sorts op args choices fields = at (slice_get s.ops op) refl
    where
      at : (q : Option Op) → slice_get s.ops op ≡ q → sort_of_value (op_reply_or s q args choices fields) ≡ reply_sort_of s q
      at None e = refl
      at (Some o) e =
          reply_value_sort s.store (op_env s o args choices fields) (with_picks (field_vars s ++ o.params) o.picks) o.reply (op_reply s.store (field_vars s) o (op_typed op o e))

  pub crash_each : (choices : List ℕ) (fields : List Value) → EachOfCrash s choices fields (crash_fields s choices fields)
  crash_each choices fields = each_its_own s.store (crash_env s choices fields) (field_vars s) (with_picks (field_vars s) s.crash_picks) s.crash fields crash_body_typed

  pub crash_sorts : (choices : List ℕ) (fields : List Value) → IsTrue (are_of (field_vars s) fields) → IsTrue (are_of (field_vars s) (crash_fields s choices fields))
  crash_sorts choices fields g = body_sorts s.store (crash_env s choices fields) (field_vars s) (with_picks (field_vars s) s.crash_picks) s.crash fields crash_body_typed g

  -- what is applied, and what a crash leaves, where it is allowed
  pub applied_sorts : (op : ℕ) (args : List Value) (choices : List ℕ) (fields after : List Value) (reply : Value) → IsTrue (are_of (field_vars s) fields) → applied s op args choices fields ≡ Some (after, reply) → IsTrue (are_of (field_vars s) after)
  applied_sorts op args choices fields after reply g = by (chooses s op args choices fields)
    where
      by : (b : Bool) → cond {A = Option (List Value × Value)} b (Some (fields_after s op args choices fields, reply_of s op args choices fields)) None ≡ Some (after, reply) → IsTrue (are_of (field_vars s) after)
      by false e = absurd cc
      by true e =
          let found : List Value × Value = (fields_after s op args choices fields, reply_of s op args choices fields) in
          let wanted : List Value × Value = (after, reply) in
          subst (λ (vs : List Value). IsTrue (are_of (field_vars s) vs)) (ap (λ (z : List Value × Value). z.0) (same_Some found wanted e)) (op_sorts op args choices fields g)

  pub crashed_sorts : (choices : List ℕ) (fields after : List Value) → IsTrue (are_of (field_vars s) fields) → crashed s choices fields ≡ Some after → IsTrue (are_of (field_vars s) after)
  crashed_sorts choices fields after g = by (crash_chooses s choices fields)
    where
      by : (b : Bool) → cond b (Some (crash_fields s choices fields)) None ≡ Some after → IsTrue (are_of (field_vars s) after)
      by false e = absurd cc
      by true e = let same : crash_fields s choices fields ≡ after = cc in subst (λ (vs : List Value). IsTrue (are_of (field_vars s) vs)) same (crash_sorts choices fields g)
