-- What it tells that a specification is typed.
use Rattle.std.proofs.Common.{refl, ◌≡◌, ℕ, ◌<◌, List, [], ◌∷◌, ◌++◌, Bool, true, false, ◌&&◌, length, get_or, map, Option, Some, None, nat_lt}
use Rattle.std.specs.Prelude.{slice_get, IfSome}
use Rattle.std.specs.List.{All, list_all}
use Rattle.std.proofs.lemmas.List.Sums.{AllPass-from_list_all}
use Rattle.std.proofs.lemmas.List.Elements.{All-nil, All-cons}
use Rattle.std.proofs.lemmas.Bool.{ltb-true}
use Rattle.gv_terms.specs.declared.sort.Sort.{Sort}
use Rattle.gv_terms.specs.declared.sort.Sort.TheVariants as sort
use Rattle.gv_terms.specs.declared.tree.TermTree.{TermTree}
use Rattle.gv_terms.specs.declared.term.Term.{Term}
use Rattle.gv_terms.specs.declared.var.Var.{Var}
use Rattle.gv_atomic.specs.declared.spec.Field.{Field}
use Rattle.gv_atomic.specs.declared.spec.Pick.{Pick}
use Rattle.gv_atomic.specs.declared.spec.Assign.{Assign}
use Rattle.gv_atomic.specs.declared.spec.Op.{Op}
use Rattle.gv_atomic.specs.Specification.{ArePicksWithin, IsOpWithin}
use Rattle.gv_atomic.specs.Typed.{is_term, is_field, is_field_sort, is_assigned, is_assign, is_body, is_reply, is_head, is_op, is_chosen_body, is_typed, is_plain, var_of, pick_var, with_picks, are_picks, are_disks, are_names, names_of}

left : (a b : Bool) → (a && b) ≡ true → a ≡ true
left true b e = refl
left false b e = absurd cc

right : (a b : Bool) → (a && b) ≡ true → b ≡ true
right true b e = e
right false b e = absurd cc

below : (m n : ℕ) → nat_lt m n ≡ true → m < n
below m n e = ltb-true m n e

pub term_within : (ts : List TermTree) (vars : List Var) (s : Sort) (t : Term) → is_term ts vars s t ≡ true → t.id < length ts
term_within ts vars s t e = below t.id (length ts) (left (nat_lt t.id (length ts)) _ e)

assigned_within : (ts : List TermTree) (vars : List Var) (f : Option Var) (t : Term) → is_assigned ts vars f t ≡ true → t.id < length ts
assigned_within ts vars None t e = absurd cc
assigned_within ts vars (Some f) t e = term_within ts vars f.sort t e

pub body_within : (ts : List TermTree) (fields vars : List Var) (body : List Assign) → is_body ts fields vars body ≡ true → All (λ a. a.term.id < length ts) body
body_within ts fields vars body e k d lt =
    let each = AllPass-from_list_all (is_assign ts fields vars) body (left (list_all (is_assign ts fields vars) body) _ e) k d lt in
    assigned_within ts vars (slice_get fields (get_or body k d).field) (get_or body k d).term each

pub picks_within : (ts : List TermTree) (vars : List Var) (picks : List Pick) → are_picks ts vars picks ≡ true → ArePicksWithin ts picks
picks_within ts vars [] e = All-nil (λ p. p.bound.id < length ts)
picks_within ts vars (p ∷ picks) e =
    All-cons (λ q. q.bound.id < length ts) p picks
    (term_within ts vars sort.Word p.bound (left (is_term ts vars sort.Word p.bound) (are_picks ts (vars ++ pick_var p ∷ []) picks) e))
    (picks_within ts (vars ++ pick_var p ∷ []) picks (right (is_term ts vars sort.Word p.bound) (are_picks ts (vars ++ pick_var p ∷ []) picks) e))

reply_within : (ts : List TermTree) (vars : List Var) (o : Option Term) → is_reply ts vars o ≡ true → IfSome o (λ t. t.id < length ts)
reply_within ts vars None e = tt
reply_within ts vars (Some t) e = below t.id (length ts) (left (nat_lt t.id (length ts)) _ e)

-- the parts of a body with picks
module _ (ts : List TermTree) (fields vars : List Var) (picks : List Pick) (body : List Assign) (e : is_chosen_body ts fields vars picks body ≡ true) where
  rest : (are_picks ts vars picks && is_body ts fields (with_picks vars picks) body) ≡ true
  rest = right (are_names (names_of (with_picks vars picks))) (are_picks ts vars picks && is_body ts fields (with_picks vars picks) body) e

  pub chosen_names : are_names (names_of (with_picks vars picks)) ≡ true
  chosen_names = left (are_names (names_of (with_picks vars picks))) (are_picks ts vars picks && is_body ts fields (with_picks vars picks) body) e

  pub chosen_picks : are_picks ts vars picks ≡ true
  chosen_picks = left (are_picks ts vars picks) (is_body ts fields (with_picks vars picks) body) rest

  pub chosen_body : is_body ts fields (with_picks vars picks) body ≡ true
  chosen_body = right (are_picks ts vars picks) (is_body ts fields (with_picks vars picks) body) rest

-- the parts of an operation
module _ (ts : List TermTree) (fields : List Var) (o : Op) (e : is_op ts fields o ≡ true) where
  others : (is_chosen_body ts fields (fields ++ o.params) o.picks o.body && is_reply ts (with_picks (fields ++ o.params) o.picks) o.reply) ≡ true
  others = right (is_head ts fields o) (is_chosen_body ts fields (fields ++ o.params) o.picks o.body && is_reply ts (with_picks (fields ++ o.params) o.picks) o.reply) e

  head : is_head ts fields o ≡ true
  head = left (is_head ts fields o) (is_chosen_body ts fields (fields ++ o.params) o.picks o.body && is_reply ts (with_picks (fields ++ o.params) o.picks) o.reply) e

  pub op_params : list_all (λ v. is_plain v.sort) o.params ≡ true
  op_params = left (list_all (λ v. is_plain v.sort) o.params) (are_names (names_of (fields ++ o.params)) && is_term ts o.params sort.Bool o.allowed) head

  pub op_allowed : is_term ts o.params sort.Bool o.allowed ≡ true
  op_allowed =
      right (are_names (names_of (fields ++ o.params))) (is_term ts o.params sort.Bool o.allowed)
      (right (list_all (λ v. is_plain v.sort) o.params) (are_names (names_of (fields ++ o.params)) && is_term ts o.params sort.Bool o.allowed) head)

  pub op_body : is_chosen_body ts fields (fields ++ o.params) o.picks o.body ≡ true
  op_body = left (is_chosen_body ts fields (fields ++ o.params) o.picks o.body) (is_reply ts (with_picks (fields ++ o.params) o.picks) o.reply) others

  pub op_reply : is_reply ts (with_picks (fields ++ o.params) o.picks) o.reply ≡ true
  op_reply = right (is_chosen_body ts fields (fields ++ o.params) o.picks o.body) (is_reply ts (with_picks (fields ++ o.params) o.picks) o.reply) others

  pub op_within : IsOpWithin ts o
  op_within = record {
    allowed = term_within ts o.params sort.Bool o.allowed op_allowed;
    picks = picks_within ts (fields ++ o.params) o.picks (chosen_picks ts fields (fields ++ o.params) o.picks o.body op_body);
    body = body_within ts fields (with_picks (fields ++ o.params) o.picks) o.body (chosen_body ts fields (fields ++ o.params) o.picks o.body op_body);
    reply = reply_within ts (with_picks (fields ++ o.params) o.picks) o.reply op_reply;
  }

-- the parts of a specification
module _ (disks blocks : ℕ) (fields : List Field) (ops : List Op) (crash_picks : List Pick) (crash : List Assign) (ts : List TermTree) (typed : is_typed disks blocks fields ops crash_picks crash ts ≡ true) where
  abbrev vars : List Var
  vars = map var_of fields

  abbrev crashes : Bool
  crashes = is_chosen_body ts vars vars crash_picks crash

  abbrev operates : Bool
  operates = list_all (is_op ts vars) ops

  from_fields : (list_all (is_field ts) fields && (are_names (names_of vars) && (are_names (map (λ o. o.name) ops) && (operates && crashes)))) ≡ true
  from_fields = right (are_disks disks blocks) _ typed

  from_names : (are_names (names_of vars) && (are_names (map (λ o. o.name) ops) && (operates && crashes))) ≡ true
  from_names = right (list_all (is_field ts) fields) _ from_fields

  last_two : (operates && crashes) ≡ true
  last_two = right (are_names (map (λ o. o.name) ops)) (operates && crashes) (right (are_names (names_of vars)) (are_names (map (λ o. o.name) ops) && (operates && crashes)) from_names)

  pub fields_pass : list_all (is_field ts) fields ≡ true
  fields_pass = left (list_all (is_field ts) fields) _ from_fields

  pub ops_pass : list_all (is_op ts (map var_of fields)) ops ≡ true
  ops_pass = left operates crashes last_two

  pub fields_typed : All (λ f. is_field ts f ≡ true) fields
  fields_typed = AllPass-from_list_all (is_field ts) fields fields_pass

  pub fields_within : All (λ f. f.first.id < length ts) fields
  fields_within k d lt =
      let f = get_or fields k d in
      term_within ts [] f.sort f.first (right (is_field_sort f.sort) _ (fields_typed k d lt))

  pub ops_typed : All (λ o. is_op ts vars o ≡ true) ops
  ops_typed = AllPass-from_list_all (is_op ts vars) ops ops_pass

  pub ops_within : All (λ o. IsOpWithin ts o) ops
  ops_within k d lt = op_within ts vars (get_or ops k d) (ops_typed k d lt)

  pub crash_typed : is_chosen_body ts vars vars crash_picks crash ≡ true
  crash_typed = right operates crashes last_two

  pub crash_picks_within : ArePicksWithin ts crash_picks
  crash_picks_within = picks_within ts vars crash_picks (chosen_picks ts vars vars crash_picks crash crash_typed)

  pub crash_within : All (λ a. a.term.id < length ts) crash
  crash_within = body_within ts vars (with_picks vars crash_picks) crash (chosen_body ts vars vars crash_picks crash crash_typed)
