-- Specifications that differ in their stores alone mean the same.
use Rattle.std.proofs.Common.{◌≡◌, ℕ, ◌&&◌, List, [], ◌∷◌, ◌++◌, Option, Some, None, option_map, map, if◌then◌else◌, refl, sym, ap, ◌∙◌}
use Rattle.std.specs.Prelude.{slice_get, slice_set}
use Rattle.std.proofs.lemmas.Option.{slice_get-map}
use Rattle.gv_terms.specs.declared.tree.TermTree.{TermTree}
use Rattle.gv_terms.specs.declared.term.Term.{Term}
use Rattle.gv_terms.specs.declared.value.Value.{Value}
use Rattle.gv_terms.specs.declared.value.Value.TheVariants as val
use Rattle.gv_terms.specs.declared.value.Binding.{Binding}
use Rattle.gv_terms.specs.declared.value.Env.{Env}
use Rattle.gv_terms.specs.declared.var.Var.{Var}
use Rattle.gv_terms.specs.Store.{tree_at}
use Rattle.gv_terms.specs.Trees.{value_under}
use Rattle.gv_terms.specs.Values.{truth_of, word_of, value_eq}
use Rattle.gv_terms.proofs.Equality.{value_eq_decides}
use Rattle.gv_atomic.specs.declared.spec.Field.{Field}
use Rattle.gv_atomic.specs.declared.spec.Pick.{Pick}
use Rattle.gv_atomic.specs.declared.spec.Assign.{Assign}
use Rattle.gv_atomic.specs.declared.spec.Op.{Op}
use Rattle.gv_atomic.specs.declared.spec.Spec.{Spec}
use Rattle.gv_atomic.specs.Choices.{bound, binds, term_value, picked, picks_bound, fits, limit_of, are_allowed}
use Rattle.gv_atomic.specs.Specification.{names_of_fields, fields_bound, args_bound, assigned, reply_value, first_fields, op_allows, op_before, op_chooses, op_env, op_fields, op_reply, crash_chooses, crash_env, crash_fields, crashed}
use Rattle.gv_spec.specs.Atomic.{atomic_of, are_args, are_args_of}
use Rattle.gv_spec.specs.Meaning.{allows, applied, op_allows_or, op_chooses_or, op_fields_or, op_reply_or}
use Rattle.gv_specs.specs.Alike.{ShownField, ShownPick, ShownAssign, ShownOp, shown_field, shown_pick, shown_assign, shown_op, AreAlike}

module _ (ts us : List TermTree) where
  -- terms with one tree have one value
  value_same : (env : Env) (a b : Term) → tree_at ts a.id ≡ tree_at us b.id → term_value ts env a ≡ term_value us env b
  value_same env a b e = ap (value_under env) e

  -- ---- picks

  picks_bound_same : (ps qs : List Pick) (choices : List ℕ) → map (shown_pick ts) ps ≡ map (shown_pick us) qs → picks_bound ps choices ≡ picks_bound qs choices
  picks_bound_same [] [] choices e = refl
  picks_bound_same [] (q ∷ qs) choices e = absurd cc
  picks_bound_same (p ∷ ps) [] choices e = absurd cc
  picks_bound_same (p ∷ ps) (q ∷ qs) [] e = refl
  picks_bound_same (p ∷ ps) (q ∷ qs) (c ∷ choices) e =
      let head : shown_pick ts p ≡ shown_pick us q = cc in
      let rest : map (shown_pick ts) ps ≡ map (shown_pick us) qs = cc in
      ap (λ (x : ShownPick). let b : Binding = record { name = x.name; value = val.Word c } in b ∷ picks_bound ps choices) head
      ∙ ap (λ (bs : List Binding). picked q c ∷ bs) (picks_bound_same ps qs choices rest)

  allowed_same : (before : List Binding) (ps qs : List Pick) (choices : List ℕ) → map (shown_pick ts) ps ≡ map (shown_pick us) qs → are_allowed ts before ps choices ≡ are_allowed us before qs choices
  allowed_same before [] [] [] e = refl
  allowed_same before [] [] (c ∷ choices) e = refl
  allowed_same before [] (q ∷ qs) choices e = absurd cc
  allowed_same before (p ∷ ps) [] choices e = absurd cc
  allowed_same before (p ∷ ps) (q ∷ qs) [] e = refl
  allowed_same before (p ∷ ps) (q ∷ qs) (c ∷ choices) e =
      let head : shown_pick ts p ≡ shown_pick us q = cc in
      let rest : map (shown_pick ts) ps ≡ map (shown_pick us) qs = cc in
      let name : p.name ≡ q.name = ap (λ (x : ShownPick). x.name) head in
      let limit : limit_of ts before p ≡ limit_of us before q = ap (λ (x : ShownPick). word_of (value_under (binds before) x.bound)) head in
      ap (λ n. fits c n && are_allowed ts (before ++ picked p c ∷ []) ps choices) limit
      ∙ ap (λ (n : List ℕ). let b : Binding = record { name = n; value = val.Word c } in fits c (limit_of us before q) && are_allowed ts (before ++ b ∷ []) ps choices) name
      ∙ ap (λ b. fits c (limit_of us before q) && b) (allowed_same (before ++ picked q c ∷ []) ps qs choices rest)

  -- ---- assignments and replies

  assigned_same : (env : Env) (xs ys : List Assign) (fields : List Value) → map (shown_assign ts) xs ≡ map (shown_assign us) ys → assigned ts env xs fields ≡ assigned us env ys fields
  assigned_same env [] [] fields e = refl
  assigned_same env [] (y ∷ ys) fields e = absurd cc
  assigned_same env (x ∷ xs) [] fields e = absurd cc
  assigned_same env (x ∷ xs) (y ∷ ys) fields e =
      let head : shown_assign ts x ≡ shown_assign us y = cc in
      let rest : map (shown_assign ts) xs ≡ map (shown_assign us) ys = cc in
      ap (λ (s : ShownAssign). assigned ts env xs (slice_set fields s.field (value_under env s.term))) head
      ∙ assigned_same env xs ys (slice_set fields y.field (term_value us env y.term)) rest

  replied_same : (env : Env) (a b : Option Term) → option_map (λ t. tree_at ts t.id) a ≡ option_map (λ t. tree_at us t.id) b → reply_value ts env a ≡ reply_value us env b
  replied_same env None None e = refl
  replied_same env None (Some b) e = absurd cc
  replied_same env (Some a) None e = absurd cc
  replied_same env (Some a) (Some b) e = let same : tree_at ts a.id ≡ tree_at us b.id = cc in value_same env a b same

-- ---- fields

module _ (s t : Spec) (alike : AreAlike s t) where
  names_same : names_of_fields s.fields ≡ names_of_fields t.fields
  names_same = shown_names s.store s.fields ∙ ap (map (λ (f : ShownField). f.name)) alike.fields ∙ sym (shown_names t.store t.fields)
    where
      shown_names : (ts : List TermTree) (fs : List Field) → names_of_fields fs ≡ map (λ (f : ShownField). f.name) (map (shown_field ts) fs)
      shown_names ts [] = refl
      shown_names ts (f ∷ fs) = ap (λ (ns : List (List ℕ)). f.name ∷ ns) (shown_names ts fs)

  pub bound_same : (values : List Value) → fields_bound s.fields values ≡ fields_bound t.fields values
  bound_same values = ap (λ (ns : List (List ℕ)). bound ns values) names_same

  first_same : first_fields s ≡ first_fields t
  first_same = shown_firsts s.store s.fields ∙ ap (map (λ (f : ShownField). value_under (binds []) f.first)) alike.fields ∙ sym (shown_firsts t.store t.fields)
    where
      shown_firsts : (ts : List TermTree) (fs : List Field) → map (λ f. term_value ts (binds []) f.first) fs ≡ map (λ (f : ShownField). value_under (binds []) f.first) (map (shown_field ts) fs)
      shown_firsts ts [] = refl
      shown_firsts ts (f ∷ fs) = ap (λ (vs : List Value). term_value ts (binds []) f.first ∷ vs) (shown_firsts ts fs)

  -- ---- operations

  pub ops_at : (i : ℕ) → option_map (shown_op s.store) (slice_get s.ops i) ≡ option_map (shown_op t.store) (slice_get t.ops i)
  ops_at i = sym (slice_get-map (shown_op s.store) s.ops i) ∙ ap (λ (os : List ShownOp). slice_get os i) alike.ops ∙ slice_get-map (shown_op t.store) t.ops i

  module _ (o p : Op) (same : shown_op s.store o ≡ shown_op t.store p) where
    params_same : o.params ≡ p.params
    params_same = ap (λ (x : ShownOp). x.params) same

    op_allows_same : (args : List Value) → op_allows s o args ≡ op_allows t p args
    op_allows_same args = ap (λ (x : ShownOp). truth_of (value_under (binds (args_bound x.params args)) x.allowed)) same

    pub before_same : (args fields : List Value) → op_before s o args fields ≡ op_before t p args fields
    before_same args fields = ap (λ (bs : List Binding). bs ++ args_bound o.params args) (bound_same fields) ∙ ap (λ (vs : List Var). fields_bound t.fields fields ++ args_bound vs args) params_same

    pub picks_are : map (shown_pick s.store) o.picks ≡ map (shown_pick t.store) p.picks
    picks_are = ap (λ (x : ShownOp). x.picks) same

    op_chooses_same : (args : List Value) (choices : List ℕ) (fields : List Value) → op_chooses s o args choices fields ≡ op_chooses t p args choices fields
    op_chooses_same args choices fields =
        ap (λ (bs : List Binding). are_allowed s.store bs o.picks choices) (before_same args fields) ∙ allowed_same s.store t.store (op_before t p args fields) o.picks p.picks choices picks_are

    env_same : (args : List Value) (choices : List ℕ) (fields : List Value) → op_env s o args choices fields ≡ op_env t p args choices fields
    env_same args choices fields =
        ap (λ (bs : List Binding). binds (bs ++ picks_bound o.picks choices)) (before_same args fields)
        ∙ ap (λ (bs : List Binding). binds (op_before t p args fields ++ bs)) (picks_bound_same s.store t.store o.picks p.picks choices picks_are)

    op_fields_same : (args : List Value) (choices : List ℕ) (fields : List Value) → op_fields s o args choices fields ≡ op_fields t p args choices fields
    op_fields_same args choices fields =
        ap (λ (env : Env). assigned s.store env o.body fields) (env_same args choices fields)
        ∙ assigned_same s.store t.store (op_env t p args choices fields) o.body p.body fields (ap (λ (x : ShownOp). x.body) same)

    op_reply_same : (args : List Value) (choices : List ℕ) (fields : List Value) → op_reply s o args choices fields ≡ op_reply t p args choices fields
    op_reply_same args choices fields =
        ap (λ (env : Env). reply_value s.store env o.reply) (env_same args choices fields)
        ∙ replied_same s.store t.store (op_env t p args choices fields) o.reply p.reply (ap (λ (x : ShownOp). x.reply) same)

  -- ---- by the number of the operation

  module _ (args : List Value) where
    allows_at : (a b : Option Op) → option_map (shown_op s.store) a ≡ option_map (shown_op t.store) b → op_allows_or s a args ≡ op_allows_or t b args
    allows_at None None e = refl
    allows_at None (Some p) e = absurd cc
    allows_at (Some o) None e = absurd cc
    allows_at (Some o) (Some p) e = let same : shown_op s.store o ≡ shown_op t.store p = cc in op_allows_same o p same args

    pub args_at : (a b : Option Op) → option_map (shown_op s.store) a ≡ option_map (shown_op t.store) b → are_args_of a args ≡ are_args_of b args
    args_at None None e = refl
    args_at None (Some p) e = absurd cc
    args_at (Some o) None e = absurd cc
    args_at (Some o) (Some p) e = let same : shown_op s.store o ≡ shown_op t.store p = cc in ap (λ (vs : List Var). are_args_of (Some (record o { params = vs })) args) (params_same o p same)

    module _ (choices : List ℕ) (fields : List Value) where
      chooses_at : (a b : Option Op) → option_map (shown_op s.store) a ≡ option_map (shown_op t.store) b → op_chooses_or s a args choices fields ≡ op_chooses_or t b args choices fields
      chooses_at None None e = refl
      chooses_at None (Some p) e = absurd cc
      chooses_at (Some o) None e = absurd cc
      chooses_at (Some o) (Some p) e = let same : shown_op s.store o ≡ shown_op t.store p = cc in op_chooses_same o p same args choices fields

      fields_at : (a b : Option Op) → option_map (shown_op s.store) a ≡ option_map (shown_op t.store) b → op_fields_or s a args choices fields ≡ op_fields_or t b args choices fields
      fields_at None None e = refl
      fields_at None (Some p) e = absurd cc
      fields_at (Some o) None e = absurd cc
      fields_at (Some o) (Some p) e = let same : shown_op s.store o ≡ shown_op t.store p = cc in op_fields_same o p same args choices fields

      reply_at : (a b : Option Op) → option_map (shown_op s.store) a ≡ option_map (shown_op t.store) b → op_reply_or s a args choices fields ≡ op_reply_or t b args choices fields
      reply_at None None e = refl
      reply_at None (Some p) e = absurd cc
      reply_at (Some o) None e = absurd cc
      reply_at (Some o) (Some p) e = let same : shown_op s.store o ≡ shown_op t.store p = cc in op_reply_same o p same args choices fields

  allows_same : (op : ℕ) (args : List Value) → (are_args s op args && allows s op args) ≡ (are_args t op args && allows t op args)
  allows_same op args =
      ap (λ b. b && allows s op args) (args_at args (slice_get s.ops op) (slice_get t.ops op) (ops_at op))
      ∙ ap (λ b. are_args t op args && b) (allows_at args (slice_get s.ops op) (slice_get t.ops op) (ops_at op))

  applied_same : (op : ℕ) (args : List Value) (choices : List ℕ) (fields : List Value) → applied s op args choices fields ≡ applied t op args choices fields
  applied_same op args choices fields =
      let a = slice_get s.ops op in
      let b = slice_get t.ops op in
      ap (λ c. if c then Some (op_fields_or s a args choices fields, op_reply_or s a args choices fields) else None) (chooses_at args choices fields a b (ops_at op))
      ∙ ap (λ (fs : List Value). if op_chooses_or t b args choices fields then Some (fs, op_reply_or s a args choices fields) else None) (fields_at args choices fields a b (ops_at op))
      ∙ ap (λ (v : Value). if op_chooses_or t b args choices fields then Some (op_fields_or t b args choices fields, v) else None) (reply_at args choices fields a b (ops_at op))

  crashed_same : (choices : List ℕ) (fields : List Value) → crashed s choices fields ≡ crashed t choices fields
  crashed_same choices fields =
      ap (λ c. if c then Some (crash_fields s choices fields) else None) chooses ∙ ap (λ (fs : List Value). if crash_chooses t choices fields then Some fs else None) after
    where
      chooses : crash_chooses s choices fields ≡ crash_chooses t choices fields
      chooses = ap (λ (bs : List Binding). are_allowed s.store bs s.crash_picks choices) (bound_same fields) ∙ allowed_same s.store t.store (fields_bound t.fields fields) s.crash_picks t.crash_picks choices alike.crash_picks

      env : crash_env s choices fields ≡ crash_env t choices fields
      env = ap (λ (bs : List Binding). binds (bs ++ picks_bound s.crash_picks choices)) (bound_same fields)
          ∙ ap (λ (bs : List Binding). binds (fields_bound t.fields fields ++ bs)) (picks_bound_same s.store t.store s.crash_picks t.crash_picks choices alike.crash_picks)

      after : crash_fields s choices fields ≡ crash_fields t choices fields
      after = ap (λ (e : Env). assigned s.store e s.crash fields) env ∙ assigned_same s.store t.store (crash_env t choices fields) s.crash t.crash fields alike.crash

  -- both mean one atomic specification
  pub atomic_same : atomic_of s ≡ atomic_of t
  atomic_same = λ i. record {
    first_fields = first_same i;
    allows = λ op args. allows_same op args i;
    applied = λ op args choices fields. applied_same op args choices fields i;
    crashed = λ choices fields. crashed_same choices fields i;
    same = value_eq;
    decides = value_eq_decides;
  }
