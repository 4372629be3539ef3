-- An act is sound beside every rest.
use Rattle.std.proofs.Common.{◌≡◌, ◌≢◌, ℕ, zero, suc, ◌+◌, ◌<◌, ◌≤◌, ◌⊎◌, inl, inr, Bool, true, false, List, [], ◌∷◌, ◌++◌, map, length, Option, Some, None, refl, sym, ap, subst, ◌∙◌, arith}
use Rattle.std.specs.Prelude.{slice_get, nat_lt, ◌&&◌}
use Rattle.gv_terms.specs.declared.sort.Sort.{Sort}
use Rattle.gv_terms.specs.declared.sort.Sort.TheVariants as sort
use Rattle.gv_terms.specs.declared.tree.TermTree.{TermTree}
use Rattle.gv_terms.specs.declared.value.Env.{Env}
use Rattle.gv_terms.specs.declared.value.Value.{Value}
use Rattle.gv_terms.specs.declared.value.Value.TheVariants as val
use Rattle.gv_terms.specs.Trees.{value_under}
use Rattle.gv_terms.specs.Values.{sort_of_value}
use Rattle.gv_terms.proofs.ValueSorts.{values_have_sorts}
use Rattle.gv_world.specs.Store.{Store as World}
use Rattle.gv_spec.specs.Walks.{Standing, NeverCalled, Called, Acted, Answered, Dropped}
use Rattle.gv_resources.specs.Kinds as kind
use Rattle.gv_resources.specs.Kinds.{Kind}
use Rattle.gv_resources.specs.Pieces.{Resource, Have, Piece, Fits, single, values_eq}
use Rattle.gv_resources.specs.Ghost.{Ghost}
use Rattle.gv_resources.specs.Told.{Shape, told, under, only_if, one, replied, is_leased, may_act, token_at, acted_with, is_in_table, call_of, number_of}
use Rattle.gv_resources.proofs.Equality.{single_test, single_same, values_tell}
use Rattle.gv_resources.proofs.Many.{all_told, all_told_has, fits_renewed, none_of_fresh, none_of_held}
use Rattle.gv_resources.proofs.Sums.{number_test, changed_there, changed_elsewhere}
use Rattle.gv_assertions.specs.Atoms.{Atom, Owns, Predicate}
use Rattle.gv_assertions.specs.Standing.{StandsFor, StandForAll, owns, both, valued, number_under}
use Rattle.gv_assertions.proofs.Lists.{joined, cut, parted}
use Rattle.gv_seats.specs.Paths.{Path, number}
use Rattle.gv_seats.specs.Seats.{Proof, shape_of, IsConsistent, of_locks}
use Rattle.gv_seats.specs.Changes as change
use Rattle.gv_seats.specs.Changes.{Changed}
use Rattle.gv_giving.proofs.Givens.{all_parted}
use Rattle.gv_acting.specs.Acts.{acts, fields_become, leases_become, Leased, IsReply, no_reply, a_reply, reply_under, is_listed, AreOnce, call_number}
use Rattle.gv_acting.specs.Laws.{ActsLaw}
use Rattle.gv_acting.proofs.Renewing.{olds_of, news_of, renewed, all_mapped, all_back}
use Rattle.gv_acting.proofs.Walking.{entered_there, entered_elsewhere, after, walked_after}
use Rattle.gv_acting.proofs.Acting.{fields_piece, leases_piece, fields_in, leases_in, listed_has, number_is, EachLease, IsGiven, more_given, fields_have, fields_stand, leases_have, leases_stand}

some_same : {A : Type 0} (x y : A) → Some x ≡ Some y → x ≡ y
some_same x y e = cc

-- ---- values

call_value : (x : Value) → sort_of_value x ≡ Some sort.Call → (n : ℕ) × (x ≡ val.Call n)
call_value (val.Call n) e = (n, refl)
call_value _ e = absurd cc

reply_told : (env : Env) (reply : List TermTree) → IsReply reply → replied (Some (reply_under env reply)) ≡ Some (valued env reply)
reply_told env _ no_reply = refl
reply_told env _ (a_reply {t = t} {s = s} sorted) = plain_reply (value_under env t) s (values_have_sorts env t s sorted)
  where
    plain_reply : (v : Value) (s : Sort) → sort_of_value v ≡ Some s → replied (Some v) ≡ Some (v ∷ [])
    plain_reply val.Unit s e = absurd cc
    plain_reply _ s e = refl

-- lists of values, item by item
pub valued_at : (env : Env) (ts : List TermTree) (i : ℕ) (t : TermTree) → slice_get ts i ≡ Some t → slice_get (valued env ts) i ≡ Some (value_under env t)
valued_at env [] i t e = absurd cc
valued_at env (u ∷ ts) zero t e = let same : u ≡ t = cc in ap (λ (x : TermTree). Some (value_under env x)) same
valued_at env (u ∷ ts) (suc i) t e = valued_at env ts i t e

pub valued_long : (env : Env) (ts : List TermTree) → length (valued env ts) ≡ length ts
valued_long env [] = refl
valued_long env (t ∷ ts) = ap suc (valued_long env ts)

there_within : {A : Type 0} (xs : List A) (i : ℕ) → i < length xs → (x : A) × (slice_get xs i ≡ Some x)
there_within [] i l = absurd (omega (arith, l))
there_within (x ∷ xs) zero l = (x, refl)
there_within (x ∷ xs) (suc i) l = there_within xs i (omega (arith, l))

none_behind : {A : Type 0} (xs : List A) (i : ℕ) → length xs ≤ i → slice_get xs i ≡ None
none_behind [] i l = refl
none_behind (x ∷ xs) zero l = absurd (omega (arith, l))
none_behind (x ∷ xs) (suc i) l = none_behind xs i (omega (arith, l))

behind_or_within : (i n : ℕ) → (i < n) ⊎ (n ≤ i)
behind_or_within i n = grind arith

pub same_lists : (env : Env) (ts : List TermTree) (ys : List Value) → length ys ≡ length ts → ((i : ℕ) (t : TermTree) → slice_get ts i ≡ Some t → slice_get ys i ≡ Some (value_under env t))
    → valued env ts ≡ ys
same_lists env [] [] long each = refl
same_lists env [] (y ∷ ys) long each = absurd (omega (arith, long))
same_lists env (t ∷ ts) [] long each = absurd (omega (arith, long))
same_lists env (t ∷ ts) (y ∷ ys) long each =
    let first : y ≡ value_under env t = some_same y (value_under env t) (each 0 t refl) in
    ap (λ (x : Value). x ∷ valued env ts) (sym first) ∙ ap (λ (xs : List Value). y ∷ xs) (same_lists env ts ys (omega (arith, long)) (λ i u e. each (suc i) u e))

-- ---- what a token tells

record Waiting (g : Ghost) (n operation : ℕ) (args : List Value) : Type 0 where
  pub called : g.walk.table n ≡ Called operation args

waiting : (z : Shape) (g : Ghost) (n operation : ℕ) (args : List Value) → token_at z g n ≡ Some (val.Word operation ∷ args) → Waiting g n operation args
waiting z g n operation args e = record { called = at (g.walk.table n) (passed _ _ _ e) }
  where
    passed : (test : Bool) (x : Option (List Value)) (v : List Value) → only_if test x ≡ Some v → x ≡ Some v
    passed true x v e = e
    passed false x v e = absurd cc

    at : (s : Standing Value) → may_act z s ≡ Some (val.Word operation ∷ args) → s ≡ Called operation args
    at (Called o xs) e =
        let is = passed (z.allows o xs) (Some (val.Word o ∷ xs)) (val.Word operation ∷ args) e in
        let same : val.Word o ∷ xs ≡ val.Word operation ∷ args = some_same _ _ is in
        let a : o ≡ operation = cc in
        let b : xs ≡ args = cc in
        rw (a, b) refl
    at NeverCalled e = absurd cc
    at (Acted r) e = absurd cc
    at Answered e = absurd cc
    at Dropped e = absurd cc

-- ---- what changes

abbrev pub listed_at : List Leased → Option ℕ → Bool
listed_at leases None = false
listed_at leases (Some place) = is_listed leases place

abbrev renews_at : ℕ → List Leased → Kind → List Value → Bool
renews_at n leases kind.Token key = values_eq key (val.Call n ∷ [])
renews_at n leases kind.Done key = values_eq key (val.Call n ∷ [])
renews_at n leases kind.Field key = true
renews_at n leases kind.FieldLease key = listed_at leases (number_of key)
renews_at n leases _ key = false

key_of_call : (key : List Value) (m : ℕ) → call_of key ≡ Some m → key ≡ val.Call m ∷ []
key_of_call (val.Call k ∷ []) m e = let same : k ≡ m = cc in rw same refl
key_of_call _ m e = absurd cc

key_of_number : (key : List Value) (m : ℕ) → number_of key ≡ Some m → key ≡ val.Word m ∷ []
key_of_number (val.Word k ∷ []) m e = let same : k ≡ m = cc in rw same refl
key_of_number _ m e = absurd cc

same_key : (key other : List Value) → values_eq key other ≡ true → key ≡ other
same_key key other e = elim (values_tell key other) [ inl (same, t) ↦ same | inr (ne, t) ↦ (let never : true ≡ false = sym e ∙ t in absurd cc) ]

other_key : (key other : List Value) → values_eq key other ≡ false → key ≢ other
other_key key other e same = elim (values_tell key other) [ inl (q, t) ↦ (let never : true ≡ false = sym t ∙ e in cc) | inr (ne, t) ↦ ne same ]

no_answer : {A : Type 0} (test : Bool) (x : Option A) → x ≡ None → only_if test x ≡ None
no_answer true x e = e
no_answer false x e = refl

passed_test : {A : Type 0} (test : Bool) (x : Option A) (v : A) → only_if test x ≡ Some v → test ≡ true
passed_test true x v e = refl
passed_test false x v e = absurd cc

leased_is : (x : Option Bool) → is_leased x ≡ true → x ≡ Some true
leased_is None e = absurd cc
leased_is (Some b) e = ap Some e

module _ (o : Proof) (g : Ghost) (env : Env) (olds news : List TermTree) (leases : List Leased) (fields : valued env olds ≡ g.walk.fields) (long : length olds ≡ length o.leased)
    (as_many : length news ≡ length olds)
    (keeps : (place : ℕ) (t u : TermTree) → slice_get o.leased place ≡ Some true → is_listed leases place ≡ false → slice_get olds place ≡ Some t → slice_get news place ≡ Some u
    → value_under env u ≡ value_under env t) where
  field_at : (place : ℕ) → slice_get o.leased place ≡ Some true → is_listed leases place ≡ false → slice_get (valued env news) place ≡ slice_get g.walk.fields place
  field_at place leased free =
      let inside = within_leased o.leased place leased in
      let (t, t_there) = there_within olds place (omega (arith, inside, long)) in
      let (u, u_there) = there_within news place (omega (arith, inside, long, as_many)) in
      valued_at env news place u u_there ∙ ap Some (keeps place t u leased free t_there u_there) ∙ sym (valued_at env olds place t t_there) ∙ ap (λ (xs : List Value). slice_get xs place) fields
    where
      within_leased : (xs : List Bool) (i : ℕ) → slice_get xs i ≡ Some true → i < length xs
      within_leased [] i e = absurd cc
      within_leased (x ∷ xs) zero e = omega arith
      within_leased (x ∷ xs) (suc i) e = let l = within_leased xs i e in omega arith

  pub leases_same : (found : Option ℕ) → listed_at leases found ≡ false
      → under found (λ place. only_if (is_leased (slice_get o.leased place)) (one (slice_get (valued env news) place))) ≡ under found (λ place. only_if (is_leased (slice_get o.leased place)) (one (slice_get g.walk.fields place)))
  leases_same None free = refl
  leases_same (Some place) free = at (slice_get o.leased place) refl
    where
      at : (x : Option Bool) → slice_get o.leased place ≡ x → only_if (is_leased x) (one (slice_get (valued env news) place)) ≡ only_if (is_leased x) (one (slice_get g.walk.fields place))
      at None e = refl
      at (Some false) e = refl
      at (Some true) e = ap (λ (v : Option Value). one v) (field_at place e free)

module _ (o : Proof) (w : World) (g : Ghost) (h : Path) (env : Env) (n operation : ℕ) (args olds news : List TermTree) (choices : List ℕ) (reply : List TermTree) (leases : List Leased)
    (c : IsConsistent o w g) (called : g.walk.table n ≡ Called operation (valued env args)) (fields : valued env olds ≡ g.walk.fields) (long : length olds ≡ length o.leased)
    (as_many : length news ≡ length olds) (is_reply : IsReply reply)
    (does : o.atomic.applied operation (valued env args) choices g.walk.fields ≡ Some (valued env news, reply_under env reply))
    (keeps : (place : ℕ) (t u : TermTree) → slice_get o.leased place ≡ Some true → is_listed leases place ≡ false → slice_get olds place ≡ Some t → slice_get news place ≡ Some u
    → value_under env u ≡ value_under env t) where
  abbrev pub now : Ghost
  now = after o.atomic g c.walked n operation (valued env args) choices (valued env news) (reply_under env reply) called does

  tokens_same : (found : Option ℕ) → ((m : ℕ) → found ≡ Some m → m ≢ n) → under found (λ call. token_at (shape_of o) now call) ≡ under found (λ call. token_at (shape_of o) g call)
  tokens_same None ne = refl
  tokens_same (Some m) ne = ap (λ (s : Standing Value). only_if (nat_lt g.gone m) (may_act (shape_of o) s)) (entered_elsewhere g.walk.table n m (Acted (reply_under env reply)) (ne m refl))

  dones_same : (found : Option ℕ) → ((m : ℕ) → found ≡ Some m → m ≢ n) → under found (λ call. acted_with (now.walk.table call) (now.kept call)) ≡ under found (λ call. acted_with (g.walk.table call) (g.kept call))
  dones_same None ne = refl
  dones_same (Some m) ne =
      ap (λ (s : Standing Value). acted_with s (now.kept m)) (entered_elsewhere g.walk.table n m (Acted (reply_under env reply)) (ne m refl))
      ∙ ap (λ (x : Option Value). acted_with (g.walk.table m) x) (changed_elsewhere g.kept n m (Some (reply_under env reply)) (ne m refl))

  opens_same : (found : Option ℕ) → under found (λ call. only_if (nat_lt g.since call && is_in_table (now.walk.table call)) (Some []))
      ≡ under found (λ call. only_if (nat_lt g.since call && is_in_table (g.walk.table call)) (Some []))
  opens_same None = refl
  opens_same (Some m) = ap (λ (b : Bool). only_if (nat_lt g.since m && b) (Some [])) (still m)
    where
      still : (m : ℕ) → is_in_table (now.walk.table m) ≡ is_in_table (g.walk.table m)
      still m = elim (number_test m n) [
        | inl (e, t) ↦ (
            let here : is_in_table (now.walk.table n) ≡ is_in_table (g.walk.table n) = ap is_in_table (entered_there g.walk.table n (Acted (reply_under env reply))) ∙ sym (ap is_in_table called) in
            rw e here)
        | inr (ne, t) ↦ ap is_in_table (entered_elsewhere g.walk.table n m (Acted (reply_under env reply)) ne)
      ]

  pub told_same : (k : Kind) (key : List Value) → renews_at n leases k key ≡ false → told (shape_of o) w now k key ≡ told (shape_of o) w g k key
  told_same kind.Token key free = tokens_same (call_of key) (λ m e same. other_key key (val.Call n ∷ []) free (key_of_call key m e ∙ ap (λ (i : ℕ). val.Call i ∷ []) same))
  told_same kind.Done key free = dones_same (call_of key) (λ m e same. other_key key (val.Call n ∷ []) free (key_of_call key m e ∙ ap (λ (i : ℕ). val.Call i ∷ []) same))
  told_same kind.Field key free = absurd cc
  told_same kind.FieldLease key free = leases_same o g env olds news leases fields long as_many keeps (number_of key) free
  told_same kind.OpenCall key free = opens_same (call_of key)
  told_same _ key free = refl

  done_told : told (shape_of o) w now kind.Done (val.Call n ∷ []) ≡ Some (valued env reply)
  done_told =
      ap (λ (s : Standing Value). acted_with s (now.kept n)) (entered_there g.walk.table n (Acted (reply_under env reply)))
      ∙ ap (λ (x : Option Value). replied x) (changed_there g.kept n (Some (reply_under env reply))) ∙ reply_told env reply is_reply

  field_told : (i : ℕ) (t : TermTree) → slice_get news i ≡ Some t → told (shape_of o) w now kind.Field (val.Word i ∷ []) ≡ Some (value_under env t ∷ [])
  field_told i t e = ap one (valued_at env news i t e)

  lease_told : (l : Leased) → slice_get news l.place ≡ Some l.new → is_leased (slice_get o.leased l.place) ≡ true → told (shape_of o) w now kind.FieldLease (val.Word l.place ∷ []) ≡ Some (value_under env l.new ∷ [])
  lease_told l e leased =
      ap (λ (b : Bool). only_if b (one (slice_get (valued env news) l.place))) leased ∙ ap one (valued_at env news l.place l.new e)

  -- ---- the new piece

  abbrev pub done_one : Resource
  done_one = Have kind.Done (val.Call n ∷ []) (valued env reply)

  abbrev pub new_piece : Piece
  new_piece e = single done_one e + (fields_piece env 0 news e + leases_piece env leases e)

  abbrev chosen : Kind → List Value → Bool
  chosen = renews_at n leases

  abbrev IsLease : Leased → Type 0
  IsLease l = (slice_get news l.place ≡ Some l.new) × (is_leased (slice_get o.leased l.place) ≡ true)

  none_of_kind : (v u : List Value) (i : ℕ) → Have kind.Done (val.Call n ∷ []) v ≡ Have kind.Field (val.Word i ∷ []) u → ⊥
  none_of_kind v u i e = cc

  nor_lease : (v u : List Value) (i : ℕ) → Have kind.Done (val.Call n ∷ []) v ≡ Have kind.FieldLease (val.Word i ∷ []) u → ⊥
  nor_lease v u i e = cc

  field_or_lease : (v u : List Value) (i j : ℕ) → Have kind.Field (val.Word i ∷ []) v ≡ Have kind.FieldLease (val.Word j ∷ []) u → ⊥
  field_or_lease v u i j e = cc

  pub new_within : AreOnce leases → EachLease IsLease leases → (e : Resource) → new_piece e ≤ all_told chosen (told (shape_of o) w now) e
  new_within once each e = elim (single_test done_one e) [
    | inl (same, count) ↦ elim (fields_in env 0 news e) [
      | inl (f, more) ↦ absurd (none_of_kind _ _ (0 + f.i) (sym same ∙ f.is))
      | inr no_field ↦ elim (leases_in IsLease env leases e once each) [
        | inl (l, more) ↦ absurd (nor_lease _ _ l.l.place (sym same ∙ l.is))
        | inr no_lease ↦ (let has = subst (λ (r : Resource). 0 < all_told chosen (told (shape_of o) w now) r) (sym same) (all_told_has chosen (told (shape_of o) w now) kind.Done (val.Call n ∷ []) (valued env reply) (itself (val.Call n ∷ [])) done_told) in omega arith)
      ]
    ]
    | inr (other, not_done) ↦ elim (fields_in env 0 news e) [
      | inl (f, count) ↦ elim (leases_in IsLease env leases e once each) [
        | inl (l, more) ↦ absurd (field_or_lease _ _ (0 + f.i) l.l.place (sym f.is ∙ l.is))
        | inr no_lease ↦ (let has = subst (λ (r : Resource). 0 < all_told chosen (told (shape_of o) w now) r) (sym f.is)
            (all_told_has chosen (told (shape_of o) w now) kind.Field (val.Word (0 + f.i) ∷ []) (value_under env f.t ∷ []) refl (field_told (0 + f.i) f.t (subst (λ (i : ℕ). slice_get news i ≡ Some f.t) (omega arith) f.there_is))) in omega arith)
      ]
      | inr no_field ↦ elim (leases_in IsLease env leases e once each) [
        | inl (l, count) ↦ (let has = subst (λ (r : Resource). 0 < all_told chosen (told (shape_of o) w now) r) (sym l.is)
            (all_told_has chosen (told (shape_of o) w now) kind.FieldLease (val.Word l.l.place ∷ []) (value_under env l.l.new ∷ []) l.listed (lease_told l.l l.holds.0 l.holds.1)) in omega arith)
        | inr no_lease ↦ omega arith
      ]
    ]
  ]
    where
      itself : (key : List Value) → values_eq key key ≡ true
      itself key = elim (values_tell key key) [ inl (e, t) ↦ t | inr (ne, t) ↦ absurd (ne refl) ]

  pub consistent_now : IsConsistent o w now
  consistent_now = record {
    fresh = λ object l. (let u = c.fresh object l in record { guards = u.guards; sliced = u.sliced; frozen = u.frozen });
    blocks = record { as_many = c.blocks.as_many; sized = c.blocks.sized; same = c.blocks.same; long = c.blocks.long; whole = c.blocks.whole };
    failures = c.failures;
    fields = valued_long env news ∙ as_many ∙ long;
    names = c.names;
    unguarded = c.unguarded;
    walked = walked_after o.atomic g c.walked n operation (valued env args) choices (valued env news) (reply_under env reply) called does;
  }

  pub act_changes : Changed (change.Acts n choices) g now
  act_changes = record {
    history = refl;
    moves = refl;
    walk = λ never. absurd (never n choices refl);
    kept = λ call never. changed_elsewhere g.kept n call (Some (reply_under env reply)) (λ e. never choices (ap (λ (i : ℕ). change.Acts i choices) (sym e)));
    book = λ book place never. refl;
    halves = λ never. refl;
    named = λ never. refl;
    shadow = λ disk address never. refl;
    mode = λ never. refl;
    booted = refl;
    calls = refl;
    since = refl;
    gone = refl;
  }

-- ---- the law

pub map_joined : {A B : Type 0} (f : A → B) (xs ys : List A) → map f (xs ++ ys) ≡ map f xs ++ map f ys
map_joined f [] ys = refl
map_joined f (x ∷ xs) ys = ap (λ zs. f x ∷ zs) (map_joined f xs ys)

pub one_is : (x : Option Value) (v : Value) → one x ≡ Some (v ∷ []) → x ≡ Some v
one_is None v e = absurd cc
one_is (Some u) v e = cc

token_owned : {preds : List Predicate} {env : Env} {call : TermTree} {operation : ℕ} {args : List TermTree} {p : Piece} (n : ℕ) → value_under env call ≡ val.Call n
    → StandsFor preds env (Owns kind.Token (call ∷ []) (number operation ∷ args)) p → 0 < p (Have kind.Token (val.Call n ∷ []) (val.Word operation ∷ valued env args))
token_owned {env = env} {call = call} {operation = operation} {args = args} {p = p} n is (owns has) =
    subst (λ (x : Value). 0 < p (Have kind.Token (x ∷ []) (val.Word operation ∷ valued env args))) is
    (subst (λ (x : Value). 0 < p (Have kind.Token (value_under env call ∷ []) (x ∷ valued env args))) (number_is env operation) has)

module _ (o : Proof) (w : World) (g : Ghost) (env : Env) (olds news : List TermTree) (leases : List Leased) (whole own frame : Piece) (c : IsConsistent o w g)
    (f : Fits whole (told (shape_of o) w g)) (parts : (e : Resource) → own e + frame e ≤ whole e)
    (fields : (i : ℕ) (t : TermTree) → slice_get olds i ≡ Some t → 0 < own (Have kind.Field (val.Word i ∷ []) (value_under env t ∷ [])))
    (each : EachLease (IsGiven env news own) leases) (long : length olds ≡ length o.leased) where
  pub frame_within : (e : Resource) → frame e ≤ whole e
  frame_within e = let l = parts e in omega arith

  pub no_field : (key v : List Value) (found : Option ℕ) → number_of key ≡ found → 0 < frame (Have kind.Field key v) → ⊥
  no_field key v None e has = none_of_fresh {frame = frame} kind.Field key v f frame_within (ap (λ (x : Option ℕ). under x (λ place. one (slice_get g.walk.fields place))) e) has
  no_field key v (Some i) e has = elim (behind_or_within i (length olds)) [
    | inl inside ↦
        (let (t, found) = there_within olds i inside in
        none_of_held own frame kind.Field key (value_under env t ∷ []) v f parts refl
        (subst (λ (x : List Value). 0 < own (Have kind.Field x (value_under env t ∷ []))) (sym (key_of_number key i e)) (fields i t found)) has)
    | inr behind ↦
        none_of_fresh {frame = frame} kind.Field key v f frame_within
        (ap (λ (x : Option ℕ). under x (λ place. one (slice_get g.walk.fields place))) e ∙ ap one (none_behind g.walk.fields i (let a = c.fields in omega arith))) has
  ]

  pub no_lease : (key v : List Value) (found : Option ℕ) → number_of key ≡ found → listed_at leases found ≡ true → 0 < frame (Have kind.FieldLease key v) → ⊥
  no_lease key v None e listed has = absurd cc
  no_lease key v (Some i) e listed has =
      let (l, given, same) = listed_has (IsGiven env news own) leases i each listed in
      let key_is : key ≡ val.Word l.place ∷ [] = key_of_number key i e ∙ ap (λ (m : ℕ). val.Word m ∷ []) (sym same) in
      none_of_held own frame kind.FieldLease key (value_under env l.old ∷ []) v f parts refl
      (subst (λ (x : List Value). 0 < own (Have kind.FieldLease x (value_under env l.old ∷ []))) (sym key_is) given.1) has

module _ (o : Proof) (w : World) (g : Ghost) (env : Env) (n operation : ℕ) (args olds news : List TermTree) (leases : List Leased) (whole own frame : Piece) (c : IsConsistent o w g)
    (f : Fits whole (told (shape_of o) w g)) (parts : (e : Resource) → own e + frame e ≤ whole e) (called : g.walk.table n ≡ Called operation (valued env args))
    (token : 0 < own (Have kind.Token (val.Call n ∷ []) (val.Word operation ∷ valued env args)))
    (fields : (i : ℕ) (t : TermTree) → slice_get olds i ≡ Some t → 0 < own (Have kind.Field (val.Word i ∷ []) (value_under env t ∷ [])))
    (each : EachLease (IsGiven env news own) leases) (long : length olds ≡ length o.leased) where
  pub none_framed : (k : Kind) (key v : List Value) → renews_at n leases k key ≡ true → 0 < frame (Have k key v) → ⊥
  none_framed kind.Token key v chosen has =
      none_of_held own frame kind.Token key (val.Word operation ∷ valued env args) v f parts refl
      (subst (λ (x : List Value). 0 < own (Have kind.Token x (val.Word operation ∷ valued env args))) (sym (same_key key (val.Call n ∷ []) chosen)) token) has
  none_framed kind.Done key v chosen has =
      none_of_fresh {frame = frame} kind.Done key v f (frame_within o w g env olds news leases whole own frame c f parts fields each long)
      (ap (λ (x : List Value). told (shape_of o) w g kind.Done x) (same_key key (val.Call n ∷ []) chosen) ∙ ap (λ (s : Standing Value). acted_with s (g.kept n)) called) has
  none_framed kind.Field key v chosen has = no_field o w g env olds news leases whole own frame c f parts fields each long key v (number_of key) refl has
  none_framed kind.FieldLease key v chosen has = no_lease o w g env olds news leases whole own frame c f parts fields each long key v (number_of key) refl chosen has
  none_framed _ key v chosen has = absurd cc

-- the fields are owned by what has them all
pub owned_fields : (env : Env) (olds news : List TermTree) → length news ≡ length olds → (q part : Piece) → ((e : Resource) → part e ≤ q e) → (preds : List Predicate)
    → StandForAll preds env (olds_of (fields_become 0 olds news)) part → (i : ℕ) (t : TermTree) → slice_get olds i ≡ Some t → 0 < q (Have kind.Field (val.Word i ∷ []) (value_under env t ∷ []))
owned_fields env olds news long q part le preds s i t e =
    let has = fields_have preds env 0 olds news part long s i t e in
    let l = le (Have kind.Field (val.Word (0 + i) ∷ []) (value_under env t ∷ [])) in
    let found : 0 < q (Have kind.Field (val.Word (0 + i) ∷ []) (value_under env t ∷ [])) = omega arith in
    subst (λ (m : ℕ). 0 < q (Have kind.Field (val.Word m ∷ []) (value_under env t ∷ []))) (from_zero i) found
  where
    from_zero : (m : ℕ) → 0 + m ≡ m
    from_zero m = omega arith

-- a lease that is owned is of a leased field
pub leased_each : (o : Proof) (w : World) (g : Ghost) (env : Env) (news : List TermTree) (q : Piece) (leases : List Leased) {whole : Piece} → ((e : Resource) → q e ≤ whole e)
    → Fits whole (told (shape_of o) w g) → EachLease (IsGiven env news q) leases → EachLease (λ l. (slice_get news l.place ≡ Some l.new) × (is_leased (slice_get o.leased l.place) ≡ true)) leases
leased_each o w g env news q [] le f each = tt
leased_each o w g env news q (l ∷ leases) le f each = (
  (
    each.0.0,
    passed_test (is_leased (slice_get o.leased l.place)) (one (slice_get g.walk.fields l.place)) (value_under env l.old ∷ [])
        (f.says kind.FieldLease (val.Word l.place ∷ []) (value_under env l.old ∷ []) (let a = le (Have kind.FieldLease (val.Word l.place ∷ []) (value_under env l.old ∷ [])) in let b = each.0.1 in omega arith)),
  ),
  leased_each o w g env news q leases le f each.1,
)

done_stands : (preds : List Predicate) (env : Env) (call : TermTree) (n : ℕ) (reply : List TermTree) → value_under env call ≡ val.Call n
    → StandsFor preds env (Owns kind.Done (call ∷ []) reply) (single (Have kind.Done (val.Call n ∷ []) (valued env reply)))
done_stands preds env call n reply is =
    let it : Resource = Have kind.Done (val.Call n ∷ []) (valued env reply) in
    owns (subst (λ (x : Value). 0 < single it (Have kind.Done (x ∷ []) (valued env reply))) (sym is) (let s = single_same it in omega arith))

pub acts_law : ActsLaw
acts_law o h call choices k (acts _ operation args _ olds news reply leases became later booted sharing opened call_sort is_reply long as_many once gets does keeps renews permuted) w g start f rest seat =
    let env = seat.env in
    let d = seat.described in
    let c = seat.base.consistent in
    let numbers = map (number_under env) choices in
    let (n, call_is) = call_value (value_under env call) (values_have_sorts env call sort.Call call_sort) in
    let r = renewed renews d.stands in
    let (q, spare, split, wanted, nothing) = all_parted (all_mapped (λ b. b.old) permuted) r.stands in
    let (token_piece, others, token_split, token_stands, others_stand) = parted wanted in
    let fields_then : olds_of (fields_become 0 olds news ++ leases_become leases) ≡ olds_of (fields_become 0 olds news) ++ olds_of (leases_become leases) = map_joined (λ b. b.old) (fields_become 0 olds news) (leases_become leases) in
    let (field_piece, lease_piece, both_split, fields_were, leases_were) =
    cut (olds_of (fields_become 0 olds news)) (subst (λ (xs : List Atom). StandForAll o.preds env xs others) fields_then others_stand) in
    let token : 0 < q (Have kind.Token (val.Call n ∷ []) (val.Word operation ∷ valued env args)) =
    (let has = token_owned n call_is token_stands in let l = token_split (Have kind.Token (val.Call n ∷ []) (val.Word operation ∷ valued env args)) in omega arith) in
    let fields = owned_fields env olds news as_many q field_piece (λ e. let a = token_split e in let b = both_split e in omega arith) o.preds fields_were in
    let each = more_given env news lease_piece q leases (λ e. let a = token_split e in let b = both_split e in omega arith) (leases_have o.preds env news leases lease_piece gets leases_were) in
    let whole : Piece = λ e. seat.piece e + (seat.pool e + (of_locks w seat.locks e + rest e)) in
    let frame : Piece = λ e. r.others e + (seat.pool e + (of_locks w seat.locks e + rest e)) in
    let parts : (e : Resource) → q e + frame e ≤ whole e = (λ e. let a = split e in let b = r.split e in omega arith) in
    let token_says = seat.base.fits.says kind.Token (val.Call n ∷ []) (val.Word operation ∷ valued env args) (let a = parts (Have kind.Token (val.Call n ∷ []) (val.Word operation ∷ valued env args)) in omega arith) in
    let called = (waiting (shape_of o) g n operation (valued env args) token_says).called in
    let fields_are : valued env olds ≡ g.walk.fields =
    same_lists env olds g.walk.fields (c.fields ∙ sym long) (λ i t e. one_is (slice_get g.walk.fields i) (value_under env t)
    (seat.base.fits.says kind.Field (val.Word i ∷ []) (value_under env t ∷ []) (let a = parts (Have kind.Field (val.Word i ∷ []) (value_under env t ∷ [])) in let b = fields i t e in omega arith))) in
    let effect = subst (λ (xs : List Value). o.atomic.applied operation (valued env args) numbers xs ≡ Some (valued env news, reply_under env reply)) fields_are (does env d.valuation d.facts) in
    let kept : (place : ℕ) (t u : TermTree) → slice_get o.leased place ≡ Some true → is_listed leases place ≡ false → slice_get olds place ≡ Some t → slice_get news place ≡ Some u
    → value_under env u ≡ value_under env t = (λ place t u leased free x y. keeps place t u leased free x y env d.valuation d.facts) in
    let leased = leased_each o w g env news q leases (λ e. let a = parts e in omega arith) seat.base.fits each in
    let piece = new_piece o w g h env n operation args olds news numbers reply leases c called fields_are long as_many is_reply effect kept in
    let now_piece : Piece = λ e. piece e + r.others e in
    let ghost = now o w g h env n operation args olds news numbers reply leases c called fields_are long as_many is_reply effect kept in
    let fits : Fits (λ e. now_piece e + (seat.pool e + (of_locks w seat.locks e + rest e))) (told (shape_of o) w ghost) =
    fits_renewed {frame = frame} (renews_at n leases) seat.base.fits (λ e. let a = parts e in omega arith)
    (none_framed o w g env n operation args olds news leases whole q frame c seat.base.fits parts called token fields each long)
    (told_same o w g h env n operation args olds news numbers reply leases c called fields_are long as_many is_reply effect kept)
    (λ e. let a = new_within o w g h env n operation args olds news numbers reply leases c called fields_are long as_many is_reply effect kept once leased e in omega arith) in
    let news_then : news_of (fields_become 0 olds news) ++ news_of (leases_become leases) ≡ news_of (fields_become 0 olds news ++ leases_become leases) = sym (map_joined (λ b. b.new) (fields_become 0 olds news) (leases_become leases)) in
    let rest_stands = joined {q = leases_piece env leases} {r = λ e. fields_piece env 0 news e + leases_piece env leases e} (λ e. omega arith) (fields_stand o.preds env 0 olds news as_many) (leases_stand o.preds env leases) in
    let wanted_now = both (single (Have kind.Done (val.Call n ∷ []) (valued env reply))) (λ e. fields_piece env 0 news e + leases_piece env leases e) (λ e. omega arith) (done_stands o.preds env call n reply call_is)
    (subst (λ (xs : List Atom). StandForAll o.preds env xs (λ e. fields_piece env 0 news e + leases_piece env leases e)) news_then rest_stands) in
    let stands = r.again piece now_piece (λ e. omega arith) (all_back (all_mapped (λ b. b.new) permuted) wanted_now) in
    record {
      after = ghost;
      changed = subst (λ (i : ℕ). Changed (change.Acts i numbers) g ghost) (ap call_number (sym call_is)) (act_changes o w g h env n operation args olds news numbers reply leases c called fields_are long as_many is_reply effect kept);
      path = record h { atoms = later };
      place = 0;
      among = refl;
      procedure = refl;
      seat = record {
        env = env;
        piece = now_piece;
        pool = seat.pool;
        locks = seat.locks;
        described = record { todo = d.todo; as_many = d.as_many; locals = d.locals; valuation = d.valuation; started = d.started; facts = d.facts; stands = stands };
        base = record {
          fits = fits;
          mode = seat.base.mode;
          crash = seat.base.crash;
          free = seat.base.free;
          consistent = consistent_now o w g h env n operation args olds news numbers reply leases c called fields_are long as_many is_reply effect kept;
        };
        still = seat.still;
      };
    }
