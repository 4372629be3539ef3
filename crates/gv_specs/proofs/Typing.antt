-- Parts that a tree without faults spells are typed.
use Rattle.std.proofs.Common.{◌≡◌, ℕ, zero, suc, ◌<◌, Bool, true, false, cond, ◌&&◌, List, [], ◌∷◌, ◌++◌, Option, Some, None, option_map, length, map, take, nat_eq, refl, sym, ap, subst, ◌∙◌, append_assoc, append-nil, add-one, ◌+◌, arith}
use Rattle.std.specs.Prelude.{slice_get, nat_lt}
use Rattle.std.specs.List.{list_all}
use Rattle.std.specs.Str.{bytes_eq}
use Rattle.std.proofs.lemmas.Bool.{lt-ltb}
use Rattle.std.proofs.lemmas.Option.{slice_get-map}
use Rattle.std.proofs.lemmas.Slice.Eq.{bytes_eq-Decides}
use Rattle.gv_base.specs.declared.answers.Code.{Code}
use Rattle.gv_base.specs.declared.answers.Code.TheVariants as code
use Rattle.gv_terms.specs.declared.sort.Sort.{Sort}
use Rattle.gv_terms.specs.declared.sort.Sort.TheVariants as sort
use Rattle.gv_terms.specs.declared.tree.TermTree.{TermTree}
use Rattle.gv_terms.specs.declared.term.Term.{Term}
use Rattle.gv_terms.specs.declared.var.Var.{Var}
use Rattle.gv_terms.specs.Scopes.{is_closed}
use Rattle.gv_terms.specs.Store.{tree_at}
use Rattle.gv_terms.specs.Trees.{sort_of}
use Rattle.gv_terms.specs.Values.{is_sort}
use Rattle.gv_terms.proofs.RawTrees.{resolved_fit}
use Rattle.std.proofs.Common.{eqb-true}
use Rattle.gv_termread.specs.declared.placed.PlacedTerm.{PlacedTerm}
use Rattle.gv_typing.specs.Placing.{HasTermFault, other_sort}
use Rattle.gv_atomic.specs.declared.spec.Field.{Field}
use Rattle.gv_atomic.specs.declared.spec.Pick.{Pick}
use Rattle.gv_atomic.specs.declared.spec.Assign.{Assign}
use Rattle.gv_atomic.specs.declared.spec.Op.{Op}
use Rattle.gv_atomic.specs.Typed as typed
use Rattle.gv_atomic.specs.Typed.{names_of, are_names, is_plain, is_field_sort}
use Rattle.gv_atomic.specs.Marks.{is_new}
use Rattle.gv_specread.specs.declared.tree.Span.{Span}
use Rattle.gv_specread.specs.declared.tree.DisksTree.{DisksTree}
use Rattle.gv_specread.specs.declared.tree.FieldTree.{FieldTree}
use Rattle.gv_specread.specs.declared.tree.ParamTree.{ParamTree}
use Rattle.gv_specread.specs.declared.tree.PickTree.{PickTree}
use Rattle.gv_specread.specs.declared.tree.AssignTree.{AssignTree}
use Rattle.gv_specread.specs.declared.tree.ReplyTree.{ReplyTree}
use Rattle.gv_specread.specs.declared.tree.BodyTree.{BodyTree}
use Rattle.gv_specread.specs.declared.tree.OpTree.{OpTree}
use Rattle.gv_specread.specs.declared.tree.PlacedSort.{PlacedSort}
use Rattle.gv_specread.specs.declared.tree.SpecTree.{SpecTree}
use Rattle.gv_specs.specs.declared.field_table.NumberedSort.{NumberedSort}
use Rattle.gv_specs.specs.declared.reading.Parts.{Parts}
use Rattle.gv_specs.specs.Names.{name_in, field_var, param_var, pick_var, op_var, with_vars, with_fields, with_params, with_picks, with_ops, field_named}
use Rattle.gv_specs.specs.Told.{HasItemFault, AreEach}
use Rattle.gv_specs.specs.Faults as fault
use Rattle.gv_specs.specs.Spelled as spelled
use Rattle.gv_specs.specs.Spelled.{IsTermOf, IsField, IsPick, IsAssign, IsBody, IsReply, IsAllowed, IsOp, AreDisks}
use Rattle.gv_specs.specs.Parts.{IsMade}
use Rattle.gv_specs.proofs.Sorted.{is_of_sort, true_sort, true_closed}
use Rattle.gv_specs.proofs.ByPlace.{not_false, not_true, all_by_place, distinct_by_place, find_first, partner, all_beside, map_beside}
use Rattle.gv_specs.proofs.Scopes.{AreNew, are_new, new_all, new_take, new_names, new_without}

abbrev No : (ℕ → Code → Type 0) → Type 0
No Has = (m : ℕ) (c : Code) → Has m c → ⊥

some_same : {T : Type 0} {x y : T} → Some x ≡ Some y → x ≡ y
some_same e = cc

both : (a b : Bool) → a ≡ true → b ≡ true → (a && b) ≡ true
both a b p q = rw (p, q) refl

-- ---- terms

term_sorted : (ts : List TermTree) (vars : List Var) (passes : Option Sort → Bool) (t : PlacedTerm) (term : Term) → IsTermOf ts vars t term → No (HasTermFault vars passes t) → passes (sort_of (tree_at ts term.id)) ≡ true
term_sorted ts vars passes t term h never = not_false (passes (sort_of (tree_at ts term.id))) (λ e. never t.start code.WrongType (other_sort (tree_at ts term.id) h.same e))

pub term_typed : (ts : List TermTree) (vars : List Var) (s : Sort) (t : PlacedTerm) (term : Term) → IsTermOf ts vars t term → No (HasTermFault vars (is_sort s) t) → typed.is_term ts vars s term ≡ true
term_typed ts vars s t term h never =
    both (nat_lt term.id (length ts)) (is_sort s (sort_of (tree_at ts term.id)) && is_closed vars (tree_at ts term.id)) (lt-ltb term.id (length ts) h.within)
    (both (is_sort s (sort_of (tree_at ts term.id))) (is_closed vars (tree_at ts term.id)) (term_sorted ts vars (is_sort s) t term h never) (resolved_fit vars t.term (tree_at ts term.id) h.same).1)

allowed_right : {ts : List TermTree} (vars : List Var) (t : Option PlacedTerm) (term : Term) → IsAllowed ts vars t term → No (fault.HasAllowedFault vars t) → typed.is_term ts vars sort.Bool term ≡ true
allowed_right {ts} vars t term (spelled.written p u h) never = term_typed ts vars sort.Bool p u h (λ m c w. never m c (fault.allowed p w))
allowed_right {ts} vars t term (spelled.always u within same) never =
    both (nat_lt u.id (length ts)) (is_sort sort.Bool (sort_of (tree_at ts u.id)) && is_closed vars (tree_at ts u.id)) (lt-ltb u.id (length ts) within)
    (both (is_sort sort.Bool (sort_of (tree_at ts u.id))) (is_closed vars (tree_at ts u.id)) (ap (λ (x : TermTree). is_sort sort.Bool (sort_of x)) same ∙ true_sort) (ap (is_closed vars) same ∙ true_closed vars))

plain_returns : (returns : Option PlacedSort) → No (fault.HasReturnsFault returns) → (s : Sort) → option_map (λ p. p.sort) returns ≡ Some s → is_plain s ≡ true
plain_returns None never s e = absurd cc
plain_returns (Some p) never s e =
    let same : p.sort ≡ s = cc in
    ap is_plain (sym same) ∙ not_false (is_plain p.sort) (λ z. never p.start code.WrongType (fault.returns p (fault.wrong_sort z)))

-- ---- names

mapped : {T : Type 0} (var : T → Var) (items : List T) (i : ℕ) (v : Var) → slice_get (map var items) i ≡ Some v → (x : T) × (slice_get items i ≡ Some x) × (var x ≡ v)
mapped {T} var items i v e = pick (slice_get items i) refl (sym (slice_get-map var items i) ∙ e)
  where
    pick : (o : Option T) → slice_get items i ≡ o → option_map var o ≡ Some v → (x : T) × (slice_get items i ≡ Some x) × (var x ≡ v)
    pick None p q = absurd cc
    pick (Some x) p q = (x, p, some_same q)

-- declared items have new names, where no name has a fault
new_items : {T : Type 0} (text : List ℕ) (var : T → Var) (span : T → Span) (Has : ℕ → T → ℕ → Code → Type 0) (vars : List Var) (items : List T)
    → ((x : T) → (var x).name ≡ name_in text (span x))
    → ((i : ℕ) (x : T) (m : ℕ) (c : Code) → fault.HasNameFault text (with_vars vars (map var (take i items))) (span x) m c → Has i x m c)
    → No (HasItemFault Has items) → AreNew vars (map var items)
new_items {T} text var span Has vars items named has never = are_new vars (map var items) (λ i v e. one i v (mapped var items i v e))
  where
    firsts : (i : ℕ) → take i (map var items) ≡ map var (take i items)
    firsts i = go i items
      where
        go : (k : ℕ) (xs : List T) → take k (map var xs) ≡ map var (take k xs)
        go zero xs = refl
        go (suc k) [] = refl
        go (suc k) (x ∷ xs) = ap (λ (vs : List Var). var x ∷ vs) (go k xs)

    one : (i : ℕ) (v : Var) → ((x : T) × (slice_get items i ≡ Some x) × (var x ≡ v)) → is_new (names_of (with_vars vars (take i (map var items)))) v.name ≡ true
    one i v (x, got, same) =
        ap (λ (vs : List Var). is_new (names_of (with_vars vars vs)) v.name) (firsts i)
        ∙ ap (λ (w : Var). is_new (names_of (with_vars vars (map var (take i items)))) w.name) (sym same)
        ∙ ap (is_new (names_of (with_vars vars (map var (take i items))))) (named x)
        ∙ not_false (is_new (names_of (with_vars vars (map var (take i items)))) (name_in text (span x)))
        (λ e. never (span x).start code.Twice (record { number = i; item = x; there = got; fault = has i x (span x).start code.Twice (fault.twice e) }))

-- ---- disks

pub disks_typed : (t : DisksTree) (count blocks : ℕ) → AreDisks t count blocks → No (fault.HasDisksFault t) → typed.are_disks count blocks ≡ true
disks_typed t count blocks spelled.no_disk never = refl
disks_typed t count blocks (spelled.one_disk n) never = not_false (fault.is_block_count n.value) (λ e. never n.start code.TooMany (fault.one_disk n e))
disks_typed t count blocks (spelled.two_disks n) never = not_false (fault.is_block_count n.value) (λ e. never n.start code.TooMany (fault.two_disks n e))

-- ---- fields

module _ (text : List ℕ) (trees : List FieldTree) (ts : List TermTree) (fields : List Field)
    (never : No (HasItemFault (λ i f. fault.HasFieldFault text (with_fields text [] (take i trees)) f) trees))
    (made : AreEach (λ i f g. IsField text ts f g) trees fields) where
  field_no : (i : ℕ) (f : FieldTree) → slice_get trees i ≡ Some f → No (fault.HasFieldFault text (with_fields text [] (take i trees)) f)
  field_no i f e m c h = never m c (record { number = i; item = f; there = e; fault = h })

  field_one : (i : ℕ) (f : FieldTree) (g : Field) → slice_get trees i ≡ Some f → IsField text ts f g → typed.is_field ts g ≡ true
  field_one i f g e h =
      both (is_field_sort g.sort) (typed.is_term ts [] g.sort g.first)
      (ap is_field_sort h.its_sort ∙ not_false (is_field_sort f.sort.sort) (λ q. field_no i f e f.sort.start code.WrongType (fault.field_sort (fault.wrong_sort q))))
      (ap (λ s. typed.is_term ts [] s g.first) h.its_sort ∙ term_typed ts [] f.sort.sort f.first g.first h.first (λ m c w. field_no i f e m c (fault.initial w)))

  pub fields_typed : list_all (typed.is_field ts) fields ≡ true
  fields_typed = all_beside (λ i f g. IsField text ts f g) (typed.is_field ts) trees fields made (λ i f g e h. field_one i f g e h)

  pub fields_new : AreNew [] (map (field_var text) trees)
  fields_new = new_items text (field_var text) (λ f. f.name) (λ i f. fault.HasFieldFault text (with_fields text [] (take i trees)) f) [] trees (λ f. refl) (λ i f m c h. fault.field_name h) never

  pub fields_vars : map typed.var_of fields ≡ map (field_var text) trees
  fields_vars = map_beside (λ i f g. IsField text ts f g) (field_var text) typed.var_of trees fields made
      (λ i f g h. ap (λ (n : List ℕ). let v : Var = record { name = n; sort = g.sort } in v) h.name ∙ ap (λ s. let v : Var = record { name = name_in text f.name; sort = s } in v) h.its_sort)

  pub fields_all : with_fields text [] trees ≡ map (field_var text) trees
  fields_all = new_all [] (map (field_var text) trees) fields_new

  pub fields_named : are_names (names_of (map (field_var text) trees)) ≡ true
  fields_named = new_names [] (map (field_var text) trees) refl fields_new

abbrev first_or : Bool → FieldTree → Option NumberedSort → Option NumberedSort
first_or b f o = cond b (Some (record { number = 0; sort = f.sort.sort })) (option_map (λ e. record { number = e.number + 1; sort = e.sort }) o)

abbrev number_or : ℕ → Option NumberedSort → ℕ
number_or n None = n
number_or n (Some e) = e.number

abbrev sort_or : Option NumberedSort → Sort
sort_or None = sort.Word
sort_or (Some e) = e.sort

-- the field that bears a name
pub record IsFieldAt (text : List ℕ) (trees : List FieldTree) (n : List ℕ) (e : NumberedSort) : Type 0 where
  pub field : FieldTree
  pub there : slice_get trees e.number ≡ Some field
  pub name : name_in text field.name ≡ n
  pub its_sort : field.sort.sort ≡ e.sort

pub field_at : (text : List ℕ) (trees : List FieldTree) (n : List ℕ) (e : NumberedSort) → field_named text trees n ≡ Some e → IsFieldAt text trees n e
field_at text [] n e h = absurd cc
field_at text (f ∷ trees) n e h = step (bytes_eq (name_in text f.name) n) refl (field_named text trees n) (λ d p. field_at text trees n d p) h
  where
    step : (b : Bool) → bytes_eq (name_in text f.name) n ≡ b → (o : Option NumberedSort) → ((d : NumberedSort) → o ≡ Some d → IsFieldAt text trees n d) → first_or b f o ≡ Some e → IsFieldAt text (f ∷ trees) n e
    step true b o ih q =
        let number : 0 ≡ e.number = ap (number_or 0) q in
        record { field = f; there = subst (λ (k : ℕ). slice_get (f ∷ trees) k ≡ Some f) number refl; name = (bytes_eq-Decides (name_in text f.name) n).0 b; its_sort = ap sort_or q }
    step false b None ih q = absurd cc
    step false b (Some d) ih q =
        let number : d.number + 1 ≡ e.number = ap (number_or 0) q in
        let g = ih d refl in
        record {
          field = g.field;
          there = subst (λ (k : ℕ). slice_get (f ∷ trees) k ≡ Some g.field) (sym (add-one d.number) ∙ number) g.there;
          name = g.name;
          its_sort = g.its_sort ∙ ap sort_or q;
        }

-- ---- bodies

module _ (text : List ℕ) (trees : List FieldTree) (ts : List TermTree) where
  abbrev fields : List Var
  fields = map (field_var text) trees

  assign_one : (vars : List Var) (before : List AssignTree) (t : AssignTree) (a : Assign) → IsAssign text ts (field_named text trees) vars t a → No (fault.HasAssignFault text (field_named text trees) vars before t)
      → typed.is_assign ts fields vars a ≡ true
  assign_one vars before t a h never = pick (field_named text trees (name_in text t.name)) refl h.name
    where
      pick : (o : Option NumberedSort) → field_named text trees (name_in text t.name) ≡ o → option_map (λ e. e.number) o ≡ Some a.field → typed.is_assign ts fields vars a ≡ true
      pick None p q = absurd cc
      pick (Some e) p q =
          let number : e.number ≡ a.field = cc in
          let f = field_at text trees (name_in text t.name) e p in
          let there : slice_get fields a.field ≡ Some (field_var text f.field) = slice_get-map (field_var text) trees a.field ∙ ap (option_map (field_var text)) (ap (slice_get trees) (sym number) ∙ f.there) in
          ap (λ (o : Option Var). typed.is_assigned ts vars o a.term) there
          ∙ ap (λ s. typed.is_term ts vars s a.term) f.its_sort
          ∙ term_typed ts vars e.sort t.term a.term h.term (λ m c w. never m c (fault.assigned_term e p w))

  same_names : (t u : AssignTree) (a b : Assign) (vars : List Var) → IsAssign text ts (field_named text trees) vars t a → IsAssign text ts (field_named text trees) vars u b → a.field ≡ b.field
      → name_in text t.name ≡ name_in text u.name
  same_names t u a b vars h k e = pick (field_named text trees (name_in text t.name)) (field_named text trees (name_in text u.name)) refl refl h.name k.name
    where
      pick : (o r : Option NumberedSort) → field_named text trees (name_in text t.name) ≡ o → field_named text trees (name_in text u.name) ≡ r
          → option_map (λ d. d.number) o ≡ Some a.field → option_map (λ d. d.number) r ≡ Some b.field → name_in text t.name ≡ name_in text u.name
      pick None r p q x y = absurd cc
      pick (Some d) None p q x y = absurd cc
      pick (Some d) (Some g) p q x y =
          let one = field_at text trees (name_in text t.name) d p in
          let two = field_at text trees (name_in text u.name) g q in
          let numbers : d.number ≡ g.number = cc in
          let same : one.field ≡ two.field = some_same (sym one.there ∙ ap (slice_get trees) numbers ∙ two.there) in
          sym one.name ∙ ap (λ (z : FieldTree). name_in text z.name) same ∙ two.name

  body_typed : (vars : List Var) (assigns : List AssignTree) (body : List Assign) → AreEach (λ i t a. IsAssign text ts (field_named text trees) vars t a) assigns body
      → No (HasItemFault (λ i a. fault.HasAssignFault text (field_named text trees) vars (take i assigns) a) assigns) → typed.is_body ts fields vars body ≡ true
  body_typed vars assigns body h never =
      both (list_all (typed.is_assign ts fields vars) body) (typed.are_distinct (λ a b. nat_eq a.field b.field) body)
      (all_beside (λ i t a. IsAssign text ts (field_named text trees) vars t a) (typed.is_assign ts fields vars) assigns body h
      (λ i t a e k. assign_one vars (take i assigns) t a k (λ m c w. never m c (record { number = i; item = t; there = e; fault = w }))))
      (distinct_by_place (λ a b. nat_eq a.field b.field) body (λ i j a b l e f. apart i j a b l e f))
    where
      apart : (i j : ℕ) (a b : Assign) → i < j → slice_get body i ≡ Some a → slice_get body j ≡ Some b → nat_eq a.field b.field ≡ false
      apart i j a b l e f = not_true (nat_eq a.field b.field) (λ q.
          let (t, p) = partner (λ i t a. IsAssign text ts (field_named text trees) vars t a) assigns body i a h e in
          let (u, r) = partner (λ i t a. IsAssign text ts (field_named text trees) vars t a) assigns body j b h f in
          let names : name_in text t.name ≡ name_in text u.name = same_names t u a b vars (h.each i t a p e) (h.each j u b r f) (eqb-true a.field b.field q) in
          never u.name.start code.Twice (record {
            number = j;
            item = u;
            there = r;
            fault = fault.assigned_again (find_first (λ x. name_in text x.name) (bytes_eq (name_in text u.name)) assigns i j t l p ((bytes_eq-Decides (name_in text u.name) (name_in text t.name)).1 (sym names)));
          }))

  picks_typed : (vars : List Var) (trees2 : List PickTree) (picks : List Pick) → AreEach (λ i t p. (p.name ≡ name_in text t.name) × (typed.is_term ts (vars ++ map (pick_var text) (take i trees2)) sort.Word p.bound ≡ true)) trees2 picks
      → typed.are_picks ts vars picks ≡ true
  picks_typed vars [] [] h = refl
  picks_typed vars [] (p ∷ picks) h = let c = h.count in absurd (omega (arith, c))
  picks_typed vars (t ∷ more) [] h = refl
  picks_typed vars (t ∷ more) (p ∷ picks) h =
      let one = h.each 0 t p refl refl in
      let same : typed.pick_var p ≡ pick_var text t = ap (λ (n : List ℕ). let v : Var = record { name = n; sort = sort.Word } in v) one.0 in
      both (typed.is_term ts vars sort.Word p.bound) (typed.are_picks ts (vars ++ typed.pick_var p ∷ []) picks)
      (ap (λ (vs : List Var). typed.is_term ts vs sort.Word p.bound) (sym (append-nil vars)) ∙ one.1)
      (picks_typed (vars ++ typed.pick_var p ∷ []) more picks (record {
        count = let c = h.count in omega (arith, c);
        each = λ i x y e f. let both_ = h.each (suc i) x y e f in
            (both_.0, ap (λ (vs : List Var). typed.is_term ts vs sort.Word y.bound) (append_assoc vars (typed.pick_var p ∷ []) (map (pick_var text) (take i more)) ∙ ap (λ (v : Var). vars ++ v ∷ map (pick_var text) (take i more)) same) ∙ both_.1);
      }))

  -- the picks of a body without faults
  module _ (vars : List Var) (wanted : Option Sort) (b : BodyTree) (never : No (fault.HasBodyFault text (field_named text trees) vars wanted b)) where
    picks_new : AreNew vars (map (pick_var text) b.picks)
    picks_new = new_items text (pick_var text) (λ p. p.name) (λ i p. fault.HasPickFault text (with_picks text vars (take i b.picks)) p) vars b.picks (λ p. refl) (λ i p m c w. fault.pick_name w) (λ m c w. never m c (fault.body_pick w))

    pub picks_all : with_picks text vars b.picks ≡ vars ++ map (pick_var text) b.picks
    picks_all = new_all vars (map (pick_var text) b.picks) picks_new

    picks_first : (i : ℕ) → with_picks text vars (take i b.picks) ≡ vars ++ map (pick_var text) (take i b.picks)
    picks_first i = new_all vars (map (pick_var text) (take i b.picks)) (subst (λ (vs : List Var). AreNew vars vs) (sym (take_map i b.picks)) (new_take vars (map (pick_var text) b.picks) i picks_new))
      where
        take_map : (k : ℕ) (ps : List PickTree) → map (pick_var text) (take k ps) ≡ take k (map (pick_var text) ps)
        take_map zero ps = refl
        take_map (suc k) [] = refl
        take_map (suc k) (p ∷ ps) = ap (λ (vs : List Var). pick_var text p ∷ vs) (take_map k ps)

  pub picks_vars : (vars : List Var) (b : BodyTree) (picks : List Pick) (body : List Assign) → IsBody text ts (field_named text trees) vars b.picks b.assigns picks body → map typed.pick_var picks ≡ map (pick_var text) b.picks
  picks_vars vars b picks body h = map_beside (λ i t p. IsPick text ts (with_picks text vars (take i b.picks)) t p) (pick_var text) typed.pick_var b.picks picks h.chosen (λ i t p k. ap (λ (n : List ℕ). let v : Var = record { name = n; sort = sort.Word } in v) k.name)

  pub chosen_typed : (vars : List Var) (wanted : Option Sort) (b : BodyTree) (picks : List Pick) (body : List Assign) → are_names (names_of vars) ≡ true → IsBody text ts (field_named text trees) vars b.picks b.assigns picks body
      → No (fault.HasBodyFault text (field_named text trees) vars wanted b) → typed.is_chosen_body ts fields vars picks body ≡ true
  chosen_typed vars wanted b picks body named h never =
      both (are_names (names_of (typed.with_picks vars picks))) (typed.are_picks ts vars picks && typed.is_body ts fields (typed.with_picks vars picks) body)
      (ap (λ (vs : List Var). are_names (names_of (vars ++ vs))) (picks_vars vars b picks body h) ∙ new_names vars (map (pick_var text) b.picks) named (picks_new vars wanted b never))
      (both (typed.are_picks ts vars picks) (typed.is_body ts fields (typed.with_picks vars picks) body)
      (picks_typed vars b.picks picks (record {
        count = h.chosen.count;
        each = λ i t p e f.
            let one = h.chosen.each i t p e f in (
              one.name,
              ap (λ (vs : List Var). typed.is_term ts vs sort.Word p.bound) (sym (picks_first vars wanted b never i)) ∙ term_typed ts (with_picks text vars (take i b.picks)) sort.Word t.bound p.bound one.bound
                  (λ m c w. never m c (fault.body_pick (record { number = i; item = t; there = e; fault = fault.pick_bound w }))),
            );
      }))
      (ap (λ (vs : List Var). typed.is_body ts fields vs body) (ap (λ (vs : List Var). vars ++ vs) (picks_vars vars b picks body h) ∙ sym (picks_all vars wanted b never))
      ∙ body_typed (with_picks text vars b.picks) b.assigns body h.assigned (λ m c w. never m c (fault.body_assign w))))

  -- ---- replies

  plain_sort : (s : Sort) (o : Option Sort) → is_plain s ≡ true → o ≡ Some s → typed.is_some_plain o ≡ true
  plain_sort s o p e = ap typed.is_some_plain e ∙ p

  pub reply_typed : (vars : List Var) (wanted : Option Sort) (start : ℕ) (tree : Option ReplyTree) (reply : Option Term) → ((s : Sort) → wanted ≡ Some s → is_plain s ≡ true) → IsReply ts vars tree reply
      → No (fault.HasReplyFault vars wanted start tree) → typed.is_reply ts vars reply ≡ true
  reply_typed vars wanted start tree reply plain spelled.no_reply never = refl
  reply_typed vars None start tree reply plain (spelled.written_reply r term h) never = absurd (never start code.WrongCount (fault.unwanted_reply r start))
  reply_typed vars (Some s) start tree reply plain (spelled.written_reply r term h) never =
      let none : No (HasTermFault vars (is_sort s) r.term) = λ m c w. never m c (fault.reply_term s start r w) in
      let its : sort_of (tree_at ts term.id) ≡ Some s = is_of_sort s (sort_of (tree_at ts term.id)) (term_sorted ts vars (is_sort s) r.term term h none) in
      both (nat_lt term.id (length ts)) (typed.is_some_plain (sort_of (tree_at ts term.id)) && is_closed vars (tree_at ts term.id)) (lt-ltb term.id (length ts) h.within)
      (both (typed.is_some_plain (sort_of (tree_at ts term.id))) (is_closed vars (tree_at ts term.id)) (plain_sort s (sort_of (tree_at ts term.id)) (plain s refl) its)
      (resolved_fit vars r.term.term (tree_at ts term.id) h.same).1)

-- ---- operations

module _ (text : List ℕ) (trees : List FieldTree) (ts : List TermTree) (fields_are : with_fields text [] trees ≡ map (field_var text) trees) (fields_named : are_names (names_of (map (field_var text) trees)) ≡ true) where
  abbrev own_fields : List Var
  own_fields = map (field_var text) trees

  op_typed : (names : List Var) (t : OpTree) (o : Op) → IsOp text ts (field_named text trees) own_fields t o → No (fault.HasOpFault text (field_named text trees) own_fields names t) → typed.is_op ts own_fields o ≡ true
  op_typed names t o h never =
      both (typed.is_head ts own_fields o) (typed.is_chosen_body ts own_fields (own_fields ++ o.params) o.picks o.body && typed.is_reply ts (typed.with_picks (own_fields ++ o.params) o.picks) o.reply)
      (both (list_all (λ v. is_plain v.sort) o.params) (are_names (names_of (own_fields ++ o.params)) && typed.is_term ts o.params sort.Bool o.allowed) plain_params
      (both (are_names (names_of (own_fields ++ o.params))) (typed.is_term ts o.params sort.Bool o.allowed)
      (ap (λ (vs : List Var). are_names (names_of (own_fields ++ vs))) h.params ∙ all_named) allowed_typed))
      (both (typed.is_chosen_body ts own_fields (own_fields ++ o.params) o.picks o.body) (typed.is_reply ts (typed.with_picks (own_fields ++ o.params) o.picks) o.reply)
      (ap (λ (vs : List Var). typed.is_chosen_body ts own_fields vs o.picks o.body) (ap (λ (vs : List Var). own_fields ++ vs) h.params ∙ sym behind) ∙ body_right)
      (ap (λ (vs : List Var). typed.is_reply ts vs o.reply) (reply_vars) ∙ reply_right))
    where
      params : List Var
      params = map (param_var text) t.params

      new : AreNew own_fields params
      new = new_items text (param_var text) (λ p. p.name) (λ i p. fault.HasParamFault text (with_params text own_fields (take i t.params)) p) own_fields t.params (λ p. refl) (λ i p m c w. fault.param_name w) (λ m c w. never m c (fault.op_param w))

      behind : with_params text own_fields t.params ≡ own_fields ++ params
      behind = new_all own_fields params new

      all_named : are_names (names_of (own_fields ++ params)) ≡ true
      all_named = new_names own_fields params fields_named new

      scope_named : are_names (names_of (with_params text own_fields t.params)) ≡ true
      scope_named = ap (λ (vs : List Var). are_names (names_of vs)) behind ∙ all_named

      alone : with_params text [] t.params ≡ params
      alone = new_all [] params (new_without own_fields params new)

      plain_params : list_all (λ v. is_plain v.sort) o.params ≡ true
      plain_params = ap (list_all (λ v. is_plain v.sort)) h.params ∙ all_by_place (λ v. is_plain v.sort) params (λ i v e. one i v (mapped (param_var text) t.params i v e))
        where
          one : (i : ℕ) (v : Var) → ((x : ParamTree) × (slice_get t.params i ≡ Some x) × (param_var text x ≡ v)) → is_plain v.sort ≡ true
          one i v (p, there, same) =
              ap (λ (w : Var). is_plain w.sort) (sym same)
              ∙ not_false (is_plain p.sort.sort) (λ z. never p.sort.start code.WrongType (fault.op_param (record { number = i; item = p; there = there; fault = fault.param_sort (fault.wrong_sort z) })))

      allowed_typed : typed.is_term ts o.params sort.Bool o.allowed ≡ true
      allowed_typed = ap (λ (vs : List Var). typed.is_term ts vs sort.Bool o.allowed) (h.params ∙ sym alone) ∙ allowed_right (with_params text [] t.params) t.allowed o.allowed h.allowed (λ m c w. never m c (fault.op_allowed w))

      body_right : typed.is_chosen_body ts own_fields (with_params text own_fields t.params) o.picks o.body ≡ true
      body_right = chosen_typed text trees ts (with_params text own_fields t.params) (option_map (λ s. s.sort) t.returns) t.body o.picks o.body scope_named h.body (λ m c w. never m c (fault.op_body w))

      picks_new : with_picks text (with_params text own_fields t.params) t.body.picks ≡ with_params text own_fields t.params ++ map (pick_var text) t.body.picks
      picks_new = picks_all text trees ts (with_params text own_fields t.params) (option_map (λ s. s.sort) t.returns) t.body (λ m c w. never m c (fault.op_body w))

      reply_vars : typed.with_picks (own_fields ++ o.params) o.picks ≡ with_picks text (with_params text own_fields t.params) t.body.picks
      reply_vars = ap (λ (vs : List Var). (own_fields ++ vs) ++ map typed.pick_var o.picks) h.params
          ∙ ap (λ (vs : List Var). vs ++ map typed.pick_var o.picks) (sym behind)
          ∙ ap (λ (vs : List Var). with_params text own_fields t.params ++ vs) (picks_vars text trees ts (with_params text own_fields t.params) t.body o.picks o.body h.body)
          ∙ sym picks_new

      reply_right : typed.is_reply ts (with_picks text (with_params text own_fields t.params) t.body.picks) o.reply ≡ true
      reply_right = reply_typed text trees ts (with_picks text (with_params text own_fields t.params) t.body.picks) (option_map (λ s. s.sort) t.returns) t.body.start t.body.reply o.reply (plain_returns t.returns (λ m c w. never m c (fault.op_returns w))) h.reply
          (λ m c w. never m c (fault.op_body (fault.body_reply w)))

  pub ops_typed : (trees2 : List OpTree) (ops : List Op) → AreEach (λ i t o. IsOp text ts (field_named text trees) (with_fields text [] trees) t o) trees2 ops
      → No (HasItemFault (λ i o. fault.HasOpFault text (field_named text trees) (with_fields text [] trees) (with_ops text [] (take i trees2)) o) trees2) → list_all (typed.is_op ts own_fields) ops ≡ true
  ops_typed trees2 ops h never = all_beside (λ i t o. IsOp text ts (field_named text trees) (with_fields text [] trees) t o) (typed.is_op ts own_fields) trees2 ops h
      (λ i t o e k. op_typed (with_ops text [] (take i trees2)) t o (subst (λ (vs : List Var). IsOp text ts (field_named text trees) vs t o) fields_are k)
      (λ m c w. never m c (record { number = i; item = t; there = e; fault = subst (λ (vs : List Var). fault.HasOpFault text (field_named text trees) vs (with_ops text [] (take i trees2)) t m c) (sym fields_are) w })))

  pub ops_named : (trees2 : List OpTree) (ops : List Op) → AreEach (λ i t o. IsOp text ts (field_named text trees) (with_fields text [] trees) t o) trees2 ops
      → No (HasItemFault (λ i o. fault.HasOpFault text (field_named text trees) (with_fields text [] trees) (with_ops text [] (take i trees2)) o) trees2) → are_names (map (λ o. o.name) ops) ≡ true
  ops_named trees2 ops h never =
      ap are_names (map_beside (λ i t o. IsOp text ts (field_named text trees) (with_fields text [] trees) t o) (λ t. name_in text t.name) (λ o. o.name) trees2 ops h (λ i t o k. k.name) ∙ names_are trees2)
      ∙ new_names [] (map (op_var text) trees2) refl
      (new_items text (op_var text) (λ o. o.name) (λ i o. fault.HasOpFault text (field_named text trees) (with_fields text [] trees) (with_ops text [] (take i trees2)) o) [] trees2 (λ o. refl) (λ i o m c w. fault.op_name w) never)
    where
      names_are : (os : List OpTree) → map (λ t. name_in text t.name) os ≡ names_of (map (op_var text) os)
      names_are [] = refl
      names_are (o ∷ os) = ap (λ (ns : List (List ℕ)). name_in text o.name ∷ ns) (names_are os)

-- ---- the whole

pub parts_typed : (text : List ℕ) (t : SpecTree) (p : Parts) → IsMade text t p → No (fault.HasFault text t) → typed.is_typed p.disks.count p.disks.blocks p.fields p.ops p.crash.picks p.crash.assigns p.store ≡ true
parts_typed text t p h never =
    both (typed.are_disks p.disks.count p.disks.blocks) _ (disks_typed t.disks p.disks.count p.disks.blocks h.its_disks (λ m c w. never m c (fault.its_disks w)))
    (both (list_all (typed.is_field p.store) p.fields) _ (fields_typed text t.fields p.store p.fields no_field h.fields)
    (both (are_names (names_of (map typed.var_of p.fields))) _ (ap (λ (vs : List Var). are_names (names_of vs)) vars ∙ named)
    (both (are_names (map (λ o. o.name) p.ops)) _ (ops_named text t.fields p.store all named t.ops p.ops h.ops no_op)
    (both (list_all (typed.is_op p.store (map typed.var_of p.fields)) p.ops) (typed.is_chosen_body p.store (map typed.var_of p.fields) (map typed.var_of p.fields) p.crash.picks p.crash.assigns)
    (ap (λ (vs : List Var). list_all (typed.is_op p.store vs) p.ops) vars ∙ ops_typed text t.fields p.store all named t.ops p.ops h.ops no_op)
    (ap (λ (vs : List Var). typed.is_chosen_body p.store vs vs p.crash.picks p.crash.assigns) vars ∙ crash)))))
  where
    no_field : No (HasItemFault (λ i f. fault.HasFieldFault text (with_fields text [] (take i t.fields)) f) t.fields)
    no_field m c w = never m c (fault.its_field w)

    no_op : No (HasItemFault (λ i o. fault.HasOpFault text (field_named text t.fields) (with_fields text [] t.fields) (with_ops text [] (take i t.ops)) o) t.ops)
    no_op m c w = never m c (fault.its_op w)

    vars : map typed.var_of p.fields ≡ map (field_var text) t.fields
    vars = fields_vars text t.fields p.store p.fields no_field h.fields

    all : with_fields text [] t.fields ≡ map (field_var text) t.fields
    all = fields_all text t.fields p.store p.fields no_field h.fields

    named : are_names (names_of (map (field_var text) t.fields)) ≡ true
    named = fields_named text t.fields p.store p.fields no_field h.fields

    crash : typed.is_chosen_body p.store (map (field_var text) t.fields) (map (field_var text) t.fields) p.crash.picks p.crash.assigns ≡ true
    crash = chosen_typed text t.fields p.store (map (field_var text) t.fields) None t.crash p.crash.picks p.crash.assigns named
        (subst (λ (vs : List Var). IsBody text p.store (field_named text t.fields) vs t.crash.picks t.crash.assigns p.crash.picks p.crash.assigns) all h.crash.body)
        (λ m c w. never m c (fault.its_crash (subst (λ (vs : List Var). fault.HasBodyFault text (field_named text t.fields) vs None t.crash m c) (sym all) w)))
