-- What is made of a tree, from its root and its branches.
use Rattle.std.proofs.Common.{◌≡◌, ℕ, ◌+◌, ◌<◌, ◌≤◌, List, [], ◌∷◌, ◌++◌, map, length, take, drop, get_or, Bool, true, false, ◌&&◌, cond, Some, None, refl, sym, ap, ◌∙◌}
use Rattle.std.proofs.lemmas.List.{drop_more, drop_all, take_more, take_all, map-append}
use Rattle.std.proofs.lemmas.List.Elements.{All-cons, All-nil}
use Rattle.std.specs.List.{list_all}
use Rattle.gv_terms.specs.declared.sort.Sort.{Sort}
use Rattle.gv_terms.specs.declared.operator.Operator.{Operator}
use Rattle.gv_terms.specs.declared.tree.Head.{Head}
use Rattle.gv_terms.specs.declared.tree.Head.TheVariants as head
use Rattle.gv_terms.specs.declared.tree.TermTree.{TermTree}
use Rattle.gv_terms.specs.declared.tree.TermTree.TheVariants as tree
use Rattle.gv_terms.specs.declared.term.Term.{Term}
use Rattle.gv_terms.specs.Store.{tree_at, trees_at, AreIn, Grows}
use Rattle.gv_terms.proofs.Grown.{trees_kept}
use Rattle.gv_terms.specs.Sorts.{sort_given}
use Rattle.gv_terms.specs.Trees.{rooted, root_of, branches_of, sort_of, sort_of_node, all_sorts, with_sorts}
use Rattle.gv_terms.proofs.NodeSorts.{sort_variable, sort_apply}
use Rattle.gv_certs.specs.Trees.{folded, tree_eq, replaced}
use Rattle.gv_certs.specs.Known.{is_plain_head, is_plain}
use Rattle.gv_certs.proofs.Folding.{Each, trees, by_induction, root_variable, root_apply, branches_variable, branches_apply, folded_variable, folded_apply}
use Rattle.gv_certs.proofs.Equality.{same_tree}

-- what is made of a node
pub of_node : {R : Type 0} (f : TermTree → List R → R) (t : TermTree) → folded f t ≡ f t (map (folded f) (branches_of t))
of_node f =
    by_induction (λ t. folded f t ≡ f t (map (folded f) (branches_of t)))
    (λ n s. folded_variable f n s ∙ ap (λ bs. f (tree.Variable n s) (map (folded f) bs)) (sym (branches_variable n s)))
    (λ o es. folded_apply f o (trees es) ∙ ap (λ bs. f (tree.Apply o (trees es)) (map (folded f) bs)) (sym (branches_apply o (trees es))))

pub plain_node : (t : TermTree) → is_plain t ≡ (is_plain_head (root_of t) && list_all (λ b. b) (map is_plain (branches_of t)))
unfolding is_plain
plain_node t = of_node (λ u parts. is_plain_head (root_of u) && list_all (λ b. b) parts) t

-- ---- parts of a term, one after another

abbrev pub none : Term
none = record { id = 0 }

abbrev pub all_plain : List TermTree → List Term → Bool
all_plain st ps = list_all (λ b. b) (map is_plain (trees_at st ps))

pub root_unfit : (t : TermTree) (r : Bool) (h : Head) → r ≡ is_plain_head h → h ≡ root_of t → r ≡ false → false ≡ is_plain t
root_unfit t r h is e low =
    ap (λ c. c && list_all (λ b. b) (map is_plain (branches_of t))) (sym low ∙ is ∙ ap is_plain_head e) ∙ sym (plain_node t)

pub part_unfit : (st : List TermTree) (t : TermTree) (ps : List Term) (i : ℕ) (r q : Bool) (h : Head) → q ≡ is_plain_head h → h ≡ root_of t → trees_at st ps ≡ branches_of t
    → all_plain st (drop i ps) ≡ all_plain st ps → i < length ps → r ≡ is_plain (tree_at st (get_or ps i none).id) → r ≡ false → false ≡ is_plain t
part_unfit st t ps i r q h is e parts stand lt told low =
    let here : all_plain st (drop i ps) ≡ (is_plain (tree_at st (get_or ps i none).id) && all_plain st (drop (i + 1) ps)) = ap (all_plain st) (drop_more ps i none lt) in
    let bad : all_plain st ps ≡ false = sym stand ∙ here ∙ ap (λ c. c && all_plain st (drop (i + 1) ps)) (sym told ∙ low) in
    sym (plain_node t ∙ ap (λ bs. is_plain_head (root_of t) && list_all (λ b. b) (map is_plain bs)) (sym parts) ∙ ap (λ c. is_plain_head (root_of t) && c) bad ∙ and_false (is_plain_head (root_of t)))
  where
    and_false : (c : Bool) → (c && false) ≡ false
    and_false true = refl
    and_false false = refl

pub all_fit : (st : List TermTree) (t : TermTree) (ps : List Term) (i : ℕ) (q : Bool) (h : Head) → q ≡ is_plain_head h → h ≡ root_of t → q ≡ true → trees_at st ps ≡ branches_of t
    → all_plain st (drop i ps) ≡ all_plain st ps → length ps ≤ i → true ≡ is_plain t
all_fit st t ps i q h is e high parts stand le =
    let good : all_plain st ps ≡ true = sym stand ∙ ap (all_plain st) (drop_all i ps le) in
    sym (plain_node t ∙ ap (λ bs. is_plain_head (root_of t) && list_all (λ b. b) (map is_plain bs)) (sym parts) ∙ ap (λ c. is_plain_head (root_of t) && c) good
    ∙ ap (λ c. c && true) (sym (ap is_plain_head e) ∙ sym is ∙ high))

-- ---- a store that grows

pub tree_kept : (old new : List TermTree) (t : Term) → t.id < length old → Grows old new → tree_at new t.id ≡ tree_at old t.id
tree_kept old new t lt grows =
    let one : tree_at new t.id ∷ [] ≡ tree_at old t.id ∷ [] = ap (λ ts. tree_at ts t.id ∷ []) grows.1 ∙ trees_kept old grows.0 (t ∷ []) (All-cons (λ p. p.id < length old) t [] lt (All-nil (λ p. p.id < length old))) in
    cc

trees_same : (old new : List TermTree) (ps : List Term) → AreIn old ps → Grows old new → trees_at new ps ≡ trees_at old ps
trees_same old new ps within grows = ap (λ ts. trees_at ts ps) grows.1 ∙ trees_kept old grows.0 ps within

-- one part more is replaced
pub one_more : (old mid new : List TermTree) (parts made more : List Term) (from to t : Term) (i : ℕ) → from.id < length old → to.id < length old → AreIn old parts → AreIn mid made → Grows old mid → Grows mid new
    → trees_at mid made ≡ map (replaced (tree_at old from.id) (tree_at old to.id)) (trees_at old (take i parts))
    → tree_at new t.id ≡ replaced (tree_at mid from.id) (tree_at mid to.id) (tree_at mid (get_or parts i none).id) → more ≡ made ++ t ∷ [] → i < length parts
    → trees_at new more ≡ map (replaced (tree_at old from.id) (tree_at old to.id)) (trees_at old (take (i + 1) parts))
one_more old mid new parts made more from to t i lf lt within inside grows again stand told e l =
    let R = replaced (tree_at old from.id) (tree_at old to.id) in
    let p = get_or parts i none in
    let tree_is : tree_at new t.id ≡ R (tree_at old p.id) =
    told ∙ ap (λ a. replaced a (tree_at mid to.id) (tree_at mid p.id)) (tree_kept old mid from lf grows) ∙ ap (λ b. replaced (tree_at old from.id) b (tree_at mid p.id)) (tree_kept old mid to lt grows)
    ∙ ap R (tree_kept old mid p (within i none l) grows) in
    ap (trees_at new) e ∙ map-append (λ q. tree_at new q.id) made (t ∷ [])
    ∙ ap (λ ts. ts ++ tree_at new t.id ∷ []) (trees_same mid new made inside again ∙ stand)
    ∙ ap (λ u. map R (trees_at old (take i parts)) ++ u ∷ []) tree_is
    ∙ sym (ap (λ ps. map R (trees_at old ps)) (take_more parts i none l) ∙ ap (map R) (map-append (λ q. tree_at old q.id) (take i parts) (p ∷ [])) ∙ map-append R (trees_at old (take i parts)) (tree_at old p.id ∷ []))

module _ (a b : TermTree) where
  pub replaced_node : (t : TermTree) → replaced a b t ≡ cond (tree_eq a t) b (rooted (root_of t) (map (replaced a b) (branches_of t)))
  unfolding replaced
  replaced_node t = of_node (λ u parts. cond (tree_eq a u) b (rooted (root_of u) parts)) t

  -- the sort stays where the two have one sort
  module _ (alike : sort_of a ≡ sort_of b) where
    abbrev KeepsSort : TermTree → Type 0
    KeepsSort t = sort_of (replaced a b t) ≡ sort_of t

    all_sorted : (es : Each KeepsSort) → map sort_of (map (replaced a b) (trees es)) ≡ map sort_of (trees es)
    all_sorted [] = refl
    all_sorted (e ∷ es) = ap (λ s. s ∷ map sort_of (map (replaced a b) (trees es))) e.1 ∙ ap (λ ss. sort_of e.0 ∷ ss) (all_sorted es)

    either_way : (t : TermTree) → sort_of (rooted (root_of t) (map (replaced a b) (branches_of t))) ≡ sort_of t → KeepsSort t
    either_way t h = ap sort_of (replaced_node t) ∙ by_test (tree_eq a t) refl
      where
        by_test : (r : Bool) → tree_eq a t ≡ r → sort_of (cond r b (rooted (root_of t) (map (replaced a b) (branches_of t)))) ≡ sort_of t
        by_test true e = sym alike ∙ ap sort_of (same_tree a t e)
        by_test false e = h

    of_apply : (o : Operator) (ts us : List TermTree) → map sort_of ts ≡ map sort_of us → sort_of (tree.Apply o ts) ≡ sort_of (tree.Apply o us)
    of_apply o ts us e = sort_apply o ts ∙ ap (λ ss. with_sorts (all_sorts ss) (sort_given o)) e ∙ sym (sort_apply o us)

    pub keeps_sort : (t : TermTree) → KeepsSort t
    keeps_sort =
        by_induction KeepsSort
        (λ n s. either_way (tree.Variable n s) (ap (λ h. sort_of (rooted h (map (replaced a b) (branches_of (tree.Variable n s))))) (root_variable n s)))
        (λ o es.
        let t = tree.Apply o (trees es) in
        either_way t
        (ap (λ h. sort_of (rooted h (map (replaced a b) (branches_of t)))) (root_apply o (trees es))
        ∙ ap (λ bs. sort_of (tree.Apply o (map (replaced a b) bs))) (branches_apply o (trees es))
        ∙ of_apply o (map (replaced a b) (trees es)) (trees es) (all_sorted es)))

    each_keeps : (ts : List TermTree) → map sort_of (map (replaced a b) ts) ≡ map sort_of ts
    each_keeps [] = refl
    each_keeps (t ∷ ts) = ap (λ s. s ∷ map sort_of (map (replaced a b) ts)) (keeps_sort t) ∙ ap (λ ss. sort_of t ∷ ss) (each_keeps ts)

    -- so the node over the new branches has a sort
    pub node_keeps : (t : TermTree) (s : Sort) → sort_of t ≡ Some s → sort_of_node (root_of t) (map (replaced a b) (branches_of t)) ≡ Some s
    node_keeps =
        by_induction (λ t. (s : Sort) → sort_of t ≡ Some s → sort_of_node (root_of t) (map (replaced a b) (branches_of t)) ≡ Some s)
        (λ n r s e.
        ap (λ h. sort_of_node h (map (replaced a b) (branches_of (tree.Variable n r)))) (root_variable n r)
        ∙ ap (λ bs. sort_of_node (head.Variable n r) (map (replaced a b) bs)) (branches_variable n r)
        ∙ sym (sort_variable n r) ∙ e)
        (λ o es s e.
        ap (λ h. sort_of_node h (map (replaced a b) (branches_of (tree.Apply o (trees es))))) (root_apply o (trees es))
        ∙ ap (λ bs. sort_of (tree.Apply o (map (replaced a b) bs))) (branches_apply o (trees es))
        ∙ of_apply o (map (replaced a b) (trees es)) (trees es) (each_keeps (trees es)) ∙ e)

  -- the term itself is the one that is replaced
  pub replaced_whole : (t : TermTree) (r : Bool) → r ≡ tree_eq a t → r ≡ true → b ≡ replaced a b t
  replaced_whole t r is high = sym (replaced_node t ∙ ap (λ c. cond c b (rooted (root_of t) (map (replaced a b) (branches_of t)))) (sym is ∙ high))

  -- or its parts are
  pub replaced_parts : (t : TermTree) (r : Bool) (h : Head) (ts : List TermTree) → r ≡ tree_eq a t → r ≡ false → h ≡ root_of t → ts ≡ map (replaced a b) (branches_of t) → rooted h ts ≡ replaced a b t
  replaced_parts t r h ts is low e f =
      ap (λ g. rooted g ts) e ∙ ap (rooted (root_of t)) f
      ∙ sym (replaced_node t ∙ ap (λ c. cond c b (rooted (root_of t) (map (replaced a b) (branches_of t)))) (sym is ∙ low))

  pub never_unsorted : sort_of a ≡ sort_of b → (t : TermTree) (s : Sort) (h : Head) (ts : List TermTree) → sort_of t ≡ Some s → h ≡ root_of t → ts ≡ map (replaced a b) (branches_of t) → sort_of_node h ts ≡ None → ⊥
  never_unsorted alike t s h ts sorted e f none =
      let clash : None ≡ Some s = sym none ∙ ap (λ g. sort_of_node g ts) e ∙ ap (sort_of_node (root_of t)) f ∙ node_keeps alike t s sorted in
      absurd cc

-- all parts are replaced
pub all_replaced : (f : TermTree → TermTree) (old mid : List TermTree) (t : TermTree) (items made : List Term) (i : ℕ) → trees_at old items ≡ branches_of t → length items ≤ i
    → trees_at mid made ≡ map f (trees_at old (take i items)) → trees_at mid made ≡ map f (branches_of t)
all_replaced f old mid t items made i parts le stand = stand ∙ ap (λ ps. map f (trees_at old ps)) (take_all i items le) ∙ ap (map f) parts
