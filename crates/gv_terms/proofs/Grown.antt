-- How a store grows.
use Rattle.std.proofs.Common.{suc, true, ⊎_elim, ◌≡◌, ℕ, ◌+◌, ◌<◌, ◌≤◌, List, [], ◌∷◌, ◌++◌, length, get_or, refl, sym, ap, ◌∙◌, subst, arith, length-append, Some}
use Rattle.std.specs.List.{All}
use Rattle.std.proofs.lemmas.List.{get_or_append_left, get_or_default}
use Rattle.std.proofs.lemmas.Bool.{cases_lt}
use Rattle.std.proofs.lemmas.List.Elements.{All-append}
use Rattle.std.proofs.Math.Seq.{get_or-append_seam}
use Rattle.gv_terms.specs.declared.operator.Operator.TheVariants as op
use Rattle.gv_terms.specs.declared.tree.TermTree.TheVariants as tree
use Rattle.gv_terms.specs.declared.tree.TermTree.{TermTree}
use Rattle.gv_terms.specs.declared.tree.Head.{Head}
use Rattle.gv_terms.specs.declared.term.Term.{Term}
use Rattle.gv_terms.specs.declared.stored.Stored.{Stored}
use Rattle.gv_terms.specs.declared.tree.Head.TheVariants as head
use Rattle.gv_terms.specs.declared.sort.Sort.TheVariants as sort
use Rattle.std.proofs.lemmas.List.{length-map}
use Rattle.gv_terms.specs.Trees.{rooted, sort_of, sort_of_node}
use Rattle.gv_terms.specs.Ranges.{numbers_are_words, holds_word}
use Rattle.gv_terms.proofs.Arity.{node_counted}
use Rattle.gv_terms.proofs.NodeSorts.{rooted_sort}
use Rattle.gv_terms.proofs.Numbers.{AreWords, rooted_words}
use Rattle.gv_terms.specs.Store.{tree_at, trees_at, with_node, grown, trees_of, part_count, IsSoundAt, AreSound, Grows}

some_node : Stored
some_node = record { head = head.Apply op.True; parts = []; sort = sort.Bool }

abbrev zero_tree : TermTree
zero_tree = tree.Apply (op.Number 0) []

length_grown : (ts : List TermTree) (ns : List Stored) → length (grown ts ns) ≡ length ts + length ns
length_grown ts [] = omega arith
length_grown ts (n ∷ ns) = omega (arith, length_grown (with_node ts n) ns, length-append ts (rooted n.head (trees_at ts n.parts) ∷ []))

-- a store has as many trees as nodes
pub length_trees : (ns : List Stored) → length (trees_of ns) ≡ length ns
unfolding trees_of
length_trees ns = omega (arith, length_grown [] ns)

grown_more : (ts : List TermTree) (ns : List Stored) (n : Stored) → grown ts (ns ++ n ∷ []) ≡ with_node (grown ts ns) n
grown_more ts [] n = refl
grown_more ts (m ∷ ns) n = grown_more (with_node ts m) ns n

-- the trees after one node more
pub trees_more : (ns : List Stored) (n : Stored) → trees_of (ns ++ n ∷ []) ≡ with_node (trees_of ns) n
unfolding trees_of
trees_more ns n = grown_more [] ns n

-- earlier terms keep their trees
pub trees_kept : (ts rest : List TermTree) (ps : List Term) → All (λ p. p.id < length ts) ps → trees_at (ts ++ rest) ps ≡ trees_at ts ps
trees_kept ts rest [] within = refl
trees_kept ts rest (p ∷ ps) within =
    let first : tree_at (ts ++ rest) p.id ≡ tree_at ts p.id = get_or_append_left ts rest zero_tree p.id (within 0 p (omega arith)) in
    let others : trees_at (ts ++ rest) ps ≡ trees_at ts ps = trees_kept ts rest ps (λ k d lt. within (suc k) d (omega arith)) in
    cc

below_both : (m n : ℕ) (ps : List Term) → m ≤ n → All (λ p. p.id < m) ps → All (λ p. p.id < n) ps
below_both m n ps le within k d lt = let h = within k d lt in omega arith

-- an earlier node stays sound
kept_sound : (ts rest : List TermTree) (k : ℕ) (n : Stored) → k < length ts → IsSoundAt ts k n → IsSoundAt (ts ++ rest) k n
kept_sound ts rest k n lt s =
    let at : tree_at (ts ++ rest) k ≡ tree_at ts k = get_or_append_left ts rest zero_tree k lt in
    let parts : trees_at (ts ++ rest) n.parts ≡ trees_at ts n.parts = trees_kept ts rest n.parts (below_both k (length ts) n.parts (omega arith) s.earlier) in
    record {
      shape = at ∙ s.shape ∙ ap (λ us. rooted n.head us) (sym parts);
      earlier = s.earlier;
      counted = s.counted;
      sort = ap sort_of at ∙ s.sort;
      words = ap numbers_are_words at ∙ s.words;
    }

-- what is known of a node before it stands in a store
pub record IsNew (ts : List TermTree) (n : Stored) : Type 0 where
  pub counted : length n.parts ≡ part_count n.head
  pub sort : sort_of (rooted n.head (trees_at ts n.parts)) ≡ Some n.sort
  pub words : numbers_are_words (rooted n.head (trees_at ts n.parts)) ≡ true

-- the last node is sound
last_sound : (ts : List TermTree) (n : Stored) → All (λ p. p.id < length ts) n.parts → IsNew ts n → IsSoundAt (with_node ts n) (length ts) n
last_sound ts n within new =
    let x = rooted n.head (trees_at ts n.parts) in
    let at : tree_at (ts ++ x ∷ []) (length ts) ≡ x = get_or-append_seam ts x [] zero_tree in
    record {
      shape = at ∙ ap (λ us. rooted n.head us) (sym (trees_kept ts (x ∷ []) n.parts within));
      earlier = within;
      counted = new.counted;
      sort = ap sort_of at ∙ new.sort;
      words = ap numbers_are_words at ∙ new.words;
    }

pub sound_more : (ns : List Stored) (n : Stored) → AreSound ns → All (λ p. p.id < length (trees_of ns)) n.parts → IsNew (trees_of ns) n → AreSound (ns ++ n ∷ [])
sound_more ns n sound within new k d lt =
    subst (λ ts. IsSoundAt ts k (get_or (ns ++ n ∷ []) k d)) (sym (trees_more ns n))
    (⊎_elim
    (λ (h : k < length ns). subst (λ m. IsSoundAt (with_node (trees_of ns) n) k m) (sym (get_or_append_left ns (n ∷ []) d k h))
    (kept_sound (trees_of ns) _ k (get_or ns k d) (omega (arith, length_trees ns)) (sound k d h)))
    (λ (h : length ns ≤ k). last_case k (omega (arith, length-append ns (n ∷ []))))
    (cases_lt k (length ns)))
  where
    last_case : (j : ℕ) → j ≡ length ns → IsSoundAt (with_node (trees_of ns) n) j (get_or (ns ++ n ∷ []) j d)
    last_case j e =
        subst (λ i. IsSoundAt (with_node (trees_of ns) n) i (get_or (ns ++ n ∷ []) i d)) (sym e)
        (subst (λ m. IsSoundAt (with_node (trees_of ns) n) (length ns) m) (sym (get_or-append_seam ns n [] d))
        (subst (λ i. IsSoundAt (with_node (trees_of ns) n) i n) (length_trees ns) (last_sound (trees_of ns) n within new)))

-- the tree of a new term
pub last_tree : (ns : List Stored) (n : Stored) → tree_at (trees_of (ns ++ n ∷ [])) (length ns) ≡ rooted n.head (trees_at (trees_of ns) n.parts)
last_tree ns n =
    ap (λ ts. tree_at ts (length ns)) (trees_more ns n)
    ∙ ap (λ i. tree_at (with_node (trees_of ns) n) i) (sym (length_trees ns))
    ∙ get_or-append_seam (trees_of ns) (rooted n.head (trees_at (trees_of ns) n.parts)) [] zero_tree

-- the numbers of a store's trees
pub are_words : (ns : List Stored) → AreSound ns → AreWords (trees_of ns)
are_words ns sound k lt = (sound k some_node (omega (arith, lt, length_trees ns))).words

pub all_words : (ns : List Stored) → AreSound ns → All (λ t. numbers_are_words t ≡ true) (trees_of ns)
all_words ns sound k d lt = ap numbers_are_words (get_or_default (trees_of ns) k d zero_tree lt) ∙ are_words ns sound k lt

-- what the store is after a node was made
pub made_tree : (old : List TermTree) (ns ms : List Stored) (n : Stored) (h : Head) (ps : List Term) → trees_of ns ≡ old → ms ≡ ns ++ n ∷ [] → n.head ≡ h → n.parts ≡ ps → tree_at (trees_of ms) (length ns) ≡ rooted h (trees_at old ps)
made_tree old ns ms n h ps e f p q =
    ap (λ m. tree_at (trees_of m) (length ns)) f ∙ last_tree ns n ∙ ap (λ ts. rooted n.head (trees_at ts n.parts)) e
    ∙ ap (λ g. rooted g (trees_at old n.parts)) p ∙ ap (λ rs. rooted h (trees_at old rs)) q

pub made_grows : (old : List TermTree) (ns ms : List Stored) (n : Stored) → trees_of ns ≡ old → ms ≡ ns ++ n ∷ [] → Grows old (trees_of ms)
made_grows old ns ms n e f = (
  rooted n.head (trees_at (trees_of ns) n.parts) ∷ [],
  ap trees_of f ∙ trees_more ns n ∙ ap (λ ts. ts ++ rooted n.head (trees_at (trees_of ns) n.parts) ∷ []) e,
)

pub made_within : (ns ms : List Stored) (n : Stored) → ms ≡ ns ++ n ∷ [] → length ns < length (trees_of ms)
made_within ns ms n f = omega (arith, length_trees ms, ap length f, length-append ns (n ∷ []))

pub made_sound : (old : List TermTree) (ns ms : List Stored) (n : Stored) (h : Head) (ps : List Term) → trees_of ns ≡ old → ms ≡ ns ++ n ∷ [] → n.head ≡ h → n.parts ≡ ps → AreSound ns → All (λ p. p.id < length old) ps → sort_of_node h (trees_at old ps) ≡ Some n.sort → holds_word h ≡ true → AreSound ms
made_sound old ns ms n h ps e f p q sound within sorted word =
    subst AreSound (sym f) (sound_more ns n sound
    (subst (λ rs. All (λ r. r.id < length (trees_of ns)) rs) (sym q) (subst (λ ts. All (λ r. r.id < length ts) ps) (sym e) within))
    (record {
      counted = ap length q ∙ sym (length-map ps (λ r. tree_at old r.id)) ∙ node_counted h (trees_at old ps) n.sort sorted ∙ ap part_count (sym p);
      sort = ap sort_of shape ∙ rooted_sort h (trees_at old ps) n.sort sorted;
      words = ap numbers_are_words shape ∙ rooted_words h old ps word (subst AreWords e (are_words ns sound)) within;
    }))
  where
    shape : rooted n.head (trees_at (trees_of ns) n.parts) ≡ rooted h (trees_at old ps)
    shape = ap (λ ts. rooted n.head (trees_at ts n.parts)) e ∙ ap (λ g. rooted g (trees_at old n.parts)) p ∙ ap (λ rs. rooted h (trees_at old rs)) q

-- a term more, of a store that grew
pub one_more_in : (old new : List TermTree) (ps : List Term) (t : Term) → All (λ p. p.id < length old) ps → Grows old new → t.id < length new → All (λ p. p.id < length new) (ps ++ t ∷ [])
one_more_in old new ps t within grows inside =
    All-append (λ p. p.id < length new) ps (t ∷ [])
    (below_both (length old) (length new) ps (omega (arith, ap length grows.1, length-append old grows.0)) within)
    (λ k d lt. only k d (omega arith))
  where
    only : (k : ℕ) (d : Term) → k ≡ 0 → (get_or (t ∷ []) k d).id < length new
    only k d e = subst (λ j. (get_or (t ∷ []) j d).id < length new) (sym e) inside
