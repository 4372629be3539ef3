-- Assertions that are alike but for the names of bound numbers.
use Rattle.std.proofs.Common.{◌≡◌, ℕ, Bool, true, false, ◌&&◌, if◌then◌else◌, List, [], ◌∷◌, refl, sym, ap, subst, ◌∙◌}
use Rattle.std.specs.Str.{bytes_eq}
use Rattle.std.proofs.lemmas.Slice.Eq.{bytes_eq-Decides}
use Rattle.gv_terms.specs.declared.sort.Sort.{Sort}
use Rattle.gv_terms.specs.declared.sort.Sort.TheVariants as sort
use Rattle.gv_terms.specs.declared.tree.TermTree.{TermTree}
use Rattle.gv_terms.specs.declared.tree.TermTree.TheVariants as tree
use Rattle.gv_terms.specs.declared.value.Binding.{Binding}
use Rattle.gv_terms.specs.declared.value.Env.{Env}
use Rattle.gv_terms.specs.declared.value.Value.{Value}
use Rattle.gv_terms.specs.declared.value.Value.TheVariants as val
use Rattle.gv_terms.specs.Values.{has_sort}
use Rattle.gv_terms.specs.Trees.{looked_up, value_under}
use Rattle.gv_terms.proofs.NodeSorts.{sort_variable}
use Rattle.gv_terms.proofs.Valued.{value_variable}
use Rattle.gv_resources.specs.Pieces.{Piece}
use Rattle.gv_assertions.specs.Atoms.{Atom, Owns, Slice, Spare, Instance, Each}
use Rattle.gv_assertions.specs.Standing.{StandsFor, each, indexed}
use Rattle.gv_instances.specs.Instances.{AreSorted, put_in_atom, stands_in, given_under}
use Rattle.gv_instances.specs.Agreeing.{AgreeOn, AgreeOnAll, AgreeOnAtom}
use Rattle.gv_instances.specs.Alike.{renaming, AreFree, IsFreeOf, itself, renamed}
use Rattle.gv_instances.specs.Laws.{AlikeLaw}
use Rattle.gv_instances.proofs.Sorts.{same_sort}
use Rattle.gv_instances.proofs.Trees.{found_first}
use Rattle.gv_instances.proofs.Assertions.{into, out}
use Rattle.gv_instances.proofs.Agreeing.{atom_agrees, both_true}

-- two valuations agree but for the number under a name
abbrev pub AgreeBut : List ℕ → Env → Env → Type 0
AgreeBut other env later = (m : List ℕ) (s : Sort) → (bytes_eq other m && has_sort (val.Word 0) s) ≡ false → looked_up env m s ≡ looked_up later m s

test_of : (other m : List ℕ) (s : Sort) → (bytes_eq other m && has_sort (val.Word 0) s) ≡ true → (other ≡ m) × (s ≡ sort.Word)
test_of other m s e = let is = both_true (bytes_eq other m) (has_sort (val.Word 0) s) e in ((bytes_eq-Decides other m).0 is.0, same_sort sort.Word s is.1)

module _ (other : List ℕ) where
  free_term : (env later : Env) (t : TermTree) → AgreeBut other env later → stands_in other sort.Word t ≡ false → AgreeOn env later t
  free_term env later t same free m s stands = at (bytes_eq other m && has_sort (val.Word 0) s) refl
    where
      at : (b : Bool) → (bytes_eq other m && has_sort (val.Word 0) s) ≡ b → looked_up env m s ≡ looked_up later m s
      at false e = same m s e
      at true e =
          let is = test_of other m s e in
          let here : stands_in other sort.Word t ≡ true = subst (λ x. stands_in x sort.Word t ≡ true) (sym is.0) (subst (λ x. stands_in m x t ≡ true) is.1 stands) in
          let never : true ≡ false = sym here ∙ free in
          absurd cc

  free_terms : (env later : Env) (ts : List TermTree) → AgreeBut other env later → AreFree other ts → AgreeOnAll env later ts
  free_terms env later [] same free = tt
  free_terms env later (t ∷ ts) same free = (free_term env later t same free.0, free_terms env later ts same free.1)

  indexed_but : (env later : Env) (index : List ℕ) (n : ℕ) → AgreeBut other env later → AgreeBut other (indexed env index n) (indexed later index n)
  indexed_but env later index n same m s e =
      let b : Binding = record { name = index; value = val.Word n } in
      found_first b env.bindings m s ∙ ap (λ (x : Value). if bytes_eq index m && has_sort (val.Word n) s then val.Word n else x) (same m s e) ∙ sym (found_first b later.bindings m s)

  free_atom : (env later : Env) (a : Atom) → AgreeBut other env later → IsFreeOf other a → AgreeOnAtom env later a
  free_atom env later (Owns k key value) same free = (free_terms env later key same free.0, free_terms env later value same free.1)
  free_atom env later (Slice frozen s items) same free = (free_term env later s same free.0, free_term env later items same free.1)
  free_atom env later (Spare s) same free = free_term env later s same free
  free_atom env later (Instance number args) same free = free_terms env later args same free
  free_atom env later (Each index low high except a) same free = (
    free_term env later low same free.0,
    free_term env later high same free.1,
    free_terms env later except same free.2,
    (λ n. free_atom (indexed env index n) (indexed later index n) a (indexed_but env later index n same) free.3),
  )

-- ---- the number under its other name

not_chosen : (test : Bool) (x y : Value) → test ≡ false → (if test then x else y) ≡ y
not_chosen false x y e = refl
not_chosen true x y e = absurd cc

module _ (env : Env) (index other : List ℕ) (n : ℕ) where
  abbrev before : Env
  before = indexed env other n

  its_value : value_under before (tree.Variable other sort.Word) ≡ val.Word n
  its_value =
      value_variable before other sort.Word ∙ found_first (record { name = other; value = val.Word n }) env.bindings other sort.Word
      ∙ ap (λ (b : Bool). if b && has_sort (val.Word n) sort.Word then val.Word n else looked_up env other sort.Word) ((bytes_eq-Decides other other).1 refl)

  renamed_but : AgreeBut other (given_under (renaming index other) before) (indexed env index n)
  renamed_but m s e =
      found_first (record { name = index; value = value_under before (tree.Variable other sort.Word) }) before.bindings m s
      ∙ ap (λ (v : Value). if bytes_eq index m && has_sort v s then v else looked_up before m s) its_value
      ∙ ap (λ (v : Value). if bytes_eq index m && has_sort (val.Word n) s then val.Word n else v)
      (found_first (record { name = other; value = val.Word n }) env.bindings m s ∙ not_chosen (bytes_eq other m && has_sort (val.Word n) s) (val.Word n) (looked_up env m s) e)
      ∙ sym (found_first (record { name = index; value = val.Word n }) env.bindings m s)

back_but : (other : List ℕ) (env later : Env) → AgreeBut other env later → AgreeBut other later env
back_but other env later same m s e = sym (same m s e)

renaming_sorted : (index other : List ℕ) → AreSorted (renaming index other)
renaming_sorted index other = (sort_variable other sort.Word, tt)

pub alike_law : AlikeLaw
alike_law preds env a b p itself = ((λ s. s), (λ s. s))
alike_law preds env _ _ p (renamed {index = index} {other = other} {low = low} {high = high} {except = except} {a = a} free apart) = (forth, back)
  where
    body_forth : (n : ℕ) (q : Piece) → StandsFor preds (indexed env index n) a q → StandsFor preds (indexed env other n) (put_in_atom (renaming index other) a) q
    body_forth n q s =
        into preds (renaming index other) (renaming_sorted index other) a (indexed env other n) q apart
        (atom_agrees preds (indexed env index n) (given_under (renaming index other) (indexed env other n)) a q
        (free_atom other (indexed env index n) (given_under (renaming index other) (indexed env other n)) a (back_but other (given_under (renaming index other) (indexed env other n)) (indexed env index n) (renamed_but env index other n)) free) s)

    body_back : (n : ℕ) (q : Piece) → StandsFor preds (indexed env other n) (put_in_atom (renaming index other) a) q → StandsFor preds (indexed env index n) a q
    body_back n q s =
        atom_agrees preds (given_under (renaming index other) (indexed env other n)) (indexed env index n) a q (free_atom other (given_under (renaming index other) (indexed env other n)) (indexed env index n) a (renamed_but env index other n) free)
        (out preds (renaming index other) (renaming_sorted index other) a (indexed env other n) q apart s)

    forth : StandsFor preds env (Each index low high except a) p → StandsFor preds env (Each other low high except (put_in_atom (renaming index other) a)) p
    forth (each parts sums stands) = each parts sums (λ n l h f. body_forth n (parts n) (stands n l h f))

    back : StandsFor preds env (Each other low high except (put_in_atom (renaming index other) a)) p → StandsFor preds env (Each index low high except a) p
    back (each parts sums stands) = each parts sums (λ n l h f. body_back n (parts n) (stands n l h f))
