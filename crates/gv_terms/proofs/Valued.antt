-- The value of a node, from the values of its parts.
use Rattle.std.proofs.Common.{◌≡◌, ℕ, ◌<◌, List, length, get_or, map, sym, ap, ◌∙◌, subst, rules}
use Rattle.gv_terms.specs.declared.sort.Sort.{Sort}
use Rattle.gv_terms.specs.declared.operator.Operator.{Operator}
use Rattle.gv_terms.specs.declared.tree.Head.{Head}
use Rattle.gv_terms.specs.declared.tree.Head.TheVariants as head
use Rattle.gv_terms.specs.declared.tree.TermTree.{TermTree, the_lemmas}
use Rattle.gv_terms.specs.declared.tree.TermTree.TheVariants as tree
use Rattle.gv_terms.specs.declared.stored.Stored.{Stored}
use Rattle.gv_terms.specs.declared.value.Value.{Value}
use Rattle.gv_terms.specs.declared.value.Env.{Env}
use Rattle.gv_terms.specs.Meaning.{operate}
use Rattle.gv_terms.specs.Trees.{rooted, looked_up, value_under, head_value}
use Rattle.gv_terms.specs.Store.{tree_at, trees_at, trees_of, IsSoundAt, AreSound}

pub value_variable : (env : Env) (n : List ℕ) (s : Sort) → value_under env (tree.Variable n s) ≡ looked_up env n s
unfolding value_under
value_variable env n s = search (rules, the_lemmas)

pub value_apply : (env : Env) (o : Operator) (ts : List TermTree) → value_under env (tree.Apply o ts) ≡ operate o (map (value_under env) ts)
unfolding value_under
value_apply env o ts = search (rules, the_lemmas)

rooted_value : (env : Env) (h : Head) (ts : List TermTree) → value_under env (rooted h ts) ≡ head_value env h (map (value_under env) ts)
rooted_value env (head.Variable n s) ts = value_variable env n s
rooted_value env (head.Apply o) ts = value_apply env o ts

pub sound_node : (ns : List Stored) → AreSound ns → (i : ℕ) (n : Stored) → i < length ns → n ≡ get_or ns i n → IsSoundAt (trees_of ns) i n
sound_node ns sound i n lt is = subst (λ m. IsSoundAt (trees_of ns) i m) (sym is) (sound i n lt)

-- the value of a node, from those of its parts
pub node_valued : (env : Env) (ts : List TermTree) (k : ℕ) (n : Stored) (vs : List Value) → IsSoundAt ts k n → vs ≡ map (value_under env) (trees_at ts n.parts) → head_value env n.head vs ≡ value_under env (tree_at ts k)
node_valued env ts k n vs s e =
    ap (λ us. head_value env n.head us) e ∙ sym (rooted_value env n.head (trees_at ts n.parts)) ∙ ap (value_under env) (sym s.shape)
