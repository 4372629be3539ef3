use Rattle.std.proofs.Common.{rules, ◌≡◌, Some, IsSome, ◌∙◌, ap, sym, subst, arith}
use Rattle.gv_terms.specs.Trees.{sort_of_node}
use Rattle.gv_terms.specs.Store.{tree_at, trees_at, trees_of}
use Rattle.gv_terms.proofs.NodeSorts.{node_sort}
use Rattle.gv_terms.proofs.Grown.{are_words, made_tree, made_grows, made_within, made_sound}
use Rattle.gv_terms.proofs.store.TermStore.make.Goals as goal

pub returns-in_default-clause-cause : goal.returns-in_default-clause-cause
returns-in_default-clause-cause c _ =
    node_sort c.args.node.now.head (trees_at c.args.self.now c.args.node.now.parts) c.as_slice-2.result.now
    (rw (c.as_slice-2.ensures.value, ← c.as_slice.ensures) c.in_ok-sorts.ensures)
    ∙ sym c.sort_given.ensures ∙ c.in_default.is

-- the node's sort
sort_is : (c : goal.After-drop-sorts-2) → sort_of_node c.args.node.now.head (trees_at c.args.self.now c.args.node.now.parts) ≡ Some c.in-Some.sort
sort_is c =
    node_sort c.args.node.now.head (trees_at c.args.self.now c.args.node.now.parts) c.as_slice-2.result.now
    (rw (c.as_slice-2.ensures.value, ← c.as_slice.ensures) c.in_ok-sorts.ensures)
    ∙ sym c.sort_given.ensures ∙ c.in-Some.is

pub invariant_of-self-2 : goal.invariant_of-self-2
invariant_of-self-2 c =
    made_sound c.args.self.now c.self.inside.nodes.items c.push.new.self.items
    (record { head = c.in_ok-copy.field-0; parts = c.from_vec.result; sort = c.in-Some.sort })
    c.args.node.now.head c.args.node.now.parts c.self.view_is c.in_ok-push.ensures.items c.in_ok-copy.ensures
    (c.from_vec.ensures ∙ c.in_ok-from_slice.ensures.items ∙ c.as_slice-3.ensures)
    c.self.invariant c.requires (sort_is c) c.holds_a_word.ensures

pub returns-clause-within : goal.returns-clause-within
returns-clause-within c =
    omega (arith, c.len-id.ensures, c.self.inside.nodes.ok.0, made_within c.self.inside.nodes.items c.push.new.self.items (record { head = c.in_ok-copy.field-0; parts = c.from_vec.result; sort = c.in-Some.sort }) c.in_ok-push.ensures.items)

pub returns-clause-made : goal.returns-clause-made
returns-clause-made c =
    ap (λ i. tree_at (trees_of c.push.new.self.items) i) (c.len-id.ensures ∙ c.self.inside.nodes.ok.0)
    ∙ made_tree c.args.self.now c.self.inside.nodes.items c.push.new.self.items
    (record { head = c.in_ok-copy.field-0; parts = c.from_vec.result; sort = c.in-Some.sort })
    c.args.node.now.head c.args.node.now.parts c.self.view_is c.in_ok-push.ensures.items c.in_ok-copy.ensures
    (c.from_vec.ensures ∙ c.in_ok-from_slice.ensures.items ∙ c.as_slice-3.ensures)

pub returns-clause-words : goal.returns-clause-words
returns-clause-words c =
    let ms = c.push.new.self.items in
    let i = c.len-id.result in
    are_words ms (invariant_of-self-2 c) i
    (omega (arith, c.len-id.ensures, c.self.inside.nodes.ok.0, made_within c.self.inside.nodes.items c.push.new.self.items (record { head = c.in_ok-copy.field-0; parts = c.from_vec.result; sort = c.in-Some.sort }) c.in_ok-push.ensures.items))

pub returns-clause-sorted : goal.returns-clause-sorted
returns-clause-sorted c = subst (λ o. IsSome o) (sym (sort_is c)) (search rules)

pub returns-clause-grows : goal.returns-clause-grows
returns-clause-grows c =
    made_grows c.args.self.now c.self.inside.nodes.items c.push.new.self.items
    (record { head = c.in_ok-copy.field-0; parts = c.from_vec.result; sort = c.in-Some.sort })
    c.self.view_is c.in_ok-push.ensures.items
