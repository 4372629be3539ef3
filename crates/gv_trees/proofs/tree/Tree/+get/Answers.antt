use Rattle.std.proofs.Common.{◌≡◌, ◌<◌, ◌≤◌, true, Some, ap, sym, ◌∙◌, subst, arith}
use Rattle.gv_words.specs.Maps.{ascends, entry_at}
use Rattle.gv_trees.specs.Trees.{entries}
use Rattle.gv_trees.proofs.Split.{get_before, get_here, get_after, first_ascends, last_ascends}
use Rattle.gv_trees.proofs.tree.Tree.+get.Goals as goal

pub returns-then-key-deref : goal.returns-then-key-deref
returns-then-key-deref g t c holds =
    let f = c.in-Fork.fork.value in
    let asc = subst (λ t. ascends (entries t) ≡ true) c.in-Fork.is holds in
    let below = subst (λ d. ascends (entries d.left) ≡ true) (sym c.deref-then-key-deref.ensures) (first_ascends f.key f.item (entries f.left) (entries f.right) asc) in
    c.get.ensures below
    ∙ ap (λ d. entry_at (entries d.left) c.args.key) c.deref-then-key-deref.ensures
    ∙ sym (get_before c.args.key f.key f.item (entries f.left) (entries f.right) asc (subst (λ d. c.args.key < d.key) c.deref.ensures c.if-key-deref.true))
    ∙ sym (ap (λ t. entry_at (entries t) c.args.key) c.in-Fork.is)

pub returns-then-deref-key : goal.returns-then-deref-key
returns-then-deref-key g t c holds =
    let f = c.in-Fork.fork.value in
    let asc = subst (λ t. ascends (entries t) ≡ true) c.in-Fork.is holds in
    let above = subst (λ d. ascends (entries d.right) ≡ true) (sym c.deref-then-deref-key.ensures) (last_ascends f.key f.item (entries f.left) (entries f.right) asc) in
    c.get-then-deref-key.ensures above
    ∙ ap (λ d. entry_at (entries d.right) c.args.key) c.deref-then-deref-key.ensures
    ∙ sym (get_after c.args.key f.key f.item (entries f.left) (entries f.right) asc (subst (λ d. d.key < c.args.key) c.deref-else-key-deref.ensures c.if-deref-key.true))
    ∙ sym (ap (λ t. entry_at (entries t) c.args.key) c.in-Fork.is)

pub returns-else-deref-key : goal.returns-else-deref-key
returns-else-deref-key g t c holds =
    let f = c.in-Fork.fork.value in
    let asc = subst (λ t. ascends (entries t) ≡ true) c.in-Fork.is holds in
    let low = subst (λ d. d.key ≤ c.args.key) c.deref.ensures c.if-key-deref.false in
    let high = subst (λ d. c.args.key ≤ d.key) c.deref-else-key-deref.ensures c.if-deref-key.false in
    ap (λ d. Some d.item) c.deref-else-deref-key.ensures
    ∙ sym (get_here c.args.key f.key f.item (entries f.left) (entries f.right) asc (omega (arith, low, high)))
    ∙ sym (ap (λ t. entry_at (entries t) c.args.key) c.in-Fork.is)
