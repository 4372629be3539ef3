use Rattle.std.proofs.Common.{◌≡◌, ◌<◌, ◌≤◌, true, ◌∷◌, ◌++◌, ap, sym, ◌∙◌, subst, arith}
use Rattle.std.proofs.lemmas.Result.{IfOk-weaker}
use Rattle.gv_words.specs.Maps.{ascends, without}
use Rattle.gv_trees.specs.Trees.{entries}
use Rattle.gv_trees.proofs.Split.{drop_before, drop_here, drop_after, first_ascends, last_ascends}
use Rattle.gv_trees.proofs.tree.Tree.+without.Goals as goal

pub returns-in_ok-left-in-Fork-clause-entries : goal.returns-in_ok-left-in-Fork-clause-entries
returns-in_ok-left-in-Fork-clause-entries g t c holds =
    let f = c.in-Fork.fork.value in
    let asc = subst (λ t. ascends (entries t) ≡ true) c.in-Fork.is holds in
    let part = subst (λ d. ascends (entries d.left) ≡ true) (sym c.deref-then-key-deref.ensures) (first_ascends f.key f.item (entries f.left) (entries f.right) asc) in
    let own = c.in_ok-left-in-Fork.ensures.entries part ∙ ap (λ d. without (entries d.left) c.args.key) c.deref-then-key-deref.ensures in
    IfOk-weaker c.with_left.result (λ t. entries t ≡ entries c.in_ok-left-in-Fork.left ++ ((c.deref-then-key-deref-2.result.now.key, c.deref-then-key-deref-2.result.now.item) ∷ entries c.deref-then-key-deref-2.result.now.right))
    (λ t. entries t ≡ without (entries c.args.self.now) c.args.key)
    (λ t h. h ∙ ap (λ d. entries c.in_ok-left-in-Fork.left ++ ((d.key, d.item) ∷ entries d.right)) c.deref-then-key-deref-2.ensures
    ∙ ap (λ l. l ++ ((f.key, f.item) ∷ entries f.right)) own
    ∙ sym (drop_before c.args.key f.key f.item (entries f.left) (entries f.right) asc (subst (λ d. c.args.key < d.key) c.deref.ensures c.if-key-deref.true))
    ∙ sym (ap (λ t. without (entries t) c.args.key) c.in-Fork.is))
    c.with_left.ensures.entries

pub returns-in_ok-right-in-Fork-clause-entries : goal.returns-in_ok-right-in-Fork-clause-entries
returns-in_ok-right-in-Fork-clause-entries g t c holds =
    let f = c.in-Fork.fork.value in
    let asc = subst (λ t. ascends (entries t) ≡ true) c.in-Fork.is holds in
    let part = subst (λ d. ascends (entries d.right) ≡ true) (sym c.deref-then-deref-key.ensures) (last_ascends f.key f.item (entries f.left) (entries f.right) asc) in
    let own = c.in_ok-right-in-Fork.ensures.entries part ∙ ap (λ d. without (entries d.right) c.args.key) c.deref-then-deref-key.ensures in
    IfOk-weaker c.with_right.result (λ t. entries t ≡ entries c.deref-then-deref-key-2.result.now.left ++ ((c.deref-then-deref-key-2.result.now.key, c.deref-then-deref-key-2.result.now.item) ∷ entries c.in_ok-right-in-Fork.right))
    (λ t. entries t ≡ without (entries c.args.self.now) c.args.key)
    (λ t h. h ∙ ap (λ d. entries d.left ++ ((d.key, d.item) ∷ entries c.in_ok-right-in-Fork.right)) c.deref-then-deref-key-2.ensures
    ∙ ap (λ l. entries f.left ++ ((f.key, f.item) ∷ l)) own
    ∙ sym (drop_after c.args.key f.key f.item (entries f.left) (entries f.right) asc (subst (λ d. d.key < c.args.key) c.deref-else-key-deref.ensures c.if-deref-key.true))
    ∙ sym (ap (λ t. without (entries t) c.args.key) c.in-Fork.is))
    c.with_right.ensures.entries

pub returns-else-deref-key-clause-entries : goal.returns-else-deref-key-clause-entries
returns-else-deref-key-clause-entries g t c holds =
    let f = c.in-Fork.fork.value in
    let asc = subst (λ t. ascends (entries t) ≡ true) c.in-Fork.is holds in
    let low = subst (λ d. d.key ≤ c.args.key) c.deref.ensures c.if-key-deref.false in
    let high = subst (λ d. c.args.key ≤ d.key) c.deref-else-key-deref.ensures c.if-deref-key.false in
    IfOk-weaker c.joined.result (λ t. entries t ≡ entries c.deref-else-deref-key.result.now.left ++ entries c.deref-else-deref-key-2.result.now.right)
    (λ t. entries t ≡ without (entries c.args.self.now) c.args.key)
    (λ t h. h ∙ ap (λ d. entries d.left ++ entries c.deref-else-deref-key-2.result.now.right) c.deref-else-deref-key.ensures
    ∙ ap (λ d. entries f.left ++ entries d.right) c.deref-else-deref-key-2.ensures
    ∙ sym (drop_here c.args.key f.key f.item (entries f.left) (entries f.right) asc (omega (arith, low, high)))
    ∙ sym (ap (λ t. without (entries t) c.args.key) c.in-Fork.is))
    c.joined.ensures.entries
