use Rattle.std.proofs.Common.{◌≡◌, ◌<◌, ◌≤◌, true, ◌∷◌, ◌++◌, ap, sym, ◌∙◌, subst, arith}
use Rattle.std.proofs.lemmas.Result.{IfOk-weaker}
use Rattle.gv_words.specs.Maps.{ascends, with_entry}
use Rattle.gv_trees.specs.Trees.{entries}
use Rattle.gv_trees.proofs.Split.{put_before, put_here, put_after, first_ascends, last_ascends}
use Rattle.gv_trees.proofs.tree.Tree.+with.Goals as goal

pub returns-in_ok-left-in-Fork-clause-entries : goal.returns-in_ok-left-in-Fork-clause-entries
returns-in_ok-left-in-Fork-clause-entries g t c holds =
    let f = c.in-Fork.fork.value in
    let asc = subst (λ t. ascends (entries t) ≡ true) c.in-Fork.is holds in
    let part = subst (λ d. ascends (entries d.left) ≡ true) (sym c.deref-then-key-deref.ensures) (first_ascends f.key f.item (entries f.left) (entries f.right) asc) in
    let own = c.in_ok-left-in-Fork.ensures.entries part ∙ ap (λ d. with_entry (entries d.left) c.args.key c.args.item) c.deref-then-key-deref.ensures in
    IfOk-weaker c.with_left.result (λ t. entries t ≡ entries c.in_ok-left-in-Fork.left ++ ((c.deref-then-key-deref-2.result.now.key, c.deref-then-key-deref-2.result.now.item) ∷ entries c.deref-then-key-deref-2.result.now.right))
    (λ t. entries t ≡ with_entry (entries c.args.self.now) c.args.key c.args.item)
    (λ t h. h ∙ ap (λ d. entries c.in_ok-left-in-Fork.left ++ ((d.key, d.item) ∷ entries d.right)) c.deref-then-key-deref-2.ensures
    ∙ ap (λ l. l ++ ((f.key, f.item) ∷ entries f.right)) own
    ∙ sym (put_before c.args.key f.key c.args.item f.item (entries f.left) (entries f.right) asc (subst (λ d. c.args.key < d.key) c.deref.ensures c.if-key-deref.true))
    ∙ sym (ap (λ t. with_entry (entries t) c.args.key c.args.item) c.in-Fork.is))
    c.with_left.ensures.entries

pub returns-in_ok-right-in-Fork-clause-entries : goal.returns-in_ok-right-in-Fork-clause-entries
returns-in_ok-right-in-Fork-clause-entries g t c holds =
    let f = c.in-Fork.fork.value in
    let asc = subst (λ t. ascends (entries t) ≡ true) c.in-Fork.is holds in
    let part = subst (λ d. ascends (entries d.right) ≡ true) (sym c.deref-then-deref-key.ensures) (last_ascends f.key f.item (entries f.left) (entries f.right) asc) in
    let own = c.in_ok-right-in-Fork.ensures.entries part ∙ ap (λ d. with_entry (entries d.right) c.args.key c.args.item) c.deref-then-deref-key.ensures in
    IfOk-weaker c.with_right.result (λ t. entries t ≡ entries c.deref-then-deref-key-2.result.now.left ++ ((c.deref-then-deref-key-2.result.now.key, c.deref-then-deref-key-2.result.now.item) ∷ entries c.in_ok-right-in-Fork.right))
    (λ t. entries t ≡ with_entry (entries c.args.self.now) c.args.key c.args.item)
    (λ t h. h ∙ ap (λ d. entries d.left ++ ((d.key, d.item) ∷ entries c.in_ok-right-in-Fork.right)) c.deref-then-deref-key-2.ensures
    ∙ ap (λ l. entries f.left ++ ((f.key, f.item) ∷ l)) own
    ∙ sym (put_after c.args.key f.key c.args.item f.item (entries f.left) (entries f.right) asc (subst (λ d. d.key < c.args.key) c.deref-else-key-deref.ensures c.if-deref-key.true))
    ∙ sym (ap (λ t. with_entry (entries t) c.args.key c.args.item) c.in-Fork.is))
    c.with_right.ensures.entries

pub returns-in_ok-copy-in-Fork-clause-entries : goal.returns-in_ok-copy-in-Fork-clause-entries
returns-in_ok-copy-in-Fork-clause-entries g t c holds =
    let f = c.in-Fork.fork.value in
    let asc = subst (λ t. ascends (entries t) ≡ true) c.in-Fork.is holds in
    let low = subst (λ d. d.key ≤ c.args.key) c.deref.ensures c.if-key-deref.false in
    let high = subst (λ d. c.args.key ≤ d.key) c.deref-else-key-deref.ensures c.if-deref-key.false in
    let first = c.in_ok-left-in-Fork-2.ensures.entries ∙ ap (λ d. entries d.left) c.deref-else-deref-key.ensures in
    let last = c.in_ok-copy-in-Fork.ensures.entries ∙ ap (λ d. entries d.right) c.deref-else-deref-key-2.ensures in
    IfOk-weaker c.fork-else-deref-key.result (λ t. entries t ≡ entries c.in_ok-left-in-Fork-2.left ++ ((c.args.key, c.args.item) ∷ entries c.in_ok-copy-in-Fork.field-0))
    (λ t. entries t ≡ with_entry (entries c.args.self.now) c.args.key c.args.item)
    (λ t h. h ∙ ap (λ l. l ++ ((c.args.key, c.args.item) ∷ entries c.in_ok-copy-in-Fork.field-0)) first
    ∙ ap (λ l. entries f.left ++ ((c.args.key, c.args.item) ∷ l)) last
    ∙ sym (put_here c.args.key f.key c.args.item f.item (entries f.left) (entries f.right) asc (omega (arith, low, high)))
    ∙ sym (ap (λ t. with_entry (entries t) c.args.key c.args.item) c.in-Fork.is))
    c.fork-else-deref-key.ensures.entries
