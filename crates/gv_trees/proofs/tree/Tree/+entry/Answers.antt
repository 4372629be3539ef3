use Rattle.std.proofs.Common.{◌≡◌, ◌-◌, true, ◌∷◌, slice_get, Some, ap, sym, ◌∙◌, subst, arith}
use Rattle.gv_trees.specs.Trees.{entries, sized, size_of}
use Rattle.gv_trees.proofs.Sizes.{counted, first_sized, last_sized, at_before, at_between, at_behind}
use Rattle.gv_trees.proofs.tree.Tree.+entry.Goals as goal

pub returns-then-place-before : goal.returns-then-place-before
returns-then-place-before g t c holds =
    let f = c.in-Fork.fork.value in
    let own = subst (λ t. sized t ≡ true) c.in-Fork.is holds in
    let first = first_sized f own in
    let count = c.len-before.ensures ∙ ap (λ d. size_of d.left) c.deref.ensures ∙ counted f.left first in
    c.entry.ensures (subst (λ d. sized d.left ≡ true) (sym c.deref-then-place-before.ensures) first)
    ∙ ap (λ d. slice_get (entries d.left) c.args.place) c.deref-then-place-before.ensures
    ∙ sym (at_before (entries f.left) ((f.key, f.item) ∷ entries f.right) c.args.place (omega (arith, count, c.if-place-before.true)))
    ∙ sym (ap (λ t. slice_get (entries t) c.args.place) c.in-Fork.is)

pub returns-then-place-before-2 : goal.returns-then-place-before-2
returns-then-place-before-2 g t c holds =
    let f = c.in-Fork.fork.value in
    let own = subst (λ t. sized t ≡ true) c.in-Fork.is holds in
    let count = c.len-before.ensures ∙ ap (λ d. size_of d.left) c.deref.ensures ∙ counted f.left (first_sized f own) in
    ap (λ d. Some (d.key, c.deref-then-place-before-2-2.result.now.item)) c.deref-then-place-before-2.ensures
    ∙ ap (λ d. Some (f.key, d.item)) c.deref-then-place-before-2-2.ensures
    ∙ sym (at_between (entries f.left) (entries f.right) (f.key, f.item) c.args.place (c.if-place-before-2.true ∙ count))
    ∙ sym (ap (λ t. slice_get (entries t) c.args.place) c.in-Fork.is)

pub returns-else-place-before-2 : goal.returns-else-place-before-2
returns-else-place-before-2 g t c holds =
    let f = c.in-Fork.fork.value in
    let own = subst (λ t. sized t ≡ true) c.in-Fork.is holds in
    let count = c.len-before.ensures ∙ ap (λ d. size_of d.left) c.deref.ensures ∙ counted f.left (first_sized f own) in
    c.entry-else-place-before-2.ensures (subst (λ d. sized d.right ≡ true) (sym c.deref-else-place-before-2.ensures) (last_sized f own))
    ∙ ap (λ d. slice_get (entries d.right) (c.args.place - c.len-before.result - 1)) c.deref-else-place-before-2.ensures
    ∙ ap (λ n. slice_get (entries f.right) (c.args.place - n - 1)) count
    ∙ sym (at_behind (entries f.left) (entries f.right) (f.key, f.item) c.args.place (omega (arith, count, c.if-place-before.false, c.if-place-before-2.false)))
    ∙ sym (ap (λ t. slice_get (entries t) c.args.place) c.in-Fork.is)
