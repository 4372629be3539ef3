use Rattle.std.proofs.Common.{◌≡◌, ℕ, ◌<◌, ◌+◌, ◌-◌, Some, length, ap, subst, ◌∙◌, arith}
use Rattle.std.specs.Prelude.{take, drop}
use Rattle.gv_scriptsyntax.specs.Nodes.{Parts, built, first_of}
use Rattle.gv_scriptsyntax.proofs.Nodes.{step_back, parts_left, drop_more, within_end}
use Rattle.gv_scriptsyntax.proofs.building.start_of.Goals as goal

pub overflow_sub-start : goal.overflow_sub-start
overflow_sub-start c = let l = parts_left c.args.text.now c.args.nodes.now c.loop.start c.args.end c.args.count c.loop.counter c.requires.enough c.loop.invariant.kept c.loop-test.true in omega (arith, l)

pub first_of-start-requires : goal.first_of-start-requires
first_of-start-requires c =
    let l = parts_left c.args.text.now c.args.nodes.now c.loop.start c.args.end c.args.count c.loop.counter c.requires.enough c.loop.invariant.kept c.loop-test.true in
    let k = c.loop.invariant.within in
    let m = c.requires.within in
    omega (arith, l, k, m)

pub loop-preserved : goal.loop-preserved
loop-preserved c =
    let l = parts_left c.args.text.now c.args.nodes.now c.loop.start c.args.end c.args.count c.loop.counter c.requires.enough c.loop.invariant.kept c.loop-test.true in
    let k = c.loop.invariant.within in
    let m = c.requires.within in
    let at : c.loop.start - 1 < length c.args.nodes.now = omega (arith, l, k, m) in
    let (node, g) = within_end c.args.text.now c.args.nodes.now (c.loop.start - 1) at in
    let q : c.first_of-start.result ≡ first_of (c.loop.start - 1) node = c.first_of-start.ensures node g in
    let one = c.requires.formed (c.loop.start - 1) node g in
    let s : first_of (c.loop.start - 1) node < (c.loop.start - 1) + 1 = one.some in
    record {
      within = omega (arith, l, k, q, s);
      kept = λ parts e.
          rw q (step_back c.args.text.now c.args.nodes.now c.loop.start node (drop c.loop.counter parts) c.requires.formed l g (c.loop.invariant.kept parts e)
          ∙ ap (λ (ps : Parts). Some ps) (drop_more c.args.text.now c.loop.counter parts));
    }

pub returns-clause-kept : goal.returns-clause-kept
returns-clause-kept c = λ parts e.
    let a = c.loop-test.false in
    let b = c.loop.auto.counter-end in
    let q : c.loop.counter ≡ c.args.count = omega (arith, a, b) in
    subst (λ (n : ℕ). built c.args.text.now (take c.loop.start c.args.nodes.now) ≡ Some (drop n parts)) q (c.loop.invariant.kept parts e)
