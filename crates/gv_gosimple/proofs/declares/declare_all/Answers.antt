use Rattle.std.proofs.Common.{List, length, map, take, drop, get_or, ◌-◌, refl, sym, ap, ◌∙◌}
use Rattle.gv_gosyntax.specs.declared.tree.Expr.{Expr as DeclaredExpr}
use Rattle.gv_gotypes.specs.Trees.{expr_of}
use Rattle.gv_gotypes.specs.Assigning.{declaring}
use Rattle.gv_gosimple.specs.Given.{padded}
use Rattle.gv_gosimple.proofs.Splits.{head, none_left, split, nothing, some_first, some_rest}
use Rattle.gv_gosimple.proofs.Declared.{behind_more}
use Rattle.gv_gosimple.proofs.declares.declare_all.Goals as goal

pub loop-left-init : goal.loop-left-init
loop-left-init g c = record { some = c.requires.some; outer = refl; rest = λ es h. record { left = es; are = h; same = refl } }

pub declare_left-requires-clause-some : goal.declare_left-requires-clause-some
declare_left-requires-clause-some g c =
    let left = c.loop-left.left.now in
    some_first c.args.nodes.now left (get_or left 0 0) (take (length left - 1) (drop 1 left)) (head left c.in-len1-up.len_at_least) c.loop-left.invariant.some

pub loop-left-preserved : goal.loop-left-preserved
loop-left-preserved g c =
    let left = c.loop-left.left.now in
    record {
      some = some_rest c.args.nodes.now left (get_or left 0 0) (take (length left - 1) (drop 1 left)) (head left c.in-len1-up.len_at_least) c.loop-left.invariant.some;
      outer = c.in_ok-declare_left.ensures.outer ∙ c.loop-left.invariant.outer;
      rest = λ es h.
          let r = c.loop-left.invariant.rest es h in
          let s = split c.args.nodes.now left (get_or left 0 0) (take (length left - 1) (drop 1 left)) r.left (head left c.in-len1-up.len_at_least) r.are in
          behind_more (g.N.Names.env c.args.names.now) (g.N.Names.env c.loop-left.names) (g.N.Names.env c.declare_left.new.names) c.args.nodes.now left
          (take (length left - 1) (drop 1 left)) (get_or left 0 0) c.args.kinds.now c.loop-left.given.now c.next_kind-kind.result.1.now c.next_kind-kind.result.0 es r s
          (c.next_kind-kind.ensures (expr_of s.of_first) (map expr_of s.of_rest)) (c.in_ok-declare_left.ensures.env s.of_first s.is);
    }

pub returns-clause-env : goal.returns-clause-env
returns-clause-env g c = λ es h.
    let now = g.N.Names.env c.loop-left.names in
    let left = c.loop-left.left.now in
    let r = c.loop-left.invariant.rest es h in
    let q = nothing c.args.nodes.now left r.left (none_left left c.in_default.len_below) r.are in
    sym (r.same ∙ ap (λ (xs : List DeclaredExpr). declaring now (map expr_of xs) (padded (map expr_of xs) c.loop-left.given.now)) q)

pub returns-clause-outer : goal.returns-clause-outer
returns-clause-outer g c = c.loop-left.invariant.outer
