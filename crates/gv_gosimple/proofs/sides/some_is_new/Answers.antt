use Rattle.std.proofs.Common.{List, length, map, take, drop, get_or, ◌-◌, refl, sym, ap, ◌∙◌}
use Rattle.gv_gosyntax.specs.declared.tree.Expr.{Expr as DeclaredExpr}
use Rattle.gv_gotypes.specs.Trees.{expr_of}
use Rattle.gv_gotypes.specs.Assigning.{some_is, is_new}
use Rattle.gv_gosimple.proofs.Splits.{head, none_left, split, nothing, some_first, some_rest}
use Rattle.gv_gosimple.proofs.SideLemmas.{or_first, or_rest}
use Rattle.gv_gosimple.proofs.sides.some_is_new.Goals as goal

pub loop-left-init : goal.loop-left-init
loop-left-init g c = record { some = c.requires.some; rest = λ es h. record { left = es; are = h; same = refl } }

pub is_new_at-requires-clause-some : goal.is_new_at-requires-clause-some
is_new_at-requires-clause-some g c =
    let left = c.loop-left.left.now in
    some_first c.args.nodes.now left (get_or left 0 0) (take (length left - 1) (drop 1 left)) (head left c.in-len1-up.len_at_least) c.loop-left.invariant.some

pub returns-then-is_new_at : goal.returns-then-is_new_at
returns-then-is_new_at g c = λ es h.
    let env = g.N.Names.env c.args.names.now in
    let left = c.loop-left.left.now in
    let r = c.loop-left.invariant.rest es h in
    let s = split c.args.nodes.now left (get_or left 0 0) (take (length left - 1) (drop 1 left)) r.left (head left c.in-len1-up.len_at_least) r.are in
    sym (r.same ∙ ap (λ (xs : List DeclaredExpr). some_is (is_new env) (map expr_of xs)) s.same
    ∙ or_first (is_new env) (expr_of s.of_first) (map expr_of s.of_rest) (sym (c.is_new_at.ensures s.of_first s.is) ∙ c.if-is_new_at.true))

pub loop-left-preserved : goal.loop-left-preserved
loop-left-preserved g c =
    let env = g.N.Names.env c.args.names.now in
    let left = c.loop-left.left.now in
    record {
      some = some_rest c.args.nodes.now left (get_or left 0 0) (take (length left - 1) (drop 1 left)) (head left c.in-len1-up.len_at_least) c.loop-left.invariant.some;
      rest = λ es h.
          let r = c.loop-left.invariant.rest es h in
          let s = split c.args.nodes.now left (get_or left 0 0) (take (length left - 1) (drop 1 left)) r.left (head left c.in-len1-up.len_at_least) r.are in
          record {
            left = s.of_rest;
            are = s.are;
            same = r.same ∙ ap (λ (xs : List DeclaredExpr). some_is (is_new env) (map expr_of xs)) s.same
                ∙ or_rest (is_new env) (expr_of s.of_first) (map expr_of s.of_rest) (sym (c.is_new_at.ensures s.of_first s.is) ∙ c.if-is_new_at.false);
          };
    }

pub returns : goal.returns
returns g c = λ es h.
    let env = g.N.Names.env c.args.names.now in
    let left = c.loop-left.left.now in
    let r = c.loop-left.invariant.rest es h in
    sym (r.same ∙ ap (λ (xs : List DeclaredExpr). some_is (is_new env) (map expr_of xs)) (nothing c.args.nodes.now left r.left (none_left left c.in_default.len_below) r.are))
