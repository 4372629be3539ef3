use Rattle.std.proofs.Common.{List, ◌++◌, length, map, take, drop, get_or, ◌-◌, refl, sym, ap, subst, ◌∙◌, append-nil}
use Rattle.gv_gosyntax.specs.declared.tree.Expr.{Expr as DeclaredExpr}
use Rattle.gv_operands.specs.declared.part.Want.{Want}
use Rattle.gv_gotypes.specs.Trees.{expr_of}
use Rattle.gv_gotypes.specs.Assigning.{targets_by, target_findings}
use Rattle.gv_gotyped.specs.First.{first_of, earliest}
use Rattle.gv_gotyped.proofs.Firsts.{earliest_none}
use Rattle.gv_gosimple.specs.Lefts.{by_side, wants_of}
use Rattle.gv_gosimple.proofs.Splits.{head, none_left, split, nothing, some_first, some_rest}
use Rattle.gv_gosimple.proofs.SideLemmas.{Walked, walked_more}
use Rattle.gv_gosimple.proofs.targets.targets_at.Goals as goal

pub loop-left-init : goal.loop-left-init
loop-left-init g c =
    let f = by_side (g.N.Names.env c.args.names.now) c.args.side in
    record {
      some = c.requires.some;
      rest = λ es h. record {
        left = es;
        are = h;
        walked = record { wanted = sym (ap (λ (ws : List Want). ws ++ wants_of (targets_by f (map expr_of es))) c.new-wants.ensures.items); told = refl };
      };
    }

pub side_target_at-target-requires-clause-some : goal.side_target_at-target-requires-clause-some
side_target_at-target-requires-clause-some g c =
    let left = c.loop-left.left.now in
    some_first c.args.nodes.now left (get_or left 0 0) (take (length left - 1) (drop 1 left)) (head left c.in-len1-up.len_at_least) c.loop-left.invariant.some

pub loop-left-preserved : goal.loop-left-preserved
loop-left-preserved g c =
    let f = by_side (g.N.Names.env c.args.names.now) c.args.side in
    let left = c.loop-left.left.now in
    let t = c.side_target_at-target in
    record {
      some = some_rest c.args.nodes.now left (get_or left 0 0) (take (length left - 1) (drop 1 left)) (head left c.in-len1-up.len_at_least) c.loop-left.invariant.some;
      rest = λ es h.
          let r = c.loop-left.invariant.rest es h in
          let s = split c.args.nodes.now left (get_or left 0 0) (take (length left - 1) (drop 1 left)) r.left (head left c.in-len1-up.len_at_least) r.are in
          let k = t.ensures s.of_first s.is in
          record {
            left = s.of_rest;
            are = s.are;
            walked = walked_more f c.loop-left.wants.items c.push.new.self.items c.loop-left.first t.result.first c.earliest-first.result t.result.wants
                (expr_of s.of_first) (map expr_of s.of_rest) (map expr_of es)
                (subst (λ (xs : List DeclaredExpr). Walked f c.loop-left.wants.items c.loop-left.first (map expr_of xs) (map expr_of es)) s.same r.walked)
                k.wants k.first c.in_ok-push.ensures.items c.earliest-first.ensures;
          };
    }

pub returns : goal.returns
returns g c = λ es h.
    let f = by_side (g.N.Names.env c.args.names.now) c.args.side in
    let left = c.loop-left.left.now in
    let r = c.loop-left.invariant.rest es h in
    let q = nothing c.args.nodes.now left r.left (none_left left c.in_default.len_below) r.are in
    record {
      wants = sym (r.walked.wanted
          ∙ ap (λ (xs : List DeclaredExpr). c.loop-left.wants.items ++ wants_of (targets_by f (map expr_of xs))) q ∙ append-nil c.loop-left.wants.items);
      first = sym (r.walked.told
          ∙ ap (λ (xs : List DeclaredExpr). earliest c.loop-left.first (first_of (target_findings (targets_by f (map expr_of xs))))) q ∙ earliest_none c.loop-left.first);
    }
