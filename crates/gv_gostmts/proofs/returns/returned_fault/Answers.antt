use Rattle.std.proofs.Common.{List, length, map, take, drop, get_or, ◌-◌, Option, None, sym, ap, ◌∙◌}
use Rattle.gv_operands.specs.declared.types.GoType.{GoType}
use Rattle.gv_operands.specs.declared.part.Want.{Want}
use Rattle.gv_gotypes.specs.Trees.{right_of}
use Rattle.gv_gotypes.specs.Statements.{returned}
use Rattle.gv_gotyped.specs.First.{first_of, earliest}
use Rattle.gv_gosimple.proofs.Splits.{head, none_left}
use Rattle.gv_gostmts.specs.Lists.{right_one}
use Rattle.gv_gostmts.proofs.ReturnLemmas.{split, nothing, some_first, some_rest, walked_more, walked_all}
use Rattle.gv_gostmts.proofs.returns.returned_fault.Goals as goal

pub loop-left-init : goal.loop-left-init
loop-left-init g c =
    let env = g.N.Names.env c.args.names.now in
    record {
      some = c.requires.some;
      rest = λ rs h. record {
        left = rs;
        are = h;
        told = ap (λ (ks : List (Option GoType)). earliest None (first_of (returned env ks (map right_of rs)))) (sym c.results-kinds.ensures);
      };
    }

pub one_fault-requires-clause-some : goal.one_fault-requires-clause-some
one_fault-requires-clause-some g c =
    let left = c.loop-left.left.now in
    some_first c.args.nodes.now left (get_or left 0 0) (take (length left - 1) (drop 1 left)) (head left c.in-len1-up.len_at_least) c.loop-left.invariant.some

pub left_behind-kinds-requires-clause-some : goal.left_behind-kinds-requires-clause-some
left_behind-kinds-requires-clause-some g c =
    let left = c.loop-left.left.now in
    some_first c.args.nodes.now left (get_or left 0 0) (take (length left - 1) (drop 1 left)) (head left c.in-len1-up.len_at_least) c.loop-left.invariant.some

pub loop-left-preserved : goal.loop-left-preserved
loop-left-preserved g c =
    let env = g.N.Names.env c.args.names.now in
    let left = c.loop-left.left.now in
    let kinds = c.loop-left.kinds.now in
    record {
      some = some_rest c.args.nodes.now left (get_or left 0 0) (take (length left - 1) (drop 1 left)) (head left c.in-len1-up.len_at_least) c.loop-left.invariant.some;
      rest = λ rs h.
          let w = c.loop-left.invariant.rest rs h in
          let f = split c.args.nodes.now left (get_or left 0 0) (take (length left - 1) (drop 1 left)) w.left (head left c.in-len1-up.len_at_least) w.are in
          walked_more env c.args.nodes.now left (take (length left - 1) (drop 1 left)) (get_or left 0 0) env.results kinds c.left_behind-kinds.result.now
          c.loop-left.first c.in_ok-own.own c.earliest-first.result rs w f
          (c.in_ok-own.ensures f.of_first f.is ∙ ap (λ (x : Want). first_of (right_one env x (right_of f.of_first))) c.first_wanted-want.ensures)
          (c.left_behind-kinds.ensures f.of_first f.is) c.earliest-first.ensures;
    }

pub returns : goal.returns
returns g c = λ rs h.
    let env = g.N.Names.env c.args.names.now in
    let left = c.loop-left.left.now in
    let w = c.loop-left.invariant.rest rs h in
    walked_all env c.args.nodes.now left env.results c.loop-left.kinds.now c.loop-left.first rs w (nothing c.args.nodes.now left w.left (none_left left c.in_default.len_below) w.are)
