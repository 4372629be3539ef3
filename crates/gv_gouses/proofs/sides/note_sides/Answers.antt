use Rattle.std.proofs.Common.{length, take, drop, get_or, ◌-◌, refl}
use Rattle.gv_gosimple.specs.Lefts.{by_side}
use Rattle.gv_gosimple.proofs.Splits.{head, none_left, split, nothing, some_first, some_rest}
use Rattle.gv_gouses.proofs.SideUses.{sided_more, sided_all}
use Rattle.gv_gouses.proofs.sides.note_sides.Goals as goal

pub loop-left-init : goal.loop-left-init
loop-left-init g c = record { some = c.requires.some; rest = λ es h. record { left = es; are = h; same = refl } }

pub note_side-requires-clause-some : goal.note_side-requires-clause-some
note_side-requires-clause-some g c =
    let left = c.loop-left.left.now in
    some_first c.args.nodes.now left (get_or left 0 0) (take (length left - 1) (drop 1 left)) (head left c.in-len1-up.len_at_least) c.loop-left.invariant.some

pub loop-left-preserved : goal.loop-left-preserved
loop-left-preserved g c =
    let left = c.loop-left.left.now in
    record {
      some = some_rest c.args.nodes.now left (get_or left 0 0) (take (length left - 1) (drop 1 left)) (head left c.in-len1-up.len_at_least) c.loop-left.invariant.some;
      rest = λ es h.
          let w = c.loop-left.invariant.rest es h in
          let f = split c.args.nodes.now left (get_or left 0 0) (take (length left - 1) (drop 1 left)) w.left (head left c.in-len1-up.len_at_least) w.are in
          sided_more (by_side (g.N.Names.env c.args.names.now) c.args.side) c.args.nodes.now left (take (length left - 1) (drop 1 left)) (get_or left 0 0) c.args.uses.now.items c.loop-left.uses.items
          c.note_side.new.uses.items es w f (c.in_ok-note_side.ensures f.of_first f.is);
    }

pub returns : goal.returns
returns g c = λ es h.
    let left = c.loop-left.left.now in
    let w = c.loop-left.invariant.rest es h in
    sided_all (by_side (g.N.Names.env c.args.names.now) c.args.side) c.args.nodes.now left c.args.uses.now.items c.loop-left.uses.items es w (nothing c.args.nodes.now left w.left (none_left left c.in_default.len_below) w.are)
