use Rattle.std.proofs.Common.{[], ◌∷◌, reverse, sym, ap, ◌∙◌}
use Rattle.std.proofs.lemmas.List.{reverse-append}
use Rattle.gv_gosyntax.specs.declared.generated.gosyntax_acts.Part.TheVariants.{Groups as PGroups}
use Rattle.gv_goheads.proofs.Splits.{split_more, split_past, split_all, groups_there, names_there, type_there}
use Rattle.gv_goheads.proofs.lists.groups_at.Goals as goal

pub group_at-requires-clause-names : goal.group_at-requires-clause-names
group_at-requires-clause-names c =
    let i = c.loop-groups.invariant in
    let m = c.in-Group.ensures i.some.whole i.some.part in
    names_there c.args.nodes.now c.loop-groups.place c.in-Group.names m.of_names i.some.within m.at_names

pub group_at-requires-clause-kind : goal.group_at-requires-clause-kind
group_at-requires-clause-kind c =
    let i = c.loop-groups.invariant in
    let m = c.in-Group.ensures i.some.whole i.some.part in
    type_there c.args.nodes.now c.loop-groups.place c.in-Group.kind m.of_kind i.some.within m.at_kind

pub loop-groups-smaller-in-Group : goal.loop-groups-smaller-in-Group
loop-groups-smaller-in-Group c = let i = c.loop-groups.invariant in (c.in-Group.ensures i.some.whole i.some.part).at_groups.before

pub loop-groups-preserved-in-Group : goal.loop-groups-preserved-in-Group
loop-groups-preserved-in-Group c =
    let i = c.loop-groups.invariant in
    let nodes = c.args.nodes.now in
    let m = c.in-Group.ensures i.some.whole i.some.part in
    record {
      some = groups_there nodes c.loop-groups.place c.in-Group.groups m.of_groups i.some.within m.at_groups;
      rest = λ gs h.
          let r = i.rest gs h in
          let n = c.in-Group.ensures r.lefts r.there in
          split_more nodes PGroups c.loop-groups.place c.in-Group.groups (reverse c.loop-groups.done.items) gs _ n.of_groups (record { names = n.of_names; kind = n.of_kind }) r n.made n.at_groups.is
          (ap reverse c.in_ok-push-in-Group.ensures.items ∙ reverse-append c.loop-groups.done.items (c.in_ok-group-in-Group.group ∷ [])
          ∙ ap (λ g. g ∷ reverse c.loop-groups.done.items) (c.in_ok-group-in-Group.ensures n.of_names n.of_kind n.at_names.is n.at_kind.is));
    }

pub loop-groups-smaller : goal.loop-groups-smaller
loop-groups-smaller c = let i = c.loop-groups.invariant in (c.in-PastGroups.ensures i.some.whole i.some.part).at_groups.before

pub loop-groups-preserved : goal.loop-groups-preserved
loop-groups-preserved c =
    let i = c.loop-groups.invariant in
    let nodes = c.args.nodes.now in
    let m = c.in-PastGroups.ensures i.some.whole i.some.part in
    record {
      some = groups_there nodes c.loop-groups.place c.in-PastGroups.groups m.of_groups i.some.within m.at_groups;
      rest = λ gs h.
          let r = i.rest gs h in
          let n = c.in-PastGroups.ensures r.lefts r.there in
          split_past nodes PGroups c.loop-groups.place c.in-PastGroups.groups (reverse c.loop-groups.done.items) gs n.of_groups r n.made n.at_groups.is;
    }

pub returns : goal.returns
returns c = λ gs h.
    let r = c.loop-groups.invariant.rest gs h in
    c.reverse.ensures.items ∙ sym (split_all c.args.nodes.now PGroups c.loop-groups.place (reverse c.loop-groups.done.items) gs r (c.in-NoGroups.ensures r.lefts r.there))
