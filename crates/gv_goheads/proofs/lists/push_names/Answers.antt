use Rattle.std.proofs.Common.{[], ◌∷◌, ◌++◌, reverse, sym, ap, ◌∙◌}
use Rattle.std.proofs.lemmas.List.{reverse-append}
use Rattle.gv_gosyntax.specs.declared.generated.gosyntax_acts.Part.TheVariants.{Names as PNames}
use Rattle.gv_goheads.proofs.Splits.{split_more, split_past, split_all, names_there}
use Rattle.gv_goheads.proofs.lists.push_names.Goals as goal

pub loop-before-smaller-in-Name : goal.loop-before-smaller-in-Name
loop-before-smaller-in-Name c = let i = c.loop-before.invariant in (c.in-Name.ensures i.some.whole i.some.part).at_names.before

pub loop-before-preserved-in-Name : goal.loop-before-preserved-in-Name
loop-before-preserved-in-Name c =
    let i = c.loop-before.invariant in
    let nodes = c.args.nodes.now in
    let m = c.in-Name.ensures i.some.whole i.some.part in
    record {
      some = names_there nodes c.loop-before.place c.in-Name.before m.of_names i.some.within m.at_names;
      rest = λ ts h.
          let r = i.rest ts h in
          let n = c.in-Name.ensures r.lefts r.there in
          split_more nodes PNames c.loop-before.place c.in-Name.before (reverse c.loop-before.names.items) (ts ++ reverse c.args.names.now.items) _ n.of_names c.in-Name.name r n.made n.at_names.is
          (ap reverse c.in_ok-push-in-Name.ensures.items ∙ reverse-append c.loop-before.names.items (c.in-Name.name ∷ []));
    }

pub loop-before-smaller-in-PastNames : goal.loop-before-smaller-in-PastNames
loop-before-smaller-in-PastNames c = let i = c.loop-before.invariant in (c.in-PastNames.ensures i.some.whole i.some.part).at_names.before

pub loop-before-preserved-in-PastNames : goal.loop-before-preserved-in-PastNames
loop-before-preserved-in-PastNames c =
    let i = c.loop-before.invariant in
    let nodes = c.args.nodes.now in
    let m = c.in-PastNames.ensures i.some.whole i.some.part in
    record {
      some = names_there nodes c.loop-before.place c.in-PastNames.inner m.of_names i.some.within m.at_names;
      rest = λ ts h.
          let r = i.rest ts h in
          let n = c.in-PastNames.ensures r.lefts r.there in
          split_past nodes PNames c.loop-before.place c.in-PastNames.inner (reverse c.loop-before.names.items) (ts ++ reverse c.args.names.now.items) n.of_names r n.made n.at_names.is;
    }

pub loop-before-smaller : goal.loop-before-smaller
loop-before-smaller c = let i = c.loop-before.invariant in (c.in-InParens.ensures i.some.whole i.some.part).at_names.before

pub loop-before-preserved : goal.loop-before-preserved
loop-before-preserved c =
    let i = c.loop-before.invariant in
    let nodes = c.args.nodes.now in
    let m = c.in-InParens.ensures i.some.whole i.some.part in
    record {
      some = names_there nodes c.loop-before.place c.in-InParens.inner m.of_names i.some.within m.at_names;
      rest = λ ts h.
          let r = i.rest ts h in
          let n = c.in-InParens.ensures r.lefts r.there in
          split_past nodes PNames c.loop-before.place c.in-InParens.inner (reverse c.loop-before.names.items) (ts ++ reverse c.args.names.now.items) n.of_names r n.made n.at_names.is;
    }

pub returns-in-NoNames : goal.returns-in-NoNames
returns-in-NoNames c = λ ts h.
    let r = c.loop-before.invariant.rest ts h in
    sym (split_all c.args.nodes.now PNames c.loop-before.place (reverse c.loop-before.names.items) (ts ++ reverse c.args.names.now.items) r (c.in-NoNames.ensures r.lefts r.there))
