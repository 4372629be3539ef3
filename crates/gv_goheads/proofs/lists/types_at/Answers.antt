use Rattle.std.proofs.Common.{[], ◌∷◌, reverse, sym, ap, ◌∙◌}
use Rattle.std.proofs.lemmas.List.{reverse-append}
use Rattle.gv_gosyntax.specs.declared.generated.gosyntax_acts.Part.TheVariants.{Types as PTypes}
use Rattle.gv_goheads.proofs.Splits.{split_more, split_past, split_all, types_there, type_there}
use Rattle.gv_goheads.proofs.lists.types_at.Goals as goal

pub type_at-requires-clause-some : goal.type_at-requires-clause-some
type_at-requires-clause-some c =
    let i = c.loop-types.invariant in
    let m = c.in-Type.ensures i.some.whole i.some.part in
    type_there c.args.nodes.now c.loop-types.place c.in-Type.kind m.of_kind i.some.within m.at_kind

pub loop-types-smaller-in-Type : goal.loop-types-smaller-in-Type
loop-types-smaller-in-Type c = let i = c.loop-types.invariant in (c.in-Type.ensures i.some.whole i.some.part).at_types.before

pub loop-types-preserved-in-Type : goal.loop-types-preserved-in-Type
loop-types-preserved-in-Type c =
    let i = c.loop-types.invariant in
    let nodes = c.args.nodes.now in
    let m = c.in-Type.ensures i.some.whole i.some.part in
    record {
      some = types_there nodes c.loop-types.place c.in-Type.types m.of_types i.some.within m.at_types;
      rest = λ ts h.
          let r = i.rest ts h in
          let n = c.in-Type.ensures r.lefts r.there in
          split_more nodes PTypes c.loop-types.place c.in-Type.types (reverse c.loop-types.kinds.items) ts _ n.of_types n.of_kind r n.made n.at_types.is
          (ap reverse c.in_ok-push-in-Type.ensures.items ∙ reverse-append c.loop-types.kinds.items (c.type_at.result ∷ []) ∙ ap (λ t. t ∷ reverse c.loop-types.kinds.items) (c.type_at.ensures n.of_kind n.at_kind.is));
    }

pub loop-types-smaller : goal.loop-types-smaller
loop-types-smaller c = let i = c.loop-types.invariant in (c.in-PastTypes.ensures i.some.whole i.some.part).at_types.before

pub loop-types-preserved : goal.loop-types-preserved
loop-types-preserved c =
    let i = c.loop-types.invariant in
    let nodes = c.args.nodes.now in
    let m = c.in-PastTypes.ensures i.some.whole i.some.part in
    record {
      some = types_there nodes c.loop-types.place c.in-PastTypes.types m.of_types i.some.within m.at_types;
      rest = λ ts h.
          let r = i.rest ts h in
          let n = c.in-PastTypes.ensures r.lefts r.there in
          split_past nodes PTypes c.loop-types.place c.in-PastTypes.types (reverse c.loop-types.kinds.items) ts n.of_types r n.made n.at_types.is;
    }

pub returns : goal.returns
returns c = λ ts h.
    let r = c.loop-types.invariant.rest ts h in
    c.reverse.ensures.items ∙ sym (split_all c.args.nodes.now PTypes c.loop-types.place (reverse c.loop-types.kinds.items) ts r (c.in-NoTypes.ensures r.lefts r.there))
