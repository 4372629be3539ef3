use Rattle.std.proofs.Common.{sym, ap, ◌∙◌}
use Rattle.gv_gosyntax.specs.declared.tree.Pointed.{Pointed}
use Rattle.gv_gosyntax.specs.declared.tree.GoType.TheVariants as go_type
use Rattle.gv_gowalk.proofs.Steps.{pointed_there}
use Rattle.gv_gowalk.proofs.types.type_at.Goals as goal

pub pointed_at-pointed-requires-clause-some : goal.pointed_at-pointed-requires-clause-some
pointed_at-pointed-requires-clause-some c =
    let m = c.in-PointersType.ensures c.requires.some.whole c.requires.some.part in
    pointed_there c.args.nodes.now c.args.at c.in-PointersType.to m.of_to c.requires.some.within m.at_to

pub pointed_at-pointed-requires-in-PointerType-clause-some : goal.pointed_at-pointed-requires-in-PointerType-clause-some
pointed_at-pointed-requires-in-PointerType-clause-some c =
    let m = c.in-PointerType.ensures c.requires.some.whole c.requires.some.part in
    pointed_there c.args.nodes.now c.args.at c.in-PointerType.to m.of_to c.requires.some.within m.at_to

pub returns-in-WordType : goal.returns-in-WordType
returns-in-WordType c = λ t h. sym (c.in-WordType.ensures t h)

pub returns-in-SliceType : goal.returns-in-SliceType
returns-in-SliceType c = λ t h. sym (c.in-SliceType.ensures t h)

pub returns-in-PointersType : goal.returns-in-PointersType
returns-in-PointersType c = λ t h.
    let m = c.in-PointersType.ensures t h in
    ap (λ (p : Pointed). go_type.Pointers c.in-PointersType.start p) (c.pointed_at-pointed.ensures m.of_to m.at_to.is) ∙ sym m.made

pub returns-in-MapType : goal.returns-in-MapType
returns-in-MapType c = λ t h. sym (c.in-MapType.ensures t h)

pub returns-in-PointerType : goal.returns-in-PointerType
returns-in-PointerType c = λ t h.
    let m = c.in-PointerType.ensures t h in
    ap (λ (p : Pointed). go_type.Pointer c.in-PointerType.star p) (c.pointed_at-pointed-in-PointerType.ensures m.of_to m.at_to.is) ∙ sym m.made

pub returns-in-BlockType : goal.returns-in-BlockType
returns-in-BlockType c = λ t h. sym (c.in-BlockType.ensures t h)
