use Rattle.std.proofs.Common.{Some, None, sym, ap, ◌∙◌, arith}
use Rattle.std.specs.Prelude.{option_map}
use Rattle.gv_operands.specs.declared.part.Part.{Part}
use Rattle.gv_gotypes.specs.Trees.{expr_of}
use Rattle.gv_gotypes.specs.Assigning.{is_map_class, is_map_read}
use Rattle.gv_gowalk.proofs.Trees.{constant_of, name_of, paren_of, convert_of, select_of, index_of, slice_of, unary_of, binary_of}
use Rattle.gv_gowalk.proofs.Steps.{expr_there}
use Rattle.gv_gosimple.proofs.rights.+map_read_at.Goals as goal

pub map_read_at-requires : goal.map_read_at-requires
map_read_at-requires g t c = λ κs outlives.
    let m = c.in-Paren.ensures c.requires.some.whole c.requires.some.part in
    let l = m.at_inner.before in
    let d = c.decreases in
    (omega (arith, l, d), (outlives, (c.requires.formed, expr_there c.args.nodes.now c.args.at c.in-Paren.inner m.of_inner c.requires.some.within m.at_inner)))

pub operand_at-whole-requires-clause-some : goal.operand_at-whole-requires-clause-some
operand_at-whole-requires-clause-some g t c =
    let m = c.in-Index.ensures c.requires.some.whole c.requires.some.part in
    expr_there c.args.nodes.now c.args.at c.in-Index.inner m.of_inner c.requires.some.within m.at_inner

pub returns-in-Paren : goal.returns-in-Paren
returns-in-Paren g t c = λ e h.
    let m = c.in-Paren.ensures e h in
    c.map_read_at.ensures m.of_inner m.at_inner.is ∙ sym (ap (is_map_read (g.N.Names.env c.args.names.now)) (ap expr_of m.made ∙ paren_of c.in-Paren.start m.of_inner))

pub returns-in-Index : goal.returns-in-Index
returns-in-Index g t c = λ e h.
    let m = c.in-Index.ensures e h in
    let k = c.operand_at-whole.ensures m.of_inner m.at_inner.is in
    c.is_map.ensures ∙ ap (λ (p : Part). option_map is_map_class p.class) k.part
    ∙ sym (ap (is_map_read (g.N.Names.env c.args.names.now)) (ap expr_of m.made ∙ index_of m.of_inner m.of_index))

pub returns-in-Constant : goal.returns-in-Constant
returns-in-Constant g t c = λ e h.
    let m = c.in-Constant.ensures e h in sym (ap (is_map_read (g.N.Names.env c.args.names.now)) (ap expr_of m ∙ constant_of c.in-Constant.token))

pub returns-in-Operand : goal.returns-in-Operand
returns-in-Operand g t c = λ e h.
    let m = c.in-Operand.ensures e h in sym (ap (is_map_read (g.N.Names.env c.args.names.now)) (ap expr_of m ∙ name_of c.in-Operand.name))

pub returns-in-Convert : goal.returns-in-Convert
returns-in-Convert g t c = λ e h.
    let m = c.in-Convert.ensures e h in sym (ap (is_map_read (g.N.Names.env c.args.names.now)) (ap expr_of m.made ∙ convert_of c.in-Convert.word m.of_inner))

pub returns-in-Select : goal.returns-in-Select
returns-in-Select g t c = λ e h.
    let m = c.in-Select.ensures e h in sym (ap (is_map_read (g.N.Names.env c.args.names.now)) (ap expr_of m.made ∙ select_of m.of_inner c.in-Select.name))

pub returns-in-SliceTo : goal.returns-in-SliceTo
returns-in-SliceTo g t c = λ e h.
    let m = c.in-SliceTo.ensures e h in sym (ap (is_map_read (g.N.Names.env c.args.names.now)) (ap expr_of m.made ∙ slice_of m.of_inner None m.of_high))

pub returns-in-SliceFrom : goal.returns-in-SliceFrom
returns-in-SliceFrom g t c = λ e h.
    let m = c.in-SliceFrom.ensures e h in sym (ap (is_map_read (g.N.Names.env c.args.names.now)) (ap expr_of m.made ∙ slice_of m.of_inner (Some m.of_low) m.of_high))

pub returns-in-Unary : goal.returns-in-Unary
returns-in-Unary g t c = λ e h.
    let m = c.in-Unary.ensures e h in sym (ap (is_map_read (g.N.Names.env c.args.names.now)) (ap expr_of m.made ∙ unary_of c.in-Unary.sign m.of_inner))

pub returns-in-Binary : goal.returns-in-Binary
returns-in-Binary g t c = λ e h.
    let m = c.in-Binary.ensures e h in sym (ap (is_map_read (g.N.Names.env c.args.names.now)) (ap expr_of m.made ∙ binary_of m.of_left c.in-Binary.sign m.of_right))
