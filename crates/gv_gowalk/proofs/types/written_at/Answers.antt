use Rattle.std.proofs.Common.{sym, subst}
use Rattle.gv_gosyntax.specs.declared.tree.GoType.{GoType}
use Rattle.gv_gotyped.specs.Kinds.{IsWritten}
use Rattle.gv_gowalk.proofs.types.written_at.Goals as goal

pub returns-in-Word : goal.returns-in-Word
returns-in-Word g c = let env = g.N.Names.env c.args.names.now in
    subst (λ (t : GoType). IsWritten env t c.written_word.result) (sym c.in-Word.is) (c.written_word.ensures env)

pub returns-in-Slice : goal.returns-in-Slice
returns-in-Slice g c = let env = g.N.Names.env c.args.names.now in
    subst (λ (t : GoType). IsWritten env t c.written_slice.result) (sym c.in-Slice.is) (c.written_slice.ensures env)

pub returns-in-Map : goal.returns-in-Map
returns-in-Map g c = let env = g.N.Names.env c.args.names.now in
    subst (λ (t : GoType). IsWritten env t c.written_map.result) (sym c.in-Map.is) (c.written_map.ensures env)
