use Rattle.gv_gowalk.proofs.operands.literal_at.Goals as goal

pub returns : goal.returns
returns g c = c.literal_operand.ensures (g.N.Names.env c.args.names.now) c.value-value.ensures
