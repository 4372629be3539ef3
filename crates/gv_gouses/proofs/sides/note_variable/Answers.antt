use Rattle.gv_gouses.proofs.UseLemmas.{then_so}
use Rattle.gv_gouses.proofs.SideUses.{variable_adds}
use Rattle.gv_gouses.proofs.sides.note_variable.Goals as goal

pub returns-in_ok-note-in-Variable : goal.returns-in_ok-note-in-Variable
returns-in_ok-note-in-Variable c = then_so c.note_found.result c.note_found.ensures (λ a.
    variable_adds c.args.uses.now.items c.note.new.uses.items c.note_found.new.uses.items c.args.at c.in-Variable.declared _ c.args.found c.in-Variable.is c.in_ok-note-in-Variable.ensures a)
