use Rattle.std.proofs.Common.{map, ap, ◌∙◌}
use Rattle.gv_base.specs.declared.answers.Code.TheVariants.{TooMany}
use Rattle.gv_scriptnames.specs.Names.{names_in}
use Rattle.gv_scriptnames.specs.Scopes.{is_cell_count}
use Rattle.gv_scriptnames.specs.Found.{twice, unless}
use Rattle.gv_scriptfaults.specs.Least.{after}
use Rattle.gv_scriptfaults.proofs.Meeting.{both_noted}
use Rattle.gv_scriptfaults.proofs.Declaring.{declared_one}
use Rattle.gv_scriptfaults.proofs.books.note_book.Goals as goal

pub returns-clause-noted : goal.returns-clause-noted
returns-clause-noted c = λ spec program before holds.
    let text = c.args.text.now in
    let b = c.args.book in
    let names = names_in text (map (λ d. d.name) before) in
    both_noted (twice text spec program names b.name) (unless (is_cell_count b.count.value) b.count.start TooMany) c.args.first.now c.declare.new.first c.want.new.first
    (declared_one text spec program c.new-none.result c.args.names.now names b.name c.args.first.now c.declare.new.first c.new-none.ensures holds c.in_ok-declare.ensures.noted)
    (c.want.ensures ∙ ap (λ h. after c.declare.new.first (unless h b.count.start TooMany)) c.is_cell_count.ensures)
