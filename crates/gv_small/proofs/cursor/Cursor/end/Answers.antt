use Rattle.std.proofs.Common.{None, Some, sym, ap, ◌∙◌, ◌++◌}
use Rattle.gv_small.proofs.CursorLemmas.{laid_end}
use Rattle.gv_small.specs.Tokens.{semicolon}
use Rattle.gv_small.proofs.cursor.Cursor.end.Goals as goal

pub returns-in-Some-clause-some : goal.returns-in-Some-clause-some
returns-in-Some-clause-some c =
    let self = c.args.self.now in
    laid_end self.go self.pending self.place self.rest.now (Some c.in-Some.place) c.requires (sym c.in-Some.ensures.value)
    ∙ ap (λ ts. semicolon c.in-Some.place ++ ts) (sym (laid_end self.go c.take.new.self self.place self.rest.now None c.requires c.take.ensures.after))

pub returns-in-None-clause-none : goal.returns-in-None-clause-none
returns-in-None-clause-none c =
    let self = c.args.self.now in
    laid_end self.go self.pending self.place self.rest.now None c.requires (sym c.in-None.ensures.value)

pub returns-in-None-clause-kept : goal.returns-in-None-clause-kept
returns-in-None-clause-kept c =
    let self = c.args.self.now in
    laid_end self.go c.take.new.self self.place self.rest.now None c.requires c.take.ensures.after
