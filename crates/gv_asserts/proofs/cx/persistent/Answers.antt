use Rattle.std.proofs.Common.{sym, ◌∙◌}
use Rattle.gv_asserts.specs.declared.quality.Quality.TheVariants as quality
use Rattle.gv_asserts.proofs.Noted.{told_by}
use Rattle.gv_asserts.proofs.cx.persistent.Goals as goal

pub returns : goal.returns
returns c =
    let cx = c.args.cx.now in
    let told = told_by quality.Persistent cx.decls.now.preds _ cx.store c.args.atom.now cx.earlier (c.as_slice.ensures.value ∙ cx.exact) in
    (λ e. told.0 (sym c.atom_keeps.ensures ∙ e), λ k. c.atom_keeps.ensures ∙ told.1 k)
