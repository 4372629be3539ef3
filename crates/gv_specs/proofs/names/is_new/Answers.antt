use Rattle.std.proofs.Common.{is_some, is_none, sym, ap, ◌∙◌}
use Rattle.gv_atomic.specs.Typed.{is_free}
use Rattle.gv_specs.proofs.Scopes.{new_of, never_new, turned_round}
use Rattle.gv_specs.proofs.names.is_new.Goals as goal

pub returns-then-not-is_free : goal.returns-then-not-is_free
returns-then-not-is_free c = sym (never_new c.args.vars.now c.args.name.now (sym (c.is_free.ensures ∙ ap is_free c.as_slice.ensures) ∙ c.if-not-is_free.true))

pub returns : goal.returns
returns c =
    turned_round (is_some c.sort_of.result) c.is_none.result c.is_none.ensures ∙ ap is_none c.sort_of.ensures ∙ new_of c.args.vars.now c.args.name.now (sym (c.is_free.ensures ∙ ap is_free c.as_slice.ensures) ∙ c.if-not-is_free.false)
