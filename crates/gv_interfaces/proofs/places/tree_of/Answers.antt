use Rattle.std.proofs.Common.{◌≡◌, sym, subst}
use Rattle.gv_lex.specs.Reading as lex
use Rattle.gv_specread.specs.declared.tree.SpecTree.{SpecTree}
use Rattle.gv_interfaces.proofs.Deciding.{never_refused, tree_read}
use Rattle.gv_interfaces.proofs.places.tree_of.Goals as goal

pub unreachable-requires : goal.unreachable-requires
unreachable-requires c =
    let text = c.args.text.now in
    let h = c.requires.spelled in
    let read = tree_read text c.deref.result.now (subst (λ ts. lex.IsRead text ts) (sym c.deref.ensures.value) c.in_ok-tokens.ensures) h.tree h.has in
    never_refused (λ (read : SpecTree). read ≡ h.tree) c.in-Err-At.field-0 c.in-Err-At.field-0-0 c.in-Err-At.field-0-1 c.in-Err-At.field-0-is (c.in-Err-At.ensures.only h.tree read)
