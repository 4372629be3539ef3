use Rattle.std.proofs.Common.{List, ◌++◌, length, take, drop, get_or, ◌-◌, Option, None, sym, ap, ◌∙◌, append-nil}
use Rattle.gv_operands.specs.declared.types.GoType.{GoType}
use Rattle.gv_operands.specs.declared.part.Want.{Want}
use Rattle.gv_gotypes.specs.Statements.{wanted}
use Rattle.gv_gosimple.specs.Lefts.{wants_of}
use Rattle.gv_gosimple.proofs.Splits.{split_head, none_left}
use Rattle.gv_gostmts.specs.Lists.{first_want}
use Rattle.gv_gostmts.proofs.ReturnLemmas.{wants_more}
use Rattle.gv_gostmts.proofs.returns.wants_for.Goals as goal

pub loop-left-init : goal.loop-left-init
loop-left-init c = sym (ap (λ (ws : List Want). ws ++ wants_of (wanted c.args.kinds.now)) c.new-wants.ensures.items)

pub loop-left-preserved : goal.loop-left-preserved
loop-left-preserved c =
    let left = c.loop-left.left.now in
    let p = split_head left None c.in-len1-up.len_at_least in
    wants_more c.loop-left.wants.items c.push.new.self.items (take (length left - 1) (drop 1 left)) (get_or left 0 None) (wants_of (wanted c.args.kinds.now)) c.first_wanted.result
    (c.loop-left.invariant ∙ ap (λ (ks : List (Option GoType)). c.loop-left.wants.items ++ wants_of (wanted ks)) p)
    (c.first_wanted.ensures ∙ ap first_want p) c.in_ok-push.ensures.items

pub returns : goal.returns
returns c =
    let left = c.loop-left.left.now in
    sym (c.loop-left.invariant ∙ ap (λ (ks : List (Option GoType)). c.loop-left.wants.items ++ wants_of (wanted ks)) (none_left left c.in_default.len_below) ∙ append-nil c.loop-left.wants.items)
