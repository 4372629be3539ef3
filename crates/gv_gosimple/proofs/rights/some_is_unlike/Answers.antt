use Rattle.std.proofs.Common.{length, take, drop, get_or, ◌-◌, None, refl, sym, ◌∙◌}
use Rattle.gv_operands.specs.declared.part.Want.TheVariants.{Unknown}
use Rattle.gv_gosimple.proofs.Splits.{split_head, none_left}
use Rattle.gv_gosimple.proofs.Results.{left_unlike, left_more, left_none, left_no_kinds, first_unlike}
use Rattle.gv_gosimple.proofs.rights.some_is_unlike.Goals as goal

pub loop-wanted-init : goal.loop-wanted-init
loop-wanted-init c = λ ts w. record { left = ts; wanted = w; same = refl }

pub returns-in-empty : goal.returns-in-empty
returns-in-empty c = λ ts w.
    sym (left_no_kinds ts c.args.kinds.now c.loop-wanted.wanted.now c.loop-wanted.given.now (c.loop-wanted.invariant ts w) (none_left c.loop-wanted.given.now c.in-empty.len_below))

pub returns-then-first_is_unlike : goal.returns-then-first_is_unlike
returns-then-first_is_unlike c = λ ts w.
    let wants = c.loop-wanted.wanted.now in let kinds = c.loop-wanted.given.now in
    let more = take (length wants - 1) (drop 1 wants) in let rest = take (length kinds - 1) (drop 1 kinds) in
    let p = split_head wants Unknown c.in-len1-up.len_at_least in let q = split_head kinds None c.in-len1-up-given.len_at_least in
    sym (left_unlike ts c.args.kinds.now wants more kinds rest (get_or wants 0 Unknown) (get_or kinds 0 None) (c.loop-wanted.invariant ts w) p q
    (first_unlike _ wants more kinds rest (get_or wants 0 Unknown) (get_or kinds 0 None) p q (sym c.first_is_unlike.ensures ∙ c.if-first_is_unlike.true)))

pub loop-wanted-preserved : goal.loop-wanted-preserved
loop-wanted-preserved c = λ ts w.
    let wants = c.loop-wanted.wanted.now in let kinds = c.loop-wanted.given.now in
    let more = take (length wants - 1) (drop 1 wants) in let rest = take (length kinds - 1) (drop 1 kinds) in
    let p = split_head wants Unknown c.in-len1-up.len_at_least in let q = split_head kinds None c.in-len1-up-given.len_at_least in
    left_more ts c.args.kinds.now wants more kinds rest (get_or wants 0 Unknown) (get_or kinds 0 None) (c.loop-wanted.invariant ts w) p q
    (first_unlike _ wants more kinds rest (get_or wants 0 Unknown) (get_or kinds 0 None) p q (sym c.first_is_unlike.ensures ∙ c.if-first_is_unlike.false))

pub returns : goal.returns
returns c = λ ts w. sym (left_none ts c.args.kinds.now c.loop-wanted.wanted.now c.loop-wanted.given.now (c.loop-wanted.invariant ts w) (none_left c.loop-wanted.wanted.now c.in_default.len_below))
