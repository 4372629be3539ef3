use Rattle.std.proofs.Common.{length, take, drop, ◌-◌, sym, subst}
use Rattle.case_table.proofs.EscapeLemmas.{IsReadUpTo, read_whole, plain_more, escape_more}
use Rattle.case_table.proofs.escape.unescaped.Goals as goal

pub loop-left-preserved-then-first-eq92 : goal.loop-left-preserved-then-first-eq92
loop-left-preserved-then-first-eq92 c =
    let byte = c.in_ok-byte.byte in
    subst (λ done. IsReadUpTo c.args.text.now c.in_ok-byte.behind.now done) (sym c.in_ok-push.ensures.items)
    (escape_more c.args.text.now c.loop-left.left.now c.in_ok-byte.behind.now c.loop-left.bytes.items byte c.loop-left.invariant c.in-len1-up.len_at_least
    c.if-first-eq92.true c.in_ok-byte.ensures)

pub loop-left-preserved : goal.loop-left-preserved
loop-left-preserved c =
    let left = c.loop-left.left.now in
    subst (λ done. IsReadUpTo c.args.text.now (take (length left - 1) (drop 1 left)) done) (sym c.in_ok-push-2.ensures.items)
    (plain_more c.args.text.now left c.loop-left.bytes.items c.loop-left.invariant c.in-len1-up.len_at_least c.if-first-eq92.false)

pub returns : goal.returns
returns c = read_whole c.args.text.now c.loop-left.left.now c.loop-left.bytes.items c.loop-left.invariant c.in_default.len_below
