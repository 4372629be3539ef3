use Rattle.gv_lines.proofs.LineLemmas.{hex_next}
use Rattle.gv_lines.proofs.bytes.push_hex.Goals as goal

pub loop-byte-preserved : goal.loop-byte-preserved
loop-byte-preserved c =
    hex_next c.args.out.now.items c.loop-byte.out.items c.push_byte.new.out.items c.args.bytes.now c.loop-byte.byte-index 0 c.loop-byte-test.true
    c.loop-byte.invariant c.in_ok-push_byte.ensures
