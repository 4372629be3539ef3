use Rattle.std.proofs.Common.{◌≡◌, map}
use Rattle.gv_lowerops.specs.Tails.{last_of}
use Rattle.gv_lowerops.specs.declared.last.Last.TheVariants as last
use Rattle.gv_lowermoves.specs.Moves.{target_in}
use Rattle.gv_lowermoves.proofs.Setting.{set_behind}
use Rattle.gv_lowermoves.proofs.sets.set.Goals as goal

pub returns-in_ok-new-in-Reads : goal.returns-in_ok-new-in-Reads
returns-in_ok-new-in-Reads g c = λ old t h.
    let d = g.P.Places.context c.args.places.now in
    let read = last.Reads c.in-Reads.field-0 c.in-Reads.reading in
    let i = c.in-Reads.is in
    let j = h.last in
    let q : last_of read ≡ t.last = cc in
    set_behind d c.args.place old c.args.tail.draft c.in_ok-new-in-Reads.new (map target_in c.args.targets.now) t (last_of read) h.behind q (c.in_ok-new-in-Reads.ensures c.in-Reads.field-0)
