use Rattle.std.proofs.Common.{sym, subst}
use Rattle.gv_specread.specs.declared.tree.DisksTree.{DisksTree}
use Rattle.gv_specread.specs.declared.tree.DisksTree.TheVariants as disks
use Rattle.gv_specs.specs.Faults.{HasDisksFault}
use Rattle.gv_specs.specs.Spelled as spelled
use Rattle.gv_specs.specs.Spelled.{AreDisks}
use Rattle.gv_specs.specs.Told.{Adds}
use Rattle.gv_specs.proofs.Noted.{no_disks_noted, one_disk_noted, two_disks_noted}
use Rattle.gv_specs.proofs.reading.read_disks.Goals as goal

pub returns-in-Zero-clause-noted : goal.returns-in-Zero-clause-noted
returns-in-Zero-clause-noted c = subst (λ (t : DisksTree). Adds (HasDisksFault t) c.args.first.now c.args.first.now) (sym c.in-Zero.is) (no_disks_noted c.args.first.now)

pub returns-in-One-clause-noted : goal.returns-in-One-clause-noted
returns-in-One-clause-noted c =
    subst (λ (t : DisksTree). Adds (HasDisksFault t) c.args.first.now c.read_blocks.new.first) (sym c.in-One.is) (one_disk_noted c.in-One.number c.args.first.now c.read_blocks.new.first c.read_blocks.ensures.noted)

pub returns-in-Two-clause-noted : goal.returns-in-Two-clause-noted
returns-in-Two-clause-noted c =
    subst (λ (t : DisksTree). Adds (HasDisksFault t) c.args.first.now c.read_blocks-in-Two.new.first) (sym c.in-Two.is)
    (two_disks_noted c.in-Two.number c.args.first.now c.read_blocks-in-Two.new.first c.read_blocks-in-Two.ensures.noted)

pub returns-in-Zero-clause-read : goal.returns-in-Zero-clause-read
returns-in-Zero-clause-read c = λ e. subst (λ (t : DisksTree). AreDisks t 0 0) (sym c.in-Zero.is) spelled.no_disk

pub returns-in-One-clause-read : goal.returns-in-One-clause-read
returns-in-One-clause-read c = λ e.
    subst (λ (t : DisksTree). AreDisks t 1 c.read_blocks.result) (sym c.in-One.is) (subst (λ n. AreDisks (disks.One c.in-One.number) 1 n) (sym (c.read_blocks.ensures.read e)) (spelled.one_disk c.in-One.number))

pub returns-in-Two-clause-read : goal.returns-in-Two-clause-read
returns-in-Two-clause-read c = λ e.
    subst (λ (t : DisksTree). AreDisks t 2 c.read_blocks-in-Two.result) (sym c.in-Two.is)
    (subst (λ n. AreDisks (disks.Two c.in-Two.number) 2 n) (sym (c.read_blocks-in-Two.ensures.read e)) (spelled.two_disks c.in-Two.number))
