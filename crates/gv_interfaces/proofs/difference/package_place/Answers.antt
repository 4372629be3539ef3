use Rattle.std.proofs.Common.{sym, ◌∙◌}
use Rattle.gv_interfaces.proofs.Standing.{never_absent}
use Rattle.gv_interfaces.proofs.difference.package_place.Goals as goal

pub unreachable-requires : goal.unreachable-requires
unreachable-requires c =
    never_absent c.args.text.now c.args.name.now c.args.package.now c.requires.spelled c.requires.there (sym c.place_in_package.ensures ∙ c.in-None.is)
