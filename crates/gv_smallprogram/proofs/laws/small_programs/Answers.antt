use Rattle.gv_smallprogram.proofs.Runs.{programs_refine}
use Rattle.gv_smallprogram.proofs.Shaped.{well_shaped}
use Rattle.gv_smallprogram.proofs.Sound.{packages_are_sound}
use Rattle.gv_smallprogram.proofs.Written.{refines_written}
use Rattle.gv_smallprogram.proofs.laws.small_programs.Goals as goal

pub returns-clause-sound : goal.returns-clause-sound
returns-clause-sound c = packages_are_sound

pub returns-clause-well_shaped : goal.returns-clause-well_shaped
returns-clause-well_shaped c = well_shaped

pub returns-clause-refine : goal.returns-clause-refine
returns-clause-refine c = programs_refine

pub returns-clause-written : goal.returns-clause-written
returns-clause-written c = refines_written
