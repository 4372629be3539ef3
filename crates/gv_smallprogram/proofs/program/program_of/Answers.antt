use Rattle.std.proofs.Common.{◌≡◌, ◌-◌, arith}
use Rattle.std.proofs.lemmas.Grind.{common_steps}
use Rattle.gv_lang.specs.Plain.{program_of as plain_program_of}
use Rattle.gv_smallprogram.specs.Program.{program_of}
use Rattle.gv_smallprogram.proofs.ProgramLemmas.{is_program, is_shaped}
use Rattle.gv_smallprogram.proofs.program.program_of.Goals as goal

pub returns-clause-ok : goal.returns-clause-ok
returns-clause-ok c =
    is_program c.from_vec.result c.from_vec-2.result c.from_vec-3.result c.args.small.now (grind (arith, common_steps)) (grind (arith, common_steps)) (grind (arith, common_steps))

pub returns-clause-well_shaped : goal.returns-clause-well_shaped
returns-clause-well_shaped c sound =
    let ok : plain_program_of (record { structs = c.from_vec.result; procs = c.from_vec-2.result; recover = 0; ops = c.from_vec-3.result }) ≡ program_of c.args.small.now =
    is_program c.from_vec.result c.from_vec-2.result c.from_vec-3.result c.args.small.now (grind (arith, common_steps)) (grind (arith, common_steps)) (grind (arith, common_steps)) in
    is_shaped (record { structs = c.from_vec.result; procs = c.from_vec-2.result; recover = 0; ops = c.from_vec-3.result }) c.args.small.now ok (grind (arith, common_steps)) sound
