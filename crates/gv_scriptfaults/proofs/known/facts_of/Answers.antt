use Rattle.std.proofs.Common.{◌^◌, ◌-◌, List, map, min, ap, subst, ◌∙◌}
use Rattle.gv_lang.specs.declared.program.Local.{Local}
use Rattle.gv_lang.specs.declared.cmd.Cmd.{Cmd}
use Rattle.gv_lang.specs.Plain.{body_of}
use Rattle.gv_lang.specs.Graph.{size}
use Rattle.gv_scriptfaults.specs.Tables.{Holds}
use Rattle.gv_scriptfaults.proofs.known.facts_of.Goals as goal

pub returns : goal.returns
returns c = record {
  points = c.points_of.ensures ∙ ap (λ (cs : List Cmd). min (size (body_of cs)) (2 ^ 64 - 1)) c.as_slice.ensures;
  locals = subst (λ (ls : List Local). Holds (map (λ (l : Local). l.name) ls) c.in_ok-locals_of.field-0) c.as_slice-2.ensures c.in_ok-locals_of.ensures;
  params = subst (λ (ls : List Local). Holds (map (λ (l : Local). l.name) ls) c.in_ok-locals_of-2.field-0) c.params_of.ensures c.in_ok-locals_of-2.ensures;
  results = c.len.ensures;
}
