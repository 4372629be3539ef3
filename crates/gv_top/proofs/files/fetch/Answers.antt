use Rattle.std.proofs.Common.{◌≤◌, length, arith}
use Rattle.gv_top.specs.Files.{outside, longest}
use Rattle.gv_top.proofs.FilesLemmas.{fetched_text}
use Rattle.gv_top.proofs.files.fetch.Goals as goal

pub returns-in_ok-note-in-Ok-clause-text : goal.returns-in_ok-note-in-Ok-clause-text
returns-in_ok-note-in-Ok-clause-text g c =
    let text = c.in-Ok.text in
    let few : length text.items ≤ longest = omega arith in
    fetched_text (λ v. v.items) (outside (g.F.Files.held c.args.files.now)) c.args.name.now text c.as_slice.result.now c.args.format.now c.note.new.self c.in-Ok.ensures.bytes few
    c.in_ok-note-in-Ok.ensures.ok c.as_slice.ensures.value
