-- What a text tells stays the same from token to token of the pass.
use Rattle.std.proofs.Common.{◌≡◌, ℕ, List, [], ◌∷◌, Option, Some, None, refl, ap, ◌∙◌}
use Rattle.std.specs.Prelude.{Result, Ok, Err}
use Rattle.gv_base.specs.declared.answers.Code.TheVariants as codes
use Rattle.gv_text.specs.Stops.{Fault}
use Rattle.gv_replay.specs.declared.line.Line.{Line}
use Rattle.gv_replay.specs.declared.line.TextKind.{TextKind}
use Rattle.gv_replay.specs.declared.lines.Step.{Step}
use Rattle.gv_replay.specs.declared.progress.Progress.{Progress}
use Rattle.gv_replay.specs.declared.part.Part.{Part}
use Rattle.gv_replay.specs.declared.sight.Sight.{Sight}
use Rattle.gv_replay.specs.Lines.{fault_at, stepped, put, behind, last_line, ended, lines_from}
use Rattle.gv_replay.specs.Parts.{line_of}
use Rattle.gv_replay.specs.Progress.{beginning, taken_by, taken, finished_by, finished_part, finished, told_from}
use Rattle.gv_replay.specs.Results.{and_then, map_ok}
use Rattle.gv_replay.specs.Told.{tell, tell_all, tell_done}

module _ {T : Type 0} (with_line : T → Line → Result T Fault) where
  put_told : (told : Result T Fault) (done : Option Line) (r : Result (List Line) Fault)
      → and_then (tell_all with_line told) (map_ok (put done) r) ≡ and_then (tell_all with_line (tell_done with_line told done)) r
  put_told told None (Ok ls) = refl
  put_told told None (Err f) = refl
  put_told told (Some l) (Ok ls) = refl
  put_told told (Some l) (Err f) = refl

  taken_found : (kind : TextKind) (end : ℕ) (told : Result T Fault) (fault : Fault) (o : Option Step) (ss : List Sight) (q : Progress T) → taken_by with_line told fault o ≡ Ok q
      → and_then (tell_all with_line told) (behind fault (λ x. lines_from kind end (Some x.part) ss) o) ≡ told_from with_line kind end q ss
  taken_found kind end told fault None ss q e = absurd cc
  taken_found kind end told fault (Some x) ss q e =
      let Q : Progress T = record { current = Some x.part; told = tell_done with_line told x.done } in
      let same : Q ≡ q = cc in
      put_told told x.done (lines_from kind end (Some x.part) ss) ∙ ap (λ (p : Progress T). told_from with_line kind end p ss) same

  pub take_ok : (kind : TextKind) (end : ℕ) (p : Progress T) (sight : Sight) (ss : List Sight) (q : Progress T) → taken with_line kind p sight ≡ Ok q
      → told_from with_line kind end p (sight ∷ ss) ≡ told_from with_line kind end q ss
  take_ok kind end p sight ss q e = taken_found kind end p.told (fault_at sight) (stepped kind p.current sight) ss q e

  taken_missed : (kind : TextKind) (end : ℕ) (told : Result T Fault) (fault : Fault) (o : Option Step) (ss : List Sight) (f : Fault) → taken_by with_line told fault o ≡ Err f
      → and_then (tell_all with_line told) (behind fault (λ x. lines_from kind end (Some x.part) ss) o) ≡ Err f
  taken_missed kind end told fault None ss f e = let same : fault ≡ f = cc in ap Err same
  taken_missed kind end told fault (Some x) ss f e = absurd cc

  pub take_err : (kind : TextKind) (end : ℕ) (p : Progress T) (sight : Sight) (ss : List Sight) (f : Fault) → taken with_line kind p sight ≡ Err f
      → told_from with_line kind end p (sight ∷ ss) ≡ Err f
  take_err kind end p sight ss f e = taken_missed kind end p.told (fault_at sight) (stepped kind p.current sight) ss f e

  line_found : (told : Result T Fault) (end : ℕ) (o : Option Line) (u : Result T Fault) → finished_by with_line told end o ≡ Ok u
      → and_then (tell_all with_line told) (last_line end o) ≡ u
  line_found told end None u e = absurd cc
  line_found told end (Some l) u e = let same : tell with_line told l ≡ u = cc in same

  part_found : (told : Result T Fault) (end : ℕ) (o : Option Part) (u : Result T Fault) → finished_part with_line told end o ≡ Ok u
      → and_then (tell_all with_line told) (ended end o) ≡ u
  part_found told end None u e = let same : told ≡ u = cc in same
  part_found told end (Some p) u e = line_found told end (line_of p) u e

  pub finish_ok : (kind : TextKind) (end : ℕ) (p : Progress T) (u : Result T Fault) → finished with_line end p ≡ Ok u → told_from with_line kind end p [] ≡ u
  finish_ok kind end p u e = part_found p.told end p.current u e

  line_missed : (told : Result T Fault) (end : ℕ) (o : Option Line) (f : Fault) → finished_by with_line told end o ≡ Err f
      → and_then (tell_all with_line told) (last_line end o) ≡ Err f
  line_missed told end None f e = let same : (end, codes.EndOfText) ≡ f = cc in ap Err same
  line_missed told end (Some l) f e = absurd cc

  part_missed : (told : Result T Fault) (end : ℕ) (o : Option Part) (f : Fault) → finished_part with_line told end o ≡ Err f
      → and_then (tell_all with_line told) (ended end o) ≡ Err f
  part_missed told end None f e = absurd cc
  part_missed told end (Some p) f e = line_missed told end (line_of p) f e

  pub finish_err : (kind : TextKind) (end : ℕ) (p : Progress T) (f : Fault) → finished with_line end p ≡ Err f → told_from with_line kind end p [] ≡ Err f
  finish_err kind end p f e = part_missed p.told end p.current f e
