-- Only an acceptance has its text, where no file word holds a newline.
use Rattle.std.proofs.Common.{◌≡◌, ℕ, true, List, [], ◌∷◌, ◌++◌, map, get_or, Option, Some, None, refl, sym, ap, subst, ◌∙◌, ◌⊎◌, inl, inr, arith, append_assoc}
use Rattle.std.specs.Prelude.{◌==◌, not, codes, All}
use Rattle.std.specs.List.{list_all}
use Rattle.std.proofs.lemmas.List.{append_cancel_left, append-nil}
use Rattle.gv_base.specs.Outside.{Appended}
use Rattle.gv_base.specs.Codes.{code_name}
use Rattle.gv_base.specs.declared.answers.Code.{Code}
use Rattle.gv_base.specs.declared.answers.Place.{Place}
use Rattle.gv_base.specs.declared.reason.Reason.{Reason}
use Rattle.gv_small.proofs.Cuts.{both}
use Rattle.gv_json.specs.Line.{as_text, line_of}
use Rattle.gv_report.specs.declared.report.Report.{Report}
use Rattle.gv_report.specs.Ran.{last_line, status_after}
use Rattle.gv_report.specs.declared.report.Report.TheVariants.{Usage, OutOfMemory, CannotRead, Refused, Unjustified, Accepted, AcceptedWithoutCrash, Explained, NotExplained, Ran, Moves, NoExplanation, Spent, Points, Made}
use Rattle.gv_report.specs.Report.{lines_of, text_of, place_text}
use Rattle.gv_report.specs.declared.format.Format.{Format}
use Rattle.gv_report.specs.declared.format.Format.TheVariants.{Text, Json}
use Rattle.gv_report.specs.Heard.{Heard}
use Rattle.gv_report.specs.Output.{Shown, Puts, whole, cut, json_of, output_of}
use Rattle.gv_top.specs.Check.{report_of as check_report}
use Rattle.gv_top.specs.Judge.{report_of as judge_report}
use Rattle.gv_top.specs.Commands.{Command, check, explain, replay, judge, Asks, Comes, files_of, format_for}
use Rattle.gv_top.specs.Explain.{report_of as explain_report}
use Rattle.gv_top.specs.Replay.{report_of as replay_report}
use Rattle.gv_top.specs.Files.{Asked, Source, outside}
use Rattle.gv_top.specs.Promise.{IsOneLine, IsAccepted, ended, written, AcceptedPromise}
use Rattle.gv_top.specs.Run.{Gives, usage, done, Deserves}
use Rattle.gv_top.proofs.AcceptedLine.{starts_otherwise, first_byte, accepted_line, apart, only_line, never_end, never_1, never_3, never_4, never_7, never_8, no_refusal}
use Rattle.gv_top.proofs.CheckExact.{check_refused}
use Rattle.gv_top.proofs.ExplainExact.{explain_refused}
use Rattle.gv_top.proofs.JudgeExact.{judge_refused}
use Rattle.gv_top.proofs.JudgeLemmas.{moves_text, moves_unbraced}
use Rattle.gv_top.proofs.OutcomeLemmas.{check_own, explain_own, replay_own, judge_own, refused_of, IsNotYet, never_yet}
use Rattle.gv_top.proofs.ReplayExact.{replay_refused}
use Rattle.gv_top.proofs.ReplayLemmas.{ran_text, ran_unbraced}
use Rattle.gv_top.proofs.RunLemmas.{promised, ended_accepting}

-- ---- texts

abbrev HasNoColon : List ℕ → Type 0
HasNoColon line = list_all (λ byte. not (byte == 58)) line ≡ true

-- what has a colon behind a name on its first line doesn't begin with a line that has no colon
no_such_line : (name line more others : List ℕ) → IsOneLine name → HasNoColon line → name ++ 58 ∷ more ≡ line ++ 10 ∷ others → ⊥
no_such_line [] [] more others h k e = let clash = first_byte 58 10 more others e in omega (arith, clash)
no_such_line [] (y ∷ ys) more others h k e = starts_otherwise 58 y ys k cc
no_such_line (x ∷ xs) [] more others h k e = starts_otherwise 10 x xs h cc
no_such_line (x ∷ xs) (y ∷ ys) more others h k e =
    let p = both (not (x == 10)) (list_all (λ byte. not (byte == 10)) xs) h in
    let q = both (not (y == 58)) (list_all (λ byte. not (byte == 58)) ys) k in
    no_such_line xs ys more others p.1 q.1 cc

-- a refusal's text has a colon behind the name
refusal_text : (name : List ℕ) (place : Place) (code : Code) → (more : List ℕ) × (text_of (Refused name place code) ≡ name ++ 58 ∷ more)
refusal_text name place code =
    let colon = codes ":" in
    let blank = codes " " in
    let at = place_text place in
    let word = code_name code in
    let end : List ℕ = 10 ∷ [] in (
      at ++ (blank ++ (word ++ end)),
      append_assoc (((name ++ colon) ++ at) ++ blank) word end ∙ append_assoc ((name ++ colon) ++ at) blank (word ++ end) ∙ append_assoc (name ++ colon) at (blank ++ (word ++ end))
          ∙ append_assoc name colon (at ++ (blank ++ (word ++ end))),
    )

-- ---- acceptance alone

module _ (words : List (List ℕ)) (lines : (command : Command) → Asks words command → All IsOneLine (files_of command)) where
  name_line : (p s t name : List ℕ) → (name ≡ p) ⊎ ((name ≡ s) ⊎ (name ≡ t)) → All IsOneLine (p ∷ s ∷ t ∷ []) → IsOneLine name
  name_line p s t name (inl e) h = subst IsOneLine (sym e) (h 0 p (omega arith))
  name_line p s t name (inr (inl e)) h = subst IsOneLine (sym e) (h 1 s (omega arith))
  name_line p s t name (inr (inr e)) h = subst IsOneLine (sym e) (h 2 t (omega arith))

  line_of_two : (s h name : List ℕ) → (name ≡ s) ⊎ (name ≡ h) → All IsOneLine (s ∷ h ∷ []) → IsOneLine name
  line_of_two s h name (inl e) all = subst IsOneLine (sym e) (all 0 s (omega arith))
  line_of_two s h name (inr e) all = subst IsOneLine (sym e) (all 1 h (omega arith))

  -- the name in a refusal is a file's, so it is one line
  refused_line : (source : Source) (name : List ℕ) (place : Place) (code : Code) (c : Command) (before after : Format) (r : Report) → r ≡ Refused name place code → Asks words c
      → Comes source c before r after → IsOneLine name
  refused_line source name place code (check p s t) before after r e asks (o, checks, is) =
      name_line p s t name (check_refused source p s t name place code before after o (refused_of check_report check_own name place code o (sym e ∙ is)) checks) (lines (check p s t) asks)
  refused_line source name place code (explain s h m) before after r e asks (o, explains, is) =
      name_line s h m name (explain_refused source s h m name place code before after o (refused_of explain_report explain_own name place code o (sym e ∙ is)) explains) (lines (explain s h m) asks)
  refused_line source name place code (replay p s c) before after r e asks (o, replays, is) =
      name_line p s c name (replay_refused source p s c name place code before after o (refused_of replay_report replay_own name place code o (sym e ∙ is)) replays) (lines (replay p s c) asks)
  refused_line source name place code (judge s h m) before after r e asks (o, judges, is) =
      line_of_two s h name (judge_refused source s h m name place code before after o (refused_of judge_report judge_own name place code o (sym e ∙ is)) judges) (lines (judge s h m) asks)

  refusal : (source : Source) (name : List ℕ) (place : Place) (code : Code) (r : Report) (f : Format) (rest : List ℕ) → r ≡ Refused name place code → Gives source words r f
      → text_of (Refused name place code) ≡ text_of AcceptedWithoutCrash ++ rest → ⊥
  refusal source name place code r f rest e (usage h) is = absurd cc
  refusal source name place code r f rest e (done c asks comes) is =
      let split = refusal_text name place code in
      no_such_line name (codes "accepted for runs without crash") split.0 rest (refused_line source name place code c (format_for words) f r e asks comes) refl (sym split.1 ∙ is)

  -- a report that no command gives yet isn't given
  not_yet : (source : Source) (r : Report) (f : Format) → IsNotYet r → Gives source words r f → ⊥
  not_yet source r f h (usage n) = h
  not_yet source r f h (done (check p s t) asks (o, checks, is)) = never_yet check_report check_own o r h is
  not_yet source r f h (done (explain s m t) asks (o, explains, is)) = never_yet explain_report explain_own o r h is
  not_yet source r f h (done (replay p s t) asks (o, replays, is)) = never_yet replay_report replay_own o r h is
  not_yet source r f h (done (judge s t m) asks (o, judges, is)) = never_yet judge_report judge_own o r h is

  heads : (xs ys : List ℕ) → xs ≡ ys → get_or xs 0 0 ≡ get_or ys 0 0
  heads xs ys e = ap (λ (v : List ℕ). get_or v 0 0) e

  accepted_text : (a : Asked) (r : Report) (f : Format) (rest : List ℕ) → Gives (outside a.held) words r f → text_of r ≡ text_of AcceptedWithoutCrash ++ rest → r ≡ AcceptedWithoutCrash
  accepted_text a AcceptedWithoutCrash f rest d e = refl
  accepted_text a (Unjustified place why) f rest d e = let h : 117 ≡ 97 = heads (text_of (Unjustified place why)) (text_of AcceptedWithoutCrash ++ rest) e in absurd (omega (arith, h))
  accepted_text a Explained f rest d e = let h : 101 ≡ 97 = heads (text_of Explained) (text_of AcceptedWithoutCrash ++ rest) e in absurd (omega (arith, h))
  accepted_text a (NotExplained at why) f rest d e = let h : 110 ≡ 97 = heads (text_of (NotExplained at why)) (text_of AcceptedWithoutCrash ++ rest) e in absurd (omega (arith, h))
  accepted_text a Usage f rest d e = let h : 117 ≡ 97 = heads (text_of Usage) (text_of AcceptedWithoutCrash ++ rest) e in absurd (omega (arith, h))
  accepted_text a (CannotRead name) f rest d e = let h : 99 ≡ 97 = heads (text_of (CannotRead name)) (text_of AcceptedWithoutCrash ++ rest) e in absurd (omega (arith, h))
  accepted_text a (Refused name place code) f rest d e = absurd (refusal (outside a.held) name place code (Refused name place code) f rest refl d e)
  accepted_text a OutOfMemory f rest d e = let h : 111 ≡ 97 = heads (text_of OutOfMemory) (text_of AcceptedWithoutCrash ++ rest) e in absurd (omega (arith, h))
  accepted_text a (Ran ran) f rest d e = absurd (ran_text words (outside a.held) ran f rest d e)
  accepted_text a (Moves moves) f rest d e = absurd (moves_text words (outside a.held) moves f rest d e)
  accepted_text a NoExplanation f rest d e = let h : 110 ≡ 97 = heads (text_of NoExplanation) (text_of AcceptedWithoutCrash ++ rest) e in absurd (omega (arith, h))
  accepted_text a (Spent most) f rest d e = let h : 115 ≡ 97 = heads (text_of (Spent most)) (text_of AcceptedWithoutCrash ++ rest) e in absurd (omega (arith, h))
  accepted_text a Accepted f rest d e = absurd (not_yet (outside a.held) Accepted f tt d)
  accepted_text a (Points lines) f rest d e = absurd (not_yet (outside a.held) (Points lines) f tt d)
  accepted_text a (Made made) f rest d e = absurd (not_yet (outside a.held) (Made made) f tt d)

  -- the name in a refusal that was given is one line
  given_line : (source : Source) (name : List ℕ) (place : Place) (code : Code) (r : Report) (f : Format) → r ≡ Refused name place code → Gives source words r f → IsOneLine name
  given_line source name place code r f e (usage h) = absurd cc
  given_line source name place code r f e (done c asks comes) = refused_line source name place code c (format_for words) f r e asks comes

  -- no text begins as the line of acceptance in JSON
  no_text : (a : Asked) (r : Report) (f : Format) (digests : List (List ℕ)) (rest : List ℕ) → Gives (outside a.held) words r f → text_of r ≡ json_of digests AcceptedWithoutCrash ++ rest → ⊥
  no_text a AcceptedWithoutCrash f digests rest d e = let h : 97 ≡ 123 = heads (text_of AcceptedWithoutCrash) (json_of digests AcceptedWithoutCrash ++ rest) e in omega (arith, h)
  no_text a (Unjustified place why) f digests rest d e = let h : 117 ≡ 123 = heads (text_of (Unjustified place why)) (json_of digests AcceptedWithoutCrash ++ rest) e in omega (arith, h)
  no_text a Explained f digests rest d e = let h : 101 ≡ 123 = heads (text_of Explained) (json_of digests AcceptedWithoutCrash ++ rest) e in omega (arith, h)
  no_text a (NotExplained at why) f digests rest d e = let h : 110 ≡ 123 = heads (text_of (NotExplained at why)) (json_of digests AcceptedWithoutCrash ++ rest) e in omega (arith, h)
  no_text a Usage f digests rest d e = let h : 117 ≡ 123 = heads (text_of Usage) (json_of digests AcceptedWithoutCrash ++ rest) e in omega (arith, h)
  no_text a (CannotRead name) f digests rest d e = let h : 99 ≡ 123 = heads (text_of (CannotRead name)) (json_of digests AcceptedWithoutCrash ++ rest) e in omega (arith, h)
  no_text a (Refused name place code) f digests rest d e =
      no_refusal name place code digests rest (given_line (outside a.held) name place code (Refused name place code) f refl d) e
  no_text a OutOfMemory f digests rest d e = let h : 111 ≡ 123 = heads (text_of OutOfMemory) (json_of digests AcceptedWithoutCrash ++ rest) e in omega (arith, h)
  no_text a (Ran ran) f digests rest d e = ran_unbraced words (outside a.held) ran f (json_of digests AcceptedWithoutCrash ++ rest) refl d e
  no_text a (Moves moves) f digests rest d e = moves_unbraced words (outside a.held) moves f (json_of digests AcceptedWithoutCrash ++ rest) refl d e
  no_text a NoExplanation f digests rest d e = let h : 110 ≡ 123 = heads (text_of NoExplanation) (json_of digests AcceptedWithoutCrash ++ rest) e in omega (arith, h)
  no_text a (Spent most) f digests rest d e = let h : 115 ≡ 123 = heads (text_of (Spent most)) (json_of digests AcceptedWithoutCrash ++ rest) e in omega (arith, h)
  no_text a Accepted f digests rest d e = not_yet (outside a.held) Accepted f tt d
  no_text a (Points lines) f digests rest d e = not_yet (outside a.held) (Points lines) f tt d
  no_text a (Made made) f digests rest d e = not_yet (outside a.held) (Made made) f tt d

  -- what was appended is what is there now
  appended_is : (o : Option (List ℕ)) (old text more : List ℕ) (now : Option (List ℕ)) → o ≡ Some old → Appended o text now → now ≡ Some (old ++ more) → text ≡ more
  appended_is None old text more now e a f = absurd cc
  appended_is (Some x) old text more now e a f =
      let same : x ≡ old = cc in
      let both : Some (x ++ text) ≡ Some (old ++ more) = sym a ∙ f in
      let lists : x ++ text ≡ old ++ more = cc in
      append_cancel_left old text more (ap (λ (v : List ℕ). v ++ text) (sym same) ∙ lists)

  -- what begins as the line of acceptance is no object of JSON
  no_object : (digests : List (List ℕ)) (r : Report) (rest : List ℕ) → json_of digests r ≡ text_of AcceptedWithoutCrash ++ rest → ⊥
  no_object digests Usage rest e = let h : 117 ≡ 97 = heads (text_of Usage) (text_of AcceptedWithoutCrash ++ rest) e in omega (arith, h)
  no_object digests OutOfMemory rest e = let h : 111 ≡ 97 = heads (text_of OutOfMemory) (text_of AcceptedWithoutCrash ++ rest) e in omega (arith, h)
  no_object digests AcceptedWithoutCrash rest e = let h : 123 ≡ 97 = heads _ (text_of AcceptedWithoutCrash ++ rest) e in omega (arith, h)
  no_object digests (Unjustified place why) rest e = let h : 123 ≡ 97 = heads _ (text_of AcceptedWithoutCrash ++ rest) e in omega (arith, h)
  no_object digests Explained rest e = let h : 123 ≡ 97 = heads _ (text_of AcceptedWithoutCrash ++ rest) e in omega (arith, h)
  no_object digests (NotExplained at why) rest e = let h : 123 ≡ 97 = heads _ (text_of AcceptedWithoutCrash ++ rest) e in omega (arith, h)
  no_object digests (CannotRead name) rest e = let h : 123 ≡ 97 = heads _ (text_of AcceptedWithoutCrash ++ rest) e in omega (arith, h)
  no_object digests (Refused name place code) rest e = let h : 123 ≡ 97 = heads _ (text_of AcceptedWithoutCrash ++ rest) e in omega (arith, h)
  no_object digests (Ran ran) rest e = let h : 123 ≡ 97 = heads _ (text_of AcceptedWithoutCrash ++ rest) e in omega (arith, h)
  no_object digests (Moves moves) rest e = let h : 123 ≡ 97 = heads _ (text_of AcceptedWithoutCrash ++ rest) e in omega (arith, h)
  no_object digests NoExplanation rest e = let h : 123 ≡ 97 = heads _ (text_of AcceptedWithoutCrash ++ rest) e in omega (arith, h)
  no_object digests (Spent most) rest e = let h : 123 ≡ 97 = heads _ (text_of AcceptedWithoutCrash ++ rest) e in omega (arith, h)
  no_object digests Accepted rest e = let h : 123 ≡ 97 = heads _ (text_of AcceptedWithoutCrash ++ rest) e in omega (arith, h)
  no_object digests (Points lines) rest e = let h : 123 ≡ 97 = heads _ (text_of AcceptedWithoutCrash ++ rest) e in omega (arith, h)
  no_object digests (Made made) rest e = let h : 123 ≡ 97 = heads _ (text_of AcceptedWithoutCrash ++ rest) e in omega (arith, h)

  -- a run has a line `end` or another status
  no_run : (others digests : List (List ℕ)) (lines : List (List ℕ)) (undefined : Option (ℕ × Reason)) (rest : List ℕ)
      → line_of others (lines ++ last_line undefined ∷ []) (status_after undefined) ≡ json_of digests AcceptedWithoutCrash ++ rest → ⊥
  no_run others digests lines None rest e = never_end lines (apart others (lines ++ codes "end" ∷ []) 0 digests rest e).0
  no_run others digests lines (Some found) rest e = never_8 (10 ∷ []) (10 ∷ rest) (apart others (lines ++ last_line (Some found) ∷ []) 8 digests rest e).1

  no_moves : (a : Asked) (others digests moves : List (List ℕ)) (f : Format) (rest : List ℕ) → Gives (outside a.held) words (Moves moves) f
      → line_of others moves 0 ≡ json_of digests AcceptedWithoutCrash ++ rest → ⊥
  no_moves a others digests [] f rest d e = none (apart others [] 0 digests rest e).0
    where
      none : [] ≡ as_text accepted_line ∷ [] → ⊥
      none e = cc
  no_moves a others digests (line ∷ []) f rest d e =
      let is : line ≡ accepted_line = only_line line [] (apart others (line ∷ []) 0 digests rest e).0 in
      moves_text words (outside a.held) (line ∷ []) f [] d (ap (λ (v : List ℕ). v ++ 10 ∷ []) is)
  no_moves a others digests (line ∷ next ∷ lines) f rest d e = more (apart others (line ∷ next ∷ lines) 0 digests rest e).0
    where
      more : map as_text (line ∷ next ∷ lines) ≡ as_text accepted_line ∷ [] → ⊥
      more e = cc

  -- a line in JSON that begins as that of an acceptance tells one
  accepted_json : (a : Asked) (r : Report) (f : Format) (others digests : List (List ℕ)) (rest : List ℕ) → Gives (outside a.held) words r f
      → json_of others r ≡ json_of digests AcceptedWithoutCrash ++ rest → r ≡ AcceptedWithoutCrash
  accepted_json a AcceptedWithoutCrash f others digests rest d e = refl
  accepted_json a (Unjustified place why) f others digests rest d e = absurd (never_1 (10 ∷ []) (10 ∷ rest) (apart others (lines_of (Unjustified place why)) 1 digests rest e).1)
  accepted_json a Explained f others digests rest d e =
      let h : 101 ≡ 97 = heads (codes "explained") accepted_line (only_line (codes "explained") [] (apart others (codes "explained" ∷ []) 0 digests rest e).0) in absurd (omega (arith, h))
  accepted_json a (NotExplained at why) f others digests rest d e = absurd (never_1 (10 ∷ []) (10 ∷ rest) (apart others (lines_of (NotExplained at why)) 1 digests rest e).1)
  accepted_json a Usage f others digests rest d e = let h : 117 ≡ 123 = heads (text_of Usage) (json_of digests AcceptedWithoutCrash ++ rest) e in absurd (omega (arith, h))
  accepted_json a (CannotRead name) f others digests rest d e = absurd (never_3 (10 ∷ []) (10 ∷ rest) (apart others (lines_of (CannotRead name)) 3 digests rest e).1)
  accepted_json a (Refused name place code) f others digests rest d e = absurd (never_4 (10 ∷ []) (10 ∷ rest) (apart others (lines_of (Refused name place code)) 4 digests rest e).1)
  accepted_json a OutOfMemory f others digests rest d e = let h : 111 ≡ 123 = heads (text_of OutOfMemory) (json_of digests AcceptedWithoutCrash ++ rest) e in absurd (omega (arith, h))
  accepted_json a (Ran ran) f others digests rest d e = absurd (no_run others digests ran.lines ran.undefined rest e)
  accepted_json a (Moves moves) f others digests rest d e = absurd (no_moves a others digests moves f rest d e)
  accepted_json a NoExplanation f others digests rest d e = absurd (never_1 (10 ∷ []) (10 ∷ rest) (apart others (lines_of NoExplanation) 1 digests rest e).1)
  accepted_json a (Spent most) f others digests rest d e = absurd (never_7 (10 ∷ []) (10 ∷ rest) (apart others (lines_of (Spent most)) 7 digests rest e).1)
  accepted_json a Accepted f others digests rest d e = absurd (not_yet (outside a.held) Accepted f tt d)
  accepted_json a (Points lines) f others digests rest d e = absurd (not_yet (outside a.held) (Points lines) f tt d)
  accepted_json a (Made made) f others digests rest d e = absurd (not_yet (outside a.held) (Made made) f tt d)

  accepted_output : (a : Asked) (r : Report) (f told : Format) (rest : List ℕ) → Gives (outside a.held) words r f → output_of f r ≡ output_of told AcceptedWithoutCrash ++ rest
      → r ≡ AcceptedWithoutCrash
  accepted_output a r Text Text rest d e = accepted_text a r Text rest d e
  accepted_output a r (Json others) Text rest d e = absurd (no_object others r rest e)
  accepted_output a r Text (Json digests) rest d e = absurd (no_text a r Text digests rest d e)
  accepted_output a r (Json others) (Json digests) rest d e = accepted_json a r (Json others) others digests rest d e

  line_kept : (a : Asked) (h : Heard) (z : Shown) (status : ℕ) (old : List ℕ) (told : Format) → Deserves words a z.report z.format → Puts z h status → h.before ≡ Some old
      → h.now ≡ Some (old ++ output_of told AcceptedWithoutCrash) → AcceptedPromise words a.held
  line_kept a h z status old told d (whole w f) b n =
      let is : output_of z.format z.report ≡ output_of told AcceptedWithoutCrash =
      appended_is h.before old (output_of z.format z.report) (output_of told AcceptedWithoutCrash) h.now b w n in
      promised words a z.report z.format (accepted_output a z.report z.format told [] d.given (is ∙ sym (append-nil (output_of told AcceptedWithoutCrash)))) d
  line_kept a h z status old told d (cut o (piece, rest, split, k)) b n =
      let is : piece ≡ output_of told AcceptedWithoutCrash = appended_is h.before old piece (output_of told AcceptedWithoutCrash) h.now b k n in
      promised words a z.report z.format (accepted_output a z.report z.format told rest d.given (split ∙ ap (λ (v : List ℕ). v ++ rest) is)) d

pub accepted : (words : List (List ℕ)) (a : Asked) (h : Heard) (z : Shown) (status : ℕ) → Deserves words a z.report z.format → Puts z h status → IsAccepted words h status → AcceptedPromise words a.held
accepted words a h z status d t (written old told b n lines) = line_kept words lines a h z status old told d t b n
accepted words a h z status d (whole w f) (ended p s t asks e) = ended_accepting words a z.report z.format p s t asks e d
accepted words a h z status d (cut o w) (ended p s t asks e) = absurd (omega (arith, e))
