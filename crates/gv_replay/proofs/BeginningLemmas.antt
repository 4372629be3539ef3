-- The first token that may not stand where it does is the first that no lines have there.
use Rattle.std.proofs.Common.{◌≡◌, ℕ, true, false, List, [], ◌∷◌, ◌++◌, Option, Some, None, refl, sym, ap, subst, ◌∙◌, append_assoc}
use Rattle.std.specs.Prelude.{Result, Ok, Err, option_and_then}
use Rattle.gv_base.specs.declared.answers.Code.{Code}
use Rattle.gv_base.specs.declared.answers.Code.TheVariants as codes
use Rattle.gv_replay.specs.declared.line.Line.{Line}
use Rattle.gv_replay.specs.declared.line.TextKind.{TextKind}
use Rattle.gv_replay.specs.declared.lines.Step.{Step}
use Rattle.gv_replay.specs.declared.part.Part.{Part}
use Rattle.gv_replay.specs.declared.part.Part.TheVariants as part
use Rattle.gv_replay.specs.declared.sight.Sight.{Sight}
use Rattle.gv_replay.specs.declared.what.What.TheVariants as what
use Rattle.gv_replay.specs.Beginnings.{IsBeginning, IsMisplaced, token, unfinished}
use Rattle.gv_text.specs.Stops.{Fault}
use Rattle.gv_replay.specs.Lines.{fault_at, stepped, put, behind, last_line, lines_from}
use Rattle.gv_replay.specs.Parts.{line_of}
use Rattle.gv_replay.specs.Results.{map_ok}
use Rattle.gv_replay.specs.Sights.{code_of}
use Rattle.gv_replay.proofs.SpelledLemmas.{spelled_read}
use Rattle.gv_replay.proofs.ReadLemmas.{read_spelled}

-- how far tokens lead
abbrev after : TextKind → Option Part → List Sight → Option (Option Part)
after kind current [] = Some current
after kind current (s ∷ ss) = option_and_then (λ x. after kind (Some x.part) ss) (stepped kind current s)

record Leads (kind : TextKind) (current : Option Part) (ss : List Sight) : Type 0 where
  pub end : Option Part
  pub by : after kind current ss ≡ Some end

-- ---- every front may go on to whole lines

abbrev zero_token : Sight
zero_token = record { at = 0; starts = false; what = what.Number true 0 }

abbrev name_token : Sight
name_token = record { at = 0; starts = false; what = what.Word [] }

record Completes (kind : TextKind) (end : ℕ) (current : Option Part) : Type 0 where
  pub more : List Sight
  pub lines : List Line
  pub read : lines_from kind end current more ≡ Ok lines

completes : (kind : TextKind) (end : ℕ) (current : Option Part) → Completes kind end current
completes kind end None = record { more = []; lines = []; read = refl }
completes kind end (Some (part.Call at)) = record { more = zero_token ∷ name_token ∷ []; lines = _; read = refl }
completes kind end (Some part.Answer) = record { more = zero_token ∷ []; lines = _; read = refl }
completes kind end (Some part.Act) = record { more = zero_token ∷ []; lines = _; read = refl }
completes kind end (Some (part.Acting n cs)) = record { more = []; lines = _; read = refl }
completes kind end (Some (part.Booting cs)) = record { more = []; lines = _; read = refl }
completes kind end (Some (part.Step at)) = record { more = zero_token ∷ []; lines = _; read = refl }
completes kind end (Some (part.Stepping at t)) = record { more = []; lines = _; read = refl }
completes kind end (Some (part.Fail at)) = record { more = zero_token ∷ []; lines = _; read = refl }
completes kind end (Some (part.Grow at)) = record { more = zero_token ∷ zero_token ∷ []; lines = _; read = refl }
completes kind end (Some (part.Growing at t)) = record { more = zero_token ∷ []; lines = _; read = refl }
completes kind end (Some (part.Numbered at n)) = record { more = name_token ∷ []; lines = _; read = refl }
completes kind end (Some (part.Arguments c)) = record { more = []; lines = _; read = refl }
completes kind end (Some (part.ArgumentByte c b)) = record { more = []; lines = _; read = refl }
completes kind end (Some (part.ArgumentStar c b)) = record { more = zero_token ∷ []; lines = _; read = refl }
completes kind end (Some (part.Replying n)) = record { more = []; lines = _; read = refl }
completes kind end (Some (part.ReplyByte n b)) = record { more = []; lines = _; read = refl }
completes kind end (Some (part.ReplyStar n b)) = record { more = zero_token ∷ []; lines = _; read = refl }
completes kind end (Some (part.Whole l)) = record { more = []; lines = l ∷ []; read = refl }

-- ---- what is read behind a front

record ReadsAs (kind : TextKind) (end : ℕ) (current : Option Part) (ss : List Sight) : Type 0 where
  pub lines : List Line
  pub read : lines_from kind end current ss ≡ Ok lines

put_read : (kind : TextKind) (end : ℕ) (f : Fault) (x : Step) (o : Option Step) (ss : List Sight) → o ≡ Some x → ReadsAs kind end (Some x.part) ss
    → (ls : List Line) × (behind f (λ y. lines_from kind end (Some y.part) ss) o ≡ Ok ls)
put_read kind end f x o ss e r = (put x.done r.lines, ap (behind f (λ y. lines_from kind end (Some y.part) ss)) e ∙ ap (map_ok (put x.done)) r.read)

leads_read : (kind : TextKind) (end : ℕ) (current : Option Part) (front more : List Sight) (c : Option Part) → after kind current front ≡ Some c → ReadsAs kind end c more
    → ReadsAs kind end current (front ++ more)
leads_read kind end current [] more c e r = let same : c ≡ current = cc in subst (λ d. ReadsAs kind end d more) same r
leads_read kind end current (s ∷ front) more c e r = go (λ x i. leads_read kind end (Some x.part) front more c i r) (stepped kind current s) refl e
  where
    go : ((x : Step) → after kind (Some x.part) front ≡ Some c → ReadsAs kind end (Some x.part) (front ++ more)) → (o : Option Step) → stepped kind current s ≡ o
        → option_and_then (λ x. after kind (Some x.part) front) o ≡ Some c → ReadsAs kind end current (s ∷ (front ++ more))
    go later None o_is i = absurd cc
    go later (Some x) o_is i =
        let p = put_read kind end (fault_at s) x (stepped kind current s) (front ++ more) o_is (later x i) in
        record { lines = p.0; read = p.1 }

read_leads : (kind : TextKind) (end : ℕ) (current : Option Part) (front more : List Sight) (ls : List Line) → lines_from kind end current (front ++ more) ≡ Ok ls → Leads kind current front
read_leads kind end current [] more ls e = record { end = current; by = refl }
read_leads kind end current (s ∷ front) more ls e = go (λ x us i. read_leads kind end (Some x.part) front more us i) (stepped kind current s) refl e
  where
    go : ((x : Step) (us : List Line) → lines_from kind end (Some x.part) (front ++ more) ≡ Ok us → Leads kind (Some x.part) front) → (o : Option Step) → stepped kind current s ≡ o → behind (fault_at s) (λ x. lines_from kind end (Some x.part) (front ++ more)) o ≡ Ok ls → Leads kind current (s ∷ front)
    go later None o_is i = absurd cc
    go later (Some x) o_is i = got (lines_from kind end (Some x.part) (front ++ more)) refl i
      where
        got : (r : Result (List Line) Fault) → lines_from kind end (Some x.part) (front ++ more) ≡ r → map_ok (put x.done) r ≡ Ok ls → Leads kind current (s ∷ front)
        got (Err f) r_is k = absurd cc
        got (Ok us) r_is k =
            let l = later x us r_is in
            record { end = l.end; by = ap (option_and_then (λ y. after kind (Some y.part) front)) o_is ∙ l.by }

-- a token that may not stand behind a front
stuck : (kind : TextKind) (end : ℕ) (current c : Option Part) (front : List Sight) (s : Sight) (more : List Sight) → after kind current front ≡ Some c → stepped kind c s ≡ None
    → lines_from kind end current (front ++ s ∷ more) ≡ Err (fault_at s)
stuck kind end current c [] s more e n =
    let same : current ≡ c = cc in
    ap (behind (fault_at s) (λ x. lines_from kind end (Some x.part) more)) (ap (λ d. stepped kind d s) same ∙ n)
stuck kind end current c (t ∷ front) s more e n = go (λ x i. stuck kind end (Some x.part) c front s more i n) (stepped kind current t) refl e
  where
    go : ((x : Step) → after kind (Some x.part) front ≡ Some c → lines_from kind end (Some x.part) (front ++ s ∷ more) ≡ Err (fault_at s)) → (o : Option Step) → stepped kind current t ≡ o → option_and_then (λ x. after kind (Some x.part) front) o ≡ Some c
        → behind (fault_at t) (λ x. lines_from kind end (Some x.part) (front ++ s ∷ more)) (stepped kind current t) ≡ Err (fault_at s)
    go later None o_is i = absurd cc
    go later (Some x) o_is i =
        ap (behind (fault_at t) (λ y. lines_from kind end (Some y.part) (front ++ s ∷ more))) o_is
        ∙ ap (map_ok (put x.done)) (later x i)

after_more : (kind : TextKind) (current c : Option Part) (front : List Sight) (s : Sight) (x : Step) → after kind current front ≡ Some c → stepped kind c s ≡ Some x
    → after kind current (front ++ s ∷ []) ≡ Some (Some x.part)
after_more kind current c [] s x e n =
    let same : current ≡ c = cc in
    ap (option_and_then (λ y. after kind (Some y.part) [])) (ap (λ d. stepped kind d s) same ∙ n)
after_more kind current c (t ∷ front) s x e n = go (λ y i. after_more kind (Some y.part) c front s x i n) (stepped kind current t) refl e
  where
    go : ((y : Step) → after kind (Some y.part) front ≡ Some c → after kind (Some y.part) (front ++ s ∷ []) ≡ Some (Some x.part)) → (o : Option Step) → stepped kind current t ≡ o → option_and_then (λ y. after kind (Some y.part) front) o ≡ Some c
        → option_and_then (λ y. after kind (Some y.part) (front ++ s ∷ [])) (stepped kind current t) ≡ Some (Some x.part)
    go later None o_is i = absurd cc
    go later (Some y) o_is i = ap (option_and_then (λ z. after kind (Some z.part) (front ++ s ∷ []))) o_is ∙ later y i

-- ---- beginnings are what leads somewhere

leads_begin : (kind : TextKind) (front : List Sight) (c : Option Part) → after kind None front ≡ Some c → IsBeginning kind front
leads_begin kind front c e =
    let k = completes kind 0 c in
    let r = leads_read kind 0 None front k.more c e (record { lines = k.lines; read = k.read }) in
    record { more = k.more; lines = r.lines; spelled = read_spelled kind 0 (front ++ k.more) r.lines r.read }

begin_leads : (kind : TextKind) (front : List Sight) → IsBeginning kind front → Leads kind None front
begin_leads kind front b = read_leads kind 0 None front b.more b.lines (spelled_read kind 0 (front ++ b.more) b.lines b.spelled)

no_beginning : (kind : TextKind) (front : List Sight) (c : Option Part) (s : Sight) → after kind None front ≡ Some c → stepped kind c s ≡ None → IsBeginning kind (front ++ s ∷ []) → ⊥
no_beginning kind front c s e n b =
    let read = spelled_read kind 0 ((front ++ s ∷ []) ++ b.more) b.lines b.spelled in
    let tokens : (front ++ s ∷ []) ++ b.more ≡ front ++ s ∷ b.more = append_assoc front (s ∷ []) b.more in
    let left : Result (List Line) Fault = Err (fault_at s) in
    let right : Result (List Line) Fault = Ok b.lines in
    let both : left ≡ right = sym (stuck kind 0 None c front s b.more e n) ∙ ap (lines_from kind 0 None) (sym tokens) ∙ read in
    cc

-- ---- where the lines of tokens end

data IsStuck (kind : TextKind) (end : ℕ) (current : Option Part) (ss : List Sight) (f : Fault) : Type 0 where
  at_token : (front : List Sight) (s : Sight) (rest : List Sight) (c : Option Part) → ss ≡ front ++ s ∷ rest → after kind current front ≡ Some c → stepped kind c s ≡ None → f ≡ fault_at s
      → IsStuck kind end current ss f
  at_end : (c : Option Part) → after kind current ss ≡ Some c → f ≡ (end, codes.EndOfText) → IsStuck kind end current ss f

stuck_later : (kind : TextKind) (end : ℕ) (current : Option Part) (s : Sight) (ss : List Sight) (f : Fault) (x : Step) → stepped kind current s ≡ Some x → IsStuck kind end (Some x.part) ss f
    → IsStuck kind end current (s ∷ ss) f
stuck_later kind end current s ss f x e (at_token front t rest c ss_is a n f_is) =
    at_token (s ∷ front) t rest c (ap (λ us. s ∷ us) ss_is) (ap (option_and_then (λ y. after kind (Some y.part) front)) e ∙ a) n f_is
stuck_later kind end current s ss f x e (at_end c a f_is) = at_end c (ap (option_and_then (λ y. after kind (Some y.part) ss)) e ∙ a) f_is

stuck_at : (kind : TextKind) (end : ℕ) (current : Option Part) (ss : List Sight) (f : Fault) → lines_from kind end current ss ≡ Err f → IsStuck kind end current ss f
stuck_at kind end None [] f e = absurd cc
stuck_at kind end (Some p) [] f e = go (line_of p) e
  where
    go : (o : Option Line) → last_line end o ≡ Err f → IsStuck kind end (Some p) [] f
    go None i = let same : (end, codes.EndOfText) ≡ f = cc in at_end (Some p) refl (sym same)
    go (Some l) i = absurd cc
stuck_at kind end current (s ∷ ss) f e = go (λ x i. stuck_at kind end (Some x.part) ss f i) (stepped kind current s) refl e
  where
    go : ((x : Step) → lines_from kind end (Some x.part) ss ≡ Err f → IsStuck kind end (Some x.part) ss f) → (o : Option Step) → stepped kind current s ≡ o → behind (fault_at s) (λ x. lines_from kind end (Some x.part) ss) o ≡ Err f → IsStuck kind end current (s ∷ ss) f
    go later None o_is i = let same : fault_at s ≡ f = cc in at_token [] s ss current refl refl o_is (sym same)
    go later (Some x) o_is i = got (lines_from kind end (Some x.part) ss) refl i
      where
        got : (r : Result (List Line) Fault) → lines_from kind end (Some x.part) ss ≡ r → map_ok (put x.done) r ≡ Err f → IsStuck kind end current (s ∷ ss) f
        got (Ok us) r_is k = absurd cc
        got (Err g) r_is k = let same : g ≡ f = cc in stuck_later kind end current s ss f x o_is (later x (r_is ∙ ap Err same))

-- tokens that lead on to their end come to no earlier fault
end_stuck : (kind : TextKind) (end : ℕ) (current : Option Part) (ss : List Sight) (c : Option Part) (f : Fault) → after kind current ss ≡ Some c → lines_from kind end current ss ≡ Err f
    → f ≡ (end, codes.EndOfText)
end_stuck kind end None [] c f a e = absurd cc
end_stuck kind end (Some p) [] c f a e = go (line_of p) e
  where
    go : (o : Option Line) → last_line end o ≡ Err f → f ≡ (end, codes.EndOfText)
    go None i = let same : (end, codes.EndOfText) ≡ f = cc in sym same
    go (Some l) i = absurd cc
end_stuck kind end current (s ∷ ss) c f a e = go (λ x i k. end_stuck kind end (Some x.part) ss c f i k) (stepped kind current s) a e
  where
    go : ((x : Step) → after kind (Some x.part) ss ≡ Some c → lines_from kind end (Some x.part) ss ≡ Err f → f ≡ (end, codes.EndOfText)) → (o : Option Step) → option_and_then (λ x. after kind (Some x.part) ss) o ≡ Some c → behind (fault_at s) (λ x. lines_from kind end (Some x.part) ss) o ≡ Err f → f ≡ (end, codes.EndOfText)
    go later None i k = absurd cc
    go later (Some x) i k = got (lines_from kind end (Some x.part) ss) refl k
      where
        got : (r : Result (List Line) Fault) → lines_from kind end (Some x.part) ss ≡ r → map_ok (put x.done) r ≡ Err f → f ≡ (end, codes.EndOfText)
        got (Ok us) r_is h = absurd cc
        got (Err g) r_is h = let same : g ≡ f = cc in later x i (r_is ∙ ap Err same)

-- ---- the two directions

pub misplaced : (kind : TextKind) (end : ℕ) (ss : List Sight) (at : ℕ) (code : Code) → lines_from kind end None ss ≡ Err (at, code) → IsMisplaced kind end ss at code
misplaced kind end ss at code e = go (stuck_at kind end None ss (at, code) e)
  where
    go : IsStuck kind end None ss (at, code) → IsMisplaced kind end ss at code
    go (at_token front s rest c ss_is a n f_is) =
        token front s rest ss_is (leads_begin kind front c a) (no_beginning kind front c s a n) (ap (λ (f : Fault). f.0) f_is) (ap (λ (f : Fault). f.1) f_is)
    go (at_end c a f_is) =
        unfinished (leads_begin kind ss c a) (λ ls spelled.
        let left : Result (List Line) Fault = Err (at, code) in
        let right : Result (List Line) Fault = Ok ls in
        let both : left ≡ right = sym e ∙ spelled_read kind end ss ls spelled in
        cc)
        (ap (λ (f : Fault). f.0) f_is) (ap (λ (f : Fault). f.1) f_is)

pub misplaced_stops : (kind : TextKind) (end : ℕ) (ss : List Sight) (at : ℕ) (code : Code) → IsMisplaced kind end ss at code → lines_from kind end None ss ≡ Err (at, code)
misplaced_stops kind end ss at code (token front s rest ss_is b none at_is code_is) =
    go (begin_leads kind front b)
  where
    go : Leads kind None front → lines_from kind end None ss ≡ Err (at, code)
    go l = step (stepped kind l.end s) refl
      where
        step : (o : Option Step) → stepped kind l.end s ≡ o → lines_from kind end None ss ≡ Err (at, code)
        step (Some x) o_is = absurd (none (leads_begin kind (front ++ s ∷ []) (Some x.part) (after_more kind None l.end front s x l.by o_is)))
        step None o_is =
            let f : Fault = (at, code) in
            let same : fault_at s ≡ f = ap (λ a. (a, code_of s.what)) (sym at_is) ∙ ap (λ c. (at, c)) (sym code_is) in
            ap (lines_from kind end None) ss_is ∙ stuck kind end None l.end front s rest l.by o_is ∙ ap Err same
misplaced_stops kind end ss at code (unfinished b none at_is code_is) =
    go (lines_from kind end None ss) refl
  where
    go : (r : Result (List Line) Fault) → lines_from kind end None ss ≡ r → r ≡ Err (at, code)
    go (Ok ls) r_is = absurd (none ls (read_spelled kind end ss ls r_is))
    go (Err f) r_is =
        let l = begin_leads kind ss b in
        let g : Fault = (at, code) in
        let there : f ≡ (end, codes.EndOfText) = end_stuck kind end None ss l.end f l.by r_is in
        let same : f ≡ g = there ∙ ap (λ a. (a, codes.EndOfText)) (sym at_is) ∙ ap (λ c. (at, c)) (sym code_is) in
        ap Err same
