-- What is spelled is read: the fronts of a line lead to it.
use Rattle.std.proofs.Common.{◌≡◌, ℕ, true, false, cond, List, [], ◌∷◌, ◌++◌, Option, Some, None, refl, sym, ap, subst, ◌∙◌, append_assoc, append-nil}
use Rattle.std.specs.Prelude.{Result, Ok, Err, option_map, option_and_then, codes}
use Rattle.std.specs.List.{AllByRecursion}
use Rattle.gv_replay.specs.declared.argument.Argument.{Argument}
use Rattle.gv_replay.specs.declared.argument.Number.{Number}
use Rattle.gv_replay.specs.declared.line.CallLine.{CallLine}
use Rattle.gv_replay.specs.declared.line.Line.{Line}
use Rattle.gv_replay.specs.declared.line.Line.TheVariants as line
use Rattle.gv_replay.specs.declared.line.TextKind.{TextKind}
use Rattle.gv_replay.specs.declared.line.TextKind.TheVariants as text_kind
use Rattle.gv_replay.specs.declared.part.OneByte.{OneByte}
use Rattle.gv_replay.specs.declared.part.Part.{Part}
use Rattle.gv_replay.specs.declared.part.Part.TheVariants as part
use Rattle.gv_replay.specs.declared.sight.Sight.{Sight}
use Rattle.gv_replay.specs.declared.what.What.{What}
use Rattle.gv_replay.specs.declared.what.What.TheVariants as what
use Rattle.gv_text.specs.Stops.{Fault}
use Rattle.gv_replay.specs.Lines.{fault_at, made, begun, turned, stepped, put, behind, last_line, lines_from}
use Rattle.gv_replay.specs.Parts.{number_in, written_by, written_at, plain_in, byte_by, is_star, single, times, first, first_by, with_argument, argument_by, argument, named_by, numbered_part, reply_by, answered, act_part, more_choices, counted_part, failing_part, grown_part, next, line_of}
use Rattle.gv_replay.specs.Results.{map_ok}
use Rattle.gv_replay.specs.Spelling.{IsValue, alone, one_byte, byte_times, AreValues, no_value, value_and, AreChoices, no_choice, choice_and, IsLine, a_call, a_start, an_answer, a_reply, an_act, a_crash, a_boot, a_choosing_boot, an_end, a_step, steps, a_fail, a_grow, numbers_calls, OnOneLine, StartLine, AreLines, no_line, line_and}

-- the front of a line with more tokens
abbrev pub run : Part → List Sight → Option Part
run p [] = Some p
run p (s ∷ ss) = option_and_then (λ q. run q ss) (next p s)

pub run_one : (p q : Part) (s : Sight) (ss : List Sight) → next p s ≡ Some q → run p (s ∷ ss) ≡ run q ss
run_one p q s ss e = ap (option_and_then (λ r. run r ss)) e

run_rest : (o : Option Part) (ss ts : List Sight) (q : Part) → ((p : Part) → run p ss ≡ Some q → run p (ss ++ ts) ≡ run q ts) → option_and_then (λ r. run r ss) o ≡ Some q
    → option_and_then (λ r. run r (ss ++ ts)) o ≡ run q ts
run_rest None ss ts q h e = absurd cc
run_rest (Some p) ss ts q h e = h p e

pub run_more : (p q : Part) (ss ts : List Sight) → run p ss ≡ Some q → run p (ss ++ ts) ≡ run q ts
run_more p q [] ts e = let same : p ≡ q = cc in ap (λ r. run r ts) same
run_more p q (s ∷ ss) ts e = run_rest (next p s) ss ts q (λ r. run_more r q ss ts) e

-- ---- tokens that are arguments

no_star_by : (at : ℕ) (w : What) (a : Argument) → option_map (written_at at) (written_by w) ≡ Some a → is_star w ≡ false
no_star_by at (what.Word w) a e = refl
no_star_by at (what.Number d n) a e = refl
no_star_by at what.Large a e = refl
no_star_by at (what.Byte b) a e = refl
no_star_by at (what.Bytes b) a e = refl
no_star_by at what.Star a e = absurd cc
no_star_by at what.Other a e = refl

no_byte_by : (at : ℕ) (w : What) (a : Argument) → option_map (written_at at) (written_by w) ≡ Some a → byte_by at w ≡ None
no_byte_by at (what.Word w) a e = refl
no_byte_by at (what.Number d n) a e = refl
no_byte_by at what.Large a e = refl
no_byte_by at (what.Byte b) a e = absurd cc
no_byte_by at (what.Bytes b) a e = refl
no_byte_by at what.Star a e = refl
no_byte_by at what.Other a e = refl

byte_no_star : (at : ℕ) (w : What) (b : OneByte) → byte_by at w ≡ Some b → is_star w ≡ false
byte_no_star at (what.Word w) b e = refl
byte_no_star at (what.Number d n) b e = refl
byte_no_star at what.Large b e = refl
byte_no_star at (what.Byte c) b e = refl
byte_no_star at (what.Bytes c) b e = refl
byte_no_star at what.Star b e = absurd cc
byte_no_star at what.Other b e = refl

-- a front of `call K OP` with these arguments, whether or not its last byte may yet be repeated
pub data IsOpen : Part → CallLine → Type 0 where
  at_values : (c : CallLine) → IsOpen (part.Arguments c) c
  at_byte : (c : CallLine) (b : OneByte) → IsOpen (part.ArgumentByte c b) (with_argument c (single b))

open_line : {p : Part} {c : CallLine} → IsOpen p c → line_of p ≡ Some (line.Call c)
open_line (at_values c) = refl
open_line (at_byte c b) = refl

next_open : {p : Part} {c : CallLine} → IsOpen p c → (s : Sight) → is_star s.what ≡ false → next p s ≡ argument c s
next_open (at_values c) s e = refl
next_open (at_byte c b) s e = ap (λ v. cond v (Some (part.ArgumentStar c b)) (argument (with_argument c (single b)) s)) e

record Reaches (p : Part) (ss : List Sight) (c : CallLine) : Type 0 where
  pub end : Part
  pub by : run p ss ≡ Some end
  pub is_open : IsOpen end c

value_reaches : {ss : List Sight} {a : Argument} → IsValue ss a → (p : Part) (c : CallLine) → IsOpen p c → Reaches p ss (with_argument c a)
value_reaches (alone s a e) p c o =
    let moved : next p s ≡ Some (part.Arguments (with_argument c a)) =
    next_open o s (no_star_by s.at s.what a e) ∙ ap (λ x. argument_by c x (plain_in s)) (no_byte_by s.at s.what a e) ∙ ap (argument_by c None) e in
    record { end = part.Arguments (with_argument c a); by = run_one p (part.Arguments (with_argument c a)) s [] moved; is_open = at_values (with_argument c a) }
value_reaches (one_byte s b e) p c o =
    let moved : next p s ≡ Some (part.ArgumentByte c b) = next_open o s (byte_no_star s.at s.what b e) ∙ ap (λ x. argument_by c x (plain_in s)) e in
    record { end = part.ArgumentByte c b; by = run_one p (part.ArgumentByte c b) s [] moved; is_open = at_byte c b }
value_reaches (byte_times s t u b n e star number) p c o =
    let moved : next p s ≡ Some (part.ArgumentByte c b) = next_open o s (byte_no_star s.at s.what b e) ∙ ap (λ x. argument_by c x (plain_in s)) e in
    let starred : next (part.ArgumentByte c b) t ≡ Some (part.ArgumentStar c b) = ap (λ v. cond v (Some (part.ArgumentStar c b)) (argument (with_argument c (single b)) t)) star in
    let d : CallLine = with_argument c (times b n) in
    let counted : next (part.ArgumentStar c b) u ≡ Some (part.Arguments d) = ap (option_map (λ m. part.Arguments (with_argument c (times b m)))) number in
    record {
      end = part.Arguments d;
      by = run_one p (part.ArgumentByte c b) s (t ∷ u ∷ []) moved ∙ run_one (part.ArgumentByte c b) (part.ArgumentStar c b) t (u ∷ []) starred
          ∙ run_one (part.ArgumentStar c b) (part.Arguments d) u [] counted;
      is_open = at_values d;
    }

abbrev with_arguments : CallLine → List Argument → CallLine
with_arguments c more = record c { args = c.args ++ more }

values_reach : {ss : List Sight} {args : List Argument} → AreValues ss args → (p : Part) (c : CallLine) → IsOpen p c → Reaches p ss (with_arguments c args)
values_reach no_value p c o =
    let same : c ≡ with_arguments c [] = ap (λ (xs : List Argument). record c { args = xs }) (sym (append-nil c.args)) in
    record { end = p; by = refl; is_open = subst (IsOpen p) same o }
values_reach (value_and {ss = ss} {ts = ts} a {rest = rest} v more) p c o =
    let front = value_reaches v p c o in
    let back = values_reach more front.end (with_argument c a) front.is_open in
    let same : with_arguments (with_argument c a) rest ≡ with_arguments c (a ∷ rest) = ap (λ (xs : List Argument). record c { args = xs }) (append_assoc c.args (a ∷ []) rest) in
    record { end = back.end; by = run_more p front.end ss ts front.by ∙ back.by; is_open = subst (IsOpen back.end) same back.is_open }

-- ---- lines

pub record IsFront (kind : TextKind) (ss : List Sight) (p : Part) : Type 0 where
  pub head : Sight
  pub rest : List Sight
  pub begun : Part
  pub tokens : ss ≡ head ∷ rest
  pub start : first kind head ≡ Some begun
  pub by : run begun rest ≡ Some p

record HasLine (kind : TextKind) (ss : List Sight) (l : Line) : Type 0 where
  pub end : Part
  pub front : IsFront kind ss end
  pub line : line_of end ≡ Some l

reply_reaches : {ss : List Sight} {a : Argument} (n : Number) → IsValue ss a → (p : Part) × (run (part.Replying n) ss ≡ Some p) × (line_of p ≡ Some (line.Answer n (Some a)))
reply_reaches n (alone s a e) =
    let moved : next (part.Replying n) s ≡ Some (part.Whole (line.Answer n (Some a))) =
    ap (λ x. reply_by n x (plain_in s)) (no_byte_by s.at s.what a e) ∙ ap (reply_by n None) e in
    (part.Whole (line.Answer n (Some a)), run_one (part.Replying n) (part.Whole (line.Answer n (Some a))) s [] moved, refl)
reply_reaches n (one_byte s b e) =
    let moved : next (part.Replying n) s ≡ Some (part.ReplyByte n b) = ap (λ x. reply_by n x (plain_in s)) e in
    (part.ReplyByte n b, run_one (part.Replying n) (part.ReplyByte n b) s [] moved, refl)
reply_reaches n (byte_times s t u b m e star number) =
    let moved : next (part.Replying n) s ≡ Some (part.ReplyByte n b) = ap (λ x. reply_by n x (plain_in s)) e in
    let starred : next (part.ReplyByte n b) t ≡ Some (part.ReplyStar n b) = ap (λ v. cond v (Some (part.ReplyStar n b)) None) star in
    let whole : Part = part.Whole (line.Answer n (Some (times b m))) in
    let counted : next (part.ReplyStar n b) u ≡ Some whole = ap (option_map (λ k. answered n (times b k))) number in (
      whole,
      run_one (part.Replying n) (part.ReplyByte n b) s (t ∷ u ∷ []) moved ∙ run_one (part.ReplyByte n b) (part.ReplyStar n b) t (u ∷ []) starred
          ∙ run_one (part.ReplyStar n b) whole u [] counted,
      refl,
    )

-- choices behind a front that takes them
choices_reach : (front : List ℕ → Part) → ((cs : List ℕ) (s : Sight) → next (front cs) s ≡ option_map (λ n. front (more_choices cs n)) (number_in s))
    → {ss : List Sight} {more : List ℕ} → AreChoices ss more → (cs : List ℕ) → run (front cs) ss ≡ Some (front (cs ++ more))
choices_reach front step no_choice cs = ap (λ xs. Some (front xs)) (sym (append-nil cs))
choices_reach front step (choice_and s {ss = ss} n {rest = rest} is more) cs =
    let moved : next (front cs) s ≡ Some (front (more_choices cs n)) = step cs s ∙ ap (option_map (λ m. front (more_choices cs m))) is in
    run_one (front cs) (front (more_choices cs n)) s ss moved ∙ choices_reach front step more (more_choices cs n)
    ∙ ap (λ xs. Some (front xs)) (append_assoc cs (n.value ∷ []) rest)

-- first words, by the kinds of text in which they stand
call_first : (kind : TextKind) (at : ℕ) → numbers_calls kind ≡ true → first_by kind at (what.Word (codes "call")) ≡ Some (part.Call at)
call_first text_kind.History at h = refl
call_first text_kind.Moves at h = refl
call_first text_kind.Schedule at h = absurd cc

answer_first : (kind : TextKind) (at : ℕ) → numbers_calls kind ≡ true → first_by kind at (what.Word (codes "answer")) ≡ Some part.Answer
answer_first text_kind.History at h = refl
answer_first text_kind.Moves at h = refl
answer_first text_kind.Schedule at h = absurd cc

-- a word that stands in one kind of text
own_first : (kind of : TextKind) (at : ℕ) (w : List ℕ) (x : Part) → kind ≡ of → first_by of at (what.Word w) ≡ Some x → first_by kind at (what.Word w) ≡ Some x
own_first kind of at w x same e = ap (λ k. first_by k at (what.Word w)) same ∙ e

line_reached : {kind : TextKind} {ss : List Sight} {l : Line} → IsLine kind ss l → HasLine kind ss l
line_reached {kind} (a_call w k o n op {ss = ss} args nc cw kn ow vs) =
    let c : CallLine = record { at = w.at; number = Some n; op_at = o.at; op = op; args = [] } in
    let one : next (part.Call w.at) k ≡ Some (part.Numbered w.at (Some n)) = ap (option_map (numbered_part w.at)) kn in
    let two : next (part.Numbered w.at (Some n)) o ≡ Some (part.Arguments c) = ap (named_by w.at (Some n) o.at) ow in
    let last = values_reach vs (part.Arguments c) c (at_values c) in
    record {
      end = last.end;
      front = record {
        head = w;
        rest = k ∷ o ∷ ss;
        begun = part.Call w.at;
        tokens = refl;
        start = ap (first_by kind w.at) cw ∙ call_first kind w.at nc;
        by = run_one (part.Call w.at) (part.Numbered w.at (Some n)) k (o ∷ ss) one ∙ run_one (part.Numbered w.at (Some n)) (part.Arguments c) o ss two ∙ last.by;
      };
      line = open_line last.is_open;
    }
line_reached {kind} (a_start w o op {ss = ss} args m cw ow vs) =
    let c : CallLine = record { at = w.at; number = None; op_at = o.at; op = op; args = [] } in
    let two : next (part.Numbered w.at None) o ≡ Some (part.Arguments c) = ap (named_by w.at None o.at) ow in
    let last = values_reach vs (part.Arguments c) c (at_values c) in
    record {
      end = last.end;
      front = record {
        head = w;
        rest = o ∷ ss;
        begun = part.Numbered w.at None;
        tokens = refl;
        start = ap (first_by kind w.at) cw ∙ own_first kind text_kind.Schedule w.at (codes "call") (part.Numbered w.at None) m refl;
        by = run_one (part.Numbered w.at None) (part.Arguments c) o ss two ∙ last.by;
      };
      line = open_line last.is_open;
    }
line_reached {kind} (an_answer w k n nc cw kn) =
    let one : next part.Answer k ≡ Some (part.Replying n) = ap (option_map part.Replying) kn in
    record {
      end = part.Replying n;
      front = record { head = w; rest = k ∷ []; begun = part.Answer; tokens = refl; start = ap (first_by kind w.at) cw ∙ answer_first kind w.at nc; by = run_one part.Answer (part.Replying n) k [] one };
      line = refl;
    }
line_reached {kind} (a_reply w k n {ss = ss} a nc cw kn v) =
    let one : next part.Answer k ≡ Some (part.Replying n) = ap (option_map part.Replying) kn in
    let last = reply_reaches n v in
    record {
      end = last.0;
      front = record { head = w; rest = k ∷ ss; begun = part.Answer; tokens = refl; start = ap (first_by kind w.at) cw ∙ answer_first kind w.at nc; by = run_one part.Answer (part.Replying n) k ss one ∙ last.1 };
      line = last.2;
    }
line_reached {kind} (an_act w k n {ss = ss} choices m cw kn cs) =
    let one : next part.Act k ≡ Some (part.Acting n []) = ap (option_map act_part) kn in
    record {
      end = part.Acting n choices;
      front = record {
        head = w;
        rest = k ∷ ss;
        begun = part.Act;
        tokens = refl;
        start = ap (first_by kind w.at) cw ∙ own_first kind text_kind.Moves w.at (codes "act") part.Act m refl;
        by = run_one part.Act (part.Acting n []) k ss one ∙ choices_reach (part.Acting n) (λ xs s. refl) cs [];
      };
      line = refl;
    }
line_reached {kind} (a_crash w cw) = record {
  end = part.Whole (line.Crash w.at);
  front = record { head = w; rest = []; begun = part.Whole (line.Crash w.at); tokens = refl; start = ap (first_by kind w.at) cw; by = refl };
  line = refl;
}
line_reached {kind} (a_boot w m cw) = record {
  end = part.Whole (line.Boot []);
  front = record {
    head = w;
    rest = [];
    begun = part.Whole (line.Boot []);
    tokens = refl;
    start = ap (first_by kind w.at) cw ∙ own_first kind text_kind.History w.at (codes "boot") (part.Whole (line.Boot [])) m refl;
    by = refl;
  };
  line = refl;
}
line_reached {kind} (a_choosing_boot w {ss = ss} choices m cw cs) = record {
  end = part.Booting choices;
  front = record {
    head = w;
    rest = ss;
    begun = part.Booting [];
    tokens = refl;
    start = ap (first_by kind w.at) cw ∙ own_first kind text_kind.Moves w.at (codes "boot") (part.Booting []) m refl;
    by = choices_reach part.Booting (λ xs s. refl) cs [];
  };
  line = refl;
}
line_reached {kind} (an_end w m cw) = record {
  end = part.Whole line.End;
  front = record {
    head = w;
    rest = [];
    begun = part.Whole line.End;
    tokens = refl;
    start = ap (first_by kind w.at) cw ∙ own_first kind text_kind.History w.at (codes "end") (part.Whole line.End) m refl;
    by = refl;
  };
  line = refl;
}
line_reached {kind} (a_step w t thread m cw tn) =
    let one : next (part.Step w.at) t ≡ Some (part.Stepping w.at thread) = ap (option_map (part.Stepping w.at)) tn in
    record {
      end = part.Stepping w.at thread;
      front = record {
        head = w;
        rest = t ∷ [];
        begun = part.Step w.at;
        tokens = refl;
        start = ap (first_by kind w.at) cw ∙ own_first kind text_kind.Schedule w.at (codes "step") (part.Step w.at) m refl;
        by = run_one (part.Step w.at) (part.Stepping w.at thread) t [] one;
      };
      line = refl;
    }
line_reached {kind} (steps w t c thread count m cw tn cn) =
    let whole : Part = part.Whole (line.Step w.at thread (Some count)) in
    let one : next (part.Step w.at) t ≡ Some (part.Stepping w.at thread) = ap (option_map (part.Stepping w.at)) tn in
    let two : next (part.Stepping w.at thread) c ≡ Some whole = ap (option_map (counted_part w.at thread)) cn in
    record {
      end = whole;
      front = record {
        head = w;
        rest = t ∷ c ∷ [];
        begun = part.Step w.at;
        tokens = refl;
        start = ap (first_by kind w.at) cw ∙ own_first kind text_kind.Schedule w.at (codes "step") (part.Step w.at) m refl;
        by = run_one (part.Step w.at) (part.Stepping w.at thread) t (c ∷ []) one ∙ run_one (part.Stepping w.at thread) whole c [] two;
      };
      line = refl;
    }
line_reached {kind} (a_fail w d disk m cw dn) =
    let whole : Part = part.Whole (line.Fail w.at disk) in
    let one : next (part.Fail w.at) d ≡ Some whole = ap (option_map (failing_part w.at)) dn in
    record {
      end = whole;
      front = record {
        head = w;
        rest = d ∷ [];
        begun = part.Fail w.at;
        tokens = refl;
        start = ap (first_by kind w.at) cw ∙ own_first kind text_kind.Schedule w.at (codes "fail") (part.Fail w.at) m refl;
        by = run_one (part.Fail w.at) whole d [] one;
      };
      line = refl;
    }
line_reached {kind} (a_grow w t x thread extra m cw tn xn) =
    let whole : Part = part.Whole (line.Grow w.at thread extra) in
    let one : next (part.Grow w.at) t ≡ Some (part.Growing w.at thread) = ap (option_map (part.Growing w.at)) tn in
    let two : next (part.Growing w.at thread) x ≡ Some whole = ap (option_map (grown_part w.at thread)) xn in
    record {
      end = whole;
      front = record {
        head = w;
        rest = t ∷ x ∷ [];
        begun = part.Grow w.at;
        tokens = refl;
        start = ap (first_by kind w.at) cw ∙ own_first kind text_kind.Schedule w.at (codes "grow") (part.Grow w.at) m refl;
        by = run_one (part.Grow w.at) (part.Growing w.at thread) t (x ∷ []) one ∙ run_one (part.Growing w.at thread) whole x [] two;
      };
      line = refl;
    }

-- ---- whole texts

put_nothing : (r : Result (List Line) Fault) → map_ok (put None) r ≡ r
put_nothing (Ok ls) = refl
put_nothing (Err f) = refl

rest_goes_on : (kind : TextKind) (end : ℕ) (o : Option Part) (s : Sight) (ss ts : List Sight) (p : Part)
    → ((q : Part) → run q ss ≡ Some p → lines_from kind end (Some q) (ss ++ ts) ≡ lines_from kind end (Some p) ts)
    → option_and_then (λ q. run q ss) o ≡ Some p → behind (fault_at s) (λ x. lines_from kind end (Some x.part) (ss ++ ts)) (option_map (made None) o) ≡ lines_from kind end (Some p) ts
rest_goes_on kind end None s ss ts p h e = absurd cc
rest_goes_on kind end (Some q) s ss ts p h e = put_nothing (lines_from kind end (Some q) (ss ++ ts)) ∙ h q e

-- the tokens of a line lead to its front
goes_on : (kind : TextKind) (end : ℕ) (q p : Part) (ss ts : List Sight) → run q ss ≡ Some p → AllByRecursion (λ t. t.starts ≡ false) ss
    → lines_from kind end (Some q) (ss ++ ts) ≡ lines_from kind end (Some p) ts
goes_on kind end q p [] ts e h = let same : q ≡ p = cc in ap (λ r. lines_from kind end (Some r) ts) same
goes_on kind end q p (s ∷ ss) ts e h =
    let inside : stepped kind (Some q) s ≡ option_map (made None) (next q s) =
    ap (λ v. cond v (option_and_then (λ l. turned kind l s) (line_of q)) (option_map (made None) (next q s))) h.0 in
    ap (behind (fault_at s) (λ x. lines_from kind end (Some x.part) (ss ++ ts))) inside
    ∙ rest_goes_on kind end (next q s) s ss ts p (λ r i. goes_on kind end r p ss ts i h.1) e

-- what is told where a line stands before these tokens, or none does
abbrev pub lines_before : Option Line → List Line → List Line
lines_before None ls = ls
lines_before (Some l) ls = l ∷ ls

-- the line before tokens, if there is one, and that they may stand behind it
pub data IsBefore : Option Part → Option Line → List Sight → Type 0 where
  nothing_before : {ss : List Sight} → IsBefore None None ss
  line_before : (p : Part) (l : Line) {ss : List Sight} → line_of p ≡ Some l → StartLine ss → (l ≡ line.End → ss ≡ []) → IsBefore (Some p) (Some l) ss

turned_by : (kind : TextKind) (l : Line) (s : Sight) (ss : List Sight) → (l ≡ line.End → s ∷ ss ≡ []) → turned kind l s ≡ begun kind (Some l) s
turned_by kind (line.Call c) s ss h = refl
turned_by kind (line.Answer n r) s ss h = refl
turned_by kind (line.Act n choices) s ss h = refl
turned_by kind (line.Crash at) s ss h = refl
turned_by kind (line.Boot choices) s ss h = refl
turned_by kind (line.Step at thread count) s ss h = refl
turned_by kind (line.Fail at disk) s ss h = refl
turned_by kind (line.Grow at thread extra) s ss h = refl
turned_by kind line.End s ss h = let none : s ∷ ss ≡ [] = h refl in absurd cc

-- the first token of a line, behind another or not
first_step : (kind : TextKind) {current : Option Part} {done : Option Line} (s : Sight) (ss : List Sight) (q : Part) → IsBefore current done (s ∷ ss) → first kind s ≡ Some q
    → stepped kind current s ≡ Some (made done q)
first_step kind s ss q nothing_before e = ap (option_map (made None)) e
first_step kind s ss q (line_before p l is starts follow) e =
    ap (λ v. cond v (option_and_then (λ k. turned kind k s) (line_of p)) (option_map (made None) (next p s))) starts
    ∙ ap (option_and_then (λ k. turned kind k s)) is ∙ turned_by kind l s ss follow ∙ ap (option_map (made (Some l))) e

end_before : (kind : TextKind) (end : ℕ) {current : Option Part} {done : Option Line} → IsBefore current done [] → lines_from kind end current [] ≡ Ok (lines_before done [])
end_before kind end nothing_before = refl
end_before kind end (line_before p l is starts follow) = ap (last_line end) is

put_before : (done : Option Line) (ls : List Line) → map_ok {E = Fault} (put done) (Ok ls) ≡ Ok (lines_before done ls)
put_before None ls = refl
put_before (Some l) ls = refl

line_taken : (kind : TextKind) (end : ℕ) {current : Option Part} {done : Option Line} (head : Sight) (rest ts : List Sight) (q p : Part) (r : List Line)
    → IsBefore current done (head ∷ (rest ++ ts)) → first kind head ≡ Some q → run q rest ≡ Some p → AllByRecursion (λ t. t.starts ≡ false) rest
    → lines_from kind end (Some p) ts ≡ Ok r → lines_from kind end current (head ∷ (rest ++ ts)) ≡ Ok (lines_before done r)
line_taken kind end {done = done} head rest ts q p r before start by one i =
    ap (behind (fault_at head) (λ x. lines_from kind end (Some x.part) (rest ++ ts))) (first_step kind head (rest ++ ts) q before start)
    ∙ ap (map_ok (put done)) (goes_on kind end q p rest ts by one ∙ i) ∙ put_before done r

pub lines_read : {kind : TextKind} {ss : List Sight} {ls : List Line} → AreLines kind ss ls → (end : ℕ) (current : Option Part) (done : Option Line) → IsBefore current done ss
    → lines_from kind end current ss ≡ Ok (lines_before done ls)
lines_read {kind} no_line end current l before = end_before kind end before
lines_read {kind} (line_and {ss = ss} {ts = ts} l {rest = rest} is one starts follow more) end current done before =
    let has = line_reached is in
    let f = has.front in
    let tokens : ss ++ ts ≡ f.head ∷ (f.rest ++ ts) = ap (λ us. us ++ ts) f.tokens in
    let before2 : IsBefore current done (f.head ∷ (f.rest ++ ts)) = subst (λ us. IsBefore current done us) tokens before in
    let one2 : OnOneLine (f.head ∷ f.rest) = subst OnOneLine f.tokens one in
    let after : lines_from kind end (Some has.end) ts ≡ Ok (l ∷ rest) = lines_read more end (Some has.end) (Some l) (line_before has.end l has.line starts follow) in
    ap (lines_from kind end current) tokens ∙ line_taken kind end f.head f.rest ts f.begun has.end (l ∷ rest) before2 f.start f.by one2 after

pub spelled_read : (kind : TextKind) (end : ℕ) (ss : List Sight) (ls : List Line) → AreLines kind ss ls → lines_from kind end None ss ≡ Ok ls
spelled_read kind end ss ls h = lines_read h end None None nothing_before
