-- The faults of lines stand in the order of their places, so the first of their list is the first of all.
use Rattle.std.proofs.Common.{◌≡◌, ◌↔◌, ◌⊎◌, ℕ, ◌+◌, ◌*◌, ◌<◌, ◌≤◌, Bool, true, false, cond, List, [], ◌∷◌, ◌++◌, length, drop, Option, Some, None, refl, sym, ap, subst, ◌∙◌, inl, inr, arith}
use Rattle.std.specs.Prelude.{Result, Ok, Err, ◌==◌, ◌^◌, nat_lt, nat_le, option_map, slice_range}
use Rattle.std.proofs.lemmas.List.{length-drop}
use Rattle.gv_base.specs.Codes.{code_number}
use Rattle.gv_base.specs.declared.answers.Code.{Code}
use Rattle.gv_base.specs.declared.answers.Code.TheVariants as codes
use Rattle.gv_base.specs.declared.token.Kind.{Kind}
use Rattle.gv_base.specs.declared.token.Token.{Token}
use Rattle.gv_lex.specs.Layout.{kind_of, token_for, laid}
use Rattle.gv_lex.specs.Reading as lex
use Rattle.gv_lex.specs.Reading.{own}
use Rattle.gv_lex.specs.declared.form.Form.{Form}
use Rattle.gv_text.specs.Answers.{IsNotAfter, IsFirst}
use Rattle.gv_text.specs.Cutting.{Piece, IsCut}
use Rattle.gv_text.specs.Judging.{mark_length, body_of}
use Rattle.gv_text.specs.Stops.{Fault}
use Rattle.gv_text.proofs.FirstOnes.{one_first}
use Rattle.gv_terms.specs.declared.sort.Sort.{Sort}
use Rattle.gv_terms.specs.declared.var.Var.{Var}
use Rattle.gv_atomic.specs.declared.spec.Spec.{Spec}
use Rattle.gv_replay.specs.declared.argument.Argument.{Argument}
use Rattle.gv_replay.specs.declared.argument.Number.{Number}
use Rattle.gv_replay.specs.declared.argument.Written.{Written}
use Rattle.gv_replay.specs.declared.argument.Written.TheVariants as written
use Rattle.gv_replay.specs.declared.line.CallLine.{CallLine}
use Rattle.gv_replay.specs.declared.line.Line.{Line}
use Rattle.gv_replay.specs.declared.line.Line.TheVariants as line
use Rattle.gv_replay.specs.declared.line.TextKind.{TextKind}
use Rattle.gv_replay.specs.declared.line.TextKind.TheVariants as text_kind
use Rattle.gv_replay.specs.declared.part.OneByte.{OneByte}
use Rattle.gv_replay.specs.declared.sight.Sight.{Sight}
use Rattle.gv_replay.specs.declared.what.What.{What}
use Rattle.gv_replay.specs.declared.what.What.TheVariants as what
use Rattle.gv_replay.specs.Faults.{large, of_written, of_argument, of_arguments, of_called, of_arity_by, of_arity, of_number, of_reply, of_line, of_lines, of_room, of_line_arity, of_event, of_plan, IsAmong, TellsFirst, MovesTellFirst, PlansTellFirst}
use Rattle.gv_replay.specs.Meaning.{largest_count, has_sort, params_at}
use Rattle.gv_replay.specs.Operations.{op_named}
use Rattle.gv_replay.specs.Parts.{number_by, number_in, written_by, written_at, truth_of, plain_in, byte_by, byte_in, single, times}
use Rattle.gv_replay.specs.Plans.{most_events, size_of, no_plan}
use Rattle.gv_replay.specs.Sights.{sight_of, sights_from, sights_of}
use Rattle.gv_replay.specs.Spelling.{IsValue, alone, one_byte, byte_times, AreValues, no_value, value_and, AreChoices, no_choice, choice_and, IsLine, a_call, a_start, an_answer, a_reply, an_act, a_crash, a_boot, a_choosing_boot, an_end, a_step, steps, a_fail, a_grow, numbers_calls, AreLines, no_line, line_and}
use Rattle.gv_replay.proofs.AnswerLemmas.{wrong_of}
use Rattle.gv_replay.proofs.FirstLemmas.{Agrees, fine, faulty, lines_agree, plans_agree}

-- ---- faults in order

below_32 : (c : Code) → code_number c < 32
below_32 codes.BadUtf8 = omega arith
below_32 codes.BadChar = omega arith
below_32 codes.OpenComment = omega arith
below_32 codes.OpenText = omega arith
below_32 codes.BadNumber = omega arith
below_32 codes.Unexpected = omega arith
below_32 codes.NotInProfile = omega arith
below_32 codes.TooDeep = omega arith
below_32 codes.EndOfText = omega arith
below_32 codes.Undeclared = omega arith
below_32 codes.Twice = omega arith
below_32 codes.WrongType = omega arith
below_32 codes.WrongCount = omega arith
below_32 codes.NotAssignable = omega arith
below_32 codes.MissingReturn = omega arith
below_32 codes.Captured = omega arith
below_32 codes.ConstTooLarge = omega arith
below_32 codes.NoRecover = omega arith
below_32 codes.TooLong = omega arith
below_32 codes.Interface = omega arith
below_32 codes.Disks = omega arith
below_32 codes.TooMany = omega arith
below_32 codes.TooManyCells = omega arith
below_32 codes.TooManyEvents = omega arith

-- by the place, and at one place by the number of the code
abbrev key : ℕ → Code → ℕ
key at code = 32 * at + code_number code

-- each not before the one before it, and all between two bounds
abbrev Ordered : ℕ → List Fault → ℕ → Type 0
Ordered lo [] hi = lo ≤ hi
Ordered lo (f ∷ fs) hi = (lo ≤ key f.0 f.1) × Ordered (key f.0 f.1) fs hi

lower : (lo mid hi : ℕ) (fs : List Fault) → lo ≤ mid → Ordered mid fs hi → Ordered lo fs hi
lower lo mid hi [] h o = omega (arith, h, o)
lower lo mid hi (f ∷ fs) h o = (omega (arith, h, o.0), o.1)

joined : (lo mid hi : ℕ) (fs gs : List Fault) → Ordered lo fs mid → Ordered mid gs hi → Ordered lo (fs ++ gs) hi
joined lo mid hi [] gs o p = lower lo mid hi gs o p
joined lo mid hi (f ∷ fs) gs o p = (o.0, joined (key f.0 f.1) mid hi fs gs o.1 p)

one_fault : (lo hi at : ℕ) (code : Code) → lo ≤ 32 * at → 32 * at + 32 ≤ hi → Ordered lo ((at, code) ∷ []) hi
one_fault lo hi at code h k = let b = below_32 code in (omega (arith, h), omega (arith, k, b))

test_fault : (b : Bool) (lo hi at : ℕ) (code : Code) → lo ≤ 32 * at → 32 * at + 32 ≤ hi → Ordered lo (cond b [] ((at, code) ∷ [])) hi
test_fault true lo hi at code h k = omega (arith, h, k)
test_fault false lo hi at code h k = one_fault lo hi at code h k

among_key : (lo hi : ℕ) (fs : List Fault) (at : ℕ) (code : Code) → Ordered lo fs hi → IsAmong fs at code → lo ≤ key at code
among_key lo hi [] at code o is = absurd is
among_key lo hi (f ∷ fs) at code o (inl p) = subst (λ c. lo ≤ key at c) p.1 (subst (λ n. lo ≤ key n f.1) p.0 o.0)
among_key lo hi (f ∷ fs) at code o (inr p) = (let later = among_key (key f.0 f.1) hi fs at code o.1 p in let here = o.0 in omega (arith, here, later))

not_after : (m n : ℕ) (c d : Code) → key m c ≤ key n d → IsNotAfter code_number m c n d
not_after m n c d h =
    let a = below_32 c in
    let b = below_32 d in
    record { place = omega (arith, h, a, b); number = λ e. omega (arith, h, e) }

first_is_first : (lo hi : ℕ) (f : Fault) (fs : List Fault) → Ordered lo (f ∷ fs) hi → IsFirst code_number (IsAmong (f ∷ fs)) f.0 f.1
first_is_first lo hi f fs o = record {
  there = inl (refl, refl);
  others = λ at code is. not_after f.0 at f.1 code (among_key (key f.0 f.1) hi (f ∷ fs) at code (omega arith, o.1) is);
}

pub tells_first : {T : Type 0} (r : Result T Fault) (fs : List Fault) (lo hi : ℕ) → Ordered lo fs hi → Agrees r fs → TellsFirst r fs
tells_first r fs lo hi o (fine t e f) = record {
  none = λ u h. f;
  first = λ at code. (
    (λ h. absurd (let clash = sym e ∙ h in cc)),
    (λ first. absurd (subst (λ gs. IsAmong gs at code) f first.there)),
  );
}
tells_first {T} r fs lo hi o (faulty g rest e f) =
    let all : IsFirst code_number (IsAmong fs) g.0 g.1 = subst (λ gs. IsFirst code_number (IsAmong gs) g.0 g.1) (sym f) (first_is_first lo hi g rest (subst (λ gs. Ordered lo gs hi) f o)) in
    record {
      none = λ t h. absurd (let clash = sym e ∙ h in cc);
      first = λ at code. (
        (λ h. let same : g ≡ (at, code) = err_same g (at, code) (sym e ∙ h) in subst (λ (x : Fault). IsFirst code_number (IsAmong fs) x.0 x.1) same all),
        (λ first.
            let same = one_first (IsAmong fs) g.0 at g.1 code all first in
            e ∙ ap Err (ap (λ n. (n, g.1)) same.0 ∙ ap (λ c. (at, c)) same.1)),
      );
    }
  where
    err_same : (x y : Fault) → wrong_of {A = T} {E = Fault} x ≡ Err y → x ≡ y
    err_same x y h = cc

-- ---- tokens one behind another

-- tokens between two places, none of them empty
abbrev AreApart : ℕ → ℕ → List Token → Type 0
AreApart from end [] = from ≤ end
AreApart from end (t ∷ ts) = (from ≤ t.start) × (t.start < t.end) × AreApart t.end end ts

abbrev total : List (Piece Form) → ℕ
total [] = 0
total (p ∷ ps) = length p.bytes + total ps

one_piece : (kind : Option Kind) (from at end : ℕ) (bytes : List ℕ) (more : List Token) → 0 < length bytes → from ≤ at
    → ((start : ℕ) → start ≤ at + length bytes → AreApart start end more) → AreApart from end (token_for kind at bytes ++ more)
one_piece (Some kind) from at end bytes more some h f = (h, omega (arith, some), f (at + length bytes) (omega arith))
one_piece None from at end bytes more some h f = f from (omega arith)

laid_apart : (text : List ℕ) (ps : List (Piece Form)) (rest : List ℕ) (from at : ℕ) → IsCut own text ps rest → from ≤ at → AreApart from (at + total ps) (laid at ps)
laid_apart text [] rest from at c h = omega arith
laid_apart text (p ∷ ps) rest from at c h =
    one_piece (kind_of p.form p.bytes) from at (at + total (p ∷ ps)) p.bytes (laid (at + length p.bytes) ps) c.0.piece.some h
    (λ start g. subst (λ n. AreApart start n (laid (at + length p.bytes) ps)) (omega arith) (laid_apart (drop (length p.bytes) text) ps rest start (at + length p.bytes) c.1 (omega arith)))

-- ---- tokens seen one behind another

abbrev Apart : ℕ → List Sight → ℕ → Type 0
Apart lo [] hi = lo ≤ hi
Apart lo (s ∷ ss) hi = (lo ≤ 32 * s.at) × Apart (32 * s.at + 32) ss hi

apart_le : (lo hi : ℕ) (ss : List Sight) → Apart lo ss hi → lo ≤ hi
apart_le lo hi [] h = h
apart_le lo hi (s ∷ ss) h = (let later = apart_le (32 * s.at + 32) hi ss h.1 in let here = h.0 in omega (arith, here, later))

record Halves (lo : ℕ) (ss ts : List Sight) (hi : ℕ) : Type 0 where
  mid : ℕ
  front : Apart lo ss mid
  back : Apart mid ts hi

halves : (lo hi : ℕ) (ss ts : List Sight) → Apart lo (ss ++ ts) hi → Halves lo ss ts hi
halves lo hi [] ts h = record { mid = lo; front = omega arith; back = h }
halves lo hi (s ∷ ss) ts h = (let k = halves (32 * s.at + 32) hi ss ts h.1 in record { mid = k.mid; front = (h.0, k.front); back = k.back })

seen_apart : (text : List ℕ) (behind from end : ℕ) (tokens : List Token) → AreApart from end tokens → Apart (32 * from) (sights_from text behind tokens) (32 * end)
seen_apart text behind from end [] h = omega (arith, h)
seen_apart text behind from end (t ∷ ts) h =
    let here = h.0 in
    let some = h.1 in
    let more = seen_apart text t.end t.end end ts h.2 in
    (omega (arith, here), raised (32 * t.start + 32) (32 * t.end) (32 * end) (sights_from text t.end ts) (omega (arith, some)) more)
  where
    raised : (lo mid hi : ℕ) (ss : List Sight) → lo ≤ mid → Apart mid ss hi → Apart lo ss hi
    raised lo mid hi [] k a = omega (arith, k, a)
    raised lo mid hi (s ∷ ss) k a = (let x = a.0 in omega (arith, k, x), a.1)

text_apart : (text : List ℕ) (tokens : List Token) → lex.IsRead text tokens → (end : ℕ) × Apart 0 (sights_of text tokens) end
text_apart text tokens read =
    let pieces = read.spelled.pieces in
    let from = mark_length text in
    let apart = laid_apart (body_of text) pieces [] 0 from read.spelled.cut (omega arith) in
    (32 * (from + total pieces), seen_apart text 0 0 (from + total pieces) tokens (subst (AreApart 0 (from + total pieces)) (sym read.spelled.listed) apart))

-- ---- the faults of parts

number_by_at : (at : ℕ) (x : What) (n : Number) → number_by at x ≡ Some n → n.at ≡ at
number_by_at at (what.Number d v) n e = cc
number_by_at at (what.Word w) n e = absurd cc
number_by_at at what.Large n e = absurd cc
number_by_at at (what.Byte b) n e = absurd cc
number_by_at at (what.Bytes bs) n e = absurd cc
number_by_at at what.Star n e = absurd cc
number_by_at at what.Other n e = absurd cc

number_at : (s : Sight) (n : Number) → number_in s ≡ Some n → n.at ≡ s.at
number_at s n e = number_by_at s.at s.what n e

byte_by_at : (at : ℕ) (x : What) (b : OneByte) → byte_by at x ≡ Some b → b.at ≡ at
byte_by_at at (what.Byte c) b e = cc
byte_by_at at (what.Word w) b e = absurd cc
byte_by_at at (what.Number d v) b e = absurd cc
byte_by_at at what.Large b e = absurd cc
byte_by_at at (what.Bytes bs) b e = absurd cc
byte_by_at at what.Star b e = absurd cc
byte_by_at at what.Other b e = absurd cc

truth_sound : (o : Option Bool) (w : Written) → option_map written.Bool o ≡ Some w → of_written w ≡ []
truth_sound None w e = absurd cc
truth_sound (Some b) w e = (let same : written.Bool b ≡ w = cc in ap of_written (sym same))

-- what is one token has no count
plain_sound : (x : What) (w : Written) → written_by x ≡ Some w → of_written w ≡ []
plain_sound (what.Number true n) w e = (let same : written.Word n ≡ w = cc in ap of_written (sym same))
plain_sound (what.Number false n) w e = absurd cc
plain_sound (what.Bytes bs) w e = (let same : written.Bytes bs ≡ w = cc in ap of_written (sym same))
plain_sound (what.Word v) w e = truth_sound (truth_of v) w e
plain_sound what.Large w e = absurd cc
plain_sound (what.Byte b) w e = absurd cc
plain_sound what.Star w e = absurd cc
plain_sound what.Other w e = absurd cc

plain_parts : (at : ℕ) (o : Option Written) (a : Argument) → ((w : Written) → o ≡ Some w → of_written w ≡ []) → option_map (written_at at) o ≡ Some a → (a.at ≡ at) × (of_written a.written ≡ [])
plain_parts at None a h e = absurd cc
plain_parts at (Some w) a h e = (
    let same : written_at at w ≡ a = cc in
    (ap (λ z. z.at) (sym same), ap (λ z. of_written z.written) (sym same) ∙ h w refl))

large_ordered : (bound : ℕ) (n : Number) (s : Sight) (lo hi : ℕ) → number_in s ≡ Some n → lo ≤ 32 * s.at → 32 * s.at + 32 ≤ hi → Ordered lo (large bound n) hi
large_ordered bound n s lo hi e h k =
    let at = number_at s n e in
    test_fault (nat_lt n.value bound) lo hi n.at codes.TooMany (omega (arith, h, at)) (omega (arith, k, at))

-- the count of an argument stands behind its first token, and its sort is told at that
record Parted (lo : ℕ) (a : Argument) (hi : ℕ) : Type 0 where
  mid : ℕ
  start : lo ≤ 32 * a.at
  end : 32 * a.at + 32 ≤ mid
  count : Ordered mid (of_written a.written) hi

value_parted : {ss : List Sight} {a : Argument} → IsValue ss a → (lo hi : ℕ) → Apart lo ss hi → Parted lo a hi
value_parted (alone s a e) lo hi h =
    let p = plain_parts s.at (written_by s.what) a (λ w w_is. plain_sound s.what w w_is) e in
    let at = p.0 in
    let here = h.0 in
    let rest = h.1 in
    record { mid = 32 * s.at + 32; start = omega (arith, here, at); end = omega (arith, at); count = subst (λ fs. Ordered (32 * s.at + 32) fs hi) (sym p.1) rest }
value_parted (one_byte s b e) lo hi h =
    let at = byte_by_at s.at s.what b e in
    let here = h.0 in
    let rest = h.1 in
    record { mid = 32 * s.at + 32; start = omega (arith, here, at); end = omega (arith, at); count = rest }
value_parted (byte_times s t u b n e star number) lo hi h =
    let at = byte_by_at s.at s.what b e in
    let here = h.0 in
    let one = h.1.0 in
    let two = h.1.1.0 in
    let rest = h.1.1.1 in
    record {
      mid = 32 * s.at + 32;
      start = omega (arith, here, at);
      end = omega (arith, at);
      count = large_ordered (largest_count + 1) n u (32 * s.at + 32) hi number (omega (arith, one, two)) rest;
    }

parted_sort : (lo hi : ℕ) (x : Sort) (a : Argument) → Parted lo a hi → Ordered lo (of_argument x a) hi
parted_sort lo hi x a p = joined lo p.mid hi (cond (has_sort a.written x) [] ((a.at, codes.WrongType) ∷ [])) (of_written a.written) (test_fault (has_sort a.written x) lo p.mid a.at codes.WrongType p.start p.end) p.count

parted_count : (lo hi : ℕ) (a : Argument) → Parted lo a hi → Ordered lo (of_written a.written) hi
parted_count lo hi a p = (let s = p.start in let e = p.end in lower lo p.mid hi (of_written a.written) (omega (arith, s, e)) p.count)

values_ordered : {ss : List Sight} {args : List Argument} → AreValues ss args → (xs : List Var) (lo hi : ℕ) → Apart lo ss hi → Ordered lo (of_arguments xs args) hi
values_ordered no_value [] lo hi h = h
values_ordered no_value (x ∷ xs) lo hi h = h
values_ordered (value_and {ss = ss} {ts = ts} a {rest = rest} v more) [] lo hi h =
    let k = halves lo hi ss ts h in
    joined lo k.mid hi (of_written a.written) (of_arguments [] rest) (parted_count lo k.mid a (value_parted v lo k.mid k.front)) (values_ordered more [] k.mid hi k.back)
values_ordered (value_and {ss = ss} {ts = ts} a {rest = rest} v more) (x ∷ xs) lo hi h =
    let k = halves lo hi ss ts h in
    joined lo k.mid hi (of_argument x.sort a) (of_arguments xs rest) (parted_sort lo k.mid x.sort a (value_parted v lo k.mid k.front)) (values_ordered more xs k.mid hi k.back)

-- a call from its name on
called_ordered : (s : Spec) (c : CallLine) {ss : List Sight} → AreValues ss c.args → (x : Option ℕ) (lo hi : ℕ) → lo ≤ 32 * c.op_at → Apart (32 * c.op_at + 32) ss hi → Ordered lo (of_called s c x) hi
called_ordered s c vs None lo hi h k =
    joined lo (32 * c.op_at + 32) hi ((c.op_at, codes.Undeclared) ∷ []) (of_arguments [] c.args) (one_fault lo (32 * c.op_at + 32) c.op_at codes.Undeclared h (omega arith)) (values_ordered vs [] (32 * c.op_at + 32) hi k)
called_ordered s c vs (Some op) lo hi h k = lower lo (32 * c.op_at + 32) hi (of_arguments (params_at s op) c.args) (omega (arith, h)) (values_ordered vs (params_at s op) (32 * c.op_at + 32) hi k)

arity_ordered : (s : Spec) (c : CallLine) (x : Option ℕ) (lo hi : ℕ) → lo ≤ 32 * c.at → 32 * c.at + 32 ≤ hi → Ordered lo (of_arity_by s c x) hi
arity_ordered s c None lo hi h k = omega (arith, h, k)
arity_ordered s c (Some op) lo hi h k = test_fault (length (params_at s op) == length c.args) lo hi c.at codes.WrongCount h k

-- ---- the faults of lines

line_ordered : {kind : TextKind} {ss : List Sight} {l : Line} → IsLine kind ss l → (s : Spec) (lo hi : ℕ) → Apart lo ss hi → Ordered lo (of_line s l) hi
line_ordered (a_call w k o n op {ss = ss} args nc cw kn ow vs) s lo hi h =
    let c : CallLine = record { at = w.at; number = Some n; op_at = o.at; op = op; args = args } in
    let x = op_named c.op s.ops in
    let a = h.0 in
    let b = h.1.0 in
    let d = h.1.1.0 in
    joined lo (32 * w.at + 32) hi (of_arity s c) (large (2 ^ 32) n ++ of_called s c x) (arity_ordered s c x lo (32 * w.at + 32) a (omega arith))
    (joined (32 * w.at + 32) (32 * k.at + 32) hi (large (2 ^ 32) n) (of_called s c x) (large_ordered (2 ^ 32) n k (32 * w.at + 32) (32 * k.at + 32) kn b (omega arith))
    (called_ordered s c vs x (32 * k.at + 32) hi d h.1.1.1))
line_ordered (a_start w o op {ss = ss} args m cw ow vs) s lo hi h =
    let c : CallLine = record { at = w.at; number = None; op_at = o.at; op = op; args = args } in
    let x = op_named c.op s.ops in
    let a = h.0 in
    let b = h.1.0 in
    joined lo (32 * w.at + 32) hi (of_arity s c) (of_called s c x) (arity_ordered s c x lo (32 * w.at + 32) a (omega arith)) (called_ordered s c vs x (32 * w.at + 32) hi b h.1.1)
line_ordered (an_answer w k n nc cw kn) s lo hi h =
    let a = h.0 in
    let b = h.1.0 in
    let d = h.1.1 in
    joined lo hi hi (large (2 ^ 32) n) [] (large_ordered (2 ^ 32) n k lo hi kn (omega (arith, a, b)) d) (omega arith)
line_ordered (a_reply w k n {ss = ss} r nc cw kn v) s lo hi h =
    let a = h.0 in
    let b = h.1.0 in
    joined lo (32 * k.at + 32) hi (large (2 ^ 32) n) (of_written r.written) (large_ordered (2 ^ 32) n k lo (32 * k.at + 32) kn (omega (arith, a, b)) (omega arith))
    (parted_count (32 * k.at + 32) hi r (value_parted v (32 * k.at + 32) hi h.1.1))
line_ordered (an_act w k n {ss = ss} choices m cw kn cs) s lo hi h =
    let a = h.0 in
    let b = h.1.0 in
    let d = apart_le (32 * k.at + 32) hi ss h.1.1 in
    large_ordered (2 ^ 32) n k lo hi kn (omega (arith, a, b)) d
line_ordered (a_crash w cw) s lo hi h = apart_le lo hi (w ∷ []) h
line_ordered (a_boot w m cw) s lo hi h = apart_le lo hi (w ∷ []) h
line_ordered (a_choosing_boot w {ss = ss} choices m cw cs) s lo hi h = apart_le lo hi (w ∷ ss) h
line_ordered (an_end w m cw) s lo hi h = apart_le lo hi (w ∷ []) h
line_ordered (a_step w t thread m cw tn) s lo hi h = apart_le lo hi (w ∷ t ∷ []) h
line_ordered (steps w t c thread count m cw tn cn) s lo hi h = apart_le lo hi (w ∷ t ∷ c ∷ []) h
line_ordered (a_fail w d disk m cw dn) s lo hi h = apart_le lo hi (w ∷ d ∷ []) h
line_ordered (a_grow w t x thread extra m cw tn xn) s lo hi h = apart_le lo hi (w ∷ t ∷ x ∷ []) h

lines_ordered : {kind : TextKind} {ss : List Sight} {ls : List Line} → AreLines kind ss ls → (s : Spec) (lo hi : ℕ) → Apart lo ss hi → Ordered lo (of_lines s ls) hi
lines_ordered no_line s lo hi h = h
lines_ordered (line_and {ss = ss} {ts = ts} l {rest = rest} is one starts follow more) s lo hi h =
    let k = halves lo hi ss ts h in
    joined lo k.mid hi (of_line s l) (of_lines s rest) (line_ordered is s lo k.mid k.front) (lines_ordered more s k.mid hi k.back)

-- ---- the faults of lines of schedules

-- too many events stand at the first token, where a wrong number of arguments comes before them
headed : (b t : Bool) (at lo mid hi : ℕ) (rest : List Fault) → lo ≤ 32 * at → 32 * at + 32 ≤ mid → Ordered mid rest hi
    → Ordered lo (cond b [] ((at, codes.WrongCount) ∷ []) ++ (cond t [] ((at, codes.TooManyEvents) ∷ []) ++ rest)) hi
headed true true at lo mid hi rest h k o = lower lo mid hi rest (omega (arith, h, k)) o
headed true false at lo mid hi rest h k o = (omega (arith, h), lower (key at codes.TooManyEvents) mid hi rest (omega (arith, k)) o)
headed false true at lo mid hi rest h k o = (omega (arith, h), lower (key at codes.WrongCount) mid hi rest (omega (arith, k)) o)
headed false false at lo mid hi rest h k o = (omega (arith, h), (omega arith, lower (key at codes.TooManyEvents) mid hi rest (omega (arith, k)) o))

start_ordered : (s : Spec) (c : CallLine) {ss : List Sight} → AreValues ss c.args → (x : Option ℕ) (events lo hi : ℕ) → lo ≤ 32 * c.at → 32 * c.at + 32 ≤ 32 * c.op_at → Apart (32 * c.op_at + 32) ss hi
    → Ordered lo (of_arity_by s c x ++ (of_room events (1, c.at) ++ of_called s c x)) hi
start_ordered s c vs None events lo hi h k a =
    headed true (nat_le (events + 1) most_events) c.at lo (32 * c.at + 32) hi (of_called s c None) h (omega arith) (called_ordered s c vs None (32 * c.at + 32) hi k a)
start_ordered s c vs (Some op) events lo hi h k a =
    headed (length (params_at s op) == length c.args) (nat_le (events + 1) most_events) c.at lo (32 * c.at + 32) hi (of_called s c (Some op)) h (omega arith) (called_ordered s c vs (Some op) (32 * c.at + 32) hi k a)

abbrev PlanOrdered : Spec → ℕ → Line → ℕ → ℕ → Type 0
PlanOrdered s events l lo hi = Ordered lo (of_line_arity s l ++ (of_room events (size_of l) ++ of_event s l)) hi

plan_ordered : {kind : TextKind} {ss : List Sight} {l : Line} → IsLine kind ss l → kind ≡ text_kind.Schedule → (s : Spec) (events lo hi : ℕ) → Apart lo ss hi → PlanOrdered s events l lo hi
plan_ordered (a_call w k o n op args nc cw kn ow vs) is s events lo hi h = absurd (let clash = sym (ap numbers_calls is) ∙ nc in cc)
plan_ordered (a_start w o op {ss = ss} args m cw ow vs) is s events lo hi h =
    let c : CallLine = record { at = w.at; number = None; op_at = o.at; op = op; args = args } in
    start_ordered s c vs (op_named c.op s.ops) events lo hi h.0 h.1.0 h.1.1
plan_ordered (an_answer w k n nc cw kn) is s events lo hi h = absurd (let clash = sym (ap numbers_calls is) ∙ nc in cc)
plan_ordered (a_reply w k n r nc cw kn v) is s events lo hi h = absurd (let clash = sym (ap numbers_calls is) ∙ nc in cc)
plan_ordered (an_act w k n choices m cw kn cs) is s events lo hi h = absurd (let clash = sym is ∙ m in cc)
plan_ordered (a_crash w cw) is s events lo hi h =
    let a = h.0 in
    let b = h.1 in
    headed true (nat_le (events + 1) most_events) w.at lo (32 * w.at + 32) hi [] a (omega arith) b
plan_ordered (a_boot w m cw) is s events lo hi h = absurd (let clash = sym is ∙ m in cc)
plan_ordered (a_choosing_boot w choices m cw cs) is s events lo hi h = absurd (let clash = sym is ∙ m in cc)
plan_ordered (an_end w m cw) is s events lo hi h = absurd (let clash = sym is ∙ m in cc)
plan_ordered (a_step w t thread m cw tn) is s events lo hi h =
    let b = h.1.0 in
    let d = h.1.1 in
    headed true (nat_le (events + 1) most_events) w.at lo (32 * w.at + 32) hi (large (2 ^ 32) thread) h.0 (omega arith) (large_ordered (2 ^ 32) thread t (32 * w.at + 32) hi tn b d)
plan_ordered (steps w t c thread count m cw tn cn) is s events lo hi h =
    let b = h.1.0 in
    let d = h.1.1.0 in
    let e = h.1.1.1 in
    headed true (nat_le (events + count.value) most_events) w.at lo (32 * w.at + 32) hi (large (2 ^ 32) thread) h.0 (omega arith) (large_ordered (2 ^ 32) thread t (32 * w.at + 32) hi tn b (omega (arith, d, e)))
plan_ordered (a_fail w d disk m cw dn) is s events lo hi h =
    let b = h.1.0 in
    let e = h.1.1 in
    headed true (nat_le (events + 1) most_events) w.at lo (32 * w.at + 32) hi (large 2 disk) h.0 (omega arith) (large_ordered 2 disk d (32 * w.at + 32) hi dn b e)
plan_ordered (a_grow w t x thread extra m cw tn xn) is s events lo hi h =
    let b = h.1.0 in
    let d = h.1.1.0 in
    let e = h.1.1.1 in
    headed true (nat_le (events + 1) most_events) w.at lo (32 * w.at + 32) hi (large (2 ^ 32) thread) h.0 (omega arith) (large_ordered (2 ^ 32) thread t (32 * w.at + 32) hi tn b (omega (arith, d, e)))

plans_ordered : {kind : TextKind} {ss : List Sight} {ls : List Line} → AreLines kind ss ls → kind ≡ text_kind.Schedule → (s : Spec) (events lo hi : ℕ) → Apart lo ss hi → Ordered lo (of_plan s events ls) hi
plans_ordered no_line is s events lo hi h = h
plans_ordered (line_and {ss = ss} {ts = ts} l {rest = rest} of one starts follow more) is s events lo hi h =
    let k = halves lo hi ss ts h in
    joined lo k.mid hi (of_line_arity s l ++ (of_room events (size_of l) ++ of_event s l)) (of_plan s (events + (size_of l).0) rest) (plan_ordered of is s events lo k.mid k.front) (plans_ordered more is s (events + (size_of l).0) k.mid hi k.back)

-- ---- the laws

pub moves_tell_first : MovesTellFirst
moves_tell_first s kind text tokens lines read spelled =
    let apart = text_apart text tokens read in
    tells_first _ (of_lines s lines) 0 apart.0 (lines_ordered spelled s 0 apart.0 apart.1) (lines_agree s [] lines)

pub plans_tell_first : PlansTellFirst
plans_tell_first s text tokens lines read spelled =
    let apart = text_apart text tokens read in
    tells_first _ (of_plan s 0 lines) 0 apart.0 (plans_ordered spelled refl s 0 0 apart.0 apart.1) (plans_agree s no_plan lines)
