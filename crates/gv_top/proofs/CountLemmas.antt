-- A text tells no more moves than it has bytes.
use Rattle.std.proofs.Common.{◌≡◌, ℕ, suc, ◌+◌, ◌-◌, ◌^◌, ◌<◌, ◌≤◌, List, [], ◌∷◌, ◌++◌, length, drop, Option, Some, None, refl, ap, subst, arith}
use Rattle.std.specs.Prelude.{Result, Ok, Vec}
use Rattle.std.specs.declared.alloc.Global.{Global}
use Rattle.std.proofs.lemmas.List.{length-append, length-drop}
use Rattle.gv_base.specs.declared.token.Kind.{Kind}
use Rattle.gv_base.specs.declared.token.Token.{Token}
use Rattle.gv_text.specs.Cutting.{Piece, IsCut}
use Rattle.gv_text.specs.Judging.{mark_length, body_of}
use Rattle.gv_text.specs.Stops.{Fault}
use Rattle.gv_text.proofs.Cuts.{has_its_bytes}
use Rattle.gv_lex.specs.declared.form.Form.{Form}
use Rattle.gv_lex.specs.Layout.{kind_of, token_for, laid}
use Rattle.gv_lex.specs.Reading as lex
use Rattle.gv_atomic.specs.declared.spec.Spec.{Spec}
use Rattle.gv_spec.specs.declared.entry.Entry.{Entry}
use Rattle.gv_spec.specs.declared.explanation.Move.{Move}
use Rattle.gv_spec.specs.declared.explanation.Move.TheVariants as move
use Rattle.gv_replay.specs.declared.line.Line.{Line}
use Rattle.gv_replay.specs.declared.line.TextKind.{TextKind}
use Rattle.gv_replay.specs.declared.sight.Sight.{Sight}
use Rattle.gv_replay.specs.Meaning.{move_in, listed, with_move, with_moves}
use Rattle.gv_replay.specs.declared.line.TextKind.TheVariants as text_kind
use Rattle.gv_replay.specs.Reading.{Tells, entries_in}
use Rattle.gv_replay.specs.Sights.{sights_from, sights_of}
use Rattle.gv_replay.specs.Spelling.{IsLine, a_call, a_start, an_answer, a_reply, an_act, a_crash, a_boot, a_choosing_boot, an_end, a_step, steps, a_fail, a_grow, AreLines, no_line, line_and}
use Rattle.gv_replay.specs.Told.{tell, tell_all}
use Rattle.gv_replay.proofs.OfSpecLemmas.{then_case, map_case}
use Rattle.gv_top.specs.Files.{Source, Reads}
use Rattle.gv_top.specs.Forms.{histories_of, moves_of}

-- ---- tokens

one_token : (kind : Option Kind) (at : ℕ) (bytes : List ℕ) → length (token_for kind at bytes) ≤ 1
one_token (Some kind) at bytes = omega arith
one_token None at bytes = omega arith

-- each piece has a byte
few_laid : (text : List ℕ) (ps : List (Piece Form)) (rest : List ℕ) (at : ℕ) → IsCut lex.own text ps rest → length (laid at ps) ≤ length text
few_laid text [] rest at c = omega arith
few_laid text (p ∷ ps) rest at c =
    let more = few_laid (drop (length p.bytes) text) ps rest (at + length p.bytes) c.1 in
    omega (
      arith,
      c.0.piece.some,
      has_its_bytes p text c.0.begins,
      length-drop (length p.bytes) text,
      more,
      one_token (kind_of p.form p.bytes) at p.bytes,
      length-append (token_for (kind_of p.form p.bytes) at p.bytes) (laid (at + length p.bytes) ps),
    )

few_tokens : (text : List ℕ) (tokens : List Token) → lex.IsRead text tokens → length tokens ≤ length text
few_tokens text tokens h =
    let few = few_laid (body_of text) h.spelled.pieces [] (mark_length text) h.spelled.cut in
    let same : length tokens ≡ length (laid (mark_length text) h.spelled.pieces) = ap length h.spelled.listed in
    omega (arith, few, same, length-drop (mark_length text) text)

-- ---- lines

as_many : (text : List ℕ) (behind : ℕ) (tokens : List Token) → length (sights_from text behind tokens) ≡ length tokens
as_many text behind [] = refl
as_many text behind (t ∷ ts) = ap suc (as_many text t.end ts)

has_token : (kind : TextKind) (ss : List Sight) (l : Line) → IsLine kind ss l → 1 ≤ length ss
has_token kind ss l (a_call w k o n op args c d e f g) = omega arith
has_token kind ss l (a_start w o op args c d e f) = omega arith
has_token kind ss l (an_answer w k n c d e) = omega arith
has_token kind ss l (a_reply w k n a c d e f) = omega arith
has_token kind ss l (an_act w k n choices c d e f) = omega arith
has_token kind ss l (a_crash w c) = omega arith
has_token kind ss l (a_boot w c d) = omega arith
has_token kind ss l (a_choosing_boot w choices c d e) = omega arith
has_token kind ss l (an_end w c d) = omega arith
has_token kind ss l (a_step w t thread c d e) = omega arith
has_token kind ss l (steps w t n thread count c d e f) = omega arith
has_token kind ss l (a_fail w d disk c e f) = omega arith
has_token kind ss l (a_grow w t x thread extra c d e f) = omega arith

few_lines : (kind : TextKind) (ss : List Sight) (ls : List Line) → AreLines kind ss ls → length ls ≤ length ss
few_lines kind ss ls no_line = omega arith
few_lines kind ss ls (line_and {ss = front} {ts = behind} l {rest} one same starts ends lines) =
    omega (arith, has_token kind front l one, few_lines kind behind rest lines, length-append front behind)

-- ---- moves

one_move : (m : Option Move) → length (listed m) ≤ 1
one_move None = omega arith
one_move (Some m) = omega arith

few_told : (s : Spec) (ls : List Line) (r : Result (List Move) Fault) (n : ℕ) (told : List Move) → ((t : List Move) → r ≡ Ok t → length t ≤ n) → tell_all (with_moves s) r ls ≡ Ok told → length told ≤ n + length ls
few_told s [] r n told h e = omega (arith, h told e)
few_told s (l ∷ ls) r n told h e = let more = few_told s ls (tell (with_moves s) r l) (n + 1) told next e in omega (arith, more)
  where
    next : (t : List Move) → tell (with_moves s) r l ≡ Ok t → length t ≤ n + 1
    next t t_is =
        then_case (λ u. with_moves s u l) r t t_is
        (λ u u_is k. map_case (with_move u) (move_in s l) t k
        (λ m m_is same. let added : length (u ++ listed m) ≡ length t = ap length same in omega (arith, h u u_is, added, length-append u (listed m), one_move m)))

few_moves : (s : Spec) (kind : TextKind) (text : List ℕ) (moves : List Move) → Tells (with_moves s) [] kind text moves → length moves ≤ length text
few_moves s kind text moves t =
    let told = few_told s t.lines (Ok []) 0 moves (λ u u_is. let same : [] ≡ u = cc in subst (λ (ms : List Move). length ms ≤ 0) same (omega arith)) t.told in
    omega (arith, told, few_lines _ (sights_of text t.tokens) t.lines t.spelled, as_many text 0 t.tokens, few_tokens text t.tokens t.read)

-- so those of a file can be numbered
pub numbered : (source : Source) (s : Spec) (name : List ℕ) (moves : Vec Move Global) → Reads source (moves_of s) name moves → length moves.items < 2 ^ 32 - 1
numbered source s name moves r = let few = few_moves s text_kind.Moves r.bytes moves.items r.spelled.0 in omega (arith, few, r.fits)

-- ---- histories

few_entries : (moves : List Move) → length (entries_in moves) ≤ length moves
few_entries [] = omega arith
few_entries (move.Act n choices ∷ moves) = let few = few_entries moves in omega (arith, few)
few_entries (move.Boot choices ∷ moves) = let few = few_entries moves in omega (arith, few)
few_entries (move.Other e ∷ moves) = let few = few_entries moves in omega (arith, few)

-- a history that is read has few enough entries for a search
pub searched : (source : Source) (s : Spec) (name : List ℕ) (history : Vec Entry Global) → Reads source (histories_of s) name history → length history.items < 2 ^ 31 - 1
searched source s name history r =
    let told = r.spelled.0 in
    let shown : length history.items ≡ length (entries_in told.moves) = ap length told.entries in
    let few = few_moves s text_kind.History r.bytes told.moves told.told in
    omega (arith, shown, few_entries told.moves, few, r.fits)
