-- What a text tells, by its tokens, and how the pass answers.
use Rattle.std.proofs.Common.{◌≡◌, ℕ, List, length, refl, sym, ap, subst, ◌∙◌}
use Rattle.std.specs.Prelude.{Result, Ok, Err, Vec, IsErrAnd}
use Rattle.std.specs.declared.alloc.Global.{Global}
use Rattle.gv_base.specs.Places.{place_at}
use Rattle.gv_base.specs.declared.answers.Code.{Code}
use Rattle.gv_base.specs.declared.answers.Place.{Place}
use Rattle.gv_base.specs.declared.answers.Refusal.{Refusal}
use Rattle.gv_base.specs.declared.answers.Refusal.TheVariants as refusal
use Rattle.gv_base.specs.declared.token.Token.{Token}
use Rattle.gv_lex.specs.Reading as lex
use Rattle.gv_text.specs.Answers.{IsReadSo, IsReadAs, AreReadAs, IsRefusedAs, Refuses}
use Rattle.gv_text.specs.Stops.{Fault, StopsAs, refusal_of}
use Rattle.gv_text.specs.declared.stop.Stop.{Stop}
use Rattle.gv_text.specs.declared.stop.Stop.TheVariants as stop
use Rattle.gv_replay.specs.declared.line.TextKind.{TextKind}
use Rattle.gv_replay.specs.declared.line.Line.{Line}
use Rattle.gv_replay.specs.Lines.{lines_of}
use Rattle.gv_replay.specs.Reading.{told_by, Tells, IsRefused, characters, grammar, meaning}
use Rattle.gv_replay.specs.Results.{and_then}
use Rattle.gv_replay.specs.Sights.{sights_of}
use Rattle.gv_replay.specs.Spelling.{AreLines}
use Rattle.gv_replay.specs.Told.{tell_all}
use Rattle.gv_replay.proofs.BeginningLemmas.{misplaced, misplaced_stops}
use Rattle.gv_replay.proofs.ReadLemmas.{read_spelled}
use Rattle.gv_replay.proofs.SpelledLemmas.{spelled_read}

abbrev right_of : {A E : Type 0} → A → Result A E
right_of x = Ok x

abbrev pub wrong_of : {A E : Type 0} → E → Result A E
wrong_of e = Err e

ok_is : {A E : Type 0} (x y : A) → right_of {A = A} {E = E} x ≡ Ok y → x ≡ y
ok_is x y h = cc

err_is : {A E : Type 0} (x y : E) → wrong_of {A = A} {E = E} x ≡ Err y → x ≡ y
err_is x y h = cc

not_both : {A E : Type 0} (x : A) (y : E) → Ok x ≡ Err y → ⊥
not_both x y h = cc

module _ {T : Type 0} (with_line : T → Line → Result T Fault) (start : T) (kind : TextKind) (text : List ℕ) where
  -- what the pass computes, and where it stops
  record Computes (told : T) : Type 0 where
    pub tokens : List Token
    pub read : lex.IsRead text tokens
    pub is : told_by with_line start kind text tokens ≡ Ok told

  data IsStopped (at : ℕ) (code : Code) : Type 0 where
    by_characters : lex.IsRefused text at code → IsStopped at code
    by_tokens : (tokens : List Token) → lex.IsRead text tokens → told_by with_line start kind text tokens ≡ Err (at, code) → IsStopped at code

  -- ---- what is told is what is computed

  lines_told : (tokens : List Token) (lines : List Line) (r : Result T Fault) → AreLines kind (sights_of text tokens) lines → tell_all with_line (Ok start) lines ≡ r → told_by with_line start kind text tokens ≡ r
  lines_told tokens lines r spelled told = ap (and_then (tell_all with_line (Ok start))) (spelled_read kind (length text) (sights_of text tokens) lines spelled) ∙ told

  computes : (told : T) → Tells with_line start kind text told → Computes told
  computes told t = record { tokens = t.tokens; read = t.read; is = lines_told t.tokens t.lines (Ok told) t.spelled t.told }

  pub tells : (tokens : List Token) (told : T) → lex.IsRead text tokens → told_by with_line start kind text tokens ≡ Ok told → Tells with_line start kind text told
  tells tokens told read is = go (lines_of kind (length text) (sights_of text tokens)) refl is
    where
      go : (r : Result (List Line) Fault) → lines_of kind (length text) (sights_of text tokens) ≡ r → and_then (tell_all with_line (Ok start)) r ≡ Ok told → Tells with_line start kind text told
      go (Ok ls) r_is h = record { tokens = tokens; lines = ls; read = read; spelled = read_spelled kind (length text) (sights_of text tokens) ls r_is; told = h }
      go (Err f) r_is h = absurd (not_both told f (sym h))

  stops : (at : ℕ) (code : Code) → IsRefused with_line start kind text at code → IsStopped at code
  stops at code (characters h) = by_characters h
  stops at code (grammar tokens read m) =
      by_tokens tokens read (ap (and_then (tell_all with_line (Ok start))) (misplaced_stops kind (length text) (sights_of text tokens) at code m))
  stops at code (meaning tokens lines read spelled told) = by_tokens tokens read (lines_told tokens lines (Err (at, code)) spelled told)

  refused : (tokens : List Token) (at : ℕ) (code : Code) → lex.IsRead text tokens → told_by with_line start kind text tokens ≡ Err (at, code) → IsRefused with_line start kind text at code
  refused tokens at code read told = go (lines_of kind (length text) (sights_of text tokens)) refl told
    where
      go : (r : Result (List Line) Fault) → lines_of kind (length text) (sights_of text tokens) ≡ r → and_then (tell_all with_line (Ok start)) r ≡ Err (at, code) → IsRefused with_line start kind text at code
      go (Ok ls) r_is h = meaning tokens ls read (read_spelled kind (length text) (sights_of text tokens) ls r_is) h
      go (Err f) r_is h =
          let same : f ≡ (at, code) = err_is {A = T} f (at, code) h in
          grammar tokens read (misplaced kind (length text) (sights_of text tokens) at code (r_is ∙ ap Err same))

  -- the tokens of the text are told, or those of another reading would be
  abbrev pub OnlyRead : Result (Vec Token Global) Refusal → Type 0
  OnlyRead r = (tokens : List Token) → lex.IsRead text tokens → AreReadAs tokens r

  abbrev pub OnlyRefused : Result (Vec Token Global) Refusal → Type 0
  OnlyRefused r = (at : ℕ) (code : Code) → lex.IsRefused text at code → IsRefusedAs (place_at text at) code r

  -- ---- a text that is refused for its characters

  not_read_only : (told : T) (e : Refusal) → OnlyRead (Err e) → (tokens : List Token) → lex.IsRead text tokens → IsReadAs told (Err e)
  not_read_only told refusal.NoMemory only tokens read = tt
  not_read_only told (refusal.At place code) only tokens read = absurd (only tokens read)

  pub unread_only : (told : T) (r : Result T Refusal) (e : Refusal) → IsErrAnd r (λ x. x ≡ e) → OnlyRead (Err e) → Tells with_line start kind text told → IsReadAs told r
  unread_only told (Ok x) e h only t = absurd h
  unread_only told (Err x) e h only t = subst (λ (y : Refusal). IsReadAs told (Err y)) (sym h) (not_read_only told e only t.tokens t.read)

  not_read_fault : (e : Refusal) → OnlyRead (Err e) → OnlyRefused (Err e) → (at : ℕ) (code : Code) → IsStopped at code → IsRefusedAs {R = T} (place_at text at) code (Err e)
  not_read_fault refusal.NoMemory only fault at code r = tt
  not_read_fault (refusal.At place found) only fault at code (by_characters h) = fault at code h
  not_read_fault (refusal.At place found) only fault at code (by_tokens tokens read told) = absurd (only tokens read)

  pub unread_fault : (r : Result T Refusal) (e : Refusal) → IsErrAnd r (λ x. x ≡ e) → OnlyRead (Err e) → OnlyRefused (Err e)
      → (at : ℕ) (code : Code) → IsRefused with_line start kind text at code → IsRefusedAs (place_at text at) code r
  unread_fault (Ok x) e h only fault at code is = absurd h
  unread_fault (Err x) e h only fault at code is =
      subst (λ (y : Refusal). IsRefusedAs {R = T} (place_at text at) code (Err y)) (sym h) (not_read_fault e only fault at code (stops at code is))

  -- ---- a text whose tokens come to something

  pub told_only : (read : Vec Token Global) (found told : T) → OnlyRead (Ok read) → told_by with_line start kind text read.items ≡ Ok found → Tells with_line start kind text told → found ≡ told
  told_only read found told only is t =
      let c = computes told t in
      let same : read.items ≡ c.tokens = only c.tokens c.read in
      ok_is found told (sym is ∙ ap (told_by with_line start kind text) same ∙ c.is)

  told_stop : (read : Vec Token Global) (found : T) → OnlyRead (Ok read) → OnlyRefused (Ok read) → told_by with_line start kind text read.items ≡ Ok found
      → (at : ℕ) (code : Code) → IsStopped at code → ⊥
  told_stop read found only fault told at code (by_characters h) = fault at code h
  told_stop read found only fault told at code (by_tokens tokens r e) =
      let same : read.items ≡ tokens = only tokens r in
      not_both found (at, code) (sym told ∙ ap (told_by with_line start kind text) same ∙ e)

  pub told_fault : (read : Vec Token Global) (found : T) → OnlyRead (Ok read) → OnlyRefused (Ok read) → told_by with_line start kind text read.items ≡ Ok found
      → (at : ℕ) (code : Code) → IsRefused with_line start kind text at code → ⊥
  told_fault read found only fault told at code is = told_stop read found only fault told at code (stops at code is)

  -- ---- a text whose tokens are refused

  pub stopped_only : (read : Vec Token Global) (e : Stop) (told : T) → OnlyRead (Ok read) → StopsAs (told_by with_line start kind text read.items) e → Tells with_line start kind text told
      → IsReadAs told (Err (refusal_of text e))
  stopped_only read stop.NoMemory told only is t = tt
  stopped_only read (stop.At at code) told only is t =
      let c = computes told t in
      let same : read.items ≡ c.tokens = only c.tokens c.read in
      absurd (not_both told (at, code) (sym (sym is ∙ ap (told_by with_line start kind text) same ∙ c.is)))

  pub stopped_refused : (read : Vec Token Global) (e : Stop) → lex.IsRead text read.items → StopsAs (told_by with_line start kind text read.items) e
      → Refuses text (IsRefused with_line start kind text) (refusal_of text e)
  stopped_refused read stop.NoMemory r told = tt
  stopped_refused read (stop.At at code) r told = (at, refl, refused read.items at code r told)

  stopped_stop : (read : Vec Token Global) (e : Stop) → OnlyRead (Ok read) → OnlyRefused (Ok read) → StopsAs (told_by with_line start kind text read.items) e
      → (at : ℕ) (code : Code) → IsStopped at code → IsRefusedAs {R = T} (place_at text at) code (Err (refusal_of text e))
  stopped_stop read stop.NoMemory only fault told at code is = tt
  stopped_stop read (stop.At b d) only fault told at code (by_characters h) = absurd (fault at code h)
  stopped_stop read (stop.At b d) only fault told at code (by_tokens tokens r e) =
      let same : read.items ≡ tokens = only tokens r in
      let found : Fault = (b, d) in
      let other : Fault = (at, code) in
      let pair : found ≡ other = err_is {A = T} found other (sym told ∙ ap (told_by with_line start kind text) same ∙ e) in
      (ap (λ (p : Fault). place_at text p.0) pair, ap (λ (p : Fault). p.1) pair)

  pub stopped_fault : (read : Vec Token Global) (e : Stop) → OnlyRead (Ok read) → OnlyRefused (Ok read) → StopsAs (told_by with_line start kind text read.items) e
      → (at : ℕ) (code : Code) → IsRefused with_line start kind text at code → IsRefusedAs {R = T} (place_at text at) code (Err (refusal_of text e))
  stopped_fault read e only fault told at code is = stopped_stop read e only fault told at code (stops at code is)

-- ---- an answer that is handed on as one of another type

err_read_so : {T U : Type 0} (P : T → Type 0) (Q : U → Type 0) (e : Refusal) → IsReadSo P (Err e) → IsReadSo Q (Err e)
err_read_so P Q refusal.NoMemory h = tt
err_read_so P Q (refusal.At place code) h = absurd h

pub unread_on : {T U : Type 0} (P : T → Type 0) (Q : U → Type 0) (r : Result U Refusal) (e : Refusal) → IsErrAnd r (λ x. x ≡ e) → IsReadSo P (Err e) → IsReadSo Q r
unread_on P Q (Ok x) e h i = absurd h
unread_on P Q (Err x) e h i = subst (λ (y : Refusal). IsReadSo Q (Err y)) (sym h) (err_read_so P Q e i)

err_refused_as : (T U : Type 0) (place : Place) (code : Code) (e : Refusal) → IsRefusedAs {R = T} place code (Err e) → IsRefusedAs {R = U} place code (Err e)
err_refused_as T U place code refusal.NoMemory h = tt
err_refused_as T U place code (refusal.At p c) h = h

pub refused_on : (T : Type 0) {U : Type 0} (place : Place) (code : Code) (r : Result U Refusal) (e : Refusal) → IsErrAnd r (λ x. x ≡ e) → IsRefusedAs {R = T} place code (Err e)
    → IsRefusedAs place code r
refused_on T place code (Ok x) e h i = absurd h
refused_on T {U} place code (Err x) e h i = subst (λ (y : Refusal). IsRefusedAs {R = U} place code (Err y)) (sym h) (err_refused_as T U place code e i)
