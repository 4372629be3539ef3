-- The line of acceptance in JSON is neither a refusal's text nor another report's line.
use Rattle.std.proofs.Common.{◌≡◌, ℕ, ◌≤◌, Bool, true, false, List, [], ◌∷◌, ◌++◌, map, get_or, codes, decimal, refl, sym, ap, ap₂, subst, ◌∙◌, arith, append_assoc}
use Rattle.std.specs.Prelude.{◌==◌, nat_lt, not, if◌then◌else◌, IsAscii}
use Rattle.std.specs.Fmt.{digits}
use Rattle.std.specs.List.{list_all}
use Rattle.std.specs.Str.{is_utf8}
use Rattle.std.proofs.lemmas.Str.{IsUtf8-from_ascii}
use Rattle.std.proofs.lemmas.Str.Ascii.{IsAscii-nil, IsAscii-cons}
use Rattle.gv_base.specs.Codes.{code_name}
use Rattle.gv_base.specs.declared.answers.Code.{Code}
use Rattle.gv_base.specs.declared.answers.Code.TheVariants as code
use Rattle.gv_base.specs.declared.answers.Place.{Place}
use Rattle.gv_small.proofs.Cuts.{both}
use Rattle.gv_json.specs.Line.{as_text, is_one_line, list_of, object_of, line_of}
use Rattle.gv_json.proofs.Apart.{lines_apart}
use Rattle.gv_json.proofs.LineLemmas.{whole_text}
use Rattle.gv_json.proofs.SingleLemmas.{joined as one_line_joined, number, object_is_one_line}
use Rattle.gv_report.specs.declared.report.Report.TheVariants.{Refused}
use Rattle.gv_report.specs.Report.{place_text, text_of}

-- the line that tells it
abbrev pub accepted_line : List ℕ
accepted_line = codes "accepted for runs without crash"

abbrev pub accepted_object : List (List ℕ) → List ℕ
accepted_object digests = object_of digests (accepted_line ∷ []) 0

-- ---- lines

pub starts_otherwise : (b x : ℕ) (xs : List ℕ) → list_all (λ byte. not (byte == b)) (x ∷ xs) ≡ true → b ≡ x → ⊥
starts_otherwise b x xs k e =
    let p = both (not (x == b)) (list_all (λ byte. not (byte == b)) xs) k in
    same b (subst (λ z. not (z == b) ≡ true) (sym e) p.0)
  where
    same : (b : ℕ) → not (b == b) ≡ true → ⊥
    same b h = grind arith

pub first_byte : (x y : ℕ) (xs ys : List ℕ) → x ∷ xs ≡ y ∷ ys → x ≡ y
first_byte x y xs ys e = ap (λ (v : List ℕ). get_or v 0 0) e

abbrev behind : List ℕ → List ℕ
behind [] = []
behind (x ∷ xs) = xs

-- two texts have the same first line
same_line : (xs ys u v : List ℕ) → is_one_line xs ≡ true → is_one_line ys ≡ true → xs ++ 10 ∷ u ≡ ys ++ 10 ∷ v → xs ≡ ys
same_line [] [] u v h k e = refl
same_line [] (y ∷ ys) u v h k e = absurd (starts_otherwise 10 y ys k (first_byte 10 y u (ys ++ 10 ∷ v) e))
same_line (x ∷ xs) [] u v h k e = absurd (starts_otherwise 10 x xs h (sym (first_byte x 10 (xs ++ 10 ∷ u) v e)))
same_line (x ∷ xs) (y ∷ ys) u v h k e =
    let p = both (not (x == 10)) (is_one_line xs) h in
    let q = both (not (y == 10)) (is_one_line ys) k in
    ap₂ (λ n (ns : List ℕ). n ∷ ns) (first_byte x y (xs ++ 10 ∷ u) (ys ++ 10 ∷ v) e) (same_line xs ys u v p.1 q.1 (ap behind e))

-- ---- ends of lines

abbrev last_of : List ℕ → ℕ
last_of [] = 0
last_of (x ∷ []) = x
last_of (x ∷ y ∷ ys) = last_of (y ∷ ys)

last_behind : (front : List ℕ) (c : ℕ) (cs : List ℕ) → last_of (front ++ c ∷ cs) ≡ last_of (c ∷ cs)
last_behind [] c cs = refl
last_behind (x ∷ []) c cs = refl
last_behind (x ∷ y ∷ front) c cs = last_behind (y ∷ front) c cs

low : (front : List ℕ) (c : ℕ) (cs : List ℕ) → last_of (c ∷ cs) ≤ 122 → last_of (front ++ c ∷ cs) ≤ 122
low front c cs h = subst (λ n. n ≤ 122) (sym (last_behind front c cs)) h

code_ends : (front : List ℕ) (why : Code) → last_of (front ++ code_name why) ≤ 122
code_ends front code.BadUtf8 = let l : 56 ≤ 122 = omega arith in low front 66 (codes "adUtf8") l
code_ends front code.BadChar = let l : 114 ≤ 122 = omega arith in low front 66 (codes "adChar") l
code_ends front code.OpenComment = let l : 116 ≤ 122 = omega arith in low front 79 (codes "penComment") l
code_ends front code.OpenText = let l : 116 ≤ 122 = omega arith in low front 79 (codes "penText") l
code_ends front code.BadNumber = let l : 114 ≤ 122 = omega arith in low front 66 (codes "adNumber") l
code_ends front code.Unexpected = let l : 100 ≤ 122 = omega arith in low front 85 (codes "nexpected") l
code_ends front code.NotInProfile = let l : 101 ≤ 122 = omega arith in low front 78 (codes "otInProfile") l
code_ends front code.TooDeep = let l : 112 ≤ 122 = omega arith in low front 84 (codes "ooDeep") l
code_ends front code.EndOfText = let l : 116 ≤ 122 = omega arith in low front 69 (codes "ndOfText") l
code_ends front code.Undeclared = let l : 100 ≤ 122 = omega arith in low front 85 (codes "ndeclared") l
code_ends front code.Twice = let l : 101 ≤ 122 = omega arith in low front 84 (codes "wice") l
code_ends front code.WrongType = let l : 101 ≤ 122 = omega arith in low front 87 (codes "rongType") l
code_ends front code.WrongCount = let l : 116 ≤ 122 = omega arith in low front 87 (codes "rongCount") l
code_ends front code.NotAssignable = let l : 101 ≤ 122 = omega arith in low front 78 (codes "otAssignable") l
code_ends front code.MissingReturn = let l : 110 ≤ 122 = omega arith in low front 77 (codes "issingReturn") l
code_ends front code.Captured = let l : 100 ≤ 122 = omega arith in low front 67 (codes "aptured") l
code_ends front code.ConstTooLarge = let l : 101 ≤ 122 = omega arith in low front 67 (codes "onstTooLarge") l
code_ends front code.NoRecover = let l : 114 ≤ 122 = omega arith in low front 78 (codes "oRecover") l
code_ends front code.TooLong = let l : 103 ≤ 122 = omega arith in low front 84 (codes "ooLong") l
code_ends front code.Interface = let l : 101 ≤ 122 = omega arith in low front 73 (codes "nterface") l
code_ends front code.Disks = let l : 115 ≤ 122 = omega arith in low front 68 (codes "isks") l
code_ends front code.TooMany = let l : 121 ≤ 122 = omega arith in low front 84 (codes "ooMany") l
code_ends front code.TooManyCells = let l : 115 ≤ 122 = omega arith in low front 84 (codes "ooManyCells") l
code_ends front code.TooManyEvents = let l : 115 ≤ 122 = omega arith in low front 84 (codes "ooManyEvents") l

code_line : (why : Code) → is_one_line (code_name why) ≡ true
code_line code.BadUtf8 = refl
code_line code.BadChar = refl
code_line code.OpenComment = refl
code_line code.OpenText = refl
code_line code.BadNumber = refl
code_line code.Unexpected = refl
code_line code.NotInProfile = refl
code_line code.TooDeep = refl
code_line code.EndOfText = refl
code_line code.Undeclared = refl
code_line code.Twice = refl
code_line code.WrongType = refl
code_line code.WrongCount = refl
code_line code.NotAssignable = refl
code_line code.MissingReturn = refl
code_line code.Captured = refl
code_line code.ConstTooLarge = refl
code_line code.NoRecover = refl
code_line code.TooLong = refl
code_line code.Interface = refl
code_line code.Disks = refl
code_line code.TooMany = refl
code_line code.TooManyCells = refl
code_line code.TooManyEvents = refl

-- ---- a refusal's text

refusal_line : (name : List ℕ) (place : Place) (why : Code) → is_one_line name ≡ true
    → is_one_line (name ++ codes ":" ++ place_text place ++ codes " " ++ code_name why) ≡ true
refusal_line name place why h =
    let colon = codes ":" in
    let at = place_text place in
    let at_line : is_one_line at ≡ true =
    one_line_joined (decimal place.line ++ colon) (decimal place.column) (one_line_joined (decimal place.line) colon (number place.line) refl) (number place.column) in
    one_line_joined (name ++ colon ++ at ++ codes " ") (code_name why)
    (one_line_joined (name ++ colon ++ at) (codes " ") (one_line_joined (name ++ colon) at (one_line_joined name colon h refl) at_line) refl) (code_line why)

pub no_refusal : (name : List ℕ) (place : Place) (why : Code) (digests : List (List ℕ)) (rest : List ℕ) → is_one_line name ≡ true
    → text_of (Refused name place why) ≡ line_of digests (accepted_line ∷ []) 0 ++ rest → ⊥
no_refusal name place why digests rest h e =
    let front = name ++ codes ":" ++ place_text place ++ codes " " in
    let object = accepted_object digests in
    let inside = codes "{\"digests\":" ++ list_of digests ++ codes ",\"lines\":" ++ list_of (accepted_line ∷ []) ++ codes ",\"status\":" ++ decimal 0 in
    let same : front ++ code_name why ≡ object =
    same_line (front ++ code_name why) object [] rest (refusal_line name place why h) (object_is_one_line digests (accepted_line ∷ []) 0) (e ∙ append_assoc object (10 ∷ []) rest) in
    let low_end = code_ends front why in
    let ends : last_of (front ++ code_name why) ≡ 125 = ap last_of same ∙ last_behind inside 125 [] in
    omega (arith, low_end, ends)

-- ---- other lines in JSON

all_ascii : (bytes : List ℕ) → list_all (λ b. nat_lt b 128) bytes ≡ true → IsAscii bytes
all_ascii [] h = IsAscii-nil
all_ascii (b ∷ bytes) h =
    let p = both (nat_lt b 128) (list_all (λ x. nat_lt x 128) bytes) h in
    let low_byte = p.0 in
    IsAscii-cons b bytes (grind (arith, low_byte)) (all_ascii bytes p.1)

-- ASCII reads as itself
read_as_itself : as_text accepted_line ≡ accepted_line
read_as_itself = whole_text accepted_line (IsUtf8-from_ascii accepted_line (all_ascii accepted_line refl))

-- what stands behind the lists of a line
abbrev pub end_of : ℕ → List ℕ → List ℕ
end_of status rest = decimal status ++ (codes "}" ++ rest)

pub line_is : (line : List ℕ) → as_text line ≡ as_text accepted_line → line ≡ accepted_line
line_is line e = chosen (is_utf8 line) line (e ∙ read_as_itself)
  where
    chosen : (b : Bool) (xs : List ℕ) → (if b then xs else []) ≡ accepted_line → xs ≡ accepted_line
    chosen true xs e = e
    chosen false xs e = absurd cc

pub apart : (others lines : List (List ℕ)) (status : ℕ) (digests : List (List ℕ)) (rest : List ℕ) → line_of others lines status ≡ line_of digests (accepted_line ∷ []) 0 ++ rest
    → (map as_text lines ≡ as_text accepted_line ∷ []) × (end_of status (10 ∷ []) ≡ end_of 0 (10 ∷ rest))
apart others lines status digests rest e =
    lines_apart others lines status digests (accepted_line ∷ []) 0 (10 ∷ []) (10 ∷ rest) (e ∙ append_assoc (accepted_object digests) (10 ∷ []) rest)

pub only_line : (line : List ℕ) (more : List (List ℕ)) → map as_text (line ∷ more) ≡ as_text accepted_line ∷ [] → line ≡ accepted_line
only_line line more e = line_is line (ap (λ (v : List (List ℕ)). get_or v 0 []) e)

pub never_end : (lines : List (List ℕ)) → map as_text (lines ++ codes "end" ∷ []) ≡ as_text accepted_line ∷ [] → ⊥
never_end [] e = let h : 101 ≡ 97 = ap (λ (v : List ℕ). get_or v 0 0) (only_line (codes "end") [] e) in omega (arith, h)
never_end (line ∷ []) e = cc
never_end (line ∷ next ∷ lines) e = cc

-- ---- other statuses

pub never_1 : (u v : List ℕ) → end_of 1 u ≡ end_of 0 v → ⊥
unfolding digits
never_1 u v e = let h : 49 ≡ 48 = ap (λ (w : List ℕ). get_or w 0 0) e in omega (arith, h)

pub never_3 : (u v : List ℕ) → end_of 3 u ≡ end_of 0 v → ⊥
unfolding digits
never_3 u v e = let h : 51 ≡ 48 = ap (λ (w : List ℕ). get_or w 0 0) e in omega (arith, h)

pub never_4 : (u v : List ℕ) → end_of 4 u ≡ end_of 0 v → ⊥
unfolding digits
never_4 u v e = let h : 52 ≡ 48 = ap (λ (w : List ℕ). get_or w 0 0) e in omega (arith, h)

pub never_7 : (u v : List ℕ) → end_of 7 u ≡ end_of 0 v → ⊥
unfolding digits
never_7 u v e = let h : 55 ≡ 48 = ap (λ (w : List ℕ). get_or w 0 0) e in omega (arith, h)

pub never_8 : (u v : List ℕ) → end_of 8 u ≡ end_of 0 v → ⊥
unfolding digits
never_8 u v e = let h : 56 ≡ 48 = ap (λ (w : List ℕ). get_or w 0 0) e in omega (arith, h)
