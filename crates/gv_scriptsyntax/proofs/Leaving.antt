-- Each act leaves one part in the place of those that it takes.
use Rattle.std.proofs.Common.{◌≡◌, ℕ, zero, suc, ◌-◌, ◌≤◌, Bool, true, false, List, [], ◌∷◌, ◌++◌, length, Option, Some, None, refl, sym, ap, subst, ◌∙◌, arith}
use Rattle.std.specs.Prelude.{drop, slice_get, slice_index, map, option_map, if◌then◌else◌}
use Rattle.std.specs.Option.{unwrap_or}
use Rattle.std.proofs.lemmas.Bool.{false≢true}
use Rattle.std.proofs.lemmas.Option.{slice_get-map, unwrap_or-slice_get}
use Rattle.gv_grammar.specs.declared.levels.TheConstants.{FIRST_ACT}
use Rattle.gv_grammar.specs.Building.{Reduction, has_tops}
use Rattle.gv_grammar.proofs.Tests.{both}
use Rattle.gv_termread.specs.declared.generated.term_acts.Part.{Part}
use Rattle.gv_termread.specs.declared.generated.term_acts.Part.TheVariants.{Token as PToken, Term as PTerm, Other as POther}
use Rattle.gv_termread.specs.declared.token.SeenToken.{SeenToken}
use Rattle.gv_termread.specs.declared.placed.PlacedTerm.{PlacedTerm}
use Rattle.gv_termread.specs.TermActs.{is_token, is_term, term_acts, made_binary, made_unary, made_number, made_constant, made_variable, made_paren, made_maker, made_of_one, made_of_two, made_of_three}
use Rattle.gv_scriptsyntax.specs.declared.generated.script_acts.ScriptPart.{ScriptPart}
use Rattle.gv_scriptsyntax.specs.declared.generated.script_acts.TheConstants.{TAKEN}
use Rattle.gv_scriptsyntax.specs.Making.{Making, reduction_of}
use Rattle.gv_scriptsyntax.specs.ScriptActs.{script_acts, script_makings}
use Rattle.gv_scriptsyntax.specs.Nodes.{Parts, arities, arity, done_by}

-- one part in the place of so many
pub record OnePart {P : Type 0} (count : ℕ) (parts made : List P) : Type 0 where
  pub part : P
  pub same : made ≡ part ∷ drop count parts

abbrev LeavesOne : {P : Type 0} → Reduction P → Type 0
LeavesOne {P} act = (parts : List P) → has_tops act.takes parts ≡ true → OnePart (length act.takes) parts (act.makes parts)

abbrev AllLeaveOne : {P : Type 0} → List (Reduction P) → Type 0
AllLeaveOne [] = Unit {0}
AllLeaveOne (act ∷ acts) = LeavesOne act × AllLeaveOne acts

-- ---- own acts, and those of terms

own_leave_one : {P : Type 0} (makings : List (Making P)) → AllLeaveOne (map reduction_of makings)
own_leave_one [] = tt
own_leave_one (making ∷ makings) = (λ parts h. record { part = making.makes parts; same = refl }, own_leave_one makings)

both_leave_one : {P : Type 0} (xs ys : List (Reduction P)) → AllLeaveOne xs → AllLeaveOne ys → AllLeaveOne (xs ++ ys)
both_leave_one [] ys h g = g
both_leave_one (x ∷ xs) ys h g = (h.0, both_leave_one xs ys h.1 g)

module _ {O : Type 0} where
  -- the part on top, and the others
  record Topped {K : Type 0} (of : K → Part O) (tests : List (Part O → Bool)) (parts : List (Part O)) : Type 0 where
    top : K
    rest : List (Part O)
    same : parts ≡ of top ∷ rest
    others : has_tops tests rest ≡ true

  token_on_top : (tests : List (Part O → Bool)) (parts : List (Part O)) → has_tops (is_token ∷ tests) parts ≡ true → Topped {K = SeenToken} (λ t. PToken t) tests parts
  token_on_top tests [] h = absurd (false≢true h)
  token_on_top tests (PToken t ∷ rest) h = record { top = t; rest = rest; same = refl; others = h }
  token_on_top tests (PTerm t ∷ rest) h = absurd (false≢true h)
  token_on_top tests (POther t ∷ rest) h = absurd (false≢true h)

  term_on_top : (tests : List (Part O → Bool)) (parts : List (Part O)) → has_tops (is_term ∷ tests) parts ≡ true → Topped {K = PlacedTerm} (λ t. PTerm t) tests parts
  term_on_top tests [] h = absurd (false≢true h)
  term_on_top tests (PTerm t ∷ rest) h = record { top = t; rest = rest; same = refl; others = h }
  term_on_top tests (PToken t ∷ rest) h = absurd (false≢true h)
  term_on_top tests (POther t ∷ rest) h = absurd (false≢true h)

  binary_leaves_one : LeavesOne {P = Part O} (record { takes = is_term ∷ is_token ∷ is_term ∷ []; makes = made_binary })
  binary_leaves_one parts h =
      let x0 = term_on_top (is_token ∷ is_term ∷ []) parts h in
      let e0 = x0.same in
      let x1 = token_on_top (is_term ∷ []) x0.rest x0.others in
      let e1 = x1.same in
      let x2 = term_on_top [] x1.rest x1.others in
      let e2 = x2.same in
      rw (e0, e1, e2) (record { part = _; same = refl })

  unary_leaves_one : LeavesOne {P = Part O} (record { takes = is_term ∷ is_token ∷ []; makes = made_unary })
  unary_leaves_one parts h =
      let x0 = term_on_top (is_token ∷ []) parts h in
      let e0 = x0.same in
      let x1 = token_on_top [] x0.rest x0.others in
      let e1 = x1.same in
      rw (e0, e1) (record { part = _; same = refl })

  number_leaves_one : LeavesOne {P = Part O} (record { takes = is_token ∷ []; makes = made_number })
  number_leaves_one parts h =
      let x0 = token_on_top [] parts h in
      let e0 = x0.same in
      rw (e0) (record { part = _; same = refl })

  constant_leaves_one : LeavesOne {P = Part O} (record { takes = is_token ∷ []; makes = made_constant })
  constant_leaves_one parts h =
      let x0 = token_on_top [] parts h in
      let e0 = x0.same in
      rw (e0) (record { part = _; same = refl })

  variable_leaves_one : (text : List ℕ) → LeavesOne {P = Part O} (record { takes = is_token ∷ []; makes = (made_variable text) })
  variable_leaves_one text parts h =
      let x0 = token_on_top [] parts h in
      let e0 = x0.same in
      rw (e0) (record { part = _; same = refl })

  paren_leaves_one : LeavesOne {P = Part O} (record { takes = is_token ∷ is_term ∷ is_token ∷ []; makes = made_paren })
  paren_leaves_one parts h =
      let x0 = token_on_top (is_term ∷ is_token ∷ []) parts h in
      let e0 = x0.same in
      let x1 = term_on_top (is_token ∷ []) x0.rest x0.others in
      let e1 = x1.same in
      let x2 = token_on_top [] x1.rest x1.others in
      let e2 = x2.same in
      rw (e0, e1, e2) (record { part = _; same = refl })

  maker_leaves_one : LeavesOne {P = Part O} (record { takes = is_token ∷ is_term ∷ is_token ∷ is_token ∷ is_token ∷ is_token ∷ []; makes = made_maker })
  maker_leaves_one parts h =
      let x0 = token_on_top (is_term ∷ is_token ∷ is_token ∷ is_token ∷ is_token ∷ []) parts h in
      let e0 = x0.same in
      let x1 = term_on_top (is_token ∷ is_token ∷ is_token ∷ is_token ∷ []) x0.rest x0.others in
      let e1 = x1.same in
      let x2 = token_on_top (is_token ∷ is_token ∷ is_token ∷ []) x1.rest x1.others in
      let e2 = x2.same in
      let x3 = token_on_top (is_token ∷ is_token ∷ []) x2.rest x2.others in
      let e3 = x3.same in
      let x4 = token_on_top (is_token ∷ []) x3.rest x3.others in
      let e4 = x4.same in
      let x5 = token_on_top [] x4.rest x4.others in
      let e5 = x5.same in
      rw (e0, e1, e2, e3, e4, e5) (record { part = _; same = refl })

  of_one_leaves_one : LeavesOne {P = Part O} (record { takes = is_token ∷ is_term ∷ is_token ∷ is_token ∷ []; makes = made_of_one })
  of_one_leaves_one parts h =
      let x0 = token_on_top (is_term ∷ is_token ∷ is_token ∷ []) parts h in
      let e0 = x0.same in
      let x1 = term_on_top (is_token ∷ is_token ∷ []) x0.rest x0.others in
      let e1 = x1.same in
      let x2 = token_on_top (is_token ∷ []) x1.rest x1.others in
      let e2 = x2.same in
      let x3 = token_on_top [] x2.rest x2.others in
      let e3 = x3.same in
      rw (e0, e1, e2, e3) (record { part = _; same = refl })

  of_two_leaves_one : LeavesOne {P = Part O} (record { takes = is_token ∷ is_term ∷ is_token ∷ is_term ∷ is_token ∷ is_token ∷ []; makes = made_of_two })
  of_two_leaves_one parts h =
      let x0 = token_on_top (is_term ∷ is_token ∷ is_term ∷ is_token ∷ is_token ∷ []) parts h in
      let e0 = x0.same in
      let x1 = term_on_top (is_token ∷ is_term ∷ is_token ∷ is_token ∷ []) x0.rest x0.others in
      let e1 = x1.same in
      let x2 = token_on_top (is_term ∷ is_token ∷ is_token ∷ []) x1.rest x1.others in
      let e2 = x2.same in
      let x3 = term_on_top (is_token ∷ is_token ∷ []) x2.rest x2.others in
      let e3 = x3.same in
      let x4 = token_on_top (is_token ∷ []) x3.rest x3.others in
      let e4 = x4.same in
      let x5 = token_on_top [] x4.rest x4.others in
      let e5 = x5.same in
      rw (e0, e1, e2, e3, e4, e5) (record { part = _; same = refl })

  of_three_leaves_one : LeavesOne {P = Part O} (record { takes = is_token ∷ is_term ∷ is_token ∷ is_term ∷ is_token ∷ is_term ∷ is_token ∷ is_token ∷ []; makes = made_of_three })
  of_three_leaves_one parts h =
      let x0 = token_on_top (is_term ∷ is_token ∷ is_term ∷ is_token ∷ is_term ∷ is_token ∷ is_token ∷ []) parts h in
      let e0 = x0.same in
      let x1 = term_on_top (is_token ∷ is_term ∷ is_token ∷ is_term ∷ is_token ∷ is_token ∷ []) x0.rest x0.others in
      let e1 = x1.same in
      let x2 = token_on_top (is_term ∷ is_token ∷ is_term ∷ is_token ∷ is_token ∷ []) x1.rest x1.others in
      let e2 = x2.same in
      let x3 = term_on_top (is_token ∷ is_term ∷ is_token ∷ is_token ∷ []) x2.rest x2.others in
      let e3 = x3.same in
      let x4 = token_on_top (is_term ∷ is_token ∷ is_token ∷ []) x3.rest x3.others in
      let e4 = x4.same in
      let x5 = term_on_top (is_token ∷ is_token ∷ []) x4.rest x4.others in
      let e5 = x5.same in
      let x6 = token_on_top (is_token ∷ []) x5.rest x5.others in
      let e6 = x6.same in
      let x7 = token_on_top [] x6.rest x6.others in
      let e7 = x7.same in
      rw (e0, e1, e2, e3, e4, e5, e6, e7) (record { part = _; same = refl })

terms_leave_one : (text : List ℕ) → AllLeaveOne (term_acts {O = ScriptPart} text)
terms_leave_one text = (binary_leaves_one, (unary_leaves_one, (number_leaves_one, (constant_leaves_one, (variable_leaves_one text, (paren_leaves_one, (maker_leaves_one, (of_one_leaves_one, (of_two_leaves_one, (of_three_leaves_one, tt))))))))))

acts_leave_one : (text : List ℕ) → AllLeaveOne (script_acts text)
acts_leave_one text = both_leave_one (term_acts text) (map reduction_of script_makings) (terms_leave_one text) (own_leave_one script_makings)

-- ---- what an act leaves

-- the parts that an act leaves
pub record Leaves {P : Type 0} (count : ℕ) (parts made : List P) : Type 0 where
  pub part : P
  pub same : made ≡ part ∷ drop count parts
  pub enough : count ≤ length parts

tops_enough : {P : Type 0} (tests : List (P → Bool)) (parts : List P) → has_tops tests parts ≡ true → length tests ≤ length parts
tops_enough [] parts h = omega arith
tops_enough (test ∷ tests) [] h = absurd cc
tops_enough (test ∷ tests) (part ∷ parts) h =
    let l = tops_enough tests parts (both (test part) (has_tops tests parts) h).1 in
    omega (arith, l)

abbrev act_with : {P : Type 0} → Option (Reduction P) → List P → Option (List P)
act_with found parts = if (elim found [ None ↦ false | Some act ↦ has_tops act.takes parts ]) then Some (elim found [ None ↦ parts | Some act ↦ act.makes parts ]) else None

leaves_found : {P : Type 0} (acts : List (Reduction P)) → AllLeaveOne acts → (i : ℕ) (parts made : List P) → act_with (slice_get acts i) parts ≡ Some made
    → Leaves (unwrap_or (option_map (λ act. length act.takes) (slice_get acts i)) 0) parts made
leaves_found [] h i parts made e = absurd cc
leaves_found {P} (act ∷ acts) h zero parts made e = go (has_tops act.takes parts) refl e
  where
    go : (b : Bool) → has_tops act.takes parts ≡ b → (if b then Some (act.makes parts) else None) ≡ Some made → Leaves (length act.takes) parts made
    go false q e = absurd cc
    go true q e =
        let one = h.0 parts q in
        let r : made ≡ act.makes parts = cc in
        record { part = one.part; same = r ∙ one.same; enough = tops_enough act.takes parts q }
leaves_found (act ∷ acts) h (suc i) parts made e = leaves_found acts h.1 i parts made e

arities_of : (text : List ℕ) → map (λ (act : Reduction (Part ScriptPart)). length act.takes) (script_acts text) ≡ arities
arities_of text = refl

pub act_leaves : (text : List ℕ) (act : ℕ) (parts made : Parts) → done_by text act parts ≡ Some made → Leaves (arity act) parts made
unfolding done_by arity
act_leaves text act parts made h =
    let counts : option_map (λ (act : Reduction (Part ScriptPart)). length act.takes) (slice_get (script_acts text) (act - FIRST_ACT)) ≡ slice_get arities (act - FIRST_ACT) =
    sym (slice_get-map (λ (act : Reduction (Part ScriptPart)). length act.takes) (script_acts text) (act - FIRST_ACT)) ∙ ap (λ (ns : List ℕ). slice_get ns (act - FIRST_ACT)) (arities_of text) in
    subst (λ (n : ℕ). Leaves n parts made) (ap (λ (found : Option ℕ). unwrap_or found 0) counts) (leaves_found (script_acts text) (acts_leave_one text) (act - FIRST_ACT) parts made h)

-- ---- the table of how many parts an act takes

taken_behind : drop 4 TAKEN ≡ arities
taken_behind = refl

entry_arity : (act : ℕ) → FIRST_ACT ≤ act → unwrap_or (slice_get TAKEN act) 0 ≡ arity act
unfolding arity
entry_arity zero l = absurd (omega (arith, l))
entry_arity (suc zero) l = absurd (omega (arith, l))
entry_arity (suc (suc zero)) l = absurd (omega (arith, l))
entry_arity (suc (suc (suc zero))) l = absurd (omega (arith, l))
entry_arity (suc (suc (suc (suc n)))) l =
    let z : suc (suc (suc (suc n))) - FIRST_ACT ≡ n = omega arith in
    ap (λ (ns : List ℕ). unwrap_or (slice_get ns n) 0) taken_behind ∙ sym (ap (λ (i : ℕ). unwrap_or (slice_get arities i) 0) z)

pub taken_arity : (act : ℕ) → FIRST_ACT ≤ act → slice_index TAKEN act ≡ arity act
taken_arity act l = sym (unwrap_or-slice_get TAKEN act 0) ∙ entry_arity act l
