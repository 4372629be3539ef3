-- A package of the small form that a text spells has distinct names, and Sums of its own arguments.
use Rattle.std.proofs.Common.{◌≡◌, ℕ, ◌^◌, ◌<◌, nat_lt, Bool, true, false, ◌&&◌, cond, List, [], ◌∷◌, length, Option, Some, None, option_map, refl, subst, arith}
use Rattle.std.specs.Prelude.{position}
use Rattle.std.specs.List.{list_all}
use Rattle.std.specs.Str.{bytes_eq}
use Rattle.std.specs.Str.Parse.{digits_value}
use Rattle.std.proofs.lemmas.Bool.Decides.{nat_tests}
use Rattle.std.proofs.lemmas.List.Quantifiers.{position-Some}
use Rattle.gv_base.specs.declared.small.Small.{Small}
use Rattle.gv_base.specs.declared.small.SmallOp.{SmallOp}
use Rattle.gv_base.specs.declared.small.Part.{Part}
use Rattle.gv_base.specs.declared.small.Part.TheVariants.{Param, Number}
use Rattle.gv_base.specs.declared.small.Turn.{Turn}
use Rattle.gv_small.specs.Tokens.{Token, kinds, tokens_in}
use Rattle.gv_small.specs.Forms.{begins_with_digit, is_numeral, word_number, number_of, place_among, part_of, Many, none, more, IsTurn, plus, minus, IsSum, number, turns}
use Rattle.gv_gotree.specs.SmallPackage.{IsMethod, method, IsPackage, whole}
use Rattle.gv_smallprogram.specs.Laws.{is_sound_part, is_sound_op, IsSound, PackagesAreSound}
use Rattle.gv_spec.proofs.Threads.{some_same}

less : (a b : ℕ) → a < b → nat_lt a b ≡ true
less a b h = grind (arith, nat_tests)

both : (a b : Bool) → a ≡ true → b ≡ true → (a && b) ≡ true
both a b p q = rw (p, q) refl

module _ (params : List (List ℕ)) where
  abbrev IsSoundHere : Part → Type 0
  IsSoundHere p = is_sound_part (length params) p ≡ true

  number_sound : (w : List ℕ) (o : Option ℕ) (p : Part) → number_of w ≡ o → option_map Number o ≡ Some p → IsSoundHere p
  number_sound w None p is e = absurd cc
  number_sound w (Some v) p is e = subst IsSoundHere (some_same (Number v) p e) (digits (is_numeral w) is)
    where
      small : (b : Bool) → nat_lt (digits_value 10 w) (2 ^ 64) ≡ b → cond b (Some (digits_value 10 w)) None ≡ Some v → nat_lt v (2 ^ 64) ≡ true
      small true h d = subst (λ n. nat_lt n (2 ^ 64) ≡ true) (some_same (digits_value 10 w) v d) h
      small false h d = absurd cc

      digits : (b : Bool) → cond b (word_number w) None ≡ Some v → nat_lt v (2 ^ 64) ≡ true
      digits true d = small (nat_lt (digits_value 10 w) (2 ^ 64)) refl d
      digits false d = absurd cc

  param_sound : (w : List ℕ) (o : Option ℕ) (p : Part) → position (bytes_eq w) params ≡ o → option_map Param o ≡ Some p → IsSoundHere p
  param_sound w None p is e = absurd cc
  param_sound w (Some i) p is e =
      let found = position-Some (bytes_eq w) params i [] is in
      subst IsSoundHere (some_same (Param i) p e) (less i (length params) found.0)

  part_sound : (w : List ℕ) (p : Part) → part_of params w ≡ Some p → IsSoundHere p
  part_sound w p e = go (begins_with_digit w) e
    where
      go : (b : Bool) → cond b (option_map Number (number_of w)) (option_map Param (place_among params w)) ≡ Some p → IsSoundHere p
      go true d = number_sound w (number_of w) p refl d
      go false d = param_sound w (place_among params w) p refl d

  turn_sound : (t : Turn) (ts after : List Token) → IsTurn params t ts after → IsSoundHere t.part
  turn_sound t ts after (plus {w = w} {part = part} e) = part_sound w part e
  turn_sound t ts after (minus {w = w} {part = part} e) = part_sound w part e

  turns_sound : (rest : List Turn) (ts after : List Token) → Many (IsTurn params) rest ts after → list_all (λ t. is_sound_part (length params) t.part) rest ≡ true
  turns_sound [] ts after none = refl
  turns_sound (t ∷ rest) ts after (more {middle = us} one many) =
      both (is_sound_part (length params) t.part) (list_all (λ u. is_sound_part (length params) u.part) rest) (turn_sound t ts us one) (turns_sound rest us after many)

  sum_sound : (first : Part) (rest : List Turn) (ts after : List Token) → IsSum params first rest ts after
      → (is_sound_part (length params) first && list_all (λ t. is_sound_part (length params) t.part) rest) ≡ true
  sum_sound first rest ts after (number {w = w} {v = v} e) = both (is_sound_part (length params) (Number v)) true (part_sound w (Number v) e) refl
  sum_sound first rest ts after (turns {w = w} {i = i} {ts = us} e many) =
      both (is_sound_part (length params) (Param i)) (list_all (λ t. is_sound_part (length params) t.part) rest) (part_sound w (Param i) e) (turns_sound rest us after many)

op_sound : (type_name : List ℕ) (op : SmallOp) (ts after : List Token) → IsMethod type_name op ts after → is_sound_op op ≡ true
op_sound type_name op ts after (method receiver name params first rest ps ss end rest_of is_receiver is_name are_params distinct sum may_end) =
    sum_sound params first rest ss end sum

ops_sound : (type_name : List ℕ) (ops : List SmallOp) (ts after : List Token) → Many (IsMethod type_name) ops ts after → list_all is_sound_op ops ≡ true
ops_sound type_name [] ts after none = refl
ops_sound type_name (op ∷ ops) ts after (more {middle = us} one many) =
    both (is_sound_op op) (list_all is_sound_op ops) (op_sound type_name op ts us one) (ops_sound type_name ops us after many)

package_sound : (small : Small) (ts : List Token) → IsPackage small ts → IsSound small
package_sound small ts (whole name type_name ops end ms is_name is_type may_end methods distinct) =
    record { names = distinct; sums = ops_sound type_name ops ms [] methods }

pub packages_are_sound : PackagesAreSound
packages_are_sound text small spelled = package_sound small (kinds (tokens_in true spelled.pieces)) spelled.spelled
