-- The small form of a package, and its reading from the front.
use Rattle.std.proofs.Common.{◌≡◌, ℕ, zero, suc, ◌+◌, ◌<◌, ◌≤◌, Bool, true, false, cond, List, [], ◌∷◌, ◌++◌, length, Option, Some, None, refl, sym, ap, subst, ◌∙◌, arith}
use Rattle.std.specs.Prelude.{option_map, option_and_then, map, codes, not, IsTrue, ◌↔◌}
use Rattle.std.proofs.lemmas.Slice.Eq.{bytes_eq-Decides}
use Rattle.gv_base.specs.declared.small.Small.{Small}
use Rattle.gv_base.specs.declared.small.SmallOp.{SmallOp}
use Rattle.gv_base.specs.declared.small.Part.{Part}
use Rattle.gv_base.specs.declared.small.Turn.{Turn}
use Rattle.std.specs.Prelude.{Result, Ok, Err, IsErrAnd}
use Rattle.gv_base.specs.declared.answers.Refusal.{Refusal}
use Rattle.gv_base.specs.declared.answers.Refusal.TheVariants as refusal
use Rattle.gv_small.specs.Tokens.{Piece, Placed, Token, named, signed, plain, cut, kinds, tokens_in, tokens_of}
use Rattle.gv_small.proofs.Cuts.{cut_cuts, cut_only, false_true}
use Rattle.gv_small.specs.Forms.{is_name, is_operation_name, is_distinct, AreParameters, IsSum, MayEnd, absent, present, Many}
use Rattle.gv_small.specs.Reading.{Read, behind_all, word_at, parameters, sum_at, past_semicolon, distinct_names, no_turn, begins_with_sign, Refuses, IsReadAs}
use Rattle.gv_small.proofs.Many.{Shrinks, IsFound, IsRead, all_of_found, all_of_read}
use Rattle.gv_small.proofs.FormLemmas.{then_case, map_case, behind_found, behind_front, behind_shorter, length_behind, word_found, word_read, parameters_found, parameters_read, parameters_length, sum_found, sum_read, sum_length, past_found, past_read, may_end_length, distinct_found, first_is, second_is}
use Rattle.gv_gotree.specs.SmallPackage.{IsMethod, method, IsPackage, whole, IsSmallPackage}
use Rattle.gv_gotree.specs.Reading as reading

func_tokens : plain (codes "func (") ≡ named (codes "func") ∷ signed 40 ∷ []
unfolding cut
func_tokens = refl

-- what stands before a method's parameters
abbrev head_tokens : List ℕ → List ℕ → List ℕ → List Token → List Token
head_tokens type_name receiver name r = plain (codes "func (") ++ named receiver ∷ (plain (codes "*") ++ named type_name ∷ (plain (codes ")") ++ named name ∷ (plain (codes "(") ++ r)))

module _ (type_name : List ℕ) where
  pub record IsHead (ts : List Token) (receiver name : List ℕ) (r : List Token) : Type 0 where
    pub spelled : ts ≡ head_tokens type_name receiver name r
    pub receiver_is : is_name receiver ≡ true
    pub name_is : is_operation_name name ≡ true

  head_found : (ts : List Token) (h : List ℕ × List ℕ) (r : List Token) → reading.method_head type_name ts ≡ Some (h, r) → IsHead ts h.0 h.1 r
  head_found ts h r e =
      then_case _ (behind_all (plain (codes "func (")) ts) (h, r) e (λ a a_is e1.
      then_case _ (word_at is_name a) (h, r) e1 (λ b b_is e2.
      then_case _ (behind_all (plain (codes "*")) b.1) (h, r) e2 (λ c c_is e3.
      then_case _ (behind_all (named type_name ∷ []) c) (h, r) e3 (λ d d_is e4.
      then_case _ (behind_all (plain (codes ")")) d) (h, r) e4 (λ g g_is e5.
      then_case _ (word_at is_operation_name g) (h, r) e5 (λ f f_is e6.
      map_case _ (behind_all (plain (codes "(")) f.1) (h, r) e6 (λ k k_is pair.
      let receiver_is : b.0 ≡ h.0 = ap (λ z. z.0.0) pair in
      let name_is : f.0 ≡ h.1 = ap (λ z. z.0.1) pair in
      let r_is : k ≡ r = ap (λ z. z.1) pair in
      let p1 = behind_found (plain (codes "func (")) ts a a_is in
      let p2 = word_found is_name a b.0 b.1 b_is in
      let p3 = behind_found (plain (codes "*")) b.1 c c_is in
      let p4 = behind_found (named type_name ∷ []) c d d_is in
      let p5 = behind_found (plain (codes ")")) d g g_is in
      let p6 = word_found is_operation_name g f.0 f.1 f_is in
      let p7 = behind_found (plain (codes "(")) f.1 k k_is in
      head_joined ts a b.1 c d g f.1 k b.0 f.0 h r receiver_is name_is r_is p1 p2 p3 p4 p5 p6 p7)))))))
    where
      head_joined : (ts a b c d g f k : List Token) (v w : List ℕ) (h : List ℕ × List ℕ) (r : List Token) → v ≡ h.0 → w ≡ h.1 → k ≡ r →
          ts ≡ plain (codes "func (") ++ a → (a ≡ named v ∷ b) × (is_name v ≡ true) → b ≡ plain (codes "*") ++ c → c ≡ (named type_name ∷ []) ++ d → d ≡ plain (codes ")") ++ g →
          (g ≡ named w ∷ f) × (is_operation_name w ≡ true) → f ≡ plain (codes "(") ++ k → IsHead ts h.0 h.1 r
      head_joined ts a b c d g f k v w h r e1 e2 e3 p1 p2 p3 p4 p5 p6 p7 = record {
        spelled = p1 ∙ ap (λ (us : List Token). plain (codes "func (") ++ us) (p2.0 ∙ ap (λ x. named x ∷ b) e1 ∙ ap (λ (us : List Token). named h.0 ∷ us) (p3 ∙ ap (λ (us : List Token). plain (codes "*") ++ us) (p4 ∙ ap (λ (us : List Token). named type_name ∷ us) (p5 ∙ ap (λ (us : List Token). plain (codes ")") ++ us) (p6.0 ∙ ap (λ x. named x ∷ f) e2 ∙ ap (λ (us : List Token). named h.1 ∷ us) (p7 ∙ ap (λ (us : List Token). plain (codes "(") ++ us) e3))))));
        receiver_is = ap is_name (sym e1) ∙ p2.1;
        name_is = ap is_operation_name (sym e2) ∙ p6.1;
      }

-- ---- what is so is read: the head

same_word : (w : List ℕ) (r : List Token) → behind_all (named w ∷ []) (named w ∷ r) ≡ Some r
same_word w r = rw ((bytes_eq-Decides w w).1 refl) refl

head_read : (type_name receiver name : List ℕ) (r : List Token) → is_name receiver ≡ true → is_operation_name name ≡ true →
    reading.method_head type_name (head_tokens type_name receiver name r) ≡ Some ((receiver, name), r)
head_read type_name receiver name r i o =
    let t7 : List Token = plain (codes "(") ++ r in
    let t5 : List Token = plain (codes ")") ++ named name ∷ t7 in
    let t3 : List Token = plain (codes "*") ++ named type_name ∷ t5 in
    rw (behind_front (plain (codes "func (")) (named receiver ∷ t3), i, behind_front (plain (codes "*")) (named type_name ∷ t5), (bytes_eq-Decides type_name type_name).1 refl, behind_front (plain (codes ")")) (named name ∷ t7), o, behind_front (plain (codes "(")) r) refl

-- ---- the body

return_tokens : plain (codes ") uint64 { return") ≡ signed 41 ∷ named (codes "uint64") ∷ signed 123 ∷ named (codes "return") ∷ []
unfolding cut
return_tokens = refl

end_tokens : plain (codes "} ;") ≡ signed 125 ∷ signed 59 ∷ []
unfolding cut
end_tokens = refl

closes : (r : List Token) → begins_with_sign 41 (plain (codes ") uint64 { return") ++ r) ≡ true
closes r = rw return_tokens refl

ends : (r : List Token) → past_semicolon (plain (codes "} ;") ++ r) ≡ plain (codes "} ;") ++ r
ends r = rw end_tokens refl

no_turn_ends : (ts r : List Token) → MayEnd ts (plain (codes "} ;") ++ r) → no_turn ts ≡ true
no_turn_ends ts r m = go ts (plain (codes "} ;") ++ r) m (rw end_tokens refl)
  where
    go : (ts us : List Token) → MayEnd ts us → no_turn us ≡ true → no_turn ts ≡ true
    go ts us absent e = e
    go ts us present e = refl

pub record IsBody (params : List (List ℕ)) (ts : List Token) (s : Part × List Turn) (r : List Token) : Type 0 where
  pub ss : List Token
  pub end : List Token
  pub spelled : ts ≡ plain (codes ") uint64 { return") ++ ss
  pub sum_is : IsSum params s.0 s.1 ss end
  pub may_end : MayEnd end (plain (codes "} ;") ++ r)

body_found : (params : List (List ℕ)) (ts : List Token) (s : Part × List Turn) (r : List Token) → reading.method_body params ts ≡ Some (s, r) → IsBody params ts s r
body_found params ts s r e =
    then_case _ (behind_all (plain (codes ") uint64 { return")) ts) (s, r) e (λ a a_is e1.
    then_case _ (sum_at params a) (s, r) e1 (λ b b_is e2.
    map_case _ (behind_all (plain (codes "} ;")) (past_semicolon b.1)) (s, r) e2 (λ k k_is pair.
    let s_is : b.0 ≡ s = ap (λ z. z.0) pair in
    let r_is : k ≡ r = ap (λ z. z.1) pair in
    let p1 = behind_found (plain (codes ") uint64 { return")) ts a a_is in
    let p2 = sum_found params a b.0.0 b.0.1 b.1 b_is in
    let p3 = behind_found (plain (codes "} ;")) (past_semicolon b.1) k k_is in
    record {
      ss = a;
      end = b.1;
      spelled = p1;
      sum_is = subst (λ (x : Part × List Turn). IsSum params x.0 x.1 a b.1) s_is p2;
      may_end = subst (λ (us : List Token). MayEnd b.1 us) (p3 ∙ ap (λ (us : List Token). plain (codes "} ;") ++ us) r_is) (past_found b.1);
    })))

body_read : (params : List (List ℕ)) (first : Part) (rest : List Turn) (ss end r : List Token) → IsSum params first rest ss end → MayEnd end (plain (codes "} ;") ++ r) →
    reading.method_body params (plain (codes ") uint64 { return") ++ ss) ≡ Some ((first, rest), r)
body_read params first rest ss end r s m =
    rw (behind_front (plain (codes ") uint64 { return")) ss, sum_read params first rest ss end s (no_turn_ends end r m), past_read end (plain (codes "} ;") ++ r) m (ends r), behind_front (plain (codes "} ;")) r) refl

-- ---- the method

module _ (type_name : List ℕ) where
  made : (ts : List Token) (h : List ℕ × List ℕ) (us : List Token) (params : List (List ℕ)) (vs : List Token) (s : Part × List Turn) (r : List Token) →
      IsHead type_name ts h.0 h.1 us → AreParameters (plain (codes "uint64")) params us vs → is_distinct (h.0 ∷ params) ≡ true → IsBody params vs s r → IsMethod type_name (reading.operation h.1 params s) ts r
  made ts h us params vs s r a p d b =
      let p' = subst (λ (xs : List Token). AreParameters (plain (codes "uint64")) params us xs) b.spelled p in
      let m = method h.0 h.1 params s.0 s.1 us b.ss b.end r a.receiver_is a.name_is p' d b.sum_is b.may_end in
      subst (λ (xs : List Token). IsMethod type_name (reading.operation h.1 params s) xs r) (sym a.spelled) m

  pub method_found : IsFound reading.is_nothing (reading.method type_name) (IsMethod type_name)
  method_found ts op r e =
      then_case _ (reading.method_head type_name ts) (op, r) e (λ h h_is e1.
      then_case _ (parameters (plain (codes "uint64")) h.1) (op, r) e1 (λ p p_is e2.
      then_case _ (distinct_names (h.0.0 ∷ p.0)) (op, r) e2 (λ d d_is e3.
      map_case _ (reading.method_body p.0 p.1) (op, r) e3 (λ s s_is pair.
      let op_is : reading.operation h.0.1 p.0 s.0 ≡ op = ap (λ z. z.0) pair in
      let r_is : s.1 ≡ r = ap (λ z. z.1) pair in
      let m = made ts h.0 h.1 p.0 p.1 s.0 s.1 (head_found type_name ts h.0 h.1 h_is) (parameters_found (plain (codes "uint64")) h.1 p.0 p.1 p_is) (distinct_found (h.0.0 ∷ p.0) d d_is) (body_found p.0 p.1 s.0 s.1 s_is) in
      subst (λ x. IsMethod type_name x ts r) op_is (subst (λ (us : List Token). IsMethod type_name (reading.operation h.0.1 p.0 s.0) ts us) r_is m)))))

  pub method_read : IsRead reading.is_nothing (reading.method type_name) (IsMethod type_name)
  method_read op ts r (method receiver name params first rest ps ss end _ i o p d s m) = (
    rw (head_read type_name receiver name ps i o, parameters_read (plain (codes "uint64")) params ps (plain (codes ") uint64 { return") ++ ss) p (closes ss), d, body_read params first rest ss end r s m) refl,
    rw func_tokens refl,
  )

  method_length : (op : SmallOp) (ts r : List Token) → IsMethod type_name op ts r → length r < length ts
  method_length op ts r (method receiver name params first rest ps ss end _ i o p d s m) =
      let l1 = length_behind (plain (codes "func (")) (named receiver ∷ (plain (codes "*") ++ named type_name ∷ (plain (codes ")") ++ named name ∷ (plain (codes "(") ++ ps)))) in
      let l2 = length_behind (plain (codes "*")) (named type_name ∷ (plain (codes ")") ++ named name ∷ (plain (codes "(") ++ ps))) in
      let l3 = length_behind (plain (codes ")")) (named name ∷ (plain (codes "(") ++ ps)) in
      let l4 = length_behind (plain (codes "(")) ps in
      let l5 = parameters_length (plain (codes "uint64")) params ps (plain (codes ") uint64 { return") ++ ss) p in
      let l6 = length_behind (plain (codes ") uint64 { return")) ss in
      let l7 = sum_length params first rest ss end s in
      let l8 = may_end_length end (plain (codes "} ;") ++ r) m in
      let l9 = length_behind (plain (codes "} ;")) r in
      omega (arith, l1, l2, l3, l4, l5, l6, l7, l8, l9)

  pub method_shrinks : Shrinks (reading.method type_name)
  method_shrinks ts op r e = method_length op ts r (method_found ts op r e)

  pub methods_found : (ts : List Token) (ops : List SmallOp) (r : List Token) → reading.methods type_name ts ≡ Some (ops, r) → Many (IsMethod type_name) ops ts []
  methods_found ts ops r e =
      let m = all_of_found reading.is_nothing (reading.method type_name) (IsMethod type_name) method_found ts ops r e in
      subst (λ (us : List Token). Many (IsMethod type_name) ops ts us) (nothing r m.1) m.0
    where
      nothing : (us : List Token) → reading.is_nothing us ≡ true → us ≡ []
      nothing [] e = refl
      nothing (t ∷ us) e = absurd cc

  pub methods_read : (ops : List SmallOp) (ts : List Token) → Many (IsMethod type_name) ops ts [] → reading.methods type_name ts ≡ Some (ops, [])
  methods_read ops ts m = all_of_read reading.is_nothing (reading.method type_name) (IsMethod type_name) method_shrinks method_read ops ts [] m refl

-- ---- the package

-- what stands before the methods, behind the result type of Recover
abbrev end_of_head : List ℕ → List Token → List Token
end_of_head type_name end = named type_name ∷ (plain (codes "{ return &") ++ named type_name ∷ (plain (codes "{ }") ++ end))

abbrev head_of_package : List ℕ → List ℕ → List Token → List Token
head_of_package name type_name end = plain (codes "package") ++ named name ∷ (plain (codes "; type") ++ named type_name ∷ (plain (codes "struct { } ; func Recover ( ) *") ++ end_of_head type_name end))

end_found : (type_name : List ℕ) (ts r : List Token) → reading.package_end type_name ts ≡ Some r → (end : List Token) × (ts ≡ end_of_head type_name end) × MayEnd end (plain (codes "} ;") ++ r)
end_found type_name ts r e =
    then_case _ (behind_all (named type_name ∷ []) ts) r e (λ a a_is e1.
    then_case _ (behind_all (plain (codes "{ return &")) a) r e1 (λ b b_is e2.
    then_case _ (behind_all (named type_name ∷ []) b) r e2 (λ c c_is e3.
    then_case _ (behind_all (plain (codes "{ }")) c) r e3 (λ d d_is e4.
    let p1 = behind_found (named type_name ∷ []) ts a a_is in
    let p2 = behind_found (plain (codes "{ return &")) a b b_is in
    let p3 = behind_found (named type_name ∷ []) b c c_is in
    let p4 = behind_found (plain (codes "{ }")) c d d_is in
    let p5 = behind_found (plain (codes "} ;")) (past_semicolon d) r e4 in (
      d,
      p1 ∙ ap (λ (us : List Token). named type_name ∷ us) (p2 ∙ ap (λ (us : List Token). plain (codes "{ return &") ++ us) (p3 ∙ ap (λ (us : List Token). named type_name ∷ us) p4)),
      subst (λ (us : List Token). MayEnd d us) p5 (past_found d),
    )))))

end_read : (type_name : List ℕ) (end r : List Token) → MayEnd end (plain (codes "} ;") ++ r) → reading.package_end type_name (end_of_head type_name end) ≡ Some r
end_read type_name end r m =
    rw ((bytes_eq-Decides type_name type_name).1 refl, behind_front (plain (codes "{ return &")) (named type_name ∷ (plain (codes "{ }") ++ end)), (bytes_eq-Decides type_name type_name).1 refl, behind_front (plain (codes "{ }")) end, past_read end (plain (codes "} ;") ++ r) m (ends r)) (behind_front (plain (codes "} ;")) r)

pub record IsPackageHead (ts : List Token) (type_name : List ℕ) (r : List Token) : Type 0 where
  pub name : List ℕ
  pub end : List Token
  pub spelled : ts ≡ head_of_package name type_name end
  pub name_is : is_name name ≡ true
  pub type_is : is_name type_name ≡ true
  pub may_end : MayEnd end (plain (codes "} ;") ++ r)

package_head_found : (ts : List Token) (type_name : List ℕ) (r : List Token) → reading.package_head ts ≡ Some (type_name, r) → IsPackageHead ts type_name r
package_head_found ts type_name r e =
    then_case _ (behind_all (plain (codes "package")) ts) (type_name, r) e (λ a a_is e1.
    then_case _ (word_at is_name a) (type_name, r) e1 (λ b b_is e2.
    then_case _ (behind_all (plain (codes "; type")) b.1) (type_name, r) e2 (λ c c_is e3.
    then_case _ (word_at is_name c) (type_name, r) e3 (λ d d_is e4.
    then_case _ (behind_all (plain (codes "struct { } ; func Recover ( ) *")) d.1) (type_name, r) e4 (λ g g_is e5.
    map_case _ (reading.package_end d.0 g) (type_name, r) e5 (λ k k_is pair.
    let t_is : d.0 ≡ type_name = ap (λ z. z.0) pair in
    let r_is : k ≡ r = ap (λ z. z.1) pair in
    let p1 = behind_found (plain (codes "package")) ts a a_is in
    let p2 = word_found is_name a b.0 b.1 b_is in
    let p3 = behind_found (plain (codes "; type")) b.1 c c_is in
    let p4 = word_found is_name c d.0 d.1 d_is in
    let p5 = behind_found (plain (codes "struct { } ; func Recover ( ) *")) d.1 g g_is in
    let (x, x_is, m) = end_found d.0 g k k_is in
    let whole_is : ts ≡ head_of_package b.0 d.0 x = p1 ∙ ap (λ (us : List Token). plain (codes "package") ++ us) (p2.0 ∙ ap (λ (us : List Token). named b.0 ∷ us) (p3 ∙ ap (λ (us : List Token). plain (codes "; type") ++ us) (p4.0 ∙ ap (λ (us : List Token). named d.0 ∷ us) (p5 ∙ ap (λ (us : List Token). plain (codes "struct { } ; func Recover ( ) *") ++ us) x_is)))) in
    record {
      name = b.0;
      end = x;
      spelled = whole_is ∙ ap (λ v. head_of_package b.0 v x) t_is;
      name_is = p2.1;
      type_is = ap is_name (sym t_is) ∙ p4.1;
      may_end = subst (λ (us : List Token). MayEnd x (plain (codes "} ;") ++ us)) r_is m;
    }))))))

package_head_read : (name type_name : List ℕ) (end r : List Token) → is_name name ≡ true → is_name type_name ≡ true → MayEnd end (plain (codes "} ;") ++ r) →
    reading.package_head (head_of_package name type_name end) ≡ Some (type_name, r)
package_head_read name type_name end r n t m =
    let t4 : List Token = end_of_head type_name end in
    let t3 : List Token = plain (codes "struct { } ; func Recover ( ) *") ++ t4 in
    rw (behind_front (plain (codes "package")) (named name ∷ (plain (codes "; type") ++ named type_name ∷ t3)), n, behind_front (plain (codes "; type")) (named type_name ∷ t3), t, behind_front (plain (codes "struct { } ; func Recover ( ) *")) t4, end_read type_name end r m) refl

pub package_found : (ts : List Token) (ops : List SmallOp) → reading.package_ops ts ≡ Some ops → IsPackage (record { ops = ops }) ts
package_found ts ops e =
    then_case _ (reading.package_head ts) ops e (λ h h_is e1.
    then_case _ (reading.methods h.0 h.1) ops e1 (λ m m_is e2.
    map_case _ (distinct_names (map (λ op. op.name) m.0)) ops e2 (λ d d_is ops_is.
    let p = package_head_found ts h.0 h.1 h_is in
    let made : IsPackage (record { ops = m.0 }) (head_of_package p.name h.0 p.end) = whole p.name h.0 m.0 p.end h.1 p.name_is p.type_is p.may_end (methods_found h.0 h.1 m.0 m.1 m_is) (distinct_found (map (λ op. op.name) m.0) d d_is) in
    subst (λ (xs : List SmallOp). IsPackage (record { ops = xs }) ts) ops_is (subst (λ (us : List Token). IsPackage (record { ops = m.0 }) us) (sym p.spelled) made))))

pub package_read : (small : Small) (ts : List Token) → IsPackage small ts → reading.package_ops ts ≡ Some small.ops
package_read small ts (whole name type_name ops end ms n t m k d) =
    rw (package_head_read name type_name end ms n t m, methods_read type_name ops ms k, d) refl

-- ---- the text

pub small_found : (text : List ℕ) (left : List Placed) (ops : List SmallOp) → left ≡ tokens_of true text → reading.package_ops (kinds left) ≡ Some ops → IsSmallPackage text (record { ops = ops })
small_found text left ops l e = record { pieces = cut text; cut = cut_cuts text; spelled = subst (λ ts. IsPackage (record { ops = ops }) (kinds ts)) l (package_found (kinds left) ops e) }

pub small_read : (text : List ℕ) (left : List Placed) (small : Small) → left ≡ tokens_of true text → IsSmallPackage text small → reading.package_ops (kinds left) ≡ Some small.ops
small_read text left small l s =
    let same : kinds left ≡ kinds (tokens_in true s.pieces) = ap kinds l ∙ ap (λ (ps : List Piece). kinds (tokens_in true ps)) (cut_only text s.pieces s.cut) in
    ap reading.package_ops same ∙ package_read small (kinds (tokens_in true s.pieces)) s.spelled

pub small_only : (text : List ℕ) (left : List Placed) (ops : List SmallOp) (small : Small) → left ≡ tokens_of true text → reading.package_ops (kinds left) ≡ Some ops → IsSmallPackage text small →
    record { ops = ops } ≡ small
small_only text left ops small l e s =
    let both : Some ops ≡ Some small.ops = sym e ∙ small_read text left small l s in
    let same : ops ≡ small.ops = cc in
    ap (λ (xs : List SmallOp). let x : Small = record { ops = xs } in x) same

pub refused_not_read : (o : Option (List SmallOp)) (small : Small) (e : Refusal) → Refuses o e → o ≡ Some small.ops → IsReadAs small (Err e)
refused_not_read o small refusal.NoMemory r f = tt
refused_not_read o small (refusal.At place code) r f = let clash : None ≡ Some small.ops = sym r.0 ∙ f in absurd cc

-- where the end isn't reached, something is left
pub something : (ts : List Token) (b : Bool) → IsTrue b ↔ (ts ≡ []) → b ≡ false → not (reading.is_nothing ts) ≡ true
something [] true h e = absurd cc
something [] false h e = let k : IsTrue false = h.1 refl in absurd (false_true k)
something (t ∷ ts) b h e = refl

pub err_not_read : (o : Option (List SmallOp)) (small : Small) (r : Result Small Refusal) (e : Refusal) → IsErrAnd r (λ x. x ≡ e) → Refuses o e → o ≡ Some small.ops → IsReadAs small r
err_not_read o small (Ok x) e h r f = absurd h
err_not_read o small (Err x) e h r f = refused_not_read o small x (subst (λ y. Refuses o y) (sym h) r) f
