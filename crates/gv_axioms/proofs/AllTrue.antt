-- Each axiom of the table is true.
use Rattle.std.proofs.Common.{◌≡◌, ℕ, suc, List, [], ◌∷◌, Some}
use Rattle.std.specs.List.{All}
use Rattle.std.proofs.lemmas.List.Elements.{All-nil, All-cons}
use Rattle.gv_axioms.specs.Schema.{Axiom}
use Rattle.gv_axioms.specs.Table.{table}
use Rattle.gv_terms.specs.declared.tree.TermTree.{TermTree}
use Rattle.gv_terms.specs.declared.value.Env.{Env}
use Rattle.gv_axioms.specs.Instances.{numbered, over_parts, instance_of}
use Rattle.gv_terms.specs.Ranges.{IsValuation}
use Rattle.gv_axioms.specs.Truth.{IsTrueUnder, AreTerms, IsTrue, AxiomsAreTrue}
use Rattle.gv_axioms.proofs.Forms.{reached}
use Rattle.gv_axioms.proofs.Worth.{Holds}
use Rattle.gv_axioms.proofs.Fillings.{is_true, at_place}
use Rattle.gv_axioms.proofs.Logic.{holds_1, holds_2, holds_3, holds_4, holds_5, holds_6, holds_7, holds_8, holds_9, holds_10, holds_11, holds_12, holds_13, holds_14, holds_15, holds_16, holds_17}
use Rattle.gv_axioms.proofs.Arithmetic.{holds_18, holds_19, holds_20, holds_21, holds_22, holds_23, holds_24, holds_25, holds_26, holds_27}
use Rattle.gv_axioms.proofs.Items.{holds_28, holds_29, holds_30, holds_31, holds_32, holds_35, holds_36, holds_37, holds_38, holds_39, holds_40, holds_41, holds_42}
use Rattle.gv_axioms.proofs.Zeros.{holds_33, holds_34, holds_43}
use Rattle.gv_axioms.proofs.WordBytes.{holds_44, holds_45, holds_46, holds_47, holds_48, holds_49}
use Rattle.gv_axioms.proofs.Entries.{holds_50, holds_51, holds_52, holds_53, holds_54, holds_55, holds_56, holds_57, holds_58}
use Rattle.gv_axioms.proofs.Slices.{holds_59, holds_60, holds_61, holds_62, holds_63}

abbrev AllHold : List Axiom → Type 0
AllHold [] = Unit {0}
AllHold (a ∷ rest) = Holds a × AllHold rest

all_true : (axioms : List Axiom) → AllHold axioms → All IsTrue axioms
all_true [] h = All-nil IsTrue
all_true (a ∷ rest) h = All-cons IsTrue a rest (is_true a h.0) (all_true rest h.1)

all_hold : AllHold table
all_hold = (
  holds_1,
  (
    holds_2,
    (
      holds_3,
      (
        holds_4,
        (
          holds_5,
          (
            holds_6,
            (
              holds_7,
              (
                holds_8,
                (
                  holds_9,
                  (
                    holds_10,
                    (
                      holds_11,
                      (
                        holds_12,
                        (
                          holds_13,
                          (
                            holds_14,
                            (
                              holds_15,
                              (
                                holds_16,
                                (
                                  holds_17,
                                  (
                                    holds_18,
                                    (
                                      holds_19,
                                      (
                                        holds_20,
                                        (
                                          holds_21,
                                          (
                                            holds_22,
                                            (
                                              holds_23,
                                              (
                                                holds_24,
                                                (
                                                  holds_25,
                                                  (
                                                    holds_26,
                                                    (
                                                      holds_27,
                                                      (
                                                        holds_28,
                                                        (
                                                          holds_29,
                                                          (
                                                            holds_30,
                                                            (
                                                              holds_31,
                                                              (
                                                                holds_32,
                                                                (
                                                                  holds_33,
                                                                  (
                                                                    holds_34,
                                                                    (
                                                                      holds_35,
                                                                      (
                                                                        holds_36,
                                                                        (
                                                                          holds_37,
                                                                          (
                                                                            holds_38,
                                                                            (
                                                                              holds_39,
                                                                              (
                                                                                holds_40,
                                                                                (
                                                                                  holds_41,
                                                                                  (
                                                                                    holds_42,
                                                                                    (
                                                                                      holds_43,
                                                                                      (
                                                                                        holds_44,
                                                                                        (
                                                                                          holds_45,
                                                                                          (
                                                                                            holds_46,
                                                                                            (
                                                                                              holds_47,
                                                                                              (
                                                                                                holds_48,
                                                                                                (
                                                                                                  holds_49,
                                                                                                  (
                                                                                                    holds_50,
                                                                                                    (
                                                                                                      holds_51,
                                                                                                      (
                                                                                                        holds_52,
                                                                                                        (
                                                                                                          holds_53,
                                                                                                          (
                                                                                                            holds_54,
                                                                                                            (
                                                                                                              holds_55,
                                                                                                              (
                                                                                                                holds_56,
                                                                                                                (holds_57, (holds_58, (holds_59, (holds_60, (holds_61, (holds_62, (holds_63, tt))))))),
                                                                                                              ),
                                                                                                            ),
                                                                                                          ),
                                                                                                        ),
                                                                                                      ),
                                                                                                    ),
                                                                                                  ),
                                                                                                ),
                                                                                              ),
                                                                                            ),
                                                                                          ),
                                                                                        ),
                                                                                      ),
                                                                                    ),
                                                                                  ),
                                                                                ),
                                                                              ),
                                                                            ),
                                                                          ),
                                                                        ),
                                                                      ),
                                                                    ),
                                                                  ),
                                                                ),
                                                              ),
                                                            ),
                                                          ),
                                                        ),
                                                      ),
                                                    ),
                                                  ),
                                                ),
                                              ),
                                            ),
                                          ),
                                        ),
                                      ),
                                    ),
                                  ),
                                ),
                              ),
                            ),
                          ),
                        ),
                      ),
                    ),
                  ),
                ),
              ),
            ),
          ),
        ),
      ),
    ),
  ),
)

pub axioms_are_true : AxiomsAreTrue
axioms_are_true = all_true table all_hold

numbered_true : (n : ℕ) (a : Axiom) → numbered n ≡ Some a → IsTrue a
numbered_true Prim.Native.Nat.zero a e = absurd cc
numbered_true (suc n) a e = at_place IsTrue table n a axioms_are_true e

-- each instance is true
pub instances_are_true : (n : ℕ) (ts us : List TermTree) (t : TermTree) → AreTerms ts → instance_of n ts ≡ Some (us, t) → (env : Env) → IsValuation env → All (IsTrueUnder env) us → IsTrueUnder env t
instances_are_true n ts us t terms e =
    let r = reached (numbered n) (over_parts ts) (us, t) e in
    numbered_true n r.0 r.1 ts us t terms r.2
