-- Names that are declared one after another.
use Rattle.std.proofs.Common.{◌≡◌, ℕ, ◌+◌, ◌<◌, Bool, true, false, not, ◌||◌, List, [], ◌∷◌, ◌++◌, length, take, get_or, map, Option, refl, sym, ap, subst, ◌∙◌, append_assoc, append-nil}
use Rattle.std.proofs.lemmas.List.{map-append, take_more, get_or_default}
use Rattle.std.specs.List.{list_any}
use Rattle.std.specs.Str.{bytes_eq}
use Rattle.gv_base.specs.declared.answers.Code.TheVariants.{Twice}
use Rattle.gv_lang.specs.declared.program.Program.{Program}
use Rattle.gv_atomic.specs.declared.spec.Spec.{Spec}
use Rattle.gv_termread.specs.declared.token.SeenToken.{SeenToken}
use Rattle.gv_typing.specs.declared.term_fault.Fault.{Fault}
use Rattle.gv_scriptsyntax.specs.declared.tree.Par.{Par}
use Rattle.gv_scriptnames.specs.Names.{name_in, names_in, names_of, is_constant}
use Rattle.gv_scriptnames.specs.Scopes.{is_borne}
use Rattle.gv_scriptnames.specs.Found.{Found, unless, twice, all_twice}
use Rattle.gv_scriptfaults.specs.declared.names.NameSet.{NameSet}
use Rattle.gv_scriptfaults.specs.Least.{after}
use Rattle.gv_scriptfaults.specs.Tables.{has, Holds}
use Rattle.gv_scriptfaults.specs.Noted.{AreDeclared, AreAdded}
use Rattle.gv_scriptfaults.proofs.Meeting.{after_both, each_last, taken}

any_both : {T : Type 0} (p : T → Bool) (xs ys : List T) → list_any p (xs ++ ys) ≡ (list_any p xs || list_any p ys)
any_both p [] ys = refl
any_both p (x ∷ xs) ys = step (p x) (any_both p xs ys)
  where
    step : (b : Bool) → list_any p (xs ++ ys) ≡ (list_any p xs || list_any p ys) → (b || list_any p (xs ++ ys)) ≡ ((b || list_any p xs) || list_any p ys)
    step true h = refl
    step false h = h

-- one name, where the constant and the two sets are looked at
pub one_declared : (text n : List ℕ) (outer own : NameSet) (t : SeenToken) (b : Bool) (c d : Bool) (f g h : Option Fault) → n ≡ name_in text t → b ≡ is_constant t → c ≡ has outer n → d ≡ has own n
    → g ≡ after f (unless (not b) t.start Twice) → h ≡ after g (unless (not (c || d)) t.start Twice) → AreDeclared text outer own (t ∷ []) f h
one_declared text n outer own t b c d f g h n_is b_is c_is d_is g_is h_is spec program before names is_outer is_own =
    h_is ∙ ap (λ (x : Option Fault). after x (unless (not (c || d)) t.start Twice)) (g_is ∙ ap (λ (x : Bool). after f (unless (not x) t.start Twice)) b_is)
    ∙ ap (λ (x : Bool). after (after f (unless (not (is_constant t)) t.start Twice)) (unless (not x) t.start Twice)) same
    ∙ sym (after_both f (unless (not (is_constant t)) t.start Twice) (unless (not (is_borne (before ++ names) (name_in text t))) t.start Twice))
    ∙ ap (λ (x : Found). after f x) (sym (append-nil (twice text spec program (before ++ names) t)) ∙ ap (λ (x : List (List ℕ)). twice text spec program x t ++ []) (sym (append-nil (before ++ names))))
  where
    same : (c || d) ≡ is_borne (before ++ names) (name_in text t)
    same = ap (λ (x : Bool). x || d) (c_is ∙ is_outer n) ∙ ap (λ (x : Bool). is_borne before n || x) (d_is ∙ is_own n) ∙ sym (any_both (bytes_eq n) before names) ∙ ap (is_borne (before ++ names)) n_is

-- ---- several

names_last : (text : List ℕ) (names : List (List ℕ)) (ts : List SeenToken) (t : SeenToken) → (names ++ names_in text ts) ++ name_in text t ∷ [] ≡ names ++ names_in text (ts ++ t ∷ [])
names_last text names ts t = append_assoc names (names_in text ts) (name_in text t ∷ []) ∙ ap (λ (x : List (List ℕ)). names ++ x) (sym (map-append (name_in text) ts (t ∷ [])))

pub none_declared : (text : List ℕ) (outer own : NameSet) (f : Option Fault) → AreDeclared text outer own [] f f
none_declared text outer own f spec program before names p q = refl

pub none_added : (text : List ℕ) (own : NameSet) → AreAdded text own [] own
none_added text own names h = subst (λ (x : List (List ℕ)). Holds x own) (sym (append-nil names)) h

pub more_added : (text : List ℕ) (ts : List SeenToken) (t : SeenToken) (old own new : NameSet) → AreAdded text old ts own → AreAdded text own (t ∷ []) new → AreAdded text old (ts ++ t ∷ []) new
more_added text ts t old own new p q names h = subst (λ (x : List (List ℕ)). Holds x new) (names_last text names ts t) (q (names ++ names_in text ts) (p names h))

pub more_declared : (text : List ℕ) (outer old own : NameSet) (ts : List SeenToken) (t : SeenToken) (f g h : Option Fault) → AreAdded text old ts own → AreDeclared text outer old ts f g → AreDeclared text outer own (t ∷ []) g h
    → AreDeclared text outer old (ts ++ t ∷ []) f h
more_declared text outer old own ts t f g h added p q spec program before names is_outer is_old =
    q spec program before (names ++ names_in text ts) is_outer (added names is_old)
    ∙ ap (λ (x : Found). after g x) one
    ∙ ap (λ (x : Option Fault). after x (twice text spec program ((before ++ names) ++ names_in text ts) t)) (p spec program before names is_outer is_old)
    ∙ sym (after_both f (all_twice text spec program (before ++ names) ts) (twice text spec program ((before ++ names) ++ names_in text ts) t))
    ∙ ap (after f) (sym (each_last (λ b u. twice text spec program ((before ++ names) ++ names_in text b) u) [] ts t))
  where
    one : all_twice text spec program (before ++ (names ++ names_in text ts)) (t ∷ []) ≡ twice text spec program ((before ++ names) ++ names_in text ts) t
    one = append-nil (twice text spec program ((before ++ (names ++ names_in text ts)) ++ []) t)
        ∙ ap (λ (x : List (List ℕ)). twice text spec program x t) (append-nil (before ++ (names ++ names_in text ts)) ∙ sym (append_assoc before names (names_in text ts)))

-- the next name of a list, and the next of parameters

pub next_name : (ts : List SeenToken) (i : ℕ) (d : SeenToken) → i < length ts → take i ts ++ get_or ts i d ∷ [] ≡ take (i + 1) ts
next_name ts i d l = sym (take_more ts i d l)

pub next_par : (ps : List Par) (i : ℕ) (d : Par) → i < length ps → names_of (take i ps) ++ (get_or ps i d).name ∷ [] ≡ names_of (take (i + 1) ps)
next_par ps i d l = sym (ap names_of (take_more ps i d l) ∙ map-append (λ (q : Par). q.name) (take i ps) (get_or ps i d ∷ []))

-- the same of lists of names that are equal

pub declared_as : (text : List ℕ) (outer own : NameSet) (ts us : List SeenToken) (f g : Option Fault) → ts ≡ us → AreDeclared text outer own ts f g → AreDeclared text outer own us f g
declared_as text outer own ts us f g e h = subst (λ (vs : List SeenToken). AreDeclared text outer own vs f g) e h

pub added_as : (text : List ℕ) (old own : NameSet) (ts us : List SeenToken) → ts ≡ us → AreAdded text old ts own → AreAdded text old us own
added_as text old own ts us e h = subst (λ (vs : List SeenToken). AreAdded text old vs own) e h

-- ---- where no other names stand outside

pub declared_alone : (text : List ℕ) (spec : Spec) (program : Program) (outer own : NameSet) (names : List (List ℕ)) (ts : List SeenToken) (f g : Option Fault) → Holds [] outer → Holds names own → AreDeclared text outer own ts f g
    → g ≡ after f (all_twice text spec program names ts)
declared_alone text spec program outer own names ts f g o h p = p spec program [] names o h

pub all_of_one : (text : List ℕ) (spec : Spec) (program : Program) (names : List (List ℕ)) (t : SeenToken) → all_twice text spec program names (t ∷ []) ≡ twice text spec program names t
all_of_one text spec program names t = append-nil (twice text spec program (names ++ []) t) ∙ ap (λ (x : List (List ℕ)). twice text spec program x t) (append-nil names)

pub declared_one : (text : List ℕ) (spec : Spec) (program : Program) (outer own : NameSet) (names : List (List ℕ)) (t : SeenToken) (f g : Option Fault) → Holds [] outer → Holds names own → AreDeclared text outer own (t ∷ []) f g
    → g ≡ after f (twice text spec program names t)
declared_one text spec program outer own names t f g o h p = p spec program [] names o h ∙ ap (after f) (all_of_one text spec program names t)

-- the names of one item more
pub named_more : {T : Type 0} (text : List ℕ) (of : T → SeenToken) (xs : List T) (i : ℕ) (x : T) → i < length xs → x ≡ get_or xs i x
    → names_in text (map of (take i xs)) ++ name_in text (of x) ∷ [] ≡ names_in text (map of (take (i + 1) xs))
named_more text of xs i x l e =
    sym (ap (λ ys. names_in text (map of ys)) (taken xs i x l e) ∙ ap (names_in text) (map-append of (take i xs) (x ∷ [])) ∙ map-append (name_in text) (map of (take i xs)) (of x ∷ []))

pub named_read : {T : Type 0} (text : List ℕ) (of : T → SeenToken) (xs : List T) (i : ℕ) (d : T) → i < length xs
    → names_in text (map of (take i xs)) ++ name_in text (of (get_or xs i d)) ∷ [] ≡ names_in text (map of (take (i + 1) xs))
named_read text of xs i d l = named_more text of xs i (get_or xs i d) l (get_or_default xs i d (get_or xs i d) l)

-- what a list of tokens gives past its end
abbrev pub none_token : SeenToken
none_token = record { class = 0; start = 0; end = 0; value = 0 }
