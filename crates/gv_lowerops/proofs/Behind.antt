-- What is made behind a draft.
use Rattle.std.proofs.Common.{◌≡◌, ℕ, suc, ◌+◌, List, [], ◌∷◌, ◌++◌, length, map, take, refl, sym, ap, ◌∙◌, append_assoc, length-append}
use Rattle.std.proofs.lemmas.List.{append-nil, map-append, take_at, take-map}
use Rattle.gv_lang.specs.declared.cmd.Cmd.{Cmd as DeclaredCmd}
use Rattle.gv_lang.specs.declared.program.LocalKind.{LocalKind}
use Rattle.gv_lang.specs.Plain.{tree_of}
use Rattle.gv_lang.specs.Plain as plain
use Rattle.gv_lang.specs.Tree as lang
use Rattle.gv_lowering.specs.Operands as lower
use Rattle.gv_lowerops.specs.declared.draft.Draft.{Draft}
use Rattle.gv_lowerops.specs.declared.draft.Mark.{Mark}
use Rattle.gv_lowerops.specs.Tails.{IsBehind, IsMark}

-- nothing more
pub behind_same : (old : Draft) → IsBehind old old [] []
behind_same old = record { cmds = sym (append-nil (map tree_of old.cmds.items)); temps = sym (append-nil old.temps.items) }

-- two, one after the other
pub behind_then : (old mid new : Draft) (cs ds : List lang.Cmd) (ts us : List LocalKind) → IsBehind old mid cs ts → IsBehind mid new ds us → IsBehind old new (cs ++ ds) (ts ++ us)
behind_then old mid new cs ds ts us h k = record {
  cmds = k.cmds ∙ (ap (λ (x : List lang.Cmd). x ++ ds) h.cmds ∙ append_assoc (map tree_of old.cmds.items) cs ds);
  temps = k.temps ∙ (ap (λ (x : List LocalKind). x ++ us) h.temps ∙ append_assoc old.temps.items ts us);
}

-- how many temporaries are in use there
pub count_behind : (old new : Draft) (cs : List lang.Cmd) (ts : List LocalKind) → IsBehind old new cs ts → length new.temps.items ≡ length old.temps.items + length ts
count_behind old new cs ts h = ap (λ (x : List LocalKind). length x) h.temps ∙ length-append old.temps.items ts

-- the trees of commands with one more
pub trees_more : (cs : List DeclaredCmd) (cmd : DeclaredCmd) (d : lang.Cmd) → tree_of cmd ≡ d → map tree_of (cs ++ cmd ∷ []) ≡ map tree_of cs ++ d ∷ []
trees_more cs cmd d h = map-append tree_of cs (cmd ∷ []) ∙ ap (λ (x : lang.Cmd). map tree_of cs ++ x ∷ []) h

-- one command more, and temporaries
pub behind_more : (old mid new : Draft) (cs : List lang.Cmd) (ts us : List LocalKind) (cmd : DeclaredCmd) (d : lang.Cmd) → IsBehind old mid cs ts
    → new.cmds.items ≡ mid.cmds.items ++ cmd ∷ [] → tree_of cmd ≡ d → new.temps.items ≡ mid.temps.items ++ us → IsBehind old new (cs ++ d ∷ []) (ts ++ us)
behind_more old mid new cs ts us cmd d h more is temps = behind_then old mid new cs (d ∷ []) ts us h (record {
  cmds = ap (λ (x : List DeclaredCmd). map tree_of x) more ∙ trees_more mid.cmds.items cmd d is;
  temps = temps;
})

lengths : (cs : List DeclaredCmd) → length (map tree_of cs) ≡ length cs
lengths [] = refl
lengths (c ∷ cs) = ap (λ (n : ℕ). suc n) (lengths cs)

length_same : (xs : List lang.Cmd) (cs : List DeclaredCmd) (n : ℕ) → length xs ≡ length cs → n ≡ length cs → length xs ≡ n
length_same xs cs n h k = h ∙ sym k

-- back where a draft was
pub behind_none : (old mid new : Draft) (mark : Mark) (cs : List lang.Cmd) (ts : List LocalKind) → IsMark old mark → IsBehind old mid cs ts
    → new.cmds.items ≡ take mark.cmds mid.cmds.items → new.temps.items ≡ take mark.temps mid.temps.items → IsBehind old new [] []
behind_none old mid new mark cs ts m h cmds temps = record {
  cmds =
      ap (λ (x : List DeclaredCmd). map tree_of x) cmds
      ∙ (sym (take-map tree_of mark.cmds mid.cmds.items)
      ∙ (ap (λ (x : List lang.Cmd). take mark.cmds x) h.cmds
      ∙ (take_at (map tree_of old.cmds.items) cs mark.cmds (length_same (map tree_of old.cmds.items) old.cmds.items mark.cmds (lengths old.cmds.items) m.cmds) ∙ sym (append-nil (map tree_of old.cmds.items)))));
  temps =
      temps
      ∙ (ap (λ (x : List LocalKind). take mark.temps x) h.temps
      ∙ (take_at old.temps.items ts mark.temps (sym m.temps) ∙ sym (append-nil old.temps.items)));
}

-- a block of declared commands
pub same_block : (cs : List lang.Cmd) → plain.block_of cs ≡ lower.block_of cs
same_block [] = refl
same_block (c ∷ cs) = ap (λ (b : lang.Block). lang.next c b) (same_block cs)
