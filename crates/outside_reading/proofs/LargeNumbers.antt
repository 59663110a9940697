-- Where a number among the tokens of a unit is too large, the unit is no definition that is read; and what a definition is spelled as is told without any sight.
use Rattle.std.specs.Prelude.{if◌then◌else◌}
use Rattle.std.proofs.Common.{◌≡◌, Bool, true, false, ◌&&◌, List, [], ◌∷◌, Option, Some, None, refl, sym, ap, ◌∙◌}
use Rattle.tla_token.specs.declared.place.Place.{Place}
use Rattle.tla_tree.specs.Tree.{Name, Tree}
use Rattle.tla_tree.specs.Lexical.{TokenView, Token}
use Rattle.tla_tree.specs.Lexical as tk
use Rattle.tla_tree.specs.Reader.{is_mark}
use Rattle.module_tree.specs.Outside.{Sight}
use Rattle.outside_reading.specs.PlainUnits.{is_right, name_if, name_in, only_name, one_more, names_in, closed_in, parameters_in, behind_sign, head_in, with_tree, defined_if, defined_in, spelled_if, spelled_in, if_spelled}
use Rattle.outside_reading.specs.SmallNumbers.{is_small, all_small}
use Rattle.outside_reading.proofs.SmallNumbers.{large_unread}

-- what is small where something is read, and else anything
abbrev SameSmall : List Token → Option (List Name × List Token) → Type 0
SameSmall ts None = Unit {0}
SameSmall ts (Some (ns, r)) = all_small ts ≡ all_small r

marked_small : (m : tk.Mark) (k : TokenView) → is_mark m k ≡ true → is_small k ≡ true
marked_small m (tk.mark n) h = refl
marked_small m (tk.number n) h = absurd cc
marked_small m k h = refl

name_small : (t : Token) (r : List Token) → SameSmall (t ∷ r) (only_name r (name_in t))
name_small t r = by (is_right t) t.kind refl
  where
    by : (b : Bool) (k : TokenView) → t.kind ≡ k → SameSmall (t ∷ r) (only_name r (name_if b t.place k))
    by true (tk.word x) e = ap (λ (k : TokenView). is_small k && all_small r) e
    by true k e = tt
    by false k e = tt

more_small : (t u : Token) (ts : List Token) (o : Option (List Name × List Token)) → is_mark tk.comma u.kind ≡ true → SameSmall ts o → SameSmall (t ∷ u ∷ ts) (one_more (name_in t) (is_right u) o)
more_small t u ts o m h = by (is_right t) t.kind refl (is_right u) o h
  where
    by : (b : Bool) (k : TokenView) → t.kind ≡ k → (c : Bool) (o : Option (List Name × List Token)) → SameSmall ts o → SameSmall (t ∷ u ∷ ts) (one_more (name_if b t.place k) c o)
    by true (tk.word x) e true (Some (ns, r)) h = (λ i. is_small (e i) && (marked_small tk.comma u.kind m i && h i))
    by true (tk.word x) e true None h = tt
    by true (tk.word x) e false o h = tt
    by true k e c o h = tt
    by false k e c o h = tt

names_small : (ts : List Token) → SameSmall ts (names_in ts)
names_small [] = tt
names_small (t ∷ []) = name_small t []
names_small (t ∷ u ∷ ts) = by (is_mark tk.comma u.kind) refl (names_small ts)
  where
    by : (b : Bool) → is_mark tk.comma u.kind ≡ b → SameSmall ts (names_in ts) → SameSmall (t ∷ u ∷ ts) (if b then one_more (name_in t) (is_right u) (names_in ts) else only_name (u ∷ ts) (name_in t))
    by true e h = more_small t u ts (names_in ts) e h
    by false e h = name_small t (u ∷ ts)

closed_small : (t : Token) (ts : List Token) (o : Option (List Name × List Token)) → is_mark tk.open_bracket t.kind ≡ true → SameSmall ts o → SameSmall (t ∷ ts) (closed_in t o)
closed_small t ts None m h = tt
closed_small t ts (Some (ns, [])) m h = tt
closed_small t ts (Some (ns, u ∷ r)) m h = by (is_right t) (is_mark tk.close_bracket u.kind) refl (is_right u)
  where
    by : (a b : Bool) → is_mark tk.close_bracket u.kind ≡ b → (c : Bool) → SameSmall (t ∷ ts) (if a && (b && c) then Some (ns, r) else None)
    by true true e true = (λ i. marked_small tk.open_bracket t.kind m i && h i) ∙ (λ i. marked_small tk.close_bracket u.kind e i && all_small r)
    by true true e false = tt
    by true false e c = tt
    by false b e c = tt

parameters_small : (ts : List Token) → SameSmall ts (parameters_in ts)
parameters_small [] = tt
parameters_small (t ∷ ts) = by (is_mark tk.open_bracket t.kind) refl
  where
    by : (b : Bool) → is_mark tk.open_bracket t.kind ≡ b → SameSmall (t ∷ ts) (if b then closed_in t (names_in ts) else Some ([], t ∷ ts))
    by true e = closed_small t ts (names_in ts) e (names_small ts)
    by false e = refl

behind_small : (ts : List Token) (o : Option (List Name × List Token)) → SameSmall ts o → SameSmall ts (behind_sign o)
behind_small ts None h = tt
behind_small ts (Some (ns, [])) h = tt
behind_small ts (Some (ns, u ∷ r)) h = by (is_mark tk.defines u.kind) refl (is_right u)
  where
    by : (b : Bool) → is_mark tk.defines u.kind ≡ b → (c : Bool) → SameSmall ts (if b && c then Some (ns, r) else None)
    by true e true = h ∙ (λ i. marked_small tk.defines u.kind e i && all_small r)
    by true e false = tt
    by false e c = tt

head_small : (ts : List Token) → SameSmall ts (head_in ts)
head_small ts = behind_small ts (parameters_in ts) (parameters_small ts)

unread : (v : Sight) (p : Place) (k : TokenView) → defined_if v p k None ≡ None
unread v p (tk.word x) = refl
unread v p k = refl

pub large_undefined : (v : Sight) (ts : List Token) → all_small ts ≡ false → defined_in v ts ≡ None
large_undefined v [] h = refl
large_undefined v (t ∷ ts) h = by (is_small t.kind) refl (head_in ts) refl (head_small ts)
  where
    no_word : (k : TokenView) (o : Option (List Name × Tree)) → is_small k ≡ false → defined_if v t.place k o ≡ None
    no_word (tk.word x) o e = absurd cc
    no_word k o e = refl

    by : (b : Bool) → is_small t.kind ≡ b → (o : Option (List Name × List Token)) → head_in ts ≡ o → SameSmall ts o → defined_if v t.place t.kind (with_tree o) ≡ None
    by false e o f s = no_word t.kind (with_tree o) e
    by true e None f s = unread v t.place t.kind
    by true e (Some (ns, r)) f s = large_unread v t.place t.kind ns r (sym s ∙ (let q : (true && all_small ts) ≡ false = ap (λ (b : Bool). b && all_small ts) (sym e) ∙ h in q))

-- ---- what a definition is spelled as

pub spelled_defined : (v : Sight) (ts : List Token) → defined_in v ts ≡ if_spelled v (spelled_in ts)
spelled_defined v [] = refl
spelled_defined v (t ∷ ts) = by t.kind (with_tree (head_in ts))
  where
    by : (k : TokenView) (o : Option (List Name × Tree)) → defined_if v t.place k o ≡ if_spelled v (spelled_if t.place k o)
    by (tk.word x) (Some s) = refl
    by (tk.word x) None = refl
    by k o = refl
