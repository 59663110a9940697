-- A definition is what it is spelled as, if it is read.
use Rattle.std.proofs.Common.{◌≡◌, ℕ, ◌<◌, Bool, true, false, List, [], ◌∷◌, length, Option, Some, None, refl, sym, ap, ◌∙◌, arith}
use Rattle.std.specs.Prelude.{if◌then◌else◌}
use Rattle.std.proofs.lemmas.Option.{none-some, same_Some}
use Rattle.tla_token.specs.declared.token.Tokens.{Tokens}
use Rattle.tla_tree.specs.Tree.{Tree, Name}
use Rattle.tla_tree.specs.Lexical.{TokenView, Token}
use Rattle.tla_tree.specs.Lexical as tk
use Rattle.tla_tree.specs.Reader.{tail}
use Rattle.tla_value.specs.DefinitionNesting.{definition_nests, depths}
use Rattle.tla_value.specs.Outside as pure
use Rattle.module_tree.specs.Outside.{Sight, definition_reads}
use Rattle.expr_nodes.specs.Ahead.{ahead}
use Rattle.expr_nodes.proofs.AheadLemmas.{ahead_tail}
use Rattle.outside_reading.specs.PlainUnits.{head_in, body_in, with_body, with_tree, spelled_if, spelled_in, if_reads}
use Rattle.outside_reading.specs.TreeDepth.{if_so, definition_depth}
use Rattle.outside_reading.proofs.TreeDepths.{definition_told}
use Rattle.module_outside.proofs.FrontLaws.{ahead_end}
use Rattle.module_outside.specs.OutsideAt.{title_in, made}

-- ---- what it is spelled as

spelled_with : Name → Option (List Name × List Token) → Option pure.ReadDefinition
spelled_with x (Some (ns, r)) = made x ns (body_in r)
spelled_with x None = None

titled_by : (x : Name) (o : Option (List Name × List Token)) → spelled_if x.place (tk.word x.word) (with_tree o) ≡ spelled_with x o
unfolding spelled_with
titled_by x None = refl
titled_by x (Some (ns, r)) = by (body_in r)
  where
    by : (o : Option Tree) → spelled_if x.place (tk.word x.word) (with_body ns o) ≡ made x ns o
    by (Some t) = refl
    by None = refl

of_title : (x : Name) (ts : List Token) → title_in ts ≡ Some x → spelled_in ts ≡ spelled_with x (head_in (tail ts))
of_title x [] h = absurd cc
of_title x (t ∷ ts) h = by t.kind refl
  where
    by : (k : TokenView) → t.kind ≡ k → spelled_if t.place t.kind (with_tree (head_in ts)) ≡ spelled_with x (head_in ts)
    by (tk.word w) e =
        let f : Some (record { word = w; place = t.place }) ≡ Some x = rw e at h in
        let g : record { word = w; place = t.place } ≡ x = same_Some _ x f in
        ap (λ (k : TokenView). spelled_if t.place k (with_tree (head_in ts))) e ∙ (λ i. spelled_if (g i).place (tk.word (g i).word) (with_tree (head_in ts))) ∙ titled_by x (head_in ts)
    by k e = (let f : None ≡ Some x = rw e at h in absurd (none-some x f))

pub untitled : (ts : List Token) (o : Option Name) → o ≡ None → o ≡ title_in ts → None ≡ spelled_in ts
untitled [] o n h = refl
untitled (t ∷ ts) o n h = by t.kind refl
  where
    none : (k : TokenView) → spelled_if t.place k None ≡ None
    none (tk.word x) = refl
    none k = refl

    by : (k : TokenView) → t.kind ≡ k → None ≡ spelled_if t.place t.kind (with_tree (head_in ts))
    by (tk.word w) e =
        let q : None ≡ title_in (t ∷ ts) = sym n ∙ h in
        let f : None ≡ Some (record { word = w; place = t.place }) = rw e at q in
        absurd (none-some _ f)
    by k e = rw e refl

pub headless : (v : Tokens) (x : Name) (o : Option Name) → o ≡ Some x → o ≡ title_in (ahead v 0) → None ≡ head_in (ahead v 1) → None ≡ spelled_in (ahead v 0)
unfolding spelled_with
headless v x o n h k = ap (spelled_with x) (k ∙ ap head_in (ahead_tail v 0)) ∙ sym (of_title x (ahead v 0) (sym h ∙ n))

pub alone : (v : Tokens) (x : Name) (o : Option Name) → o ≡ Some x → o ≡ title_in (ahead v 0) → length v.items.items < 2 → None ≡ spelled_in (ahead v 0)
alone v x o n h l = headless v x o n h (ap head_in (sym (ahead_end v 1 (omega (arith, l)))))

pub headed : (v : Tokens) (x : Name) (o : Option Name) (ns : List Name) (i : ℕ) (d : Option pure.ReadDefinition) → o ≡ Some x → o ≡ title_in (ahead v 0) → Some (ns, ahead v i) ≡ head_in (ahead v 1) → d ≡ made x ns (body_in (ahead v i)) → d ≡ spelled_in (ahead v 0)
unfolding spelled_with
headed v x o ns i d n h k e = e ∙ ap (spelled_with x) (k ∙ ap head_in (ahead_tail v 0)) ∙ sym (of_title x (ahead v 0) (sym h ∙ n))

-- ---- whether it is read

pub unread : (v : Sight) (d : pure.ReadDefinition) → None ≡ definition_depth v (depths [] v.earlier) d.definition → None ≡ if_reads v d
unread v d h = by (definition_reads v d.definition) refl
  where
    by : (b : Bool) → definition_reads v d.definition ≡ b → None ≡ (if b then Some d else None)
    by false e = refl
    by true e = absurd (none-some _ (h ∙ definition_told v d.definition ∙ ap (λ (b : Bool). if_so b (definition_nests (depths [] v.earlier) d.definition)) e))

pub is_read : (v : Sight) (d : pure.ReadDefinition) (n : ℕ) → Some n ≡ definition_depth v (depths [] v.earlier) d.definition → (Some d ≡ if_reads v d) × (definition_nests (depths [] v.earlier) d.definition ≡ n)
is_read v d n h = by (definition_reads v d.definition) refl
  where
    by : (b : Bool) → definition_reads v d.definition ≡ b → (Some d ≡ (if b then Some d else None)) × (definition_nests (depths [] v.earlier) d.definition ≡ n)
    by true e = (refl, sym (same_Some n _ (h ∙ definition_told v d.definition ∙ ap (λ (b : Bool). if_so b (definition_nests (depths [] v.earlier) d.definition)) e)))
    by false e = absurd (none-some n (sym (h ∙ definition_told v d.definition ∙ ap (λ (b : Bool). if_so b (definition_nests (depths [] v.earlier) d.definition)) e)))
