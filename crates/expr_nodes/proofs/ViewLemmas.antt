-- What the grammars see of a token by the word that it keeps.
use Rattle.std.proofs.Common.{◌≡◌, ℕ, ◌+◌, ◌<◌, Bool, true, false, ◌||◌, get_or, map, drop, List, [], ◌∷◌, length, refl, sym, ap, ◌∙◌, if◌then◌else◌}
use Rattle.std.specs.Str.{bytes_eq}
use Rattle.std.proofs.lemmas.Bool.{or_parts}
use Rattle.std.proofs.lemmas.List.{drop_more}
use Rattle.tla_token.specs.declared.word.PluscalWord.{PluscalWord}
use Rattle.tla_token.specs.declared.word.PluscalWord.TheVariants as pluscal
use Rattle.tla_token.specs.declared.word.TlaWord.{TlaWord}
use Rattle.tla_token.specs.declared.word.TlaWord.TheVariants as tla
use Rattle.tla_token.specs.declared.token.Kind.TheVariants as code
use Rattle.tla_token.specs.declared.token.Span.{Span}
use Rattle.tla_token.specs.declared.token.Token as code_token
use Rattle.tla_token.specs.declared.token.Tokens.{Tokens}
use Rattle.tla_token.specs.Signs.{is_among}
use Rattle.tla_token.specs.Words.{is_pluscal_word, is_tla_word, is_reserved, tla_words, begins_fairness}
use Rattle.tla_token.specs.ReservedWords.{pluscal_spelling, tla_spelling}
use Rattle.tla_token.specs.KeptWords.{is_kept}
use Rattle.tla_token.specs.TokensSeen.{span_bytes}
use Rattle.tla_token.proofs.KeptLemmas.{among_fewer, kept_name, kept_pluscal, kept_tla, kept_fairness}
use Rattle.tla_tree.specs.Tree.{Word}
use Rattle.tla_tree.specs.Lexical.{TokenView}
use Rattle.tla_tree.specs.Lexical as tk
use Rattle.tla_tree.specs.TokenViews.{word_kind, word_kinds, kind_among}

-- ---- no reserved word of TLA+

among_none : (ps : List (Word × TokenView)) (w : Word) (k : TokenView) → is_among (map (λ p. p.0) ps) w ≡ false → kind_among ps w k ≡ k
among_none [] w k h = refl
among_none (p ∷ ps) w k h =
    let q = or_parts (bytes_eq p.0 w) (is_among (map (λ p. p.0) ps) w) h in
    (λ i. if q.0 i then p.1 else kind_among ps w k) ∙ among_none ps w k q.1

unkeyed : (w : Word) (k : TokenView) → is_among tla_words w ≡ false → kind_among word_kinds w k ≡ k
unkeyed w k h = among_none word_kinds w k (among_fewer (map (λ p. p.0) word_kinds) tla_words w refl h)

-- ---- by what a token keeps

pub name_view : (bytes : List ℕ) (s : Span) → is_kept bytes (code.Name s) ≡ true → tk.word (span_bytes bytes s) ≡ word_kind (span_bytes bytes s)
name_view bytes s h =
    let w = span_bytes bytes s in
    let p = or_parts (is_pluscal_word w) (is_tla_word w) (kept_name bytes s h) in
    let q = or_parts (is_among tla_words w) (begins_fairness w) p.1 in
    sym ((λ i. if p.0 i then tk.reserved w else kind_among word_kinds w (if p.1 i then tk.other w else tk.word w)) ∙ unkeyed w (tk.word w) q.0)

pub fairness_view : (bytes : List ℕ) (s : Span) → is_kept bytes (code.Fairness s) ≡ true → tk.other (span_bytes bytes s) ≡ word_kind (span_bytes bytes s)
fairness_view bytes s h =
    let w = span_bytes bytes s in
    let f = kept_fairness bytes s h in
    sym ((λ i. if f.1 i then tk.reserved w else kind_among word_kinds w (if (f.2 i || f.0 i) then tk.other w else tk.word w)) ∙ unkeyed w (tk.other w) f.2)

reserved_is : (r : PluscalWord) → tk.reserved (pluscal_spelling r) ≡ word_kind (pluscal_spelling r)
reserved_is pluscal.Algorithm = refl
reserved_is pluscal.Assert = refl
reserved_is pluscal.Await = refl
reserved_is pluscal.Begin = refl
reserved_is pluscal.Call = refl
reserved_is pluscal.Define = refl
reserved_is pluscal.Do = refl
reserved_is pluscal.Either = refl
reserved_is pluscal.Else = refl
reserved_is pluscal.Elsif = refl
reserved_is pluscal.End = refl
reserved_is pluscal.Fair = refl
reserved_is pluscal.Goto = refl
reserved_is pluscal.If = refl
reserved_is pluscal.Macro = refl
reserved_is pluscal.Or = refl
reserved_is pluscal.Print = refl
reserved_is pluscal.Procedure = refl
reserved_is pluscal.Process = refl
reserved_is pluscal.Return = refl
reserved_is pluscal.Skip = refl
reserved_is pluscal.Then = refl
reserved_is pluscal.Variable = refl
reserved_is pluscal.Variables = refl
reserved_is pluscal.When = refl
reserved_is pluscal.While = refl
reserved_is pluscal.With = refl

pub reserved_view : (bytes : List ℕ) (s : Span) (r : PluscalWord) → is_kept bytes (code.PluscalWord s r) ≡ true → tk.reserved (span_bytes bytes s) ≡ word_kind (span_bytes bytes s)
reserved_view bytes s r h = (let e = kept_pluscal bytes s r h in ap tk.reserved e ∙ reserved_is r ∙ ap word_kind (sym e))

-- what a word that is kept is
pub tla_word_view : (bytes : List ℕ) (s : Span) (r : TlaWord) (k : TokenView) → is_kept bytes (code.TlaWord s r) ≡ true → k ≡ word_kind (tla_spelling r) → k ≡ word_kind (span_bytes bytes s)
tla_word_view bytes s r k h e = e ∙ ap word_kind (sym (kept_tla bytes s r h))

-- and one that stands in no expression
other_word : (r : TlaWord) → (r ≡ tla.If → ⊥) → (r ≡ tla.Then → ⊥) → (r ≡ tla.Else → ⊥) → (r ≡ tla.Case → ⊥) → (r ≡ tla.Other → ⊥) → (r ≡ tla.Let → ⊥) → (r ≡ tla.In → ⊥)
    → (r ≡ tla.Except → ⊥) → (r ≡ tla.True → ⊥) → (r ≡ tla.False → ⊥) → (r ≡ tla.Boolean → ⊥) → (r ≡ tla.String → ⊥) → (r ≡ tla.Subset → ⊥) → (r ≡ tla.Union → ⊥) → (r ≡ tla.Domain → ⊥)
    → tk.other (tla_spelling r) ≡ word_kind (tla_spelling r)
other_word tla.If a b c d e f g h i j k l m n o = absurd (a refl)
other_word tla.Then a b c d e f g h i j k l m n o = absurd (b refl)
other_word tla.Else a b c d e f g h i j k l m n o = absurd (c refl)
other_word tla.Case a b c d e f g h i j k l m n o = absurd (d refl)
other_word tla.Other a b c d e f g h i j k l m n o = absurd (e refl)
other_word tla.Let a b c d e f g h i j k l m n o = absurd (f refl)
other_word tla.In a b c d e f g h i j k l m n o = absurd (g refl)
other_word tla.Except a b c d e f g h i j k l m n o = absurd (h refl)
other_word tla.True a b c d e f g h i j k l m n o = absurd (i refl)
other_word tla.False a b c d e f g h i j k l m n o = absurd (j refl)
other_word tla.Boolean a b c d e f g h i j k l m n o = absurd (k refl)
other_word tla.String a b c d e f g h i j k l m n o = absurd (l refl)
other_word tla.Subset a b c d e f g h i j k l m n o = absurd (m refl)
other_word tla.Union a b c d e f g h i j k l m n o = absurd (n refl)
other_word tla.Domain a b c d e f g h i j k l m n o = absurd (o refl)
other_word r a b c d e f g h i j k l m n o = refl

pub other_view : (bytes : List ℕ) (s : Span) (r : TlaWord) → span_bytes bytes s ≡ tla_spelling r
    → (r ≡ tla.If → ⊥) → (r ≡ tla.Then → ⊥) → (r ≡ tla.Else → ⊥) → (r ≡ tla.Case → ⊥) → (r ≡ tla.Other → ⊥) → (r ≡ tla.Let → ⊥) → (r ≡ tla.In → ⊥)
    → (r ≡ tla.Except → ⊥) → (r ≡ tla.True → ⊥) → (r ≡ tla.False → ⊥) → (r ≡ tla.Boolean → ⊥) → (r ≡ tla.String → ⊥) → (r ≡ tla.Subset → ⊥) → (r ≡ tla.Union → ⊥) → (r ≡ tla.Domain → ⊥)
    → tk.other (span_bytes bytes s) ≡ word_kind (tla_spelling r)
other_view bytes s r q a b c d e f g h i j k l m n o = ap tk.other q ∙ other_word r a b c d e f g h i j k l m n o
