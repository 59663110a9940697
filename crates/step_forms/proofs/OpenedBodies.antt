-- Bodies with their macro calls written out: their labels, and where their steps begin, where macros have statements and no labels.
use Rattle.std.proofs.Common.{◌≡◌, List, [], ◌∷◌, ◌++◌, reverse, Bool, true, false, cond, bytes_eq, inl, inr, refl, sym, ◌∙◌, ap, subst}
use Rattle.std.proofs.lemmas.Grind.{reverse_onto}
use Rattle.tla_tree.specs.Tree.{Word, Graft}
use Rattle.pcal_tree.specs.Algorithm.{Span, Statement, branch, either, with, while, macro, Statements, done, then, mark, Branches, no_branches, or, Macro, Algorithm}
use Rattle.pcal_tree.specs.OffencesLabels.{label_words}
use Rattle.pcal_tree.specs.Processes.{OneOf}
use Rattle.pcal_tree.specs.Run.{label_of, arguments}
use Rattle.pcal_tree.specs.StepStart.{begin}
use Rattle.pcal_tree.specs.Expand.{graft_one, graft_all, graft_some, followed_by, Writing, expand_one, expand, expand_some, written_out, expanded, expand_begin}
use Rattle.pcal_tree.specs.laws.Expansion.{BeginsUnlabelled, BareOne, Bare, BareSome, BareBodies}
use Rattle.pcal_tree.proofs.BeginLaws.{WrittenBare, opens_one, begin_expanded}
use Rattle.pcal_tree.proofs.BodyLabels.{labels_in, labels, labels_of, same_labels}
use Rattle.pcal_tree.proofs.ExpandRuns.{no_label, opens_graft}
use Rattle.pcal_tree.proofs.PlainMacros.{macros_bare, macros_begin}
use Rattle.step_forms.specs.Opened.{IsOpenable}
use Rattle.step_forms.proofs.MacroCalls.{Any, any_calls}

-- what is written for any call has a statement and no label
abbrev pub WritesBare : Writing → Type 0
WritesBare X = WrittenBare X Any

-- ---- no label

bare_joined : (a b : Statements) → Bare a → Bare b → Bare (followed_by a b)
bare_joined done b h k = k
bare_joined (then at st a) b h k = (h.0, bare_joined a b h.1 k)
bare_joined (mark m j a) b h k = absurd h

mutual
  bare_put_one : (g : Graft) (st : Statement) → BareOne st → BareOne (graft_one g st)
  bare_put_one g (branch e a b) h = (bare_put g a h.0, bare_put g b h.1)
  bare_put_one g (either bs) h = bare_put_some g bs h
  bare_put_one g (with bs b) h = bare_put g b h
  bare_put_one g (while e b) h = bare_put g b h
  bare_put_one g st h = tt

  bare_put : (g : Graft) (ss : Statements) → Bare ss → Bare (graft_all g ss)
  bare_put g done h = tt
  bare_put g (then at st rest) h = (bare_put_one g st h.0, bare_put g rest h.1)
  bare_put g (mark m k rest) h = absurd h

  bare_put_some : (g : Graft) (bs : Branches) → BareSome bs → BareSome (graft_some g bs)
  bare_put_some g no_branches h = tt
  bare_put_some g (or b bs) h = (bare_put g b h.0, bare_put_some g bs h.1)

module _ (X : Writing) (w : WritesBare X) where
  mutual
    bare_opened_one : (at : Span) (st : Statement) (rest : Statements) → BareOne st → Bare rest → Bare (expand_one X at st rest)
    bare_opened_one at (macro m ts) rest h k = bare_joined (X at m ts) rest (w at m ts tt).1 k
    bare_opened_one at (branch e a b) rest h k = ((bare_opened a h.0, bare_opened b h.1), k)
    bare_opened_one at (either bs) rest h k = (bare_opened_some bs h, k)
    bare_opened_one at (with bs b) rest h k = (bare_opened b h, k)
    bare_opened_one at (while e b) rest h k = (bare_opened b h, k)
    bare_opened_one at st rest h k = (tt, k)

    bare_opened : (ss : Statements) → Bare ss → Bare (expand X ss)
    bare_opened done h = tt
    bare_opened (then at st rest) h = bare_opened_one at st (expand X rest) h.0 (bare_opened rest h.1)
    bare_opened (mark m k rest) h = absurd h

    bare_opened_some : (bs : Branches) → BareSome bs → BareSome (expand_some X bs)
    bare_opened_some no_branches h = tt
    bare_opened_some (or b bs) h = (bare_opened b h.0, bare_opened_some bs h.1)

  body_opens : (ss : Statements) → BeginsUnlabelled ss → BeginsUnlabelled (expand X ss)
  body_opens done h = absurd h
  body_opens (then at st rest) h = opens_one X Any w at st (expand X rest) (any_calls (then at st done)).0
  body_opens (mark m k rest) h = absurd h

-- ---- what is written for the calls of macros

abbrev pub BodiesBegin : List Macro → Type 0
BodiesBegin [] = Unit {0}
BodiesBegin (d ∷ ds) = BeginsUnlabelled d.body × BodiesBegin ds

pub written_bare : (ms : List Macro) → BareBodies ms → BodiesBegin ms → WritesBare (written_out ms)
written_bare [] b s at m ts h = (tt, (tt, tt))
written_bare (d ∷ older) b s at m ts h = by (written_bare older b.1 s.1) (bytes_eq d.name.word m)
  where
    by : WritesBare (written_out older) → (q : Bool) → BeginsUnlabelled (cond q (graft_all (arguments d.params ts) (expand (written_out older) d.body)) (written_out older at m ts)) × Bare (cond q (graft_all (arguments d.params ts) (expand (written_out older) d.body)) (written_out older at m ts))
    by before true = (
      opens_graft (arguments d.params ts) (expand (written_out older) d.body) (body_opens (written_out older) before d.body s.0),
      bare_put (arguments d.params ts) (expand (written_out older) d.body) (bare_opened (written_out older) before d.body b.0),
    )
    by before false = before at m ts tt

bodies_begin : (ds : List Macro) → ((d : Macro) → OneOf d ds → BeginsUnlabelled d.body) → BodiesBegin ds
bodies_begin [] f = tt
bodies_begin (d ∷ ds) f = (f d (inl refl), bodies_begin ds (λ e k. f e (inr k)))

begin_both : (ds es : List Macro) → BodiesBegin ds → BodiesBegin es → BodiesBegin (ds ++ es)
begin_both [] es h k = k
begin_both (d ∷ ds) es h k = (h.0, begin_both ds es h.1 k)

begin_reversed : (ds : List Macro) → BodiesBegin ds → BodiesBegin (reverse ds)
begin_reversed [] h = tt
begin_reversed (d ∷ ds) h = subst BodiesBegin (sym (reverse_onto ds d [])) (begin_both (reverse ds) (d ∷ []) (begin_reversed ds h.1) (h.0, tt))

pub openable_bare : (a : Algorithm) → IsOpenable a → WritesBare (written_out (reverse a.macros))
openable_bare a h = written_bare (reverse a.macros) (macros_bare a h.labels) (begin_reversed a.macros (bodies_begin a.macros (λ d k. macros_begin a h.labels d k (h.started d k))))

-- ---- labels of bodies

mutual
  no_labels_in : (st : Statement) → BareOne st → labels_in st ≡ []
  no_labels_in (branch e a b) h = λ i. no_labels a h.0 i ++ no_labels b h.1 i
  no_labels_in (either bs) h = no_labels_of bs h
  no_labels_in (with bs b) h = no_labels b h
  no_labels_in (while e b) h = no_labels b h
  no_labels_in _ h = refl

  no_labels : (ss : Statements) → Bare ss → labels ss ≡ []
  no_labels done h = refl
  no_labels (then at st rest) h = λ i. no_labels_in st h.0 i ++ no_labels rest h.1 i
  no_labels (mark m k rest) h = absurd h

  no_labels_of : (bs : Branches) → BareSome bs → labels_of bs ≡ []
  no_labels_of no_branches h = refl
  no_labels_of (or b bs) h = λ i. no_labels b h.0 i ++ no_labels_of bs h.1 i

labels_joined : (a b : Statements) → Bare a → labels (followed_by a b) ≡ labels b
labels_joined done b h = refl
labels_joined (then at st a) b h = λ i. no_labels_in st h.0 i ++ labels_joined a b h.1 i
labels_joined (mark m k a) b h = absurd h

module _ (X : Writing) (w : WritesBare X) where
  mutual
    labels_opened_in : (at : Span) (st : Statement) (rest : Statements) → labels (expand_one X at st rest) ≡ labels_in st ++ labels rest
    labels_opened_in at (macro m ts) rest = labels_joined (X at m ts) rest (w at m ts tt).1
    labels_opened_in at (branch e a b) rest = λ i. (labels_opened a i ++ labels_opened b i) ++ labels rest
    labels_opened_in at (either bs) rest = λ i. labels_opened_of bs i ++ labels rest
    labels_opened_in at (with bs b) rest = λ i. labels_opened b i ++ labels rest
    labels_opened_in at (while e b) rest = λ i. labels_opened b i ++ labels rest
    labels_opened_in at _ rest = refl

    labels_opened : (ss : Statements) → labels (expand X ss) ≡ labels ss
    labels_opened done = refl
    labels_opened (then at st rest) = labels_opened_in at st (expand X rest) ∙ ap (λ ls. labels_in st ++ ls) (labels_opened rest)
    labels_opened (mark l k rest) = ap (λ ls. l.word ∷ ls) (labels_opened rest)

    labels_opened_of : (bs : Branches) → labels_of (expand_some X bs) ≡ labels_of bs
    labels_opened_of no_branches = refl
    labels_opened_of (or b bs) = λ i. labels_opened b i ++ labels_opened_of bs i

  label_kept : (ss : Statements) (x : Word) → label_of (expand X ss) x ≡ label_of ss x
  label_kept done x = refl
  label_kept (then at st rest) x = sym (no_label (expand_one X at st (expand X rest)) x (opens_one X Any w at st (expand X rest) (any_calls (then at st done)).0))
  label_kept (mark m k rest) x = refl

-- ---- of an algorithm that can be opened

module _ (a : Algorithm) (h : IsOpenable a) where
  pub words_opened : (ss : Statements) → label_words (expanded (reverse a.macros) ss) ≡ label_words ss
  words_opened ss = same_labels (expanded (reverse a.macros) ss) ∙ labels_opened (written_out (reverse a.macros)) (openable_bare a h) ss ∙ sym (same_labels ss)

  pub label_opened : (ss : Statements) (x : Word) → label_of (expanded (reverse a.macros) ss) x ≡ label_of ss x
  label_opened ss x = label_kept (written_out (reverse a.macros)) (openable_bare a h) ss x

  pub begin_opened : (l here : Word) (ss : Statements) (x : Word) → begin l here (expanded (reverse a.macros) ss) x ≡ expand_begin (written_out (reverse a.macros)) (begin l here ss x)
  begin_opened l here ss x = begin_expanded (written_out (reverse a.macros)) Any (openable_bare a h) l here ss (any_calls ss) x
