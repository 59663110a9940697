-- Names that the labels of each kind of statement get, and those of a whole routine.
use Rattle.std.proofs.Common.{◌≡◌, ℕ, ◌+◌, ◌<◌, ◌≤◌, List, [], ◌∷◌, ◌++◌, length, map, take, drop, get_or, Vec, Global, refl, sym, ap, subst, ◌∙◌, Bool, false}
use Rattle.std.proofs.lemmas.Simd.{map-map}
use Rattle.std.proofs.lemmas.List.{drop_more, drop_all, take_more, take_all, map-append}
use Rattle.tla_tree.specs.Tree.{Word, Tree, words}
use Rattle.tla_tree.specs.Pool.{at}
use Rattle.pcal_tree.specs.declared.mark.Mark.{Mark}
use Rattle.pcal_tree.specs.declared.algorithm.Span.{Span}
use Rattle.pcal_tree.specs.declared.algorithm.Bind.{Bind}
use Rattle.pcal_tree.specs.declared.algorithm.Simple as declared_simple
use Rattle.pcal_tree.specs.declared.algorithm.Simple.TheVariants as simple
use Rattle.pcal_tree.specs.declared.algorithm.Stmt.{Stmt}
use Rattle.pcal_tree.specs.declared.algorithm.Stmt.TheVariants.{Label, Simple, If, Either, With, While}
use Rattle.pcal_tree.specs.declared.algorithm.Declaration.{Declaration}
use Rattle.pcal_tree.specs.declared.algorithm.Procedure as code_procedure
use Rattle.pcal_tree.specs.declared.algorithm.Process as code_process
use Rattle.pcal_tree.specs.Algorithm.{Name, branch, either, with, while, Statements, then, mark}
use Rattle.pcal_tree.specs.InMemory.{span_of, simple_at, binds_at, Before, stmt_at, statements_at, branches_at, declarations_at, procedure_at, process_at}
use Rattle.pcal_tree.specs.OffencesLabels.{Label as Counted, labels, label_words}
use Rattle.pcal_tree.specs.Variables.{declared}
use Rattle.pcal_tree.proofs.InMemoryEach.{label_at, simple_in_list_at, if_at, either_at, with_at, while_at}
use Rattle.algorithm_limits.specs.Counting.{declared_names}
use Rattle.algorithm_limits.specs.LabelNames.{names_of_one, label_names, names_of_some}
use Rattle.algorithm_limits.proofs.LabelWalks.{named}
use Rattle.pcal_tree.specs.Names.{first_free}
use Rattle.written_names.specs.declared.naming.UnitNames.{UnitNames}
use Rattle.written_names.specs.Giving.{taken_after, Known, Knows, Pairs, Gives}
use Rattle.written_names.specs.Units.{asked_procedure, asked_process, IsWithin, NamesWithin, NamesUnit, NamesStmt}
use Rattle.written_names.proofs.Given.{gives_none, gives_then, gives_as}

-- ---- declarations

pub declared_more : (j k l : Known) (ps qs rs : Pairs) (ds : List Declaration) (i : ℕ) (d : Declaration) → d ≡ get_or ds i d → i < length ds
    → Gives j k ps qs (words (declared_names (take i ds))) → Gives k l qs rs (d.name.word ∷ []) → Gives j l ps rs (words (declared_names (take (i + 1) ds)))
declared_more j k l ps qs rs ds i d e less g h =
    gives_as j l ps rs (words (declared_names (take i ds)) ++ d.name.word ∷ []) (words (declared_names (take (i + 1) ds)))
    (sym (ap (λ (l : List Declaration). words (declared_names l)) (take_more ds i d less)
    ∙ ap words (map-append (λ (d : Declaration). d.name) (take i ds) (get_or ds i d ∷ []))
    ∙ map-append (λ (x : Name). x.word) (declared_names (take i ds)) ((get_or ds i d).name ∷ [])
    ∙ ap (λ (y : Declaration). words (declared_names (take i ds)) ++ y.name.word ∷ []) (sym e)))
    (gives_then j k l ps qs rs _ _ g h)

pub declared_all : (j k : Known) (ps qs : Pairs) (ds : List Declaration) (i : ℕ) → length ds ≤ i → Gives j k ps qs (words (declared_names (take i ds))) → Gives j k ps qs (words (declared_names ds))
declared_all j k ps qs ds i less g = gives_as j k ps qs _ _ (ap (λ (l : List Declaration). words (declared_names l)) (take_all i ds less)) g

-- ---- each kind of statement

two_words : (xs ys : List Name) → words xs ++ words ys ≡ words (xs ++ ys)
two_words xs ys = sym (map-append (λ (x : Name). x.word) xs ys)

module _ (ts : List Tree) (j k : Known) (ps qs : Pairs) where
  -- as what stands for it
  standing : (s : Stmt) (f : Before) (these : List Name) → stmt_at ts s ≡ f → ((rest : Statements) → label_names (f rest) ≡ these ++ label_names rest) → Gives j k ps qs (words these) → NamesStmt ts s j k ps qs
  standing s f these e a g = record { these = these; ahead = λ rest. ap (λ (f : Before). label_names (f rest)) e ∙ a rest; gives = g }

  pub label_named : (x : Name) (m : Mark) → Gives j k ps qs (x.word ∷ []) → NamesStmt ts (Label x m) j k ps qs
  label_named x m g = standing (Label x m) (mark x m) (x ∷ []) (label_at ts x m) (λ rest. refl) g

  pub either_named : (s : Span) (bs : Vec (Vec Stmt Global) Global) → Gives j k ps qs (words (names_of_some (branches_at ts bs.items))) → NamesStmt ts (Either s bs) j k ps qs
  either_named s bs g = standing (Either s bs) (then (span_of s) (either (branches_at ts bs.items))) _ (either_at ts s bs) (λ rest. refl) g

  pub with_named : (s : Span) (bs : Vec Bind Global) (b : Vec Stmt Global) → Gives j k ps qs (words (label_names (statements_at ts b.items))) → NamesStmt ts (With s bs b) j k ps qs
  with_named s bs b g = standing (With s bs b) (then (span_of s) (with (binds_at ts bs.items) (statements_at ts b.items))) _ (with_at ts s bs b) (λ rest. refl) g

  pub while_named : (s : Span) (e : ℕ) (b : Vec Stmt Global) → Gives j k ps qs (words (label_names (statements_at ts b.items))) → NamesStmt ts (While s e b) j k ps qs
  while_named s e b g = standing (While s e b) (then (span_of s) (while (at ts e) (statements_at ts b.items))) _ (while_at ts s e b) (λ rest. refl) g

-- a statement with none in it has no label
no_labels_in : (ts : List Tree) (x : declared_simple.Simple) → names_of_one (simple_at ts x) ≡ []
no_labels_in ts (simple.Assign ms) = refl
no_labels_in ts (simple.Await e) = refl
no_labels_in ts (simple.Print e) = refl
no_labels_in ts (simple.Assert e) = refl
no_labels_in ts simple.Skip = refl
no_labels_in ts (simple.Goto x) = refl
no_labels_in ts (simple.Macro x es) = refl
no_labels_in ts (simple.Call x es) = refl
no_labels_in ts simple.Return = refl

pub simple_named : (ts : List Tree) (j : Known) (ps : Pairs) (s : Span) (x : declared_simple.Simple) → NamesStmt ts (Simple s x) j j ps ps
simple_named ts j ps s x =
    standing ts j j ps ps (Simple s x) (then (span_of s) (simple_at ts x)) [] (simple_in_list_at ts s x) (λ rest. ap (λ (xs : List Name). xs ++ label_names rest) (no_labels_in ts x)) (gives_none j ps)

pub if_named : (ts : List Tree) (j k l : Known) (ps qs rs : Pairs) (s : Span) (e : ℕ) (a b : Vec Stmt Global)
    → Gives j k ps qs (words (label_names (statements_at ts a.items))) → Gives k l qs rs (words (label_names (statements_at ts b.items))) → NamesStmt ts (If s e a b) j l ps rs
if_named ts j k l ps qs rs s e a b g h =
    standing ts j l ps rs (If s e a b) (then (span_of s) (branch (at ts e) (statements_at ts a.items) (statements_at ts b.items)))
    (label_names (statements_at ts a.items) ++ label_names (statements_at ts b.items)) (if_at ts s e a b) (λ rest. refl)
    (gives_as j l ps rs _ _ (two_words (label_names (statements_at ts a.items)) (label_names (statements_at ts b.items))) (gives_then j k l ps qs rs _ _ g h))

-- ---- lists: what is left of one still gives the whole

pub stmt_then : (ts : List Tree) (j k l : Known) (ps qs rs : Pairs) (ss : List Stmt) (i : ℕ) (s : Stmt) → s ≡ get_or ss i s → i < length ss → NamesStmt ts s j k ps qs
    → Gives k l qs rs (words (label_names (statements_at ts (drop (i + 1) ss)))) → Gives j l ps rs (words (label_names (statements_at ts (drop i ss))))
stmt_then ts j k l ps qs rs ss i s e less n g =
    gives_as j l ps rs _ _
    (two_words n.these (label_names (statements_at ts (drop (i + 1) ss)))
    ∙ ap words (sym (n.ahead (statements_at ts (drop (i + 1) ss))) ∙ ap (λ (ys : List Stmt). label_names (statements_at ts ys)) (ap (λ (y : Stmt). y ∷ drop (i + 1) ss) e ∙ sym (drop_more ss i s less))))
    (gives_then j k l ps qs rs (words n.these) _ n.gives g)

pub stmts_done : (ts : List Tree) (k : Known) (qs : Pairs) (ss : List Stmt) (i : ℕ) → length ss ≤ i → Gives k k qs qs (words (label_names (statements_at ts (drop i ss))))
stmts_done ts k qs ss i less = gives_as k k qs qs _ _ (ap (λ (ys : List Stmt). words (label_names (statements_at ts ys))) (sym (drop_all i ss less))) (gives_none k qs)

pub branch_then : (ts : List Tree) (j k l : Known) (ps qs rs : Pairs) (bs : List (Vec Stmt Global)) (i : ℕ) (b : Vec Stmt Global) → b ≡ get_or bs i b → i < length bs
    → Gives j k ps qs (words (label_names (statements_at ts b.items))) → Gives k l qs rs (words (names_of_some (branches_at ts (drop (i + 1) bs)))) → Gives j l ps rs (words (names_of_some (branches_at ts (drop i bs))))
branch_then ts j k l ps qs rs bs i b e less n g =
    gives_as j l ps rs _ _
    (two_words (label_names (statements_at ts b.items)) (names_of_some (branches_at ts (drop (i + 1) bs)))
    ∙ ap words (ap (λ (ys : List (Vec Stmt Global)). names_of_some (branches_at ts ys)) (ap (λ (y : Vec Stmt Global). y ∷ drop (i + 1) bs) e ∙ sym (drop_more bs i b less))))
    (gives_then j k l ps qs rs _ _ n g)

pub branches_done : (ts : List Tree) (k : Known) (qs : Pairs) (bs : List (Vec Stmt Global)) (i : ℕ) → length bs ≤ i → Gives k k qs qs (words (names_of_some (branches_at ts (drop i bs))))
branches_done ts k qs bs i less = gives_as k k qs qs _ _ (ap (λ (ys : List (Vec Stmt Global)). words (names_of_some (branches_at ts ys))) (sym (drop_all i bs less))) (gives_none k qs)

-- ---- a routine

pub within_all : (j k l m : Known) (vs ws ls : List Name) (u : UnitNames) (ps : Pairs) → Gives j k [] ps (words vs) → Gives k l ps u.variables (words ws) → Gives l m [] u.labels (words ls)
    → NamesWithin j m (words (vs ++ ws)) (words ls) u
within_all j k l m vs ws ls u ps g h n =
    let both : Gives j l [] u.variables (words (vs ++ ws)) = gives_as j l [] u.variables _ _ (two_words vs ws) (gives_then j k l [] ps u.variables _ _ g h) in
    record {
      names = λ extended taken a. record {
        variables = λ x. both.pairs extended taken a x;
        labels = λ x. n.pairs extended (taken_after extended taken (words (vs ++ ws))) (both.names extended taken a) x;
      };
      known = λ extended taken a. n.names extended (taken_after extended taken (words (vs ++ ws))) (both.names extended taken a);
    }

words_declared : (ts : List Tree) (ds : List Declaration) → declared (declarations_at ts ds) ≡ words (declared_names ds)
words_declared ts [] = refl
words_declared ts (d ∷ ds) = ap (λ (l : List Word). d.name.word ∷ l) (words_declared ts ds)

pub both_declared : (ts : List Tree) (ds es : List Declaration) → words (declared_names ds ++ declared_names es) ≡ declared (declarations_at ts ds ++ declarations_at ts es)
both_declared ts [] es = sym (words_declared ts es)
both_declared ts (d ∷ ds) es = ap (λ (l : List Word). d.name.word ∷ l) (both_declared ts ds es)

words_of_labels : (b : Bool) (ss : Statements) → words (map (λ (l : Counted). l.name) (labels b ss)) ≡ map (λ (l : Counted). l.name.word) (labels b ss)
words_of_labels b ss = map-map (λ (x : Name). x.word) (λ (l : Counted). l.name) (labels b ss)

pub labels_are : (ss : Statements) → words (label_names ss) ≡ label_words ss
labels_are ss = ap words (sym (named false ss)) ∙ words_of_labels false ss

-- with its own name
pub unit_titled : (j k l : Known) (x y : Word) (u : UnitNames) (vs ws ls ms : List Word) → x ≡ y → vs ≡ ws → ls ≡ ms
    → ((extended taken : List Word) → Knows j extended taken → u.title ≡ first_free extended taken x)
    → ((extended taken : List Word) → Knows j extended taken → Knows k extended (first_free extended taken x ∷ taken))
    → NamesWithin k l vs ls u → NamesUnit j l (record { titles = y ∷ []; variables = ws; labels = ms }) u
unit_titled j k l x y u vs ws ls ms same e f t known n =
    subst (λ z. NamesUnit j l (record { titles = z ∷ []; variables = ws; labels = ms }) u) same (record {
      names = λ extended taken a. record {
        title = t extended taken a;
        within = subst (λ w. IsWithin extended (first_free extended taken x ∷ taken) ws w u) f
            (subst (λ w. IsWithin extended (first_free extended taken x ∷ taken) w ls u) e (n.names extended (first_free extended taken x ∷ taken) (known extended taken a)));
      };
      known = λ extended taken a.
          subst (λ w. Knows l extended (taken_after extended (taken_after extended (first_free extended taken x ∷ taken) ws) w)) f
          (subst (λ w. Knows l extended (taken_after extended (taken_after extended (first_free extended taken x ∷ taken) w) ls)) e (n.known extended (first_free extended taken x ∷ taken) (known extended taken a)));
    })

pub unit_untitled : (j l : Known) (u : UnitNames) (ls ms : List Word) → ls ≡ ms → u.title ≡ [] → NamesWithin j l [] ls u → NamesUnit j l (record { titles = []; variables = []; labels = ms }) u
unit_untitled j l u ls ms f t n =
    record {
      names = λ extended taken a. record { title = t; within = subst (λ w. IsWithin extended taken [] w u) f (n.names extended taken a) };
      known = λ extended taken a. subst (λ w. Knows l extended (taken_after extended taken w)) f (n.known extended taken a);
    }

-- ---- routines in memory: what was opened, and what it stands for

module _ (j k l : Known) (t : Word) (u : UnitNames) where
  pub procedure_named : (p q : code_procedure.Procedure) (ds es : List Declaration) (ss : List Stmt) → p ≡ q → ds ≡ p.params.items → es ≡ p.variables.items → ss ≡ p.body.items
      → ((extended taken : List Word) → Knows j extended taken → t ≡ first_free extended taken p.name.word)
      → ((extended taken : List Word) → Knows j extended taken → Knows k extended (first_free extended taken p.name.word ∷ taken))
      → u.title ≡ t → ((ts : List Tree) → NamesWithin k l (words (declared_names ds ++ declared_names es)) (words (label_names (statements_at ts ss))) u)
      → (ts : List Tree) → NamesUnit j l (asked_procedure (procedure_at ts q)) u
  procedure_named p q ds es ss e d f g name known title within ts =
      unit_titled j k l p.name.word q.name.word u _ _ _ _ (ap (λ (p : code_procedure.Procedure). p.name.word) e)
      ((λ i. words (declared_names (d i) ++ declared_names (f i))) ∙ both_declared ts p.params.items p.variables.items
      ∙ ap (λ (p : code_procedure.Procedure). declared (declarations_at ts p.params.items ++ declarations_at ts p.variables.items)) e)
      (labels_are (statements_at ts ss) ∙ ap (λ (ys : List Stmt). label_words (statements_at ts ys)) (g ∙ ap (λ (p : code_procedure.Procedure). p.body.items) e))
      (λ extended taken a. title ∙ name extended taken a) known (within ts)

  pub process_named : (p q : code_process.Process) (es : List Declaration) (ss : List Stmt) → p ≡ q → es ≡ p.variables.items → ss ≡ p.body.items
      → ((extended taken : List Word) → Knows j extended taken → t ≡ first_free extended taken p.name.word)
      → ((extended taken : List Word) → Knows j extended taken → Knows k extended (first_free extended taken p.name.word ∷ taken))
      → u.title ≡ t → ((ts : List Tree) → NamesWithin k l (words (declared_names es)) (words (label_names (statements_at ts ss))) u)
      → (ts : List Tree) → NamesUnit j l (asked_process (process_at ts q)) u
  process_named p q es ss e f g name known title within ts =
      unit_titled j k l p.name.word q.name.word u _ _ _ _ (ap (λ (p : code_process.Process). p.name.word) e)
      (ap (λ (ys : List Declaration). words (declared_names ys)) f ∙ sym (words_declared ts p.variables.items) ∙ ap (λ (p : code_process.Process). declared (declarations_at ts p.variables.items)) e)
      (labels_are (statements_at ts ss) ∙ ap (λ (ys : List Stmt). label_words (statements_at ts ys)) (g ∙ ap (λ (p : code_process.Process). p.body.items) e))
      (λ extended taken a. title ∙ name extended taken a) known (within ts)
