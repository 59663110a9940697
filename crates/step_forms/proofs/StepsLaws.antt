-- The steps of a body are those of its labels, where no two of these are the same.
use Rattle.std.proofs.Common.{◌≡◌, List, [], ◌∷◌, ◌++◌, false, cond, bytes_eq, map, Option, Some, None, refl, sym, ◌∙◌, ap, subst}
use Rattle.std.specs.List.{AllByRecursion}
use Rattle.std.specs.Option.{option_or}
use Rattle.std.proofs.lemmas.List.{map-append}
use Rattle.std.proofs.lemmas.Simd.{map-map}
use Rattle.tla_tree.specs.Tree.{Word, Each}
use Rattle.pcal_tree.specs.Algorithm.{Statement, branch, either, with, while, Statements, done, then, mark, Branches, no_branches, or, Routine}
use Rattle.pcal_tree.specs.OffencesLabels.{label_words}
use Rattle.pcal_tree.specs.Run.{unlabelled, label_of}
use Rattle.pcal_tree.specs.StepStart.{Begin, begin_in, begin, begin_some, at_label}
use Rattle.pcal_tree.proofs.BodyLabels.{labels_in, labels, labels_of, same_labels}
use Rattle.action_builder.specs.laws.Jumps.{Unlike, AllUnlike}
use Rattle.step_forms.specs.Steps.{Step, steps_in, steps, steps_some}
use Rattle.step_forms.proofs.Words.{every_both, every_to, every_mapped, same_mapped, same_word, unlike_front, unlike_behind, unlike_back, apart_front, apart_behind, apart_between}

abbrev label : Step → Word
label s = s.label

-- ---- a step for each label

mutual
  labelled_in : (here : Word) (st : Statement) (x : Word) → map label (steps_in here st x) ≡ labels_in st
  labelled_in here (branch e a b) x = map-append label (steps unlabelled a x) (steps unlabelled b x) ∙ (λ i. labelled unlabelled a x i ++ labelled unlabelled b x i)
  labelled_in here (either bs) x = labelled_some bs x
  labelled_in here (with bs b) x = labelled unlabelled b x
  labelled_in here (while e b) x = labelled unlabelled b here
  labelled_in here _ x = refl

  pub labelled : (here : Word) (ss : Statements) (x : Word) → map label (steps here ss x) ≡ labels ss
  labelled here done x = refl
  labelled here (then at st rest) x =
      map-append label (steps_in here st (label_of rest x)) (steps unlabelled rest x) ∙ (λ i. labelled_in here st (label_of rest x) i ++ labelled unlabelled rest x i)
  labelled here (mark l k rest) x = ap (λ ls. l.word ∷ ls) (labelled l.word rest x)

  labelled_some : (bs : Branches) (x : Word) → map label (steps_some bs x) ≡ labels_of bs
  labelled_some no_branches x = refl
  labelled_some (or b bs) x = map-append label (steps unlabelled b x) (steps_some bs x) ∙ (λ i. labelled unlabelled b x i ++ labelled_some bs x i)

pub step_labels : (here : Word) (ss : Statements) (x : Word) → map (λ (s : Step). s.label) (steps here ss x) ≡ label_words ss
step_labels here ss x = labelled here ss x ∙ sym (same_labels ss)

-- ---- no step begins at a label that isn't there

neither : (o p : Option Begin) → o ≡ None → p ≡ None → option_or o p ≡ None
neither o p e f = ap (λ z. option_or z p) e ∙ f

mutual
  absent_in : (l here : Word) (st : Statement) (x : Word) → Unlike l (labels_in st) → begin_in l here st x ≡ None
  absent_in l here (branch e a b) x h =
      neither _ _ (absent l unlabelled a x (unlike_front l (labels a) (labels b) h)) (absent l unlabelled b x (unlike_behind l (labels a) (labels b) h))
  absent_in l here (either bs) x h = absent_some l bs x h
  absent_in l here (with bs b) x h = absent l unlabelled b x h
  absent_in l here (while e b) x h = absent l unlabelled b here h
  absent_in l here _ x h = refl

  absent : (l here : Word) (ss : Statements) (x : Word) → Unlike l (labels ss) → begin l here ss x ≡ None
  absent l here done x h = refl
  absent l here (then at st rest) x h =
      neither _ _ (absent_in l here st (label_of rest x) (unlike_front l (labels_in st) (labels rest) h)) (absent l unlabelled rest x (unlike_behind l (labels_in st) (labels rest) h))
  absent l here (mark m k rest) x h = ap (λ b. cond b (Some (record { items = rest; exit = x })) (begin l m.word rest x)) h.0 ∙ absent l m.word rest x h.1

  absent_some : (l : Word) (bs : Branches) (x : Word) → Unlike l (labels_of bs) → begin_some l bs x ≡ None
  absent_some l no_branches x h = refl
  absent_some l (or b bs) x h =
      neither _ _ (absent l unlabelled b x (unlike_front l (labels b) (labels_of bs) h)) (absent_some l bs x (unlike_behind l (labels b) (labels_of bs) h))

-- ---- each step begins where the step from its label begins

-- F: where steps begin, by their labels
abbrev Begun : (Word → Option Begin) → List Step → Type 0
Begun F = AllByRecursion (λ (s : Step). F s.label ≡ Some s.begins)

-- of two lists with these labels, none of which is in both
begun_both : (F G : Word → Option Begin) (xs ys : List Step) (ls ms : List Word) → map label ys ≡ ms → Each (λ m. Unlike m ls) ms → ((l : Word) → Unlike l ls → F l ≡ None)
    → Begun F xs → Begun G ys → Begun (λ l. option_or (F l) (G l)) (xs ++ ys)
begun_both F G xs ys ls ms e apart none h k =
    every_both (λ s. option_or (F s.label) (G s.label) ≡ Some s.begins) xs ys
    (every_to (λ s. F s.label ≡ Some s.begins) _ (λ s q. ap (λ z. option_or z (G s.label)) q) xs h)
    (later ys (every_mapped (λ l. Unlike l ls) label ys (subst (Each (λ m. Unlike m ls)) (sym e) apart)) k)
  where
    later : (zs : List Step) → AllByRecursion (λ (s : Step). Unlike s.label ls) zs → Begun G zs → Begun (λ l. option_or (F l) (G l)) zs
    later [] u q = tt
    later (z ∷ zs) u q = (ap (λ o. option_or o (G z.label)) (none z.label u.0) ∙ q.0, later zs u.1 q.1)

mutual
  begun_in : (here : Word) (st : Statement) (x : Word) → AllUnlike (labels_in st) → Begun (λ l. begin_in l here st x) (steps_in here st x)
  begun_in here (branch e a b) x h =
      begun_both (λ l. begin l unlabelled a x) (λ l. begin l unlabelled b x) (steps unlabelled a x) (steps unlabelled b x) (labels a) (labels b) (labelled unlabelled b x)
      (apart_between (labels a) (labels b) h) (λ l u. absent l unlabelled a x u)
      (begun unlabelled a x (apart_front (labels a) (labels b) h)) (begun unlabelled b x (apart_behind (labels a) (labels b) h))
  begun_in here (either bs) x h = begun_some bs x h
  begun_in here (with bs b) x h = begun unlabelled b x h
  begun_in here (while e b) x h = begun unlabelled b here h
  begun_in here _ x h = tt

  pub begun : (here : Word) (ss : Statements) (x : Word) → AllUnlike (labels ss) → Begun (λ l. begin l here ss x) (steps here ss x)
  begun here done x h = tt
  begun here (then at st rest) x h =
      begun_both (λ l. begin_in l here st (label_of rest x)) (λ l. begin l unlabelled rest x) (steps_in here st (label_of rest x)) (steps unlabelled rest x) (labels_in st) (labels rest) (labelled unlabelled rest x)
      (apart_between (labels_in st) (labels rest) h) (λ l u. absent_in l here st (label_of rest x) u)
      (begun_in here st (label_of rest x) (apart_front (labels_in st) (labels rest) h)) (begun unlabelled rest x (apart_behind (labels_in st) (labels rest) h))
  begun here (mark m k rest) x h = (
    ap (λ b. cond b (Some (record { items = rest; exit = x })) (begin m.word m.word rest x)) (same_word m.word),
    later (steps m.word rest x) (every_mapped (λ l. bytes_eq l m.word ≡ false) label (steps m.word rest x) (subst (Each (λ l. bytes_eq l m.word ≡ false)) (sym (labelled m.word rest x)) (unlike_back m.word (labels rest) h.0))) (begun m.word rest x h.1),
  )
    where
      later : (zs : List Step) → AllByRecursion (λ (s : Step). bytes_eq s.label m.word ≡ false) zs → Begun (λ l. begin l m.word rest x) zs → Begun (λ l. begin l here (mark m k rest) x) zs
      later [] u q = tt
      later (z ∷ zs) u q = (ap (λ b. cond b (Some (record { items = rest; exit = x })) (begin z.label m.word rest x)) u.0 ∙ q.0, later zs u.1 q.1)

  begun_some : (bs : Branches) (x : Word) → AllUnlike (labels_of bs) → Begun (λ l. begin_some l bs x) (steps_some bs x)
  begun_some no_branches x h = tt
  begun_some (or b bs) x h =
      begun_both (λ l. begin l unlabelled b x) (λ l. begin_some l bs x) (steps unlabelled b x) (steps_some bs x) (labels b) (labels_of bs) (labelled_some bs x)
      (apart_between (labels b) (labels_of bs) h) (λ l u. absent l unlabelled b x u)
      (begun unlabelled b x (apart_front (labels b) (labels_of bs) h)) (begun_some bs x (apart_behind (labels b) (labels_of bs) h))

-- ---- of a routine

pub steps_begin : (u : Routine) → AllUnlike (label_words u.body) → AllByRecursion (λ (s : Step). at_label u s.label ≡ Some s.begins) (steps unlabelled u.body u.exit)
steps_begin u h = begun unlabelled u.body u.exit (subst AllUnlike (same_labels u.body) h)

pub steps_of_labels : {X : Type 0} (u : Routine) → AllUnlike (label_words u.body) → (f : Word → Option Begin → X)
    → map (λ (s : Step). f s.label (Some s.begins)) (steps unlabelled u.body u.exit) ≡ map (λ l. f l (at_label u l)) (label_words u.body)
steps_of_labels u h f =
    let all = steps unlabelled u.body u.exit in
    same_mapped (λ s. f s.label (Some s.begins)) (λ s. f s.label (at_label u s.label)) all
    (every_to (λ s. at_label u s.label ≡ Some s.begins) _ (λ s q. ap (f s.label) (sym q)) all (steps_begin u h))
    ∙ sym (map-map (λ l. f l (at_label u l)) label all) ∙ ap (map (λ l. f l (at_label u l))) (step_labels unlabelled u.body u.exit)
