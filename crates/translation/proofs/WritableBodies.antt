-- Statements with macro calls written out: their labels, and where a step begins in them.
use Rattle.std.proofs.Common.{◌≡◌, List, ◌∷◌, ◌++◌, Bool, true, false, cond, bytes_eq, Option, Some, None, ◌⊎◌, inl, inr, refl, sym, ◌∙◌}
use Rattle.std.specs.Option.{option_or}
use Rattle.std.proofs.lemmas.Slice.Eq.{bytes_eq-Decides}
use Rattle.tla_tree.specs.Tree.{Word, Each}
use Rattle.tla_tree.specs.laws.Writable.{IsIdentifier, IsString}
use Rattle.pcal_tree.specs.Algorithm.{Span, Statement, assign, await, print, assert, skip, branch, either, with, while, goto, macro, call, return, Statements, done, then, mark, Branches, no_branches, or}
use Rattle.pcal_tree.specs.Expand.{followed_by, Writing, expand_one, expand, expand_some}
use Rattle.pcal_tree.specs.Processes.{OneOf}
use Rattle.pcal_tree.specs.Run.{unlabelled, label_of}
use Rattle.pcal_tree.specs.StepStart.{Begin, begin_in, begin, begin_some}
use Rattle.pcal_tree.proofs.BodyLabels.{labels_in, labels, labels_of}
use Rattle.pcal_tree.proofs.RoutineNames.{one_either}
use Rattle.action_builder.proofs.FitSides.{each_of}
use Rattle.action_builder.proofs.FitJumps.{identifier_string}
use Rattle.translation.specs.laws.WritableAlgorithm.{IsWritableStatement, AreWritableStatements, AreWritableBranches}

module _ (C V : Word → Bool) (X : Writing) where
  after_joined : (a b : Statements) → AreWritableStatements C V (followed_by a b) → AreWritableStatements C V b
  after_joined done b h = h
  after_joined (then at st a) b h = after_joined a b h.1
  after_joined (mark l k a) b h = after_joined a b h.1

  -- what follows a statement
  after_one : (at : Span) (st : Statement) (rest : Statements) → AreWritableStatements C V (expand_one X at st rest) → AreWritableStatements C V rest
  after_one at (macro m ts) rest h = after_joined (X at m ts) rest h
  after_one at (branch e a b) rest h = h.1
  after_one at (either bs) rest h = h.1
  after_one at (with bs b) rest h = h.1
  after_one at (while e b) rest h = h.1
  after_one at (assign ms) rest h = h.1
  after_one at (await e) rest h = h.1
  after_one at (print e) rest h = h.1
  after_one at (assert e) rest h = h.1
  after_one at skip rest h = h.1
  after_one at (goto l) rest h = h.1
  after_one at (call p ts) rest h = h.1
  after_one at return rest h = h.1

  -- the branches of an `either`, of which there is one
  branches_of : (bs : Branches) → IsWritableStatement C V (either bs) → AreWritableBranches C V bs
  branches_of no_branches h = absurd h
  branches_of (or b bs) h = h

  -- ---- labels are identifiers

  mutual
    one_labels : (at : Span) (st : Statement) (rest : Statements) → AreWritableStatements C V (expand_one X at st rest) → Each IsIdentifier (labels_in st)
    one_labels at (branch e a b) rest h = each_of IsIdentifier (labels a) (labels b) (all_labels a h.0.1) (all_labels b h.0.2)
    one_labels at (either bs) rest h = some_labels bs (branches_of (expand_some X bs) h.0)
    one_labels at (with bs b) rest h = all_labels b h.0.1
    one_labels at (while e b) rest h = all_labels b h.0.1
    one_labels at _ rest h = tt

    pub all_labels : (ss : Statements) → AreWritableStatements C V (expand X ss) → Each IsIdentifier (labels ss)
    all_labels done h = tt
    all_labels (then at st rest) h = each_of IsIdentifier (labels_in st) (labels rest) (one_labels at st (expand X rest) h) (all_labels rest (after_one at st (expand X rest) h))
    all_labels (mark l k rest) h = (h.0, all_labels rest h.1)

    some_labels : (bs : Branches) → AreWritableBranches C V (expand_some X bs) → Each IsIdentifier (labels_of bs)
    some_labels no_branches h = tt
    some_labels (or b bs) h = each_of IsIdentifier (labels b) (labels_of bs) (all_labels b h.0) (some_labels bs h.1)

  -- ---- where a step begins

  abbrev pub BeginsWell : Begin → Type 0
  BeginsWell b = AreWritableStatements C V (expand X b.items) × IsString b.exit

  abbrev pub IfBegun : Option Begin → Type 0
  IfBegun None = Unit {0}
  IfBegun (Some b) = BeginsWell b

  either_begun : (o p : Option Begin) → IfBegun o → IfBegun p → IfBegun (option_or o p)
  either_begun None p h k = k
  either_begun (Some b) p h k = h

  pub label_string : (rest : Statements) (x : Word) → AreWritableStatements C V (expand X rest) → IsString x → IsString (label_of rest x)
  label_string done x h s = s
  label_string (then at st rest) x h s = refl
  label_string (mark l k rest) x h s = identifier_string l.word h.0

  mutual
    begun_in : (l here : Word) → IsString here → (at : Span) (st : Statement) (rest : Statements) (x : Word) → IsString x → AreWritableStatements C V (expand_one X at st rest) → IfBegun (begin_in l here st x)
    begun_in l here e at (branch f a b) rest x s h = either_begun (begin l unlabelled a x) (begin l unlabelled b x) (begun l unlabelled refl a x s h.0.1) (begun l unlabelled refl b x s h.0.2)
    begun_in l here e at (either bs) rest x s h = begun_some l bs x s (branches_of (expand_some X bs) h.0)
    begun_in l here e at (with bs b) rest x s h = begun l unlabelled refl b x s h.0.1
    begun_in l here e at (while f b) rest x s h = begun l unlabelled refl b here e h.0.1
    begun_in l here e at _ rest x s h = tt

    pub begun : (l here : Word) → IsString here → (ss : Statements) (x : Word) → IsString x → AreWritableStatements C V (expand X ss) → IfBegun (begin l here ss x)
    begun l here e done x s h = tt
    begun l here e (then at st rest) x s h =
        let k = after_one at st (expand X rest) h in
        either_begun (begin_in l here st (label_of rest x)) (begin l unlabelled rest x) (begun_in l here e at st (expand X rest) (label_of rest x) (label_string rest x k s) h) (begun l unlabelled refl rest x s k)
    begun l here e (mark m k rest) x s h = by (begun l m.word (identifier_string m.word h.0) rest x s h.1) (bytes_eq l m.word)
      where
        by : IfBegun (begin l m.word rest x) → (b : Bool) → IfBegun (cond b (Some (record { items = rest; exit = x })) (begin l m.word rest x))
        by f true = (h.1, s)
        by f false = f

    begun_some : (l : Word) (bs : Branches) (x : Word) → IsString x → AreWritableBranches C V (expand_some X bs) → IfBegun (begin_some l bs x)
    begun_some l no_branches x s h = tt
    begun_some l (or b bs) x s h = either_begun (begin l unlabelled b x) (begin_some l bs x) (begun l unlabelled refl b x s h.0) (begun_some l bs x s h.1)

-- ---- each label of a body begins a step

abbrev pub IsBegun : Option Begin → Type 0
IsBegun None = ⊥
IsBegun (Some b) = Unit {0}

first_begun : (o p : Option Begin) → IsBegun o → IsBegun (option_or o p)
first_begun None p h = absurd h
first_begun (Some b) p h = tt

second_begun : (o p : Option Begin) → IsBegun p → IsBegun (option_or o p)
second_begun None p h = h
second_begun (Some b) p h = tt

two_begun : (l : Word) (xs ys : List Word) (o p : Option Begin) → (OneOf l xs → IsBegun o) → (OneOf l ys → IsBegun p) → OneOf l (xs ++ ys) → IsBegun (option_or o p)
two_begun l xs ys o p f g h = by (one_either l xs ys h)
  where
    by : OneOf l xs ⊎ OneOf l ys → IsBegun (option_or o p)
    by (inl k) = first_begun o p (f k)
    by (inr k) = second_begun o p (g k)

mutual
  begins_in : (l here : Word) (st : Statement) (x : Word) → OneOf l (labels_in st) → IsBegun (begin_in l here st x)
  begins_in l here (branch e a b) x h = two_begun l (labels a) (labels b) (begin l unlabelled a x) (begin l unlabelled b x) (begins l unlabelled a x) (begins l unlabelled b x) h
  begins_in l here (either bs) x h = begins_some l bs x h
  begins_in l here (with bs b) x h = begins l unlabelled b x h
  begins_in l here (while e b) x h = begins l unlabelled b here h
  begins_in l here _ x h = absurd h

  pub begins : (l here : Word) (ss : Statements) (x : Word) → OneOf l (labels ss) → IsBegun (begin l here ss x)
  begins l here done x h = absurd h
  begins l here (then at st rest) x h =
      two_begun l (labels_in st) (labels rest) (begin_in l here st (label_of rest x)) (begin l unlabelled rest x) (begins_in l here st (label_of rest x)) (begins l unlabelled rest x) h
  begins l here (mark m k rest) x h = by (begins l m.word rest x) (bytes_eq l m.word) refl h
    where
      by : (OneOf l (labels rest) → IsBegun (begin l m.word rest x)) → (b : Bool) → bytes_eq l m.word ≡ b → OneOf l (m.word ∷ labels rest) → IsBegun (cond b (Some (record { items = rest; exit = x })) (begin l m.word rest x))
      by f true e k = tt
      by f false e (inl q) = absurd (true_false (sym ((bytes_eq-Decides l m.word).1 q) ∙ e))
        where
          true_false : true ≡ false → ⊥
          true_false d = cc
      by f false e (inr q) = f q

  begins_some : (l : Word) (bs : Branches) (x : Word) → OneOf l (labels_of bs) → IsBegun (begin_some l bs x)
  begins_some l no_branches x h = absurd h
  begins_some l (or b bs) x h = two_begun l (labels b) (labels_of bs) (begin l unlabelled b x) (begin_some l bs x) (begins l unlabelled b x) (begins_some l bs x) h
