-- The labels of statements with macro calls written out, and of statements with trees put in for names, are those of the statements: what a step from each begins with
-- is written out, or has the trees put in.
use Rattle.std.proofs.Common.{◌≡◌, List, [], ◌∷◌, ◌++◌, map, refl, sym, ap, ◌∙◌}
use Rattle.std.proofs.lemmas.List.{map-append}
use Rattle.tla_tree.specs.Tree.{Word, Graft}
use Rattle.pcal_tree.specs.Algorithm.{Span, Statement, assign, await, print, assert, skip, branch, either, with, while, goto, macro, call, return, Statements, done, then, mark, Branches, no_branches, or}
use Rattle.pcal_tree.specs.Run.{unlabelled, label_of}
use Rattle.pcal_tree.specs.Expand.{graft_one, graft_all, graft_some, followed_by, Writing, expand_one, expand, expand_some}
use Rattle.pcal_tree.specs.laws.Expansion.{BeginsUnlabelled, BareOne, Bare, BareSome}
use Rattle.pcal_tree.proofs.BeginLaws.{opens_one}
use Rattle.pcal_tree.proofs.ExpandRuns.{no_label}
use Rattle.step_forms.proofs.MacroCalls.{Any, any_calls}
use Rattle.step_forms.proofs.OpenedBodies.{WritesBare}
use Rattle.step_spots.specs.Spots.{Spot, spots_in, spots, spots_some}

-- with other statements to begin with
abbrev pub changed : (Statements → Statements) → Spot → Spot
changed f s = record { name = s.name; begins = record { items = f s.begins.items; exit = s.begins.exit } }

-- ---- no label

mutual
  none_in : (here : Word) (st : Statement) (x : Word) → BareOne st → spots_in here st x ≡ []
  none_in here (branch e a b) x h = λ i. none unlabelled a x h.0 i ++ none unlabelled b x h.1 i
  none_in here (either bs) x h = none_some bs x h
  none_in here (with bs b) x h = none unlabelled b x h
  none_in here (while e b) x h = none unlabelled b here h
  none_in here _ x h = refl

  none : (here : Word) (ss : Statements) (x : Word) → Bare ss → spots here ss x ≡ []
  none here done x h = refl
  none here (then at st rest) x h = λ i. none_in here st (label_of rest x) h.0 i ++ none unlabelled rest x h.1 i
  none here (mark m k rest) x h = absurd h

  none_some : (bs : Branches) (x : Word) → BareSome bs → spots_some bs x ≡ []
  none_some no_branches x h = refl
  none_some (or b bs) x h = λ i. none unlabelled b x h.0 i ++ none_some bs x h.1 i

joined : (a b : Statements) (x : Word) → Bare a → spots unlabelled (followed_by a b) x ≡ spots unlabelled b x
joined done b x h = refl
joined (then at st a) b x h = λ i. none_in unlabelled st (label_of (followed_by a b) x) h.0 i ++ joined a b x h.1 i
joined (mark m k a) b x h = absurd h

-- what begins with a statement, before the rest
opened : (here : Word) (a b : Statements) (x : Word) → BeginsUnlabelled a → Bare a → spots here (followed_by a b) x ≡ spots unlabelled b x
opened here done b x o h = absurd o
opened here (then at st a) b x o h = λ i. none_in here st (label_of (followed_by a b) x) h.0 i ++ joined a b x h.1 i
opened here (mark m k a) b x o h = absurd h

-- ---- macro calls written out

module _ (X : Writing) (w : WritesBare X) where
  abbrev written : Spot → Spot
  written s = changed (expand X) s

  label_kept : (ss : Statements) (x : Word) → label_of (expand X ss) x ≡ label_of ss x
  label_kept done x = refl
  label_kept (then at st rest) x = sym (no_label (expand_one X at st (expand X rest)) x (opens_one X Any w at st (expand X rest) (any_calls (then at st done)).0))
  label_kept (mark m k rest) x = refl

  mutual
    -- rest: what follows, written out
    in_written : (here : Word) (at : Span) (st : Statement) (rest : Statements) (x y : Word) → label_of rest x ≡ y
        → spots here (expand_one X at st rest) x ≡ map written (spots_in here st y) ++ spots unlabelled rest x
    in_written here at (macro m ts) rest x y q = opened here (X at m ts) rest x (w at m ts tt).0 (w at m ts tt).1
    in_written here at (branch e a b) rest x y q =
        (λ i. (spots unlabelled (expand X a) (q i) ++ spots unlabelled (expand X b) (q i)) ++ spots unlabelled rest x)
        ∙ (λ i. (all_written unlabelled a y i ++ all_written unlabelled b y i) ++ spots unlabelled rest x)
        ∙ ap (λ (zs : List Spot). zs ++ spots unlabelled rest x) (sym (map-append written (spots unlabelled a y) (spots unlabelled b y)))
    in_written here at (either bs) rest x y q =
        (λ i. spots_some (expand_some X bs) (q i) ++ spots unlabelled rest x) ∙ (λ i. some_written bs y i ++ spots unlabelled rest x)
    in_written here at (with bs b) rest x y q =
        (λ i. spots unlabelled (expand X b) (q i) ++ spots unlabelled rest x) ∙ (λ i. all_written unlabelled b y i ++ spots unlabelled rest x)
    in_written here at (while e b) rest x y q = λ i. all_written unlabelled b here i ++ spots unlabelled rest x
    in_written here at (assign ms) rest x y q = refl
    in_written here at (await e) rest x y q = refl
    in_written here at (print e) rest x y q = refl
    in_written here at (assert e) rest x y q = refl
    in_written here at skip rest x y q = refl
    in_written here at (goto l) rest x y q = refl
    in_written here at (call p ts) rest x y q = refl
    in_written here at return rest x y q = refl

    pub all_written : (here : Word) (ss : Statements) (x : Word) → spots here (expand X ss) x ≡ map written (spots here ss x)
    all_written here done x = refl
    all_written here (then at st rest) x =
        in_written here at st (expand X rest) x (label_of rest x) (label_kept rest x)
        ∙ ap (λ (zs : List Spot). map written (spots_in here st (label_of rest x)) ++ zs) (all_written unlabelled rest x)
        ∙ sym (map-append written (spots_in here st (label_of rest x)) (spots unlabelled rest x))
    all_written here (mark m k rest) x = ap (λ (zs : List Spot). record { name = m; begins = record { items = expand X rest; exit = x } } ∷ zs) (all_written m.word rest x)

    some_written : (bs : Branches) (x : Word) → spots_some (expand_some X bs) x ≡ map written (spots_some bs x)
    some_written no_branches x = refl
    some_written (or b bs) x = (λ i. all_written unlabelled b x i ++ some_written bs x i) ∙ sym (map-append written (spots unlabelled b x) (spots_some bs x))

-- ---- trees put in

module _ (g : Graft) where
  abbrev put : Spot → Spot
  put s = changed (graft_all g) s

  label_put : (ss : Statements) (x : Word) → label_of (graft_all g ss) x ≡ label_of ss x
  label_put done x = refl
  label_put (then at st rest) x = refl
  label_put (mark m k rest) x = refl

  mutual
    in_put : (here : Word) (st : Statement) (x : Word) → spots_in here (graft_one g st) x ≡ map put (spots_in here st x)
    in_put here (branch e a b) x = (λ i. all_put unlabelled a x i ++ all_put unlabelled b x i) ∙ sym (map-append put (spots unlabelled a x) (spots unlabelled b x))
    in_put here (either bs) x = some_put bs x
    in_put here (with bs b) x = all_put unlabelled b x
    in_put here (while e b) x = all_put unlabelled b here
    in_put here (assign ms) x = refl
    in_put here (await e) x = refl
    in_put here (print e) x = refl
    in_put here (assert e) x = refl
    in_put here skip x = refl
    in_put here (goto l) x = refl
    in_put here (macro m ts) x = refl
    in_put here (call p ts) x = refl
    in_put here return x = refl

    pub all_put : (here : Word) (ss : Statements) (x : Word) → spots here (graft_all g ss) x ≡ map put (spots here ss x)
    all_put here done x = refl
    all_put here (then at st rest) x =
        (λ i. spots_in here (graft_one g st) (label_put rest x i) ++ spots unlabelled (graft_all g rest) x)
        ∙ (λ i. in_put here st (label_of rest x) i ++ all_put unlabelled rest x i)
        ∙ sym (map-append put (spots_in here st (label_of rest x)) (spots unlabelled rest x))
    all_put here (mark m k rest) x = ap (λ (zs : List Spot). record { name = m; begins = record { items = graft_all g rest; exit = x } } ∷ zs) (all_put m.word rest x)

    some_put : (bs : Branches) (x : Word) → spots_some (graft_some g bs) x ≡ map put (spots_some bs x)
    some_put no_branches x = refl
    some_put (or b bs) x = (λ i. all_put unlabelled b x i ++ some_put bs x i) ∙ sym (map-append put (spots unlabelled b x) (spots_some bs x))
