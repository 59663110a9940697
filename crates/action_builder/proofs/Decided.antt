-- What the laws ask of statements, where no expression has a primed name or binds a name of B.
use Rattle.std.proofs.Common.{◌≡◌, List, [], ◌∷◌, Bool, true, false, ◌&&◌, not, refl}
use Rattle.std.specs.List.{list_all}
use Rattle.std.proofs.lemmas.Bool.{and_parts, not-true}
use Rattle.tla_token.specs.Signs.{is_among}
use Rattle.tla_token.specs.declared.place.Place.{Place}
use Rattle.tla_tree.specs.Tree.{Word, Form, next, Tree, node, Trees, no_trees, tree, Each, Every, EveryOf, binders, Graft}
use Rattle.tla_value.specs.Stops.{Check}
use Rattle.tla_value.specs.laws.Grafting.{In, Clear, BindsClear, BindsNone, IsUnprimed}
use Rattle.pcal_tree.specs.Algorithm.{Assignments, no_assignments, assignment, Statement, assign, await, print, assert, skip, branch, either, Statements, done, then, mark, Branches, no_branches, or}
use Rattle.pcal_tree.specs.laws.Expansion.{CleanAssignments, CleanOne, Clean, CleanSome}
use Rattle.action_builder.specs.Assigned.{assigned, Names, more}
use Rattle.action_builder.specs.laws.Ready.{SettledOne, Settled, SettledSome, IsWithin, FineTree, FineSides, FineOne, Fine, FineSome}
use Rattle.action_builder.specs.laws.Sample.{any_name}
use Rattle.tla_value.proofs.Facts.{each_weaker}
use Rattle.tla_value.proofs.FreeNames.{any_names}
use Rattle.action_builder.proofs.Names.{one_in}
use Rattle.action_builder.proofs.Matching.{outside}
use Rattle.action_builder.proofs.Truth.{within_more}

none_in : {P : Type 0} → false ≡ true → P
none_in e = cc

-- ---- bare expressions

abbrev pub Avoided : Type 0
Avoided = Word → Bool

-- it is no primed name, and binds no name of B
abbrev bare_form : Avoided → Form → Bool
bare_form B (next x) = false
bare_form B m = list_all (λ x. not (B x)) (binders m)

abbrev mutual
  pub bare : Avoided → Tree → Bool
  bare B (node m at ts) = bare_form B m && bare_trees B ts

  bare_trees : Avoided → Trees → Bool
  bare_trees B no_trees = true
  bare_trees B (tree t ts) = bare B t && bare_trees B ts

abbrev bare_sides : Avoided → Assignments → Bool
bare_sides B no_assignments = true
bare_sides B (assignment l e ms) = bare B l && (bare B e && bare_sides B ms)

abbrev mutual
  bare_one : Avoided → Statement → Bool
  bare_one B (assign ms) = bare_sides B ms
  bare_one B (await e) = bare B e
  bare_one B (print e) = bare B e
  bare_one B (assert e) = bare B e
  bare_one B skip = true
  bare_one B (branch e a b) = bare B e && (bare_list B a && bare_list B b)
  bare_one B (either bs) = bare_branches B bs
  bare_one B _ = false

  -- bare expressions, and nothing but assignments, tests and branching statements
  pub bare_list : Avoided → Statements → Bool
  bare_list B done = true
  bare_list B (then at st rest) = bare_one B st && bare_list B rest
  bare_list B (mark l k rest) = false

  bare_branches : Avoided → Branches → Bool
  bare_branches B no_branches = true
  bare_branches B (or b bs) = bare_list B b && bare_branches B bs

module _ (B : Avoided) where
  abbrev BareHas : (Form → Place → Type 0) → Type 0
  BareHas P = (m : Form) (at : Place) → bare_form B m ≡ true → P m at

  mutual
    every_bare : (P : Form → Place → Type 0) → BareHas P → (t : Tree) → bare B t ≡ true → Every P t
    every_bare P f (node m at ts) h = let k = and_parts (bare_form B m) (bare_trees B ts) h in (f m at k.0, every_of_bare P f ts k.1)

    every_of_bare : (P : Form → Place → Type 0) → BareHas P → (ts : Trees) → bare_trees B ts ≡ true → EveryOf P ts
    every_of_bare P f no_trees h = tt
    every_of_bare P f (tree t ts) h = let k = and_parts (bare B t) (bare_trees B ts) h in (every_bare P f t k.0, every_of_bare P f ts k.1)

  none_of : (xs : List Word) → list_all (λ x. not (B x)) xs ≡ true → Each (λ x. B x ≡ false) xs
  none_of [] h = tt
  none_of (x ∷ xs) h = let k = and_parts (not (B x)) (list_all (λ y. not (B y)) xs) h in (not-true (B x) k.0, none_of xs k.1)

  binds_none : BareHas (BindsNone B)
  binds_none (next x) at h = none_in h
  binds_none m at h = none_of (binders m) h

  unprimed : BareHas IsUnprimed
  unprimed (next x) at h = none_in h
  unprimed m at h = tt

-- ---- nothing is captured

module _ (B : Avoided) (c : Check) (g : Graft) (f : (x : Word) → B x ≡ false → Clear c g x) where
  clear : (t : Tree) → bare B t ≡ true → Every (BindsClear c g) t
  clear t h = every_bare B (BindsClear c g) (λ m at k. each_weaker (λ x. B x ≡ false) (Clear c g) f (binders m) (binds_none B m at k)) t h

  clear_sides : (ms : Assignments) → bare_sides B ms ≡ true → CleanAssignments c g ms
  clear_sides no_assignments h = tt
  clear_sides (assignment l e ms) h =
      let p = and_parts (bare B l) (bare B e && bare_sides B ms) h in
      let q = and_parts (bare B e) (bare_sides B ms) p.1 in
      (clear l p.0, clear e q.0, clear_sides ms q.1)

  mutual
    clear_one : (st : Statement) → bare_one B st ≡ true → CleanOne c g st
    clear_one (assign ms) h = clear_sides ms h
    clear_one (await e) h = clear e h
    clear_one (print e) h = clear e h
    clear_one (assert e) h = clear e h
    clear_one skip h = tt
    clear_one (branch e a b) h =
        let p = and_parts (bare B e) (bare_list B a && bare_list B b) h in
        let q = and_parts (bare_list B a) (bare_list B b) p.1 in
        (clear e p.0, clear_list a q.0, clear_list b q.1)
    clear_one (either bs) h = clear_branches bs h
    clear_one _ h = none_in h

    pub clear_list : (ss : Statements) → bare_list B ss ≡ true → Clean c g ss
    clear_list done h = tt
    clear_list (then at st rest) h = let p = and_parts (bare_one B st) (bare_list B rest) h in (clear_one st p.0, clear_list rest p.1)
    clear_list (mark l k rest) h = none_in h

    clear_branches : (bs : Branches) → bare_branches B bs ≡ true → CleanSome c g bs
    clear_branches no_branches h = tt
    clear_branches (or b bs) h = let p = and_parts (bare_list B b) (bare_branches B bs) h in (clear_list b p.0, clear_branches bs p.1)

-- ---- all names are readable, and the variables are of B

module _ (B : Avoided) (vs : List Word) (f : IsWithin (is_among vs) B) where
  fine : (A : Names) → IsWithin A (is_among vs) → (t : Tree) → bare B t ≡ true → FineTree any_name A t
  fine A w t h = (
    every_bare B (BindsNone A) (λ m at k. each_weaker (λ x. B x ≡ false) (λ x. A x ≡ false) (outside A B (λ x a. f x (w x a))) (binders m) (binds_none B m at k)) t h,
    every_bare B IsUnprimed (unprimed B) t h,
    any_names (In (any_name A)) (In (any_name A)) (λ x. refl) (λ x. refl) t,
  )

  fine_sides : (A : Names) → IsWithin A (is_among vs) → (ms : Assignments) → bare_sides B ms ≡ true → FineSides any_name A ms
  fine_sides A w no_assignments h = tt
  fine_sides A w (assignment l e ms) h =
      let p = and_parts (bare B l) (bare B e && bare_sides B ms) h in
      let q = and_parts (bare B e) (bare_sides B ms) p.1 in
      (fine A w l p.0, fine A w e q.0, fine_sides A w ms q.1)

  mutual
    fine_one : (A : Names) → IsWithin A (is_among vs) → (st : Statement) → SettledOne (is_among vs) st → bare_one B st ≡ true → FineOne any_name vs A st
    fine_one A w (assign ms) z h = record { left = z; sides = fine_sides A w ms h; readable = λ y m. refl }
    fine_one A w (await e) z h = fine A w e h
    fine_one A w (print e) z h = fine A w e h
    fine_one A w (assert e) z h = fine A w e h
    fine_one A w skip z h = tt
    fine_one A w (branch e a b) z h =
        let p = and_parts (bare B e) (bare_list B a && bare_list B b) h in
        let q = and_parts (bare_list B a) (bare_list B b) p.1 in
        (fine A w e p.0, fine_list A w a z.0 q.0, fine_list A w b z.1 q.1)
    fine_one A w (either bs) z h = fine_branches A w bs z h
    fine_one A w _ z h = none_in h

    pub fine_list : (A : Names) → IsWithin A (is_among vs) → (ss : Statements) → Settled (is_among vs) ss → bare_list B ss ≡ true → Fine any_name vs A ss
    fine_list A w done z h = tt
    fine_list A w (then at st rest) z h =
        let p = and_parts (bare_one B st) (bare_list B rest) h in
        (fine_one A w st z.0 p.0, fine_list (more A (assigned st)) (within_more A (assigned st) vs w (one_in (is_among vs) st z.0)) rest z.1 p.1)
    fine_list A w (mark l k rest) z h = none_in h

    fine_branches : (A : Names) → IsWithin A (is_among vs) → (bs : Branches) → SettledSome (is_among vs) bs → bare_branches B bs ≡ true → FineSome any_name vs A bs
    fine_branches A w no_branches z h = tt
    fine_branches A w (or b bs) z h = let p = and_parts (bare_list B b) (bare_branches B bs) h in (fine_list A w b z.0 p.0, fine_branches A w bs z.1 p.1)
