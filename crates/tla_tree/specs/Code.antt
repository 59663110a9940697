-- A code of trees, by which a proof tells them apart.
use Rattle.std.specs.Prelude.{◌≡◌}
use Rattle.std.specs.Coded.{Coded, codes}
use Rattle.std.proofs.Common.{ap, subst, sym}
use base.Stored.{Gv, gnil, gcons}
use Rattle.tla_token.specs.declared.place.Place.{Place}
use Rattle.tla_tree.specs.Tree.{Name, Form, Tree, node, Trees, no_trees, tree}

pub form_code : Coded Form
form_code = hlevel codes

pub place_code : Coded Place
place_code = hlevel codes

pub name_code : Coded Name
name_code = hlevel codes

abbrev front : Gv → Gv
front (gcons a b) = a
front _ = gnil

abbrev back : Gv → Gv
back (gcons a b) = b
back _ = gnil

abbrev IsPair : Gv → Type 0
IsPair (gcons a b) = Unit {0}
IsPair _ = ⊥

abbrev mutual
  pub code : Tree → Gv
  code (node m at ts) = gcons (form_code.code m) (gcons (place_code.code at) (code_of ts))

  pub code_of : Trees → Gv
  code_of no_trees = gnil
  code_of (tree t ts) = gcons (code t) (code_of ts)

mutual
  pub inj : (x y : Tree) → code x ≡ code y → x ≡ y
  inj (node m at ts) (node n bt us) p =
      λ i. node (form_code.inj m n (ap front p) i) (place_code.inj at bt (ap (λ g. front (back g)) p) i) (inj_of ts us (ap (λ g. back (back g)) p) i)

  pub inj_of : (xs ys : Trees) → code_of xs ≡ code_of ys → xs ≡ ys
  inj_of no_trees no_trees p = λ i. no_trees
  inj_of no_trees (tree t ts) p = absurd (subst IsPair (sym p) tt)
  inj_of (tree t ts) no_trees p = absurd (subst IsPair p tt)
  inj_of (tree t ts) (tree u us) p = λ i. tree (inj t u (ap front p) i) (inj_of ts us (ap back p) i)

abbrev pub tree_code : Coded Tree
tree_code = record { code = code; inj = inj }
