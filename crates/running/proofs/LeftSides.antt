-- A left side keeps its place where what is put in for a name is at the place of the name.
use Rattle.std.proofs.Common.{◌≡◌, Bool, true, false, cond, Some, None, refl, ap, ◌∙◌}
use Rattle.tla_token.specs.declared.place.Place.{Place}
use Rattle.tla_tree.specs.Tree.{Word, Form, name, Tree, node, Trees, no_trees, Graft, graft, grafts, grafted_name, grafted_node}
use Rattle.tla_value.specs.Grafts.{own_part}
use Rattle.pcal_tree.specs.Expand.{placed_at, graft_left}
use Rattle.prime_subst.specs.declared.localising.Local.{Local}
use Rattle.prime_subst.specs.declared.localising.Own.{Own}
use Rattle.tla_token.specs.Signs.{is_among}
use Rattle.name_bits.specs.NamesIn.{names_in}
use Rattle.written_names.specs.Units.{naming_of}
use Rattle.running.specs.Prepared.{names_put, own_put}

module _ (A : Word → Bool) (f : Word → Place → Tree) (stays : (x : Word) (p : Place) → placed_at p (f x p) ≡ f x p) where
  abbrev for_all : Graft
  for_all x p = cond (A x) (Some (f x p)) None

  name_stays : (b : Bool) (x : Word) (p : Place) (ts : Trees) → placed_at p (grafted_name (cond b (Some (f x p)) None) (name x) p ts) ≡ grafted_name (cond b (Some (f x p)) None) (name x) p ts
  name_stays true x p ts = stays x p
  name_stays false x p ts = refl

  node_stays : (m : Form) (p : Place) (ts : Trees) → placed_at p (grafted_node for_all m p ts) ≡ grafted_node for_all m p ts
  node_stays (name x) p ts = name_stays (A x) x p ts
  node_stays m p ts = refl

  pub left_stays : (l : Tree) → graft_left for_all l ≡ graft for_all l
  left_stays (node m p ts) = node_stays m p (grafts for_all ts)

-- by its written names, and then at its process
pub left_twice : (own : Own) (local : Local) (l : Tree) → graft_left (own_put own) (graft_left (names_put local) l) ≡ graft (own_put own) (graft (names_put local) l)
left_twice own local l =
    let written = (naming_of local.naming.now).local local.unit in
    left_stays (is_among (names_in own.order.now own.own.now)) (own_part own.this.now) (λ x p. refl) (graft_left (names_put local) l)
    ∙ ap (graft (own_put own)) (left_stays (is_among local.locals.now) (λ x p. node (name (written x)) p no_trees) (λ x p. refl) l)
