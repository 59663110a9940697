-- Trees put in for names twice, as where a call is in a macro's body.
use Rattle.std.proofs.Common.{◌≡◌, List, [], ◌∷◌, Bool, true, false, cond, bytes_eq, Some, refl, ap, ◌∙◌}
use Rattle.std.specs.Option.{option_or}
use Rattle.tla_token.specs.declared.place.Place.{Place}
use Rattle.tla_tree.specs.Tree.{Word, Name, Form, name, Tree, node, Trees, no_trees, tree, Graft, graft, grafts, grafted_node, grafted_name}
use Rattle.pcal_tree.specs.Run.{arguments}
use Rattle.pcal_tree.specs.OffencesSteps.{called_with, nothing_put}

-- ---- nothing put in

none_put : (m : Form) (at : Place) (ts : Trees) → grafted_node nothing_put m at ts ≡ node m at ts
none_put (name x) at ts = refl
none_put m at ts = refl

mutual
  pub graft_none : (t : Tree) → graft nothing_put t ≡ t
  graft_none (node m at ts) = none_put m at (grafts nothing_put ts) ∙ ap (node m at) (grafts_none ts)

  pub grafts_none : (ts : Trees) → grafts nothing_put ts ≡ ts
  grafts_none no_trees = refl
  grafts_none (tree t ts) = λ z. tree (graft_none t z) (grafts_none ts z)

-- ---- arguments put in, and then other trees

module _ (g : Graft) where
  put_argument : (ps : List Name) (us : Trees) (x : Word) (at : Place) (ts : Trees)
      → graft g (grafted_name (arguments ps us x at) (name x) at ts) ≡ grafted_name (called_with ps (grafts g us) g x at) (name x) at (grafts g ts)
  put_argument [] us x at ts = refl
  put_argument (p ∷ ps) no_trees x at ts = refl
  put_argument (p ∷ ps) (tree u us) x at ts = by (bytes_eq p.word x) (put_argument ps us x at ts)
    where
      by : (b : Bool) → graft g (grafted_name (arguments ps us x at) (name x) at ts) ≡ grafted_name (called_with ps (grafts g us) g x at) (name x) at (grafts g ts)
          → graft g (grafted_name (cond b (Some u) (arguments ps us x at)) (name x) at ts)
          ≡ grafted_name (option_or (cond b (Some (graft g u)) (arguments ps (grafts g us) x at)) (g x at)) (name x) at (grafts g ts)
      by true h = refl
      by false h = h

  put_node : (ps : List Name) (us : Trees) (m : Form) (at : Place) (ts : Trees)
      → graft g (grafted_node (arguments ps us) m at ts) ≡ grafted_node (called_with ps (grafts g us) g) m at (grafts g ts)
  put_node ps us (name x) at ts = put_argument ps us x at ts
  put_node ps us m at ts = refl

  mutual
    pub graft_called : (ps : List Name) (us : Trees) (t : Tree) → graft g (graft (arguments ps us) t) ≡ graft (called_with ps (grafts g us) g) t
    graft_called ps us (node m at ts) = put_node ps us m at (grafts (arguments ps us) ts) ∙ ap (grafted_node (called_with ps (grafts g us) g) m at) (grafts_called ps us ts)

    pub grafts_called : (ps : List Name) (us : Trees) (ts : Trees) → grafts g (grafts (arguments ps us) ts) ≡ grafts (called_with ps (grafts g us) g) ts
    grafts_called ps us no_trees = refl
    grafts_called ps us (tree t ts) = λ z. tree (graft_called ps us t z) (grafts_called ps us ts z)
