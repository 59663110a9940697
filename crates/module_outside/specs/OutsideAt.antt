-- Definitions that are read outside, and names found there, in memory: the pure ones over the trees of a pool.
use Rattle.std.specs.declared.alloc.Global.{Global}
use Rattle.std.specs.Prelude.{ℕ, Vec, true, List, [], ◌∷◌, ◌++◌, Option, Some, None}
use Rattle.tla_tree.specs.Tree.{Tree, Name, words}
use Rattle.tla_tree.specs.Lexical.{TokenView, Token}
use Rattle.tla_tree.specs.Lexical as tk
use Rattle.tla_tree.specs.Pool.{at}
use Rattle.tla_value.specs.Outside as pure
use Rattle.module_tree.specs.Outside.{Sight}
use Rattle.module_outside.specs.declared.definition.ReadDefinition.{ReadDefinition}

-- the tree of a number, if there is one
abbrev pub tree_found : List Tree → Option ℕ → Option Tree
tree_found ts (Some e) = Some (at ts e)
tree_found ts None = None

-- ---- definitions

-- the name at the front, in any column
abbrev pub title_in : List Token → Option Name
title_in [] = None
title_in (t ∷ ts) = by t.kind
  where
    by : TokenView → Option Name
    by (tk.word x) = Some (record { word = x; place = t.place })
    by k = None

abbrev pub made_of : Name → List Name → Tree → pure.ReadDefinition
made_of x ns t = record { definition = record { title = x.word; params = words ns; body = t; outside = true }; place = x.place }

abbrev pub made : Name → List Name → Option Tree → Option pure.ReadDefinition
made x ns (Some t) = Some (made_of x ns t)
made x ns None = None

abbrev pub definition_seen : List Tree → ReadDefinition → pure.ReadDefinition
definition_seen ts d = made_of d.title d.params.items (at ts d.body)

abbrev pub definition_found : List Tree → Option ReadDefinition → Option pure.ReadDefinition
definition_found ts (Some d) = Some (definition_seen ts d)
definition_found ts None = None

-- it is seen by those behind it
abbrev pub with_found : Sight → Option pure.ReadDefinition → Sight
with_found v (Some d) = record { modules = v.modules; constants = v.constants; earlier = v.earlier ++ d.definition ∷ [] }
with_found v None = v

-- ---- names

abbrev pub with_names : List Name → Option (Vec Name Global) → List Name
with_names xs (Some v) = xs ++ v.items
with_names xs None = xs
