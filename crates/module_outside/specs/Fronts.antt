-- What is told of the first one of some tokens.
use Rattle.std.specs.Prelude.{ℕ, Vec, Bool, false, ◌&&◌, List, [], ◌∷◌, ◌++◌, Option, Some, None}
use Rattle.std.specs.declared.alloc.Global.{Global}
use Rattle.tla_token.specs.declared.token.Tokens.{Tokens}
use Rattle.tla_tree.specs.Tree.{Word, Name}
use Rattle.tla_tree.specs.Lexical.{Mark, Token}
use Rattle.tla_tree.specs.Reader.{is_mark}
use Rattle.module_tree.specs.FileUnits.{begins_unit}
use Rattle.expr_nodes.specs.Ahead.{ahead}
use Rattle.outside_reading.specs.PlainUnits.{is_right, name_in, is_keyword}

abbrev pub front_name : List Token → Option Name
front_name [] = None
front_name (t ∷ ts) = name_in t

abbrev pub front_mark : Mark → List Token → Bool
front_mark m [] = false
front_mark m (t ∷ ts) = is_mark m t.kind

abbrev pub front_right : List Token → Bool
front_right [] = false
front_right (t ∷ ts) = is_right t

abbrev pub front_placed : Mark → List Token → Bool
front_placed m ts = front_mark m ts && front_right ts

abbrev pub front_keyword : Word → List Token → Bool
front_keyword w [] = false
front_keyword w (t ∷ ts) = is_keyword w t.kind

abbrev pub front_begins : List Token → Bool
front_begins [] = false
front_begins (t ∷ ts) = begins_unit t

-- some names, and those that are still to be read
abbrev pub names_before : List Name → Option (List Name × List Token) → Option (List Name × List Token)
names_before xs (Some (ns, r)) = Some (xs ++ ns, r)
names_before xs None = None

-- names in memory, and the tokens from a number on
abbrev pub names_and_rest : Tokens → Option (Vec Name Global × ℕ) → Option (List Name × List Token)
names_and_rest v (Some x) = Some (x.0.items, ahead v x.1)
names_and_rest v None = None

abbrev pub items_of : Option (Vec Name Global) → Option (List Name)
items_of (Some v) = Some v.items
items_of None = None
