-- Worked rows: paths and their subscripts, records, sets of records, and what comes behind `EXCEPT`.
use Rattle.std.proofs.Common.{Bool, ◌≡◌, false, List, [], ◌∷◌, Ok, Err, refl, arith}
use Rattle.tla_token.specs.declared.place.Place.{Place}
use Rattle.tla_token.specs.declared.rule.Rule.TheVariants.{Syntax}
use Rattle.tla_tree.specs.Tree.{Tree, field}
use Rattle.tla_tree.specs.Lexical.{token}
use Rattle.tla_tree.specs.Lexical as tk
use Rattle.tla_tree.specs.Spelling.{Field, Phrase, Phrases, last, tree_of, Fields, Settings, fields, records, except, path_end, at_field}
use Rattle.tla_tree.specs.Reader.{Readers, no_steps}
use Rattle.expr_nodes.specs.ShapeOf.{in_all}
use Rattle.expr_lists.specs.Routed.{indexed, IsPath, IsSubscript}
use Rattle.expr_lists.specs.InSquares.{fields_of, records_of, changed}

abbrev here : Place
here = record { line = 1; col = 3 }

abbrev x_field : Field
x_field = record { place = here; is_reserved = false; text = 120 ∷ [] }

-- ---- paths
no_path : {linked : Bool} (ts : List Tree) → IsPath linked ts [] [] 0 path_end
no_path {linked} ts = record { below = tt; steps = refl; subscripts = λ us. refl; nesting = refl }

field_path : {linked : Bool} (ts : List Tree) (p : Place) → IsPath linked ts (field (120 ∷ []) ∷ []) [] 0 (at_field p x_field path_end)
field_path {linked} ts p = record { below = tt; steps = refl; subscripts = λ us. refl; nesting = refl }

-- ---- subscripts
one_subscript : {linked : Bool} (t : Tree) (a : Phrase) → t ≡ tree_of a → IsSubscript linked (t ∷ []) 0 (in_all linked (last a)) (last a)
one_subscript {linked} t a h = record { below = omega arith; tree = h; nesting = refl }

-- a reader that always reads these lists, and takes nothing
abbrev lists : Phrases → Fields → Settings → Readers
lists xs fs ss = record no_steps { phrases = λ e ts. Ok (xs, ts); fields = λ e m f ts. Ok (fs, ts); settings = λ e ts. Ok (ss, ts) }

module _ (xs : Phrases) (fs : Fields) (ss : Settings) (b : Phrase) (p q : Place) where
  subscript_ends : indexed (lists xs fs ss) 0 (token here (tk.mark tk.close_square) ∷ []) ≡ Ok ((xs, here), [])
  subscript_ends = refl

  subscript_open : indexed (lists xs fs ss) 0 [] ≡ Err (Syntax, [])
  subscript_open = refl

  record_ends : fields_of (lists xs fs ss) 0 p x_field (token here (tk.mark tk.close_square) ∷ []) ≡ Ok (fields p fs here, [])
  record_ends = refl

  records_end : records_of (lists xs fs ss) 0 p x_field (token here (tk.mark tk.close_square) ∷ []) ≡ Ok (records p fs here, [])
  records_end = refl

  except_ends : changed (lists xs fs ss) 0 p b q (token here (tk.mark tk.close_square) ∷ []) ≡ Ok (except p b q ss here, [])
  except_ends = refl
