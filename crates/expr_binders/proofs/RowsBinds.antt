-- Worked rows: names with their sets, and functions behind their first name.
use Rattle.std.proofs.Common.{Bool, ◌≡◌, ℕ, max, List, [], ◌∷◌, Ok, Err, refl, sym, ap}
use Rattle.tla_token.specs.declared.place.Place.{Place}
use Rattle.tla_token.specs.declared.rule.Rule.TheVariants.{Syntax}
use Rattle.tla_token.specs.declared.token.Tokens.{Tokens}
use Rattle.tla_tree.specs.Tree.{Tree, tree, Name, Word}
use Rattle.tla_tree.specs.TreeOf.{trees_from}
use Rattle.tla_tree.specs.Lexical.{token}
use Rattle.tla_tree.specs.Lexical as tk
use Rattle.tla_tree.specs.Spelling.{Phrase, named, Binds, function}
use Rattle.tla_tree.specs.Reader.{Readers, no_steps, peek, bind_rest}
use Rattle.expr_nodes.specs.declared.cursor.Halt.TheVariants as halt
use Rattle.expr_nodes.specs.declared.make.Read.{Read}
use Rattle.expr_nodes.specs.declared.shape.Shape.{Shape}
use Rattle.expr_nodes.specs.ReadIn.{IsIn}
use Rattle.expr_nodes.specs.Ahead.{ahead}
use Rattle.expr_binders.specs.Grouped.{Grouped, GroupRead}
use Rattle.expr_binders.specs.Functions.{function_of}
use Rattle.expr_nodes.proofs.MakeLemmas.{kept_in}
use Rattle.expr_rows.proofs.ReadPut.{then_gives}

abbrev here : Place
here = record { line = 1; col = 3 }

-- a name with its set: alone, or before others
one_group : {linked : Bool} (v : Tokens) (ts : List Tree) (d : Readers) (e i : ℕ) (set : Read) (p q : Place) (x : Word) (a : Phrase) → IsIn linked ts set a → Grouped linked v ts d e (named p x ∷ []) set i (peek e (bind_rest d e p x q a) (ahead v i))
one_group {linked} v ts d e i set p q x a h = record {
  place = p;
  word = x;
  sign = q;
  what = a;
  before = (λ bs. bs);
  is = sym (then_gives (peek e (bind_rest d e p x q a) (ahead v i)));
  alone = record { below = (h.below, tt); names = refl; sets = (λ us y. tree (sym h.tree y) (trees_from us)); nesting = ap (λ (s : Shape). s.nesting) h.shape };
  first = (λ r us gs js n bs k g. record {
    below = ((kept_in k h).below, g.below);
    names = ap (λ (gs : List (List Name)). (named p x ∷ []) ∷ gs) g.names;
    sets = (λ ws y. tree (sym (kept_in k h).tree y) (g.sets ws y));
    nesting = (λ y. max (h.shape y).nesting (g.nesting y));
  });
}

refused_group : (linked : Bool) (v : Tokens) (ts : List Tree) (d : Readers) → GroupRead linked v ts d 0 (Err (halt.Refused Syntax 0)) (Err (Syntax, []))
refused_group linked v ts d = (refl, refl)

-- a reader that always reads these binds and this phrase, and takes nothing
abbrev binds_and : Binds → Phrase → Readers
binds_and bs a = record no_steps { expr = λ e c ts. Ok (a, ts); binds = λ e p x ts. Ok (bs, ts) }

module _ (bs : Binds) (a : Phrase) (p q : Place) (x : Word) where
  -- `, ..` is read by the binds
  function_ends : function_of (binds_and bs a) 0 p q x (token here (tk.mark tk.maps) ∷ token here (tk.mark tk.close_square) ∷ []) ≡ Ok (function p bs here a here, [])
  function_ends = refl

  function_needs_arrow : function_of (binds_and bs a) 0 p q x (token here (tk.mark tk.colon) ∷ []) ≡ Err (Syntax, token here (tk.mark tk.colon) ∷ [])
  function_needs_arrow = refl
