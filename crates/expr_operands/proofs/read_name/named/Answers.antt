-- Proves what is asked of `named`.
use Rattle.std.proofs.Common.{◌≡◌, ℕ, true, false, List, Some, Ok, refl, arith}
use Rattle.tla_token.specs.TokensSeen.{span_bytes}
use Rattle.tla_token.specs.declared.place.Place.{Place}
use Rattle.tla_tree.specs.Tree.{Word}
use Rattle.tla_tree.specs.Lexical.{TokenView, Token}
use Rattle.tla_tree.specs.Lexical as tk
use Rattle.tla_tree.specs.Spelling.{primed, name}
use Rattle.tla_tree.specs.Reader.{Room, room, next, peek, is_mark, named}
use Rattle.tla_tree.specs.Whole.{whole_in}
use Rattle.expr_nodes.specs.Ahead.{ahead}
use Rattle.expr_rows.proofs.ReadNames.{prime_more}
use Rattle.expr_operands.proofs.read_name.named.Goals as goal

-- a name with neither `(` nor a prime behind it
name_alone : (m : Room) (e : ℕ) (p : Place) (x : Word) (ts : List Token) → is_mark tk.open_bracket (next e ts).kind ≡ false → is_mark tk.prime (next e ts).kind ≡ false → peek e (named m e p x) ts ≡ Ok (name p x, ts)
name_alone m e p x ts = by (next e ts).kind
  where
    by : (k : TokenView) → is_mark tk.open_bracket k ≡ false → is_mark tk.prime k ≡ false → named m e p x (next e ts).place k ts ≡ Ok (name p x, ts)
    by (tk.mark tk.open_bracket) f g = (let no : true ≡ false = f in absurd cc)
    by (tk.mark tk.prime) f g = (let no : true ≡ false = g in absurd cc)
    by k f g = refl

pub returns-in-Some-after_mark : goal.returns-in-Some-after_mark
returns-in-Some-after_mark g c =
    let v = c.args.tokens.now in
    let s = c.args.s in
    let x = span_bytes v.bytes.items c.args.word.span in
    let q = (next s.edge (ahead v s.at)).place in
    let made = c.in_ok-whole.ensures in
    record {
      read = record {
        what = primed c.args.word.place x q;
        is = prime_more _ s.left s.edge c.args.word.place x (ahead v s.at) c.in-Some-after_mark.ensures.there _ c.in-Some-after_mark.ensures.rest;
        told = made.read _ q;
      };
      kept = made.kept;
      within = made.within;
      small = grind (arith, made.shape);
      inside = c.in-Some-after_mark.ensures.inside;
      further = omega (arith, c.in-Some-after_mark.ensures.further);
    }

pub returns : goal.returns
returns g c =
    let v = c.args.tokens.now in
    let s = c.args.s in
    let x = span_bytes v.bytes.items c.args.word.span in
    let made = c.in_ok-whole-2.ensures in
    record {
      read = record {
        what = name c.args.word.place x;
        is = name_alone (room s.linked (whole_in s.linked) (Some s.left)) s.edge c.args.word.place x (ahead v s.at) c.in_default.ensures.none c.in_default-after_mark.ensures.none;
        told = made.read _;
      };
      kept = made.kept;
      within = made.within;
      small = grind (arith, made.shape);
      inside = c.requires.given.there;
      further = omega arith;
    }
