-- Forms over lists: CASE, LET and lists by columns.
use Rattle.std.proofs.Common.{◌≡◌, ℕ, ◌+◌, ◌++◌, Bool, true, List, Some, sym, ap, ◌∙◌}
use Rattle.tla_token.specs.declared.place.Place.{Place}
use Rattle.tla_tree.specs.declared.op.Op.{Op}
use Rattle.tla_tree.specs.Rank.{is_bullet}
use Rattle.tla_tree.specs.Tree.{Name, Tree}
use Rattle.tla_tree.specs.TreeOf.{trees_from}
use Rattle.tla_tree.specs.Pool.{Keeps}
use Rattle.tla_tree.specs.Lexical.{Token}
use Rattle.tla_tree.specs.Lexical as tk
use Rattle.tla_tree.specs.Spelling.{Locals, Bullets, list}
use Rattle.tla_tree.specs.Reader.{then_read, ◌>>=◌, gives, tail, room, keyed, primary, list_if}
use Rattle.tla_tree.specs.Whole.{whole_in}
use Rattle.tla_tree.proofs.Opened.{in_cases, in_local}
use Rattle.tla_tree.proofs.PoolNumbers.{AllBelow-more, map_at-kept}
use Rattle.expr_nodes.specs.declared.make.Read.{Read}
use Rattle.expr_nodes.specs.declared.shape.Boxes.{Boxes}
use Rattle.expr_nodes.specs.ShapeOf.{list_shape}
use Rattle.expr_nodes.specs.ReadIn.{IsIn, AreItems, AreLocals}
use Rattle.expr_rows.specs.HasRead.{cased, defined}
use Rattle.expr_rows.proofs.ReadLinks.{open_at, then_one}

pub case_more : (linked : Bool) (b e : ℕ) (p : Place) (ts us : List Token) (d : ℕ) → d + 1 ≡ b → us ≡ tail ts → keyed (room linked (whole_in linked) (Some b)) e p tk.case_key ts ≡ cased (whole_in linked (Some d)) e p us
case_more linked b e p ts us d l t = open_at d 0 b l (in_cases e p) ts ∙ ap (cased (whole_in linked (Some d)) e p) (sym t)

pub let_more : (linked : Bool) (b e : ℕ) (p : Place) (ts us : List Token) (d : ℕ) → d + 1 ≡ b → us ≡ tail ts → keyed (room linked (whole_in linked) (Some b)) e p tk.let_key ts ≡ defined (whole_in linked (Some d)) e p us
let_more linked b e p ts us d l t = open_at d 0 b l (in_local e p) ts ∙ ap (defined (whole_in linked (Some d)) e p) (sym t)

-- definitions, in a pool that grew
pub locals_kept : {linked : Bool} {old new : List Tree} {xs : List Name} {is : List ℕ} {n : ℕ} {ls : Locals} → Keeps old new → AreLocals linked old xs is n ls → AreLocals linked new xs is n ls
locals_kept {linked} {old} {new} {xs} {is} {n} {ls} k h = record {
  below = AllBelow-more _ _ is k.longer h.below;
  names = h.names;
  sides = (λ us. h.sides us ∙ ap (λ (ts : List Tree). trees_from (ts ++ us)) (sym (map_at-kept old new is k h.below)));
  nesting = h.nesting;
}

-- a list by columns, and then what comes after it
pub list_more : (linked : Bool) (b e : ℕ) (p : Place) (o : Op) (ts : List Token) → is_bullet o ≡ true
    → primary (room linked (whole_in linked) (Some b)) (whole_in linked (Some b)) e p (tk.sign o) ts ≡ then_read (((whole_in linked (Some b)).bullets e o p.col >>= λ bs. gives (list o bs)) ts) (λ a. (whole_in linked (Some b)).postfix e a)
list_more linked b e p o ts h =
    ap (λ (t : Bool). list_if t (whole_in linked (Some b)) e p o ts) h
    ∙ then_one ((whole_in linked (Some b)).bullets e o p.col ts) (λ bs. list o bs) (λ a. (whole_in linked (Some b)).postfix e a)

pub list_in : {linked : Bool} {ts : List Tree} {o : Op} {x : Read} {p : Place} {l : Boxes} {n : ℕ} {bs : Bullets} → AreItems linked ts o x.id p l n bs → x.shape ≡ list_shape o p l n → IsIn linked ts x (list o bs)
list_in {linked} {ts} {o} {x} {p} {l} {n} {bs} h s = record {
  below = h.below;
  tree = h.tree;
  shape = (λ i. list_shape o (h.first i) (h.boxes i) (h.nesting i)) ∙ sym s;
}
