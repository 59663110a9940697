-- ProcSet as it is written: the sets of the processes, each an operand, with \cup between them and no brackets round two of them.
use Rattle.std.proofs.Common.{◌≡◌, ℕ, zero, suc, ◌+◌, Bool, true, false, List, [], ◌∷◌, ◌++◌, None, refl, sym, ap, ◌∙◌, append_assoc, append-nil, codes}
use Rattle.std.specs.List.{AllByRecursion}
use Rattle.tla_token.specs.declared.place.Place.{Place}
use Rattle.tla_token.specs.Places.{nowhere, after}
use Rattle.tla_tree.specs.declared.op.Op.TheVariants as op
use Rattle.tla_tree.specs.Tree.{strict, operator, Tree, node, no_trees, tree}
use Rattle.tla_tree.specs.Lexical.{Token}
use Rattle.tla_tree.specs.Lexical as tk
use Rattle.tla_tree.specs.Spelling.{Phrase, infix_of, prefix_of, Right, Good, spell, tree_of, head, primary, is_open, end_list, ends_open, can_be_left, can_be_right}
use Rattle.tla_tree.specs.laws.Writable.{IsWritable}
use Rattle.tla_tree.specs.laws.InText.{ends_word}
use Rattle.tla_tree.specs.laws.Placeless.{tree_placeless}
use Rattle.tla_tree.proofs.SpelledTokens.{sign_spelled}
use Rattle.tla_token.specs.Tokens.{text_of}
use Rattle.module_tree.specs.Formulas.{process_set}
use Rattle.module_tree.specs.FileUnits.{cut}
use Rattle.module_tree.specs.Module.{process_set_unit}
use Rattle.module_tree.specs.ExprText.{operand}
use Rattle.module_tree.specs.Grammar.{Tokens, see}
use Rattle.module_tree.specs.Layout.{union_text, sets_text}
use Rattle.module_tree.specs.Units.{process_set_form}
use Rattle.module_tree.specs.Ways.{split_cup, sets_in}
use Rattle.module_tree.proofs.Chunks.{put, Chunk, join, nothing, narrowed, over}
use Rattle.module_tree.proofs.ExprChunks.{expr_at}
use Rattle.module_tree.proofs.LineChunks.{spaced_sign}
use Rattle.module_tree.proofs.UnitChunks.{onward, first_line, title_at}
use Rattle.module_tree.proofs.UnitForms.{UnitAt, defined}

-- ---- sets joined from the left

abbrev cup : Tree → Tree → Tree
cup a b = node (strict (operator op.Cup)) nowhere (tree a (tree b no_trees))

-- a tree, and then each of these with \cup
abbrev grow : Tree → List Tree → Tree
grow t [] = t
grow t (d ∷ ds) = grow (cup t d) ds

grow_placeless : (ds : List Tree) (t u : Tree) → tree_placeless t ≡ tree_placeless u → tree_placeless (grow t ds) ≡ tree_placeless (grow u ds)
grow_placeless [] t u e = e
grow_placeless (d ∷ ds) t u e = grow_placeless ds (cup t d) (cup u d) (λ i. node (strict (operator op.Cup)) nowhere (tree (e i) (tree (tree_placeless d) no_trees)))

abbrev joined : List Tree → Tree
joined [] = process_set
joined (e ∷ es) = grow e es

-- what was split off, joined again
split_joined : (n : ℕ) (e : Tree) (es : List Tree) → tree_placeless (joined (split_cup n e es)) ≡ tree_placeless (grow e es)
split_joined (suc n) (node (strict (operator op.Cup)) at (tree a (tree b no_trees))) es =
    split_joined n a (b ∷ es) ∙ grow_placeless es (cup a b) (node (strict (operator op.Cup)) at (tree a (tree b no_trees))) refl
split_joined n e es = refl

sets_joined : (n : ℕ) (e : Tree) → tree_placeless (joined (sets_in n e)) ≡ tree_placeless e
sets_joined zero e = refl
sets_joined (suc n) e = split_joined n e []

-- ---- what may stand before \cup

abbrev Leads : Phrase → Type 0
Leads a = (p : Place) → can_be_left a p op.Cup ≡ true

closed : (a : Phrase) → head a ≡ primary → ends_open a ≡ false
closed (infix_of a p o b) h = absurd cc
closed (prefix_of p o a) h = absurd cc
closed a h = ap is_open h

primary_leads : (a : Phrase) → head a ≡ primary → end_list a ≡ None → Leads a
primary_leads a h n p = rw (h, closed a h, n) refl

union_leads : (a b : Phrase) (p : Place) → head b ≡ primary → end_list b ≡ None → Leads (infix_of a p op.Cup b)
union_leads a b p h n q = rw (closed b h, n) refl

-- ---- more sets

abbrev more_text : List Tree → List ℕ
more_text [] = []
more_text (d ∷ ds) = (codes " \\cup " ++ operand d) ++ more_text ds

union_more : (e : Tree) (es : List Tree) → union_text (e ∷ es) ≡ operand e ++ more_text es
union_more e [] = sym (append-nil (operand e))
union_more e (d ∷ es) = ap (λ (w : List ℕ). (operand e ++ codes " \\cup ") ++ w) (union_more d es) ∙ append_assoc (operand e) (codes " \\cup ") (operand d ++ more_text es) ∙ ap (λ (w : List ℕ). operand e ++ w) (sym (append_assoc (codes " \\cup ") (operand d) (more_text es)))

record MoreAt (l : Phrase) (ds : List Tree) (p : Place) : Type 0 where
  phrase : Phrase
  good : Good 1 phrase
  tree : tree_placeless (tree_of phrase) ≡ tree_placeless (grow (tree_of l) ds)
  tokens : Tokens
  spelled : (r : List Token) → spell l (tokens r) ≡ spell phrase r
  end : Place
  chunk : Chunk ends_word p (more_text ds) tokens end

more_at : (l : Phrase) (ds : List Tree) → AllByRecursion IsWritable ds → Good 1 l → Leads l → (p : Place) → Right 1 p → MoreAt l ds p
more_at l [] h g f p r = record { phrase = l; good = g; tree = refl; tokens = λ r. r; spelled = λ r. refl; end = p; chunk = narrowed ends_word (nothing p) }
more_at l (d ∷ ds) h g f p r =
    let q = after p (codes " ") in
    let rq = over 1 p (codes " ") r refl in
    let s = after (after q (codes "\\cup")) (codes " ") in
    let rs = over 1 (after q (codes "\\cup")) (codes " ") (over 1 q (codes "\\cup") rq refl) refl in
    let a = expr_at 0 true d h.0 s rs in
    let m = infix_of l q op.Cup a.phrase in
    let primary_right : can_be_right op.Cup a.phrase ≡ true = rw (a.operand refl) refl in
    let x = more_at m ds h.1 (refl, f q, primary_right, g, rq, a.good) (union_leads l a.phrase q (a.operand refl) a.unended) a.end a.right in
    record {
      phrase = x.phrase;
      good = x.good;
      tree = x.tree ∙ grow_placeless ds (tree_of m) (cup (tree_of l) d) (λ i. node (strict (operator op.Cup)) nowhere (tree (tree_placeless (tree_of l)) (tree (a.tree i) no_trees)));
      tokens = λ r. see q (tk.sign op.Cup) (spell a.phrase (x.tokens r));
      spelled = λ r. x.spelled r;
      end = x.end;
      chunk = join (join (spaced_sign p op.Cup (sign_spelled op.Cup)) a.chunk (λ y e. refl)) x.chunk (λ y e. more_ends ds y e);
    }
  where
    more_ends : (ds : List Tree) (y : List ℕ) → ends_word y ≡ true → ends_word (more_text ds ++ y) ≡ true
    more_ends [] y e = e
    more_ends (d ∷ ds) y e = refl

-- ---- all of them

record SetsAt (es : List Tree) (p : Place) : Type 0 where
  phrase : Phrase
  good : Good 1 phrase
  tree : tree_placeless (tree_of phrase) ≡ tree_placeless (joined es)
  end : Place
  chunk : Chunk ends_word p (sets_text es) (spell phrase) end

-- the same of an equal text and of equal tokens
as_written : {need : List ℕ → Bool} {p q : Place} {v w : List ℕ} {s u : Tokens} → v ≡ w → ((r : List Token) → s r ≡ u r) → Chunk need p v s q → Chunk need p w u q
as_written {v = v} {w = w} {s = s} {u = u} e f c = record {
  pieces = c.pieces;
  bytes = λ r. c.bytes r ∙ ap (λ (x : List ℕ). x ++ text_of r) e;
  fine = c.fine;
  seen = λ r. c.seen r ∙ f _;
  passes = λ r. ap cut (sym (f r)) ∙ c.passes r ∙ ap (λ (ts : List Token). record { front = ts; units = (cut r).units }) (f (cut r).front);
}

abbrev HasSet : List Tree → Type 0
HasSet [] = ⊥
HasSet (e ∷ es) = Unit {0}

sets_at : (es : List Tree) → HasSet es → AllByRecursion IsWritable es → (p : Place) → Right 1 p → SetsAt es p
sets_at [] n h p r = absurd n
sets_at (e ∷ []) n h p r = (let a = expr_at 0 false e h.0 p r in record { phrase = a.phrase; good = a.good; tree = a.tree; end = a.end; chunk = a.chunk })
sets_at (e ∷ d ∷ es) n h p r =
    let a = expr_at 0 true e h.0 p r in
    let x = more_at a.phrase (d ∷ es) h.1 a.good (primary_leads a.phrase (a.operand refl) a.unended) a.end a.right in
    record {
      phrase = x.phrase;
      good = x.good;
      tree = x.tree ∙ grow_placeless (d ∷ es) (tree_of a.phrase) e a.tree;
      end = x.end;
      chunk = as_written (sym (union_more e (d ∷ es))) x.spelled (join a.chunk x.chunk (λ y i. refl));
    }

split_some : (n : ℕ) (e : Tree) (es : List Tree) → HasSet (split_cup n e es)
split_some (suc n) (node (strict (operator op.Cup)) at (tree a (tree b no_trees))) es = split_some n a (b ∷ es)
split_some n e es = tt

sets_some : (n : ℕ) (e : Tree) → HasSet (sets_in n e)
sets_some zero e = tt
sets_some (suc n) e = split_some n e []

pub process_set_at : (n h : ℕ) (e : Tree) → AllByRecursion IsWritable (sets_in h e) → UnitAt process_set_unit tree_placeless n h e
process_set_at n h e v =
    let x = sets_at (sets_in h e) (sets_some h e) v (put n 12) refl in
    record {
      form = process_set_form (put n 1) (put n 9) x.phrase;
      good = (refl, x.good);
      new = tree_of x.phrase;
      is = refl;
      same = x.tree ∙ sets_joined h e;
      next = x.end.line + 1;
      start = first_line (onward (onward (title_at n (codes "ProcSet") ((refl, refl), refl)) (defined (put n 8)) (λ y e. refl)) x.chunk (λ y e. refl)) (λ y. refl);
    }
