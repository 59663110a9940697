-- What is written for statements that have no statements in them and end no step.
use Rattle.std.proofs.Common.{◌≡◌, List, [], ◌++◌, Option, Some, None, refl, sym, ap, ◌∙◌}
use Rattle.tla_token.specs.Signs.{is_among}
use Rattle.tla_token.specs.declared.place.Place.{Place}
use Rattle.tla_tree.specs.Tree.{Word, Tree, Graft}
use Rattle.module_tree.specs.Module.{test, no_items, item}
use Rattle.module_write.specs.declared.«module».Item.{Item}
use Rattle.module_write.specs.InMemory.{items_at}
use Rattle.pcal_tree.specs.Algorithm.{Span, Statement, assign, await, print, assert, skip, branch, either, with, while, goto, macro, call, return, Statements, done, then, mark}
use Rattle.pcal_tree.specs.Expand.{graft_all}
use Rattle.pcal_tree.specs.Run.{label_of, partner_of}
use Rattle.pcal_tree.specs.Program.{Program}
use Rattle.pcal_tree.specs.Variables.{vars}
use Rattle.name_bits.specs.declared.bits.Bits.{Bits}
use Rattle.name_bits.specs.NamesIn.{names_in}
use Rattle.action_builder.specs.Assigned.{assigned}
use Rattle.action_builder.specs.Written.{onto, print_of, assert_of, true_at, write_one}
use Rattle.right_sides.specs.After.{put_one, put_items}
use Rattle.step_items.specs.Writing.{Writes}

pub print_put : (y : Word) (x : Option Tree) (p : Place) (e : Tree) → put_items y x (item (test (print_of p e)) no_items) ≡ item (test (print_of p (put_one y x e))) no_items
print_put y None p e = refl
print_put y (Some t) p e = refl

pub assert_put : (y : Word) (x : Option Tree) (p : Place) (e : Tree) → put_items y x (item (test (assert_of p e)) no_items) ≡ item (test (assert_of p (put_one y x e))) no_items
assert_put y None p e = refl
assert_put y (Some t) p e = refl

pub true_put : (y : Word) (x : Option Tree) (p : Place) → put_items y x (item (test (true_at p)) no_items) ≡ item (test (true_at p)) no_items
true_put y None p = refl
true_put y (Some t) p = refl

-- one test for a statement that assigns nothing; t: with what is put in
pub writes_test : (P : Program) (y : Word) (x : Option Tree) (ts us : List Tree) (before after : List Item) (earlier none : Bits) (s : Span) (st : Statement) (e t : Tree)
    → write_one (vars P) (is_among (names_in (vars P) earlier)) s.first st no_items ≡ item (test e) no_items → assigned st ≡ [] → names_in (vars P) none ≡ [] → put_items y x (item (test e) no_items) ≡ item (test t) no_items
    → items_at us after ≡ onto (items_at ts before) (item (test t) no_items) → Writes P (put_items y x) ts us before after earlier none (then s st done)
writes_test P y x ts us before after earlier none s st e t one nothing empty put items = record {
  items = items ∙ ap (onto (items_at ts before)) (sym (ap (put_items y x) one ∙ put));
  names = λ z. ap (λ (xs : List Word). is_among xs z) empty ∙ ap (λ (xs : List Word). is_among (xs ++ []) z) (sym nothing);
}

-- ---- what follows

pub label_put : (g : Graft) (ss : Statements) (l : Word) → label_of (graft_all g ss) l ≡ label_of ss l
label_put g done l = refl
label_put g (then at st rest) l = refl
label_put g (mark m k rest) l = refl

pub partner_put : (g : Graft) (ss : Statements) → partner_of (graft_all g ss) ≡ partner_of ss
partner_put g done = refl
partner_put g (then at (assign ms) rest) = refl
partner_put g (then at (await e) rest) = refl
partner_put g (then at (print e) rest) = refl
partner_put g (then at (assert e) rest) = refl
partner_put g (then at skip rest) = refl
partner_put g (then at (branch e a b) rest) = refl
partner_put g (then at (either bs) rest) = refl
partner_put g (then at (with bs b) rest) = refl
partner_put g (then at (while e b) rest) = refl
partner_put g (then at (goto l) rest) = refl
partner_put g (then at (macro m ts) rest) = refl
partner_put g (then at (call p ts) rest) = refl
partner_put g (then at return rest) = refl
partner_put g (mark m k rest) = refl
