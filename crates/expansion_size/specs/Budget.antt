-- What is left after each part of an algorithm, one after another, with what stands for names in the bodies of macros that are called.
use Rattle.std.specs.Prelude.{ℕ, ◌-◌, nat_lt, false, true, List, [], ◌∷◌, cond, bytes_eq}
use Rattle.tla_token.specs.Limits.{deepest_expression}
use Rattle.tla_tree.specs.Tree.{Graft, graft, grafts}
use Rattle.tla_tree.specs.Nesting.{tree_nesting}
use Rattle.pcal_tree.specs.Algorithm.{Macro}
use Rattle.pcal_tree.specs.OffencesSteps.{called_with}
use Rattle.macro_expand.specs.Measured.{Measure, Calls, of_all}
use Rattle.macro_expand.specs.Size.{nodes, subscript_nodes, left_nesting}
use Rattle.expansion_size.specs.declared.left.Left.{Left}
use Rattle.expansion_size.specs.Spent.{spend}

-- what is left after a part, where statements may nest so deep
abbrev pub After : Type 0
After = ℕ → Left → Left

-- of parts that are so many statements deep
abbrev pub inside : ℕ → After → After
inside k f d l = cond (nat_lt d k) (spend 0 0 true l) (f (d - k) l)

-- with these trees in place of names
abbrev pub budget : Graft → Measure After
budget g = record {
  nothing = λ d l. l;
  both = λ f h d l. h d (f d l);
  expression = λ t d l. spend (nodes (graft g t)) 0 (nat_lt deepest_expression (tree_nesting (graft g t))) l;
  left = λ t d l. spend (subscript_nodes (graft g t)) 0 (nat_lt deepest_expression (left_nesting (graft g t))) (spend 1 0 false l);
  statement = λ f d l. f d (spend 1 0 false l);
  inside = inside;
  label = λ f d l. f d (spend 0 1 false l);
}

-- after a call of a macro, the newest given first, by its body; of no macro, after a statement that can't be taken
abbrev pub calls : List Macro → Graft → Calls After
calls [] g m ts = (budget g).statement ((budget g).inside 1 (budget g).nothing)
calls (o ∷ older) g m ts =
    cond (bytes_eq o.name.word m) (of_all (budget (called_with o.params (grafts g ts) g)) (calls older (called_with o.params (grafts g ts) g)) o.body) (calls older g m ts)
