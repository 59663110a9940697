-- Macros that assign a name which is the parameter of the macro that calls them: the rule on assigning twice sees that what is assigned is its argument.
use Rattle.std.proofs.Common.{◌≡◌, [], ◌∷◌, reverse, false, codes, inl, refl}
use Rattle.module_tree.specs.Formulas.{named}
use Rattle.tla_token.specs.declared.rule.Rule.TheVariants.{AssignTwice}
use Rattle.tla_tree.specs.Tree.{no_trees, tree}
use Rattle.pcal_tree.specs.Algorithm.{nowhere, macro, Macro, Statements, alone, alone_routine, Algorithm}
use Rattle.pcal_tree.specs.Expand.{expanded}
use Rattle.pcal_tree.specs.OffencesLabels.{label_offences}
use Rattle.pcal_tree.specs.Offences.{offence}
use Rattle.pcal_tree.specs.OffencesOfNames.{name_offences}
use Rattle.translation.specs.laws.AcceptedAlgorithm.{EachAssignsOnce}
use Rattle.translation.specs.laws.StepsOnce.{none_set, SetsOnce}
use Rattle.translation.proofs.Trees.{word, x, z, num, and_next, just, sets, both, labelled, zero_of, integers}

-- macro Inner() begin x := 1 || z := 2
abbrev inner : Macro
inner = record { name = word (codes "Inner"); params = []; body = just (both (named x) (num 1) (named z) (num 2)) }

-- macro Outer(x) begin Inner()
abbrev outer : Macro
outer = record { name = word (codes "Outer"); params = word x ∷ []; body = just (macro (codes "Inner") no_trees) }

-- A: Outer(z), which is z := 1 || z := 2
abbrev body : Statements
body = labelled (codes "A") (just (macro (codes "Outer") (tree (named z) no_trees)))

abbrev sample : Algorithm
sample = record { name = word (codes "R"); fair = false; globals = zero_of z ∷ []; definitions = []; macros = inner ∷ outer ∷ []; procedures = []; main = alone body }

no_rule_on_names : name_offences sample integers ≡ []
no_rule_on_names = refl

seen_at_the_call : label_offences sample ≡ offence AssignTwice nowhere
seen_at_the_call = refl

assigned_twice : EachAssignsOnce sample → ⊥
assigned_twice h = (let e = (h (alone_routine sample body) (inl refl)).0 in absurd cc)

-- macro Inner() begin x := 1;  A: Outer(z); z := 2, which is z := 1; z := 2 with no label between
abbrev in_turn : Algorithm
in_turn = record {
  name = word (codes "R");
  fair = false;
  globals = zero_of z ∷ [];
  definitions = [];
  macros = record { name = word (codes "Inner"); params = []; body = just (sets x (num 1)) } ∷ outer ∷ [];
  procedures = [];
  main = alone (labelled (codes "A") (and_next (macro (codes "Outer") (tree (named z) no_trees)) (just (sets z (num 2)))));
}

seen_in_turn : label_offences in_turn ≡ offence AssignTwice nowhere
seen_in_turn = refl

written_in_turn : expanded (reverse in_turn.macros) (labelled (codes "A") (and_next (macro (codes "Outer") (tree (named z) no_trees)) (just (sets z (num 2))))) ≡ labelled (codes "A") (and_next (sets z (num 1)) (just (sets z (num 2))))
written_in_turn = refl

again_in_the_step : SetsOnce none_set (expanded (reverse in_turn.macros) (labelled (codes "A") (and_next (macro (codes "Outer") (tree (named z) no_trees)) (just (sets z (num 2)))))) → ⊥
again_in_the_step h = (let e = h.1.0 z refl in absurd cc)
