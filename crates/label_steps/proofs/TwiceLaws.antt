-- What an algorithm's bodies assign twice.
use Rattle.std.proofs.Common.{◌≡◌, List, [], ◌++◌, Option, Some, None, map, sym, ap, ◌∙◌}
use Rattle.std.specs.List.{flat_map}
use Rattle.std.proofs.lemmas.Simd.{map-map}
use Rattle.std.proofs.lemmas.List.{map-append}
use Rattle.tla_token.specs.declared.rule.Refusal.{Refusal}
use Rattle.tla_tree.specs.Tree.{Tree, Word, Trees}
use Rattle.pcal_tree.specs.declared.algorithm.Declaration.{Declaration}
use Rattle.pcal_tree.specs.declared.algorithm.Procedure.{Procedure}
use Rattle.pcal_tree.specs.Algorithm as tree
use Rattle.pcal_tree.specs.InMemory.{declaration_at, procedure_at}
use Rattle.pcal_tree.specs.Offences.{first}
use Rattle.pcal_tree.specs.OffencesSteps.{effects_in, procedure_effects, outer_effects}
use Rattle.pcal_tree.specs.Paths.{Effect}
use Rattle.pcal_tree.specs.Variables.{declared}
use Rattle.pcal_tree.specs.laws.MacroSummaries.{Summary, summary_effect}
use Rattle.algorithm_answer.specs.Joined.{joined}
use Rattle.algorithm_answer.proofs.Joins.{first_append}
use Rattle.label_steps.specs.declared.around.Around.{Around}
use Rattle.label_steps.specs.AroundIn.{effects_around, names_of}
use Rattle.label_steps.specs.StraightPaths.{straight_twice, straight_in_main, straight_offences}

declared_at : (ts : List Tree) (ds : List Declaration) → declared (map (declaration_at ts) ds) ≡ names_of ds
declared_at ts ds = map-map _ _ ds

own_at : (ts : List Tree) (ps vs : List Declaration) → declared (map (declaration_at ts) ps ++ map (declaration_at ts) vs) ≡ names_of ps ++ names_of vs
own_at ts ps vs = map-append (λ (d : tree.Declaration). d.name.word) (map (declaration_at ts) ps) (map (declaration_at ts) vs) ∙ (λ i. declared_at ts ps i ++ declared_at ts vs i)

-- in a procedure
pub in_procedure : (a : Around) (ms : List Summary) (ts : List Tree) (p : Procedure) → a.name ≡ Some p.name → a.own.items ≡ names_of p.params.items ++ names_of p.variables.items
    → effects_around a ms ≡ procedure_effects (summary_effect ms) (procedure_at ts p)
in_procedure a ms ts p n o = λ i. effects_in (summary_effect ms) (n i) ((o ∙ sym (own_at ts p.params.items p.variables.items)) i)

-- outside procedures
pub outside : (a : Around) (ms : List Summary) → a.name ≡ None → a.own.items ≡ [] → effects_around a ms ≡ outer_effects (summary_effect ms)
outside a ms n o = λ i. effects_in (summary_effect ms) (n i) (o i)

pub both_twice : (C : Word → Trees → Effect) (a : tree.Algorithm) (p r : Option Refusal)
    → p ≡ joined None (first (flat_map (λ (q : tree.Procedure). straight_twice (procedure_effects C q) (Some []) q.body) a.procedures)) → r ≡ joined p (first (straight_in_main C a.main)) → r ≡ first (straight_offences C a)
both_twice C a p r h k =
    k ∙ ap (λ (o : Option Refusal). joined o (first (straight_in_main C a.main))) h
    ∙ sym (first_append (flat_map (λ (q : tree.Procedure). straight_twice (procedure_effects C q) (Some []) q.body) a.procedures) (straight_in_main C a.main))
