-- A definition is read exactly if it has a depth.
use Rattle.std.proofs.Common.{true, List, [], ap, sym, ◌∙◌, length}
use Rattle.std.proofs.lemmas.List.{length-map}
use Rattle.tla_tree.specs.Tree.{Name, words}
use Rattle.tla_tree.specs.Pool.{at}
use Rattle.tla_value.specs.DefinitionNesting.{depths}
use Rattle.outside_reading.specs.TreeDepth.{definition_depth}
use Rattle.module_outside.specs.declared.definition.ReadDefinition.{ReadDefinition}
use Rattle.module_outside.specs.OutsideAt.{definition_seen}
use Rattle.module_outside.proofs.DefinitionLaws.{unread, is_read}
use Rattle.module_outside.proofs.definition.if_read.Goals as goal

pub returns-in_ok-define-in-Some-clause-value : goal.returns-in_ok-define-in-Some-clause-value
returns-in_ok-define-in-Some-clause-value c v s =
    (is_read v (definition_seen c.args.pool.now c.args.found) c.in-Some.depth (sym c.in-Some.is ∙ c.in_ok-depth.ensures.depth v s
    ∙ (λ i. definition_depth v (depths [] v.earlier) (record {
      title = (ap (λ (d : ReadDefinition). d.title.word) c.found.view_is) i;
      params = words ((c.deref-params.ensures.value ∙ ap (λ (d : ReadDefinition). d.params.items) c.found.view_is) i);
      body = at c.args.pool.now ((ap (λ (d : ReadDefinition). d.body) c.found.view_is) i);
      outside = true;
    })))).0

pub returns-in_ok-define-in-Some-clause-sees : goal.returns-in_ok-define-in-Some-clause-sees
returns-in_ok-define-in-Some-clause-sees c v s =
    c.in_ok-define-in-Some.ensures v (definition_seen c.args.pool.now c.args.found).definition s (sym (ap (λ (d : ReadDefinition). d.title.word) c.found.view_is))
    (length-map c.args.found.params.items (λ (x : Name). x.word) ∙ ap (λ (xs : List Name). length xs) (sym (c.deref-params.ensures.value ∙ ap (λ (d : ReadDefinition). d.params.items) c.found.view_is)))
    (is_read v (definition_seen c.args.pool.now c.args.found) c.in-Some.depth (sym c.in-Some.is ∙ c.in_ok-depth.ensures.depth v s
    ∙ (λ i. definition_depth v (depths [] v.earlier) (record {
      title = (ap (λ (d : ReadDefinition). d.title.word) c.found.view_is) i;
      params = words ((c.deref-params.ensures.value ∙ ap (λ (d : ReadDefinition). d.params.items) c.found.view_is) i);
      body = at c.args.pool.now ((ap (λ (d : ReadDefinition). d.body) c.found.view_is) i);
      outside = true;
    })))).1

pub returns-in-None-clause-value : goal.returns-in-None-clause-value
returns-in-None-clause-value c v s =
    unread v (definition_seen c.args.pool.now c.args.found) (sym c.in-None.is ∙ c.in_ok-depth.ensures.depth v s
    ∙ (λ i. definition_depth v (depths [] v.earlier) (record {
      title = (ap (λ (d : ReadDefinition). d.title.word) c.found.view_is) i;
      params = words ((c.deref-params.ensures.value ∙ ap (λ (d : ReadDefinition). d.params.items) c.found.view_is) i);
      body = at c.args.pool.now ((ap (λ (d : ReadDefinition). d.body) c.found.view_is) i);
      outside = true;
    })))

pub returns-in_ok-define-in-Some-clause-within : goal.returns-in_ok-define-in-Some-clause-within
returns-in_ok-define-in-Some-clause-within c = c.requires

pub returns-in-None-clause-within : goal.returns-in-None-clause-within
returns-in-None-clause-within c = tt

pub returns-in-None-clause-sees : goal.returns-in-None-clause-sees
returns-in-None-clause-sees c v s = s
