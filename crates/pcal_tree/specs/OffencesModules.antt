-- What the text of an algorithm needs of modules that aren't extended, sets of all strings where none may be, and variables that are declared outside of
-- it ("Specifying Systems", chapter 18 and sections 14.5.3 and 17.5; "A PlusCal User's Manual", sections 3.2 and 3.4).
use Rattle.std.specs.Prelude.{List, [], ◌∷◌, ◌++◌, Bool, false, ◌&&◌, not, codes}
use Rattle.std.specs.List.{flat_map}
use Rattle.tla_token.specs.declared.place.Place.{Place}
use Rattle.tla_token.specs.declared.rule.Rule.TheVariants.{NeedsModule, OutsideVariable, Infinite}
use Rattle.tla_token.specs.declared.rule.Refusal.{Refusal}
use Rattle.tla_token.specs.Signs.{is_among}
use Rattle.tla_tree.specs.Tree.{Word, Form, strings, strict, operator, Tree, node, Trees, no_trees, tree}
use Rattle.tla_value.specs.Outside.{Outside}
use Rattle.tla_value.specs.StandardModules.{sequence_modules, tlc_modules, extends_one, has_operator, is_member, is_last}
use Rattle.pcal_tree.specs.Algorithm.{Statement, print, assert, Procedure, Algorithm}
use Rattle.pcal_tree.specs.Offences.{offence_if}
use Rattle.pcal_tree.specs.Expressions.{all_statements, all_expressions}

-- ---- expressions

abbrev pub sign_offences : List Word → Form → Place → List Refusal
sign_offences extended (strict (operator o)) at = offence_if (not (has_operator extended o)) NeedsModule at
sign_offences extended _ at = []

-- true directly right of \in or \notin
abbrev pub strings_offences : Bool → Form → Place → List Refusal
strings_offences right strings at = offence_if (not right) Infinite at
strings_offences right _ at = []

abbrev mutual
  pub text_offences : List Word → Bool → Tree → List Refusal
  text_offences extended right (node m at ts) = sign_offences extended m at ++ (strings_offences right m at ++ text_offences_in extended (is_member m) ts)

  -- true where the last is directly right of \in or \notin
  pub text_offences_in : List Word → Bool → Trees → List Refusal
  text_offences_in extended right no_trees = []
  text_offences_in extended right (tree t ts) = text_offences extended (right && is_last ts) t ++ text_offences_in extended right ts

-- ---- statements and procedures

abbrev pub statement_needs : List Word → Statement → Place → List Refusal
statement_needs extended (print e) at = offence_if (not (extends_one extended tlc_modules)) NeedsModule at
statement_needs extended (assert e) at = offence_if (not (extends_one extended tlc_modules)) NeedsModule at
statement_needs extended _ at = []

-- the stack is a sequence
abbrev pub procedure_needs : List Word → Procedure → List Refusal
procedure_needs extended p = offence_if (not (extends_one extended sequence_modules)) NeedsModule p.name.place

-- in all texts, also of macros that are never called
abbrev pub module_needs : Algorithm → Outside → List Refusal
module_needs a o =
    flat_map (text_offences o.extended false) (all_expressions a)
    ++ (flat_map (λ st. statement_needs o.extended st.statement st.place) (all_statements a) ++ flat_map (procedure_needs o.extended) a.procedures)

-- ---- outside

abbrev pub outside_variables : Outside → List Refusal
outside_variables o = flat_map (λ u. offence_if (is_among (codes "VARIABLE" ∷ codes "VARIABLES" ∷ []) u.keyword) OutsideVariable u.place) o.opaque
