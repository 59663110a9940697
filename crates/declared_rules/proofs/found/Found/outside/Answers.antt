-- Proves that what is outside is looked at.
use Rattle.std.proofs.Common.{List, map, ap}
use Rattle.std.specs.List.{flat_map}
use Rattle.module_outside.specs.declared.passed.Passed.{Passed}
use Rattle.module_outside.specs.declared.definition.ReadDefinition.{ReadDefinition}
use Rattle.module_outside.specs.Passing.{passed_seen}
use Rattle.tla_tree.specs.Tree.{Name}
use Rattle.declared_rules.specs.Finding.{parts_offences}
use Rattle.declared_rules.specs.Titles.{constant_parts, read_parts, unit_offences}
use Rattle.declared_rules.proofs.JoinLaws.{joins_as}
use Rattle.declared_rules.proofs.TitleLaws.{outside_joined}
use Rattle.declared_rules.proofs.found.Found.outside.Goals as goal

pub returns : goal.returns
returns c = λ ts.
    outside_joined ts c.args.self.now c.constants.new.self c.read_titles.new.self c.units.new.self c.args.outside.now
    (joins_as ts c.args.self.now c.constants.new.self _ _ (ap (λ (ns : List Name). parts_offences c.args.self.now.modules (flat_map constant_parts ns)) c.deref.ensures.value) (c.constants.ensures ts).joins)
    (joins_as ts c.constants.new.self c.read_titles.new.self _ _ (ap (λ (ds : List ReadDefinition). parts_offences c.constants.new.self.modules (flat_map read_parts ds)) c.deref-2.ensures.value) (c.read_titles.ensures ts).joins)
    (joins_as ts c.read_titles.new.self c.units.new.self _ _ (ap (λ (us : List Passed). flat_map unit_offences (map passed_seen us)) c.deref-3.ensures.value) (c.units.ensures ts))
