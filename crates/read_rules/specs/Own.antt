-- What is of one process alone: the offence of a name, and those of a declaration.
use Rattle.std.specs.Prelude.{List}
use Rattle.tla_token.specs.declared.rule.Rule.TheVariants.{InitSelf}
use Rattle.tla_token.specs.declared.rule.Refusal.{Refusal}
use Rattle.pcal_tree.specs.Algorithm.{Name, Declaration, Process}
use Rattle.pcal_tree.specs.Offences.{offence_if}
use Rattle.pcal_tree.specs.OffencesReads.{of_one_process, own_in_start}

abbrev pub own_name : Process → Name → List Refusal
own_name p n = offence_if (of_one_process p n) InitSelf n.place

abbrev pub own_in_declaration : Process → Declaration → List Refusal
own_in_declaration p d = own_in_start p d.start
