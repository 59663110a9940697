-- Algorithms in which what is computed once for each macro finds other uses of definitions than there are, and by which rule all are refused, tried by computation.
use Rattle.std.proofs.Common.{◌≡◌, List, [], ◌∷◌, Option, Some, codes, refl}
use Rattle.tla_token.specs.declared.rule.Rule.TheVariants.{Rebind, Reserved, DefinedStale}
use Rattle.tla_token.specs.declared.rule.Refusal.{Refusal}
use Rattle.tla_tree.specs.Tree.{no_trees}
use Rattle.pcal_tree.specs.Algorithm.{no_binds, is, await, with, macro, done, Macro, alone, processes, Algorithm}
use Rattle.pcal_tree.specs.Offences.{first}
use Rattle.pcal_tree.specs.OffencesOfNames.{name_offences_by, name_offences}
use Rattle.pcal_tree.specs.OffencesStale.{stale_offences}
use Rattle.pcal_tree.specs.laws.OffencesOnce.{once_for_each_macro}
use Rattle.pcal_tree.proofs.Sample.{at, title, num, labelled}
use Rattle.pcal_tree.proofs.RowsOffences.{stands, read, named}
use Rattle.pcal_tree.proofs.RowsReads.{D, E}
use Rattle.pcal_tree.proofs.RowsSelf.{nothing_outside}
use Rattle.pcal_tree.proofs.RowsStale.{whole, x_set, awaits, stale, M, N, calls, process, binds_it}

abbrev stale_by_macros : Algorithm → List Refusal
stale_by_macros a = (once_for_each_macro a nothing_outside).stale

-- the one by which the algorithm is refused
abbrev at_each_call : Algorithm → Option Refusal
at_each_call a = first (name_offences a nothing_outside)

abbrev at_each_macro : Algorithm → Option Refusal
at_each_macro a = first (name_offences_by (once_for_each_macro a nothing_outside) a nothing_outside)

-- ---- the name of a definition is bound

-- macro B() begin x := 1; with D = 0 do await D end with; end macro, and B()
uses_none : stale_offences binds_it ≡ []
uses_none = refl

uses_one_by_macros : stale_by_macros binds_it ≡ stale 13
uses_one_by_macros = refl

bound_again : at_each_call binds_it ≡ Some (record { rule = Rebind; place = at 11 })
bound_again = refl

bound_again_by_macros : at_each_macro binds_it ≡ Some (record { rule = Rebind; place = at 11 })
bound_again_by_macros = refl

-- ---- `self` is bound

-- macro W() begin x := 1; with self = 0 do await self end with; end macro, and process P = D begin A: W(); end process
abbrev W : Macro
W = record { name = title (codes "W"); params = []; body = x_set (stands 5 (with (is (named 6 (codes "self")) (num 0) no_binds) (stands 7 (await (read 8 (codes "self"))) done)) done) }

abbrev binds_self : Algorithm
binds_self = whole (W ∷ []) [] (processes (process (read 9 D) (stands 30 (macro (codes "W") no_trees) done) ∷ []))

uses_no_self : stale_offences binds_self ≡ []
uses_no_self = refl

uses_self_by_macros : stale_by_macros binds_self ≡ stale 9
uses_self_by_macros = refl

self_reserved : at_each_call binds_self ≡ Some (record { rule = Reserved; place = at 6 })
self_reserved = refl

self_reserved_by_macros : at_each_macro binds_self ≡ Some (record { rule = Reserved; place = at 6 })
self_reserved_by_macros = refl

-- ---- a macro's parameter has the name of a definition

-- macro V(D) begin x := 1; await D; end macro, and V(0): the parameter is no use of the definition either way
abbrev named_so : Algorithm
named_so =
    whole (record { name = title (codes "V"); params = named 8 D ∷ []; body = x_set (awaits (read 13 D)) } ∷ []) [] (alone (labelled (codes "A") (calls (codes "V") (num 0) done)))

parameter_is_no_use : stale_offences named_so ≡ []
parameter_is_no_use = refl

parameter_is_no_use_by_macros : stale_by_macros named_so ≡ []
parameter_is_no_use_by_macros = refl

parameter_bound_again : at_each_macro named_so ≡ Some (record { rule = Rebind; place = at 8 })
parameter_bound_again = refl

-- ---- nothing is bound that a definition has

-- N(E)
abbrev calls_N : Algorithm
calls_N = whole (M ∷ N ∷ []) [] (alone (labelled (codes "A") (calls (codes "N") (read 31 E) done)))

refused_at_the_first : at_each_call calls_N ≡ Some (record { rule = DefinedStale; place = at 13 })
refused_at_the_first = refl

refused_at_the_first_by_macros : at_each_macro calls_N ≡ Some (record { rule = DefinedStale; place = at 13 })
refused_at_the_first_by_macros = refl
