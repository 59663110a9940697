-- `self` where no process is ("A PlusCal User's Manual", section 3.3, on processes and their identifiers).
use Rattle.std.specs.Prelude.{List, [], ◌∷◌, ◌++◌, reverse, filter, not, cond, bytes_eq, codes}
use Rattle.std.specs.List.{flat_map}
use Rattle.tla_token.specs.declared.rule.Rule.TheVariants.{SelfOutside}
use Rattle.tla_token.specs.declared.rule.Refusal.{Refusal}
use Rattle.tla_token.specs.Signs.{is_among}
use Rattle.tla_tree.specs.Tree.{Word, words}
use Rattle.pcal_tree.specs.Algorithm.{Name, Declaration, Macro, Procedure, Main, alone, processes, Algorithm}
use Rattle.pcal_tree.specs.Offences.{offence_if}
use Rattle.pcal_tree.specs.OffencesCounts.{calls_of}
use Rattle.pcal_tree.specs.Reads.{used, initial}
use Rattle.pcal_tree.specs.Spots.{used_in_body}

abbrev pub self_offence : Name → List Refusal
self_offence n = offence_if (bytes_eq (codes "self") n.word) SelfOutside n.place

abbrev pub selves : List Name → List Refusal
selves ns = flat_map self_offence ns

abbrev pub used_by_starts : List Declaration → List Name
used_by_starts ds = flat_map (λ d. flat_map (λ e. used e []) (initial d.start)) ds

-- ---- macros

abbrev pub without : Word → List Word → List Word
without x ms = filter (λ m. not (bytes_eq x m)) ms

-- those that the calls reach, also through others; the newest first, and each calls older ones
abbrev pub reached : List Word → List Macro → List Macro
reached calls [] = []
reached calls (d ∷ older) =
    cond (is_among calls d.name.word) (d ∷ reached (calls_of d.body ++ without d.name.word calls) older) (reached calls older)

abbrev pub used_in_macros : List Macro → List Name
used_in_macros ds = flat_map (λ d. used_in_body d.body) ds

-- ---- algorithms

abbrev pub used_by_procedure : Procedure → List Name
used_by_procedure p = used_by_starts (p.params ++ p.variables) ++ used_in_body p.body

-- in a uniprocess algorithm nothing is in a process; in one with processes their heads are not
abbrev pub used_outside : Algorithm → Main → List Name
used_outside a (alone b) =
    flat_map used_by_procedure a.procedures
    ++ (used_in_body b ++ used_in_macros (reached (flat_map (λ p. calls_of p.body) a.procedures ++ calls_of b) (reverse a.macros)))
used_outside a (processes ps) = flat_map (λ p. used p.identity []) ps

-- in initial values of globals, and in definitions
abbrev pub used_at_the_top : Algorithm → List Name
used_at_the_top a = used_by_starts a.globals ++ flat_map (λ d. used d.body (words d.params)) a.definitions

abbrev pub self_offences : Algorithm → List Refusal
self_offences a = selves (used_at_the_top a ++ used_outside a a.main)
