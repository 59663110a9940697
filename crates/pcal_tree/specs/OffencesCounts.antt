-- More variables, processes, procedures or labels than the limits allow, chains of macros that are too long, and definitions that nest too deep with
-- the bodies of others in place of their names ("A PlusCal User's Manual", sections 3.3 to 3.7, processes, procedures, macros, definitions and labels).
use Rattle.std.specs.Prelude.{ℕ, ◌+◌, max, nat_lt, List, [], ◌∷◌, ◌++◌, drop, map, cond, bytes_eq}
use Rattle.std.specs.List.{flat_map}
use Rattle.tla_token.specs.declared.rule.Rule.TheVariants.{TooMany}
use Rattle.tla_token.specs.declared.rule.Refusal.{Refusal}
use Rattle.tla_token.specs.Limits.{most_variables, most_processes, most_procedures, most_labels, longest_chain, deepest_definition}
use Rattle.tla_tree.specs.Tree.{Word}
use Rattle.tla_value.specs.DefinitionNesting.{Depths, definition_nests, depths}
use Rattle.pcal_tree.specs.Algorithm.{Name, Statement, branch, either, with, while, macro, Statements, done, then, mark, Branches, no_branches, or, Definition, Macro, Algorithm, routines, locals}
use Rattle.pcal_tree.specs.Program.{inner}
use Rattle.pcal_tree.specs.Offences.{offence, offence_if}
use Rattle.pcal_tree.specs.OffencesNames.{names_of, process_names}
use Rattle.pcal_tree.specs.OffencesLabels.{all_labels}

-- ---- names that are counted, each list in the order of the text

-- parameters of procedures are among them
abbrev pub variable_names : Algorithm → List Name
variable_names a = names_of a.globals ++ flat_map (λ u. names_of (locals u)) (routines a)

abbrev pub procedure_names : Algorithm → List Name
procedure_names a = map (λ p. p.name) a.procedures

-- the labels of macros too, which other rules refuse
abbrev pub all_label_names : Algorithm → List Name
all_label_names a = map (λ l. l.name) (all_labels a)

abbrev pub at_first_name : List Name → List Refusal
at_first_name [] = []
at_first_name (x ∷ more) = offence TooMany x.place

-- the first one past a limit
abbrev pub first_past : ℕ → List Name → List Refusal
first_past n xs = at_first_name (drop n xs)

-- ---- chains of macros

-- the macros that statements call
abbrev mutual
  pub calls_in : Statement → List Word
  calls_in (macro m ts) = m ∷ []
  calls_in (branch e a b) = calls_of a ++ calls_of b
  calls_in (either bs) = calls_of_some bs
  calls_in (with bs b) = calls_of b
  calls_in (while e b) = calls_of b
  calls_in _ = []

  pub calls_of : Statements → List Word
  calls_of done = []
  calls_of (then at st rest) = calls_in st ++ calls_of rest
  calls_of (mark l k rest) = calls_of rest

  pub calls_of_some : Branches → List Word
  calls_of_some no_branches = []
  calls_of_some (or b bs) = calls_of b ++ calls_of_some bs

-- macros, each with the length of the longest chain that ends with it, the latest first
abbrev pub Chains : Type 0
Chains = List (Word × ℕ)

abbrev pub chain_of : Chains → Word → ℕ
chain_of [] m = 0
chain_of (c ∷ cs) m = cond (bytes_eq c.0 m) c.1 (chain_of cs m)

abbrev pub longest : Chains → List Word → ℕ
longest cs [] = 0
longest cs (m ∷ ms) = max (chain_of cs m) (longest cs ms)

-- of a macro that calls some of those before it
abbrev pub chain_to : Chains → Macro → ℕ
chain_to cs d = 1 + longest cs (calls_of d.body)

abbrev pub long_chains : Chains → List Macro → List Refusal
long_chains cs [] = []
long_chains cs (d ∷ ds) = offence_if (nat_lt longest_chain (chain_to cs d)) TooMany d.name.place ++ long_chains ((d.name.word, chain_to cs d) ∷ cs) ds

-- ---- definitions

abbrev pub deep_definitions : Depths → List Definition → List Refusal
deep_definitions ds [] = []
deep_definitions ds (e ∷ es) =
    offence_if (nat_lt deepest_definition (definition_nests ds (inner e))) TooMany e.name.place ++ deep_definitions (depths ds (inner e ∷ [])) es

-- ---- all of them, in an algorithm that is spelled

abbrev pub count_offences : Algorithm → List Refusal
count_offences a =
    first_past most_variables (variable_names a)
    ++ (first_past most_processes (process_names a.main)
    ++ (first_past most_procedures (procedure_names a)
    ++ (first_past most_labels (all_label_names a)
    ++ (long_chains [] a.macros ++ deep_definitions [] a.definitions))))
