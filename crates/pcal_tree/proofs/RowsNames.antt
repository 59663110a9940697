-- Written names, tried by computation.
use Rattle.std.proofs.Common.{◌≡◌, ℕ, [], ◌∷◌, false, codes, refl, map}
use Rattle.std.specs.Fmt.{digits}
use Rattle.pcal_tree.specs.declared.mark.Fairness.TheVariants.{Unfair}
use Rattle.pcal_tree.specs.Algorithm.{Name, skip, done, Process, processes, Algorithm}
use Rattle.tla_value.specs.Outside.{Outside}
use Rattle.pcal_tree.specs.Names.{give, wanted, kept, naming, first_free}
use Rattle.pcal_tree.proofs.Sample.{title, num, and_next, labelled, variable}

-- process P = e variable i = 0; begin start: skip; end process
abbrev pub counter : Name → ℕ → Process
counter p e = record { name = p; fairness = Unfair; several = false; identity = num e; variables = variable (codes "i") (num 0) ∷ []; body = labelled (codes "start") (and_next skip done) }

abbrev two : Algorithm
two = record { name = title (codes "Two"); fair = false; globals = variable (codes "x") (num 0) ∷ []; definitions = []; macros = []; procedures = []; main = processes (counter (title (codes "A")) 1 ∷ counter (title (codes "B")) 2 ∷ []) }

-- CONSTANT A
abbrev around : Outside
around = record { extended = codes "Naturals" ∷ []; constants = title (codes "A") ∷ []; definitions = []; opaque = [] }

the_names : map (λ g. g.written) (give [] (kept two) (wanted two)) ≡ codes "A" ∷ codes "i" ∷ codes "start" ∷ codes "B" ∷ codes "i_1" ∷ codes "start_1" ∷ []
unfolding digits
the_names = refl

second_variable : (naming two around).local 1 (codes "i") ≡ codes "i_1"
unfolding digits
second_variable = refl

second_label : (naming two around).label 1 (codes "start") ≡ codes "start_1"
unfolding digits
second_label = refl

first_variable : (naming two around).local 0 (codes "i") ≡ codes "i"
first_variable = refl

-- a constant keeps its name
first_title : (naming two around).title 0 ≡ codes "A_1"
unfolding digits
first_title = refl

second_title : (naming two around).title 1 ≡ codes "B"
unfolding digits
second_title = refl

own : first_free [] (codes "Init_1" ∷ []) (codes "Init") ≡ codes "Init_2"
unfolding digits
own = refl

-- WF_1 would be no name
no_fairness : first_free [] (codes "WF" ∷ []) (codes "WF") ≡ codes "WF1"
unfolding digits
no_fairness = refl
