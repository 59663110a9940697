-- Worked examples of names that are given and looked up, by computation.
use Rattle.std.proofs.Common.{◌≡◌, [], ◌∷◌, refl}
use Rattle.std.specs.Fmt.{digits}
use Rattle.std.specs.Prelude.{Some, None, codes}
use Rattle.written_names.specs.declared.naming.UnitNames.{UnitNames}
use Rattle.written_names.specs.Giving.{first_named}
use Rattle.written_names.specs.Units.{no_names, naming_of}

-- the first that wants a name that is free has it, and the next words go by numbers that are free
free : first_named [] (codes "b" ∷ codes "b_1" ∷ []) (codes "a" ∷ codes "b" ∷ []) (codes "a") ≡ Some (codes "a")
free = refl

numbered : first_named [] (codes "b" ∷ codes "b_1" ∷ []) (codes "a" ∷ codes "b" ∷ []) (codes "b") ≡ Some (codes "b_2")
unfolding digits
numbered = refl

-- what a word gets the second time is not looked up
once : first_named [] [] (codes "a" ∷ codes "a" ∷ []) (codes "a") ≡ Some (codes "a")
once = refl

-- names that the translation has itself, and such as begin a fairness formula
own : first_named [] (codes "WF" ∷ []) (codes "pc" ∷ codes "WF" ∷ []) (codes "pc") ≡ Some (codes "pc_1")
unfolding digits
own = refl

fairness : first_named [] (codes "WF" ∷ []) (codes "pc" ∷ codes "WF" ∷ []) (codes "WF") ≡ Some (codes "WF1")
unfolding digits
fairness = refl

unwanted : first_named [] [] (codes "a" ∷ []) (codes "b") ≡ None
unwanted = refl

-- the unit behind a macro, which has no names
abbrev unit : UnitNames
unit = record { title = codes "P_1"; variables = (codes "v", codes "v_1") ∷ []; labels = (codes "A", codes "A_2") ∷ [] }

renamed : (naming_of (no_names ∷ unit ∷ [])).local 1 (codes "v") ≡ codes "v_1"
renamed = refl

not_renamed : (naming_of (no_names ∷ unit ∷ [])).local 1 (codes "A") ≡ codes "A"
not_renamed = refl

label : (naming_of (no_names ∷ unit ∷ [])).label 1 (codes "A") ≡ codes "A_2"
label = refl

title : (naming_of (no_names ∷ unit ∷ [])).title 1 ≡ codes "P_1"
title = refl

past_all : (naming_of (no_names ∷ unit ∷ [])).local 2 (codes "v") ≡ codes "v"
past_all = refl
