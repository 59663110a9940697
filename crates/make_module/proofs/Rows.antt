-- Made modules, by computation.
use Rattle.std.proofs.Common.{◌≡◌, [], ◌∷◌, false, refl, codes}
use Rattle.std.specs.Prelude.{replicate}
use Rattle.std.specs.Fmt.{digits}
use Rattle.tla_token.specs.Places.{nowhere}
use Rattle.tla_tree.specs.Tree.{Word}
use Rattle.pcal_tree.specs.declared.mark.Mark.TheVariants.{Plain}
use Rattle.pcal_tree.specs.Algorithm.{Name, skip, done, then, mark, alone, Algorithm}
use Rattle.make_module.specs.Big.{next_number, kind_of, lines_from, big, counts_text}

first_kind : kind_of (next_number 1) ≡ 2
first_kind = refl

one_line : big 1 1 ≡ codes "---- MODULE Big ----\nEXTENDS Integers\n(*\n--algorithm Big\nvariables x = 0, y = 0, z = 0;\nbegin\n  L1: if x > y then z := 1; else y := 1; end if;\nend algorithm\n*)\n====\n"
unfolding digits
one_line = refl

-- a line of each kind
of_kinds : lines_from 4 1 2 ≡ codes "  L1: x := y + 1;\n  L2: await x >= 0 - 2; y := x - 2;\n  L3: x := z || z := x;\n  L4: if x > y then z := 4; else y := 4; end if;\n"
unfolding digits
of_kinds = refl

-- skip at one label, four variables and 651 bytes
abbrev a_name : Word → Name
a_name w = record { word = w; place = nowhere }

abbrev one_label : Algorithm
one_label = record { name = a_name (codes "Big"); fair = false; globals = []; definitions = []; macros = []; procedures = []; main = alone (mark (a_name (codes "L1")) Plain (then (record { first = nowhere; last = nowhere }) skip done)) }

three_lines : counts_text one_label (codes "x" ∷ codes "y" ∷ codes "z" ∷ codes "pc" ∷ []) (replicate 651 0) ≡ codes "labels 1\nvariables 4\nbytes 651\n"
unfolding digits
three_lines = refl
