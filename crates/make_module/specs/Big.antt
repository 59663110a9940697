-- A module that is made of two numbers: an algorithm of as many labelled steps as are asked for, each of a kind that a generator of numbers picks.
use Rattle.std.specs.Prelude.{ℕ, zero, suc, ◌+◌, ◌*◌, ◌/◌, ◌%◌, List, [], ◌++◌, length, codes}
use Rattle.std.specs.List.{flat_map}
use Rattle.std.specs.Fmt.{decimal}
use Rattle.tla_tree.specs.Tree.{Word}
use Rattle.pcal_tree.specs.Algorithm.{Algorithm, routines}
use Rattle.pcal_tree.specs.OffencesLabels.{label_words}

-- ---- the generator

-- 2147483648 is 2^31
abbrev pub next_number : ℕ → ℕ
next_number g = (g * 1103515245 + 12345) % 2147483648

abbrev pub kind_of : ℕ → ℕ
kind_of g = (g / 65536) % 4

-- ---- the text

-- what stands at label k
abbrev pub statement_text : ℕ → ℕ → List ℕ
statement_text zero k = codes "x := y + " ++ (decimal k ++ codes ";")
statement_text (suc zero) k = codes "await x >= 0 - " ++ (decimal k ++ (codes "; y := x - " ++ (decimal k ++ codes ";")))
statement_text (suc (suc zero)) k = codes "if x > y then z := " ++ (decimal k ++ (codes "; else y := " ++ (decimal k ++ codes "; end if;")))
statement_text _ k = codes "x := z || z := x;"

abbrev pub line_text : ℕ → ℕ → List ℕ
line_text k g = codes "  L" ++ (decimal k ++ (codes ": " ++ (statement_text (kind_of g) k ++ codes "\n")))

-- so many lines, the first with label k; g is the generator's number before it
abbrev pub lines_from : ℕ → ℕ → ℕ → List ℕ
lines_from zero k g = []
lines_from (suc n) k g = line_text k (next_number g) ++ lines_from n (suc k) (next_number g)

abbrev pub front_text : List ℕ
front_text = codes "---- MODULE Big ----\nEXTENDS Integers\n(*\n--algorithm Big\nvariables x = 0, y = 0, z = 0;\nbegin\n"

abbrev pub back_text : List ℕ
back_text = codes "end algorithm\n*)\n====\n"

-- the module of a seed and a count
abbrev pub big : ℕ → ℕ → List ℕ
big seed count = front_text ++ (lines_from count 1 seed ++ back_text)

-- ---- what is written of it

abbrev pub count_text : Word → ℕ → List ℕ
count_text w n = w ++ (codes " " ++ (decimal n ++ codes "\n"))

-- so many labels, names in VARIABLES and bytes, a line for each
abbrev pub counted_text : ℕ → ℕ → ℕ → List ℕ
counted_text labels variables bytes = count_text (codes "labels") labels ++ (count_text (codes "variables") variables ++ count_text (codes "bytes") bytes)

-- how many labels an algorithm has
abbrev pub label_count : Algorithm → ℕ
label_count g = length (flat_map (λ u. label_words u.body) (routines g))

-- how many labels its algorithm has, how many names are in VARIABLES, and how many bytes the module with its translation has
abbrev pub counts_text : Algorithm → List Word → List ℕ → List ℕ
counts_text g variables written = counted_text (label_count g) (length variables) (length written)
