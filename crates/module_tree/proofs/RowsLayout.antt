-- The text of the first algorithm's translation, by computation.
use Rattle.std.proofs.Common.{◌≡◌, refl, arith}
use Rattle.std.specs.Prelude.{codes, ◌++◌, [], ◌∷◌, None}
use Rattle.std.specs.Fmt.{decimal}
use Rattle.std.proofs.lemmas.Fmt.{decimal_digit}
use Rattle.module_tree.specs.Module.{call, one_way, Region}
use Rattle.module_tree.specs.Layout.{layout}
use Rattle.module_tree.specs.Around.{begin_line, end_line}
use Rattle.module_tree.proofs.First.{region}

zero_is : decimal 0 ≡ codes "0"
zero_is = decimal_digit 0 (omega arith)

one_is : decimal 1 ≡ codes "1"
one_is = decimal_digit 1 (omega arith)

-- with the option `--no-terminating`
abbrev without_end : Region
without_end = record region { ended = None; next = one_way (call (codes "A")) ∷ [] }

less_written : layout without_end ≡ codes "VARIABLES x, pc\n\nvars == <<x, pc>>\n\nInit ==\n  /\\ x = 0\n  /\\ pc = \"A\"\n\nA ==\n  /\\ (pc = \"A\")\n  /\\ x' = (x + 1)\n  /\\ pc' = \"Done\"\n\nNext ==\n  \\/ A\n\nSpec ==\n  /\\ Init\n  /\\ [][Next]_vars\n\nTermination == <>(pc = \"Done\")\n"
less_written = rw (zero_is, one_is) refl

written : begin_line ++ (layout region ++ (end_line ++ codes "\n")) ≡ codes "\\* BEGIN TRANSLATION\nVARIABLES x, pc\n\nvars == <<x, pc>>\n\nInit ==\n  /\\ x = 0\n  /\\ pc = \"A\"\n\nA ==\n  /\\ (pc = \"A\")\n  /\\ x' = (x + 1)\n  /\\ pc' = \"Done\"\n\nTerminating ==\n  /\\ (pc = \"Done\")\n  /\\ UNCHANGED vars\n\nNext ==\n  \\/ A\n  \\/ Terminating\n\nSpec ==\n  /\\ Init\n  /\\ [][Next]_vars\n\nTermination == <>(pc = \"Done\")\n\\* END TRANSLATION\n"
written = rw (zero_is, one_is) refl
