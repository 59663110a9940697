-- A whole translation, to the byte, by computation; and that it reads back, alone and in its file.
use Rattle.std.proofs.Common.{◌≡◌, [], ◌∷◌, ◌++◌, length, true, false, codes, refl}
use Rattle.std.specs.List.{AllByRecursion}
use Rattle.std.specs.Fmt.{digits}
use Rattle.tla_tree.specs.declared.op.Op.TheVariants.{Plus, Greater}
use Rattle.module_tree.specs.Formulas.{named}
use Rattle.module_tree.specs.Layout.{layout}
use Rattle.module_tree.specs.Around.{begin_line, end_line}
use Rattle.module_tree.specs.Module.{Region}
use Rattle.module_tree.specs.TextFront.{Text}
use Rattle.module_tree.specs.Walk.{State, walk}
use Rattle.module_tree.specs.WithTranslation.{WithTranslation}
use Rattle.module_tree.specs.laws.Outsides.{HasOutside}
use Rattle.module_tree.specs.laws.WritableRegion.{IsReadBack, IsWritten}
use Rattle.module_tree.proofs.WrittenRegion.{written_file}
use Rattle.tla_value.specs.Outside.{Outside}
use Rattle.pcal_tree.specs.Algorithm.{branch, Algorithm}
use Rattle.translation.specs.Region.{written_region}
use Rattle.translation.proofs.WorkedRegions.{region_tells, reads_back, all_read}
use Rattle.translation.proofs.Trees.{word, x, y, z, num, over, just, sets, labelled, zero_of, one_body, integers}

-- variables x = 0;  A: x := x + 1;
abbrev pub inc : Algorithm
inc = record (one_body (zero_of x ∷ []) (labelled (codes "A") (just (sets x (over Plus (named x) (num 1)))))) { name = word (codes "Inc") }

whole : layout (written_region false integers inc) ≡ codes "VARIABLES x, pc\n\nvars == <<x, pc>>\n\nInit ==\n  /\\ x = 0\n  /\\ pc = \"A\"\n\nA ==\n  /\\ (pc = \"A\")\n  /\\ x' = (x + 1)\n  /\\ pc' = \"Done\"\n\nTerminating ==\n  /\\ (pc = \"Done\")\n  /\\ UNCHANGED vars\n\nNext ==\n  \\/ A\n  \\/ Terminating\n\nSpec ==\n  /\\ Init\n  /\\ [][Next]_vars\n\nTermination == <>(pc = \"Done\")\n"
unfolding digits
whole = refl

-- with the option `--no-terminating`
without_end : layout (written_region true integers inc) ≡ codes "VARIABLES x, pc\n\nvars == <<x, pc>>\n\nInit ==\n  /\\ x = 0\n  /\\ pc = \"A\"\n\nA ==\n  /\\ (pc = \"A\")\n  /\\ x' = (x + 1)\n  /\\ pc' = \"Done\"\n\nNext ==\n  \\/ A\n\nSpec ==\n  /\\ Init\n  /\\ [][Next]_vars\n\nTermination == <>(pc = \"Done\")\n"
unfolding digits
without_end = refl

-- both read back, wherever they are put
whole_reads : AllByRecursion (λ (r : Region). (st : State) → IsReadBack st r) (written_region false integers inc ∷ written_region true integers inc ∷ [])
whole_reads = all_read (written_region false integers inc ∷ written_region true integers inc ∷ []) refl

-- the file with that algorithm, and the file with its translation
abbrev pub file : Text
file = codes "---- MODULE M ----\nEXTENDS Integers\n(*\n--algorithm Inc\nvariables x = 0;\nbegin\n  A: x := x + 1;\nend algorithm\n*)\n====\n"

abbrev pub translated : Text
translated = codes "---- MODULE M ----\nEXTENDS Integers\n(*\n--algorithm Inc\nvariables x = 0;\nbegin\n  A: x := x + 1;\nend algorithm\n*)\n\\* BEGIN TRANSLATION\nVARIABLES x, pc\n\nvars == <<x, pc>>\n\nInit ==\n  /\\ x = 0\n  /\\ pc = \"A\"\n\nA ==\n  /\\ (pc = \"A\")\n  /\\ x' = (x + 1)\n  /\\ pc' = \"Done\"\n\nTerminating ==\n  /\\ (pc = \"Done\")\n  /\\ UNCHANGED vars\n\nNext ==\n  \\/ A\n  \\/ Terminating\n\nSpec ==\n  /\\ Init\n  /\\ [][Next]_vars\n\nTermination == <>(pc = \"Done\")\n\\* END TRANSLATION\n====\n"

put : WithTranslation file (layout (written_region false integers inc)) translated
unfolding digits
put = record { at = record { from = 112; to = 112 }; is_spot = refl; is = refl }

-- it is one module, with this translation
pub file_reads : (o : Outside) → HasOutside (walk file) o → IsWritten file translated o (written_region false integers inc)
file_reads o h = written_file file translated o (written_region false integers inc) (region_tells (written_region false integers inc) refl) refl h put

-- ---- with an old translation, and a unit behind it

abbrev pub outdated : Text
outdated = codes "---- MODULE M ----\nEXTENDS Integers\n(*\n--algorithm Inc\nvariables x = 0;\nbegin\n  A: x := x + 1;\nend algorithm\n*)\n\\* BEGIN TRANSLATION (chksum(pcal) = \"1a2b\" /\\ chksum(tla) = \"3c4d\")\nVARIABLE old\n\\* END TRANSLATION\nInv == x >= 0\n====\n"

abbrev pub renewed : Text
renewed = codes "---- MODULE M ----\nEXTENDS Integers\n(*\n--algorithm Inc\nvariables x = 0;\nbegin\n  A: x := x + 1;\nend algorithm\n*)\n\\* BEGIN TRANSLATION\nVARIABLES x, pc\n\nvars == <<x, pc>>\n\nInit ==\n  /\\ x = 0\n  /\\ pc = \"A\"\n\nA ==\n  /\\ (pc = \"A\")\n  /\\ x' = (x + 1)\n  /\\ pc' = \"Done\"\n\nTerminating ==\n  /\\ (pc = \"Done\")\n  /\\ UNCHANGED vars\n\nNext ==\n  \\/ A\n  \\/ Terminating\n\nSpec ==\n  /\\ Init\n  /\\ [][Next]_vars\n\nTermination == <>(pc = \"Done\")\n\\* END TRANSLATION\nInv == x >= 0\n====\n"

put_again : WithTranslation outdated (layout (written_region false integers inc)) renewed
unfolding digits
put_again = record { at = record { from = 112; to = 212 }; is_spot = refl; is = refl }

pub renewed_reads : (o : Outside) → HasOutside (walk outdated) o → IsWritten outdated renewed o (written_region false integers inc)
renewed_reads o h = written_file outdated renewed o (written_region false integers inc) (region_tells (written_region false integers inc) refl) refl h put_again

-- and what was written stays as it is
stays : WithTranslation renewed (layout (written_region false integers inc)) renewed
unfolding digits
stays = record { at = record { from = 112; to = 436 }; is_spot = refl; is = refl }

-- a whole file, counted in bytes: x, y, z = 0;  L1: if x > y then z := 1; else y := 1; end if;
abbrev counted : Algorithm
counted =
    one_body (zero_of x ∷ zero_of y ∷ zero_of z ∷ [])
    (labelled (codes "L1") (just (branch (over Greater (named x) (named y)) (just (sets z (num 1))) (just (sets y (num 1))))))

file_of : length (codes "---- MODULE Big ----\nEXTENDS Integers\n(*\n--algorithm Big\nvariables x = 0, y = 0, z = 0;\nbegin\n  L1: if x > y then z := 1; else y := 1; end if;\nend algorithm\n*)\n" ++ (begin_line ++ (layout (written_region false integers counted) ++ (end_line ++ codes "\n====\n")))) ≡ 651
unfolding digits
file_of = refl

counted_reads : (st : State) → IsReadBack st (written_region false integers counted)
counted_reads st = reads_back (written_region false integers counted) refl st
