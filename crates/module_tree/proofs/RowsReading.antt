-- Texts of units that are read as these units, by computation.
use Rattle.std.proofs.Common.{◌≡◌, inr, refl, true}
use Rattle.std.specs.Prelude.{ℕ, List, [], ◌∷◌, ◌++◌, map, None, codes}
use Rattle.tla_token.specs.declared.place.Place.{Place}
use Rattle.tla_token.specs.Cut.{tokens}
use Rattle.tla_tree.specs.declared.op.Op.TheVariants.{Plus}
use Rattle.tla_tree.specs.Tree.{Word, Name, number, name, strict, operator, Tree, node, no_trees, tree}
use Rattle.tla_tree.specs.Spelling.{Phrase}
use Rattle.tla_tree.specs.Spelling as spelled
use Rattle.tla_value.specs.Outside.{ReadDefinition}
use Rattle.module_tree.specs.Module.{extends, constants, defines, outside_of, test, setting, unchanged, no_items, item, call, call_with, one_way, some_way, all_of, action_unit, next_unit, spec_unit, termination_unit}
use Rattle.module_tree.specs.Grammar.{last_name, more_names, test_form, setting_form, unchanged_form, last_item, more_items, call_form, call_with_form, one_form, some_form}
use Rattle.module_tree.specs.Units.{IsUnit, all_form, action_form, next_form, spec_form, steps_line, termination_form}
use Rattle.tla_tree.specs.Lexical.{Token}
use Rattle.tla_tree.specs.TokenViews.{views}
use Rattle.module_tree.specs.Walk.{walk}
use Rattle.module_tree.specs.FileUnits.{units_in}
use Rattle.module_tree.specs.Outside.{Sight, IsRead, opaque_of}

abbrev at : ℕ → ℕ → Place
at l c = record { line = l; col = c }

abbrev seen : List ℕ → List Token
seen text = views (tokens text)

abbrev name_at : Place → Word → Tree
name_at p x = node (name x) p no_trees

nexts : IsUnit (seen (codes "Next ==\n  \\/ \\E self \\in S : P(self)\n  \\/ Terminating\n"))
    (next_unit (some_way (codes "self") (name_at (at 2 18) (codes "S")) (call_with (codes "P") (name_at (at 2 24) (codes "self"))) ∷ one_way (call (codes "Terminating")) ∷ []))
nexts = (
  next_form (at 1 1) (at 1 6)
      ((at 2 3, some_form (at 2 6) (at 2 9) (codes "self") (at 2 14) (spelled.name (at 2 18) (codes "S")) (at 2 20) (call_with_form (at 2 22) (codes "P") (at 2 23) (spelled.name (at 2 24) (codes "self")) (at 2 28)))
      ∷ (at 3 3, one_form (call_form (at 3 6) (codes "Terminating"))) ∷ []),
  (refl, (refl, (refl, (refl, refl, refl, refl, refl, (refl, refl, refl, refl)), (refl, refl, tt)))),
  refl,
  refl,
)

step : IsUnit (seen (codes "A ==\n  /\\ (pc)\n  /\\ x' = (x + 1)\n  /\\ UNCHANGED <<y, z>>\n"))
    (action_unit (record { title = codes "A"; parameter = None; body = all_of (item (test (name_at (at 2 7) (codes "pc"))) (item (setting (codes "x") (node (strict (operator Plus)) (at 3 12) (tree (name_at (at 3 12) (codes "x")) (tree (node (number 1) (at 3 16) no_trees) no_trees)))) (item (unchanged (codes "y" ∷ codes "z" ∷ [])) no_items))) }))
step = (
  action_form (at 1 1) (codes "A") None (at 1 3) (all_form
      (more_items (at 2 3) (test_form (at 2 6) (spelled.name (at 2 7) (codes "pc")) (at 2 9))
      (more_items (at 3 3) (setting_form (at 3 6) (codes "x") (at 3 7) (at 3 9) (spelled.brackets (at 3 11) (spelled.infix_of (spelled.name (at 3 12) (codes "x")) (at 3 14) Plus (spelled.number (at 3 16) 1)) (at 3 17)))
      (last_item (at 4 3) (unchanged_form (at 4 6) (at 4 16) (more_names (at 4 18) (codes "y") (at 4 19) (last_name (at 4 21) (codes "z"))) (at 4 22)))))),
  (refl, tt, refl, (refl, (refl, (refl, refl, refl), (refl, (refl, refl, refl, (refl, (refl, (refl, refl, refl, refl, refl, refl), refl))), (refl, (refl, refl, (refl, refl, refl), refl)))))),
  refl,
  refl,
)

specs : IsUnit (seen (codes "Spec ==\n  /\\ Init\n  /\\ [][Next]_vars\n")) (spec_unit [])
specs = (
  spec_form (at 1 1) (at 1 6) (at 2 3) (at 2 6) (at 3 3) (steps_line (at 3 6) (at 3 8) (at 3 9) (at 3 13) (at 3 14)) [],
  (refl, refl, (refl, (refl, refl, (refl, (refl, refl, refl, refl, refl), tt)))),
  refl,
  refl,
)

terminations : IsUnit (seen (codes "Termination == <>(pc)\n")) (termination_unit (name_at (at 1 19) (codes "pc")))
terminations = (termination_form (at 1 1) (at 1 13) (at 1 16) (at 1 17) (at 1 18) (spelled.name (at 1 19) (codes "pc")) (at 1 21), (refl, refl, refl, refl, refl, refl), refl, refl)

-- a constant and a definition outside have the places of their names
abbrev around : Sight
around = record { modules = []; constants = []; earlier = [] }

abbrev both_constants : List Name
both_constants = record { word = codes "C"; place = at 1 11 } ∷ record { word = codes "S"; place = at 1 14 } ∷ []

declared : IsRead true around (seen (codes "CONSTANTS C, S\n")) (constants both_constants)
declared = inr (record {
  at = at 1 1;
  names = more_names (at 1 11) (codes "C") (at 1 12) (last_name (at 1 14) (codes "S"));
  good = (refl, refl, refl);
  spelled = refl;
  are = refl;
})

abbrev one : ReadDefinition
one = record { definition = record { title = codes "N"; params = []; body = node (number 1) (at 1 6) no_trees; outside = true }; place = at 1 1 }

defined : IsRead true around (seen (codes "N == 1\n")) (defines one)
defined = (
  refl,
  record {
    at = at 1 1;
    params = None;
    sign = at 1 3;
    body = spelled.number (at 1 6) 1;
    good = (tt, refl, refl);
    spelled = refl;
    is = refl;
    shallow = refl;
    reads = refl;
  },
)

-- each kind in the order of the text
kinds : outside_of (constants both_constants ∷ defines one ∷ extends [] ∷ [])
    ≡ record { extended = []; constants = both_constants; definitions = one ∷ []; opaque = [] }
kinds = refl

-- the units of a module with this text
abbrev units_of_text : List ℕ → List (List Token)
units_of_text text = (units_in (walk (codes "---- MODULE M ----\n" ++ text ++ codes "====\n"))).units

-- units begin in column 1, or at a bar of dashes; what is indented goes on
units : map (λ ts. (opaque_of ts).names) (units_of_text (codes "a == b\n  c\n ------\nTHEOREM x\nTHEOREM T == x\nRECURSIVE f(_), g\nLOCAL d == e\n"))
    ≡ (codes "a" ∷ []) ∷ [] ∷ [] ∷ (codes "T" ∷ []) ∷ (codes "f" ∷ codes "g" ∷ []) ∷ (codes "d" ∷ []) ∷ []
units = refl

-- a sign that is in no expression begins no unit, nor does a reserved word that begins none
not_cut : map (λ ts. (opaque_of ts).names) (units_of_text (codes "a == b\n@ c\nUNCHANGED d\nASSUME e == f\n"))
    ≡ (codes "a" ∷ []) ∷ (codes "e" ∷ []) ∷ []
not_cut = refl

keywords : map (λ ts. (opaque_of ts).keyword) (units_of_text (codes "a == b\nASSUME e == f\n")) ≡ [] ∷ codes "ASSUME" ∷ []
keywords = refl
