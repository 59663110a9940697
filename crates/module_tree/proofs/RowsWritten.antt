-- A translation with each kind of unit and of item that can be written, its text, and some that can't.
use Rattle.std.proofs.Common.{◌≡◌, true, false, [], ◌∷◌, Some, None, length, refl, codes}
use Rattle.tla_token.specs.Places.{nowhere}
use Rattle.tla_tree.specs.declared.op.Op.TheVariants.{Cup}
use Rattle.tla_tree.specs.Tree.{Word, Tree, node, tree, no_trees, name, strict, operator}
use Rattle.tla_tree.specs.laws.Writable.{IsIdentifier, IsWritable}
use Rattle.module_tree.specs.Module.{Item, test, setting, unchanged, exists, local, if_then_else, either, Items, no_items, item, no_branches, branch, call, call_with, one_way, some_way, all_of, some_of, Region}
use Rattle.module_tree.specs.Formulas.{named, quoted, equal}
use Rattle.module_tree.specs.Layout.{layout}
use Rattle.module_tree.specs.laws.WritableRegion.{IsItem, AreItems, IsAction, IsRegion, IsReadBack}
use Rattle.module_tree.specs.Walk.{State}
use Rattle.module_tree.specs.FileUnits.{cut}
use Rattle.module_tree.proofs.WrittenRegion.{read_back}
use Rattle.tla_token.specs.Cut.{tokens}
use Rattle.tla_tree.specs.TokenViews.{views}
use Rattle.module_tree.specs.laws.PlacelessRegion.{items_placeless, region_placeless}

-- ---- names and texts

is_named : (x : Word) → IsIdentifier x → IsWritable (named x)
is_named x h = (refl, (h, tt), tt, tt, tt)

x_is : IsWritable (named (codes "x"))
x_is = is_named (codes "x") ((refl, refl), refl)

abbrev label : Tree
label = equal (named (codes "pc")) (quoted (codes "L"))

label_is : IsWritable label
label_is = ((refl, refl), tt, tt, tt, (is_named (codes "pc") ((refl, refl), refl), ((refl, tt, tt, (refl, tt), tt), tt)))

abbrev one : Item → Items
one i = item i no_items

-- ---- each kind of item
abbrev every_item : Items
every_item =
    item (test label) (item (setting (codes "x") label) (item (unchanged (codes "x" ∷ codes "y" ∷ []))
    (item (exists (codes "a") (named (codes "S")) (one (test (named (codes "a")))))
    (item (local (codes "b") label (one (test (named (codes "b")))))
    (item (if_then_else label (one (test label)) (one (setting (codes "x") (named (codes "x")))))
    (one (either (branch (one (test label)) (branch (one (unchanged (codes "y" ∷ []))) no_branches)))))))))

every_item_is : AreItems every_item
every_item_is = (
  label_is,
  (
    (((refl, refl), refl), label_is),
    (
      (((refl, refl), refl), ((refl, refl), refl)),
      (
        (((refl, refl), refl), is_named (codes "S") ((refl, refl), refl), is_named (codes "a") ((refl, refl), refl)),
        (
          (((refl, refl), refl), label_is, is_named (codes "b") ((refl, refl), refl)),
          (
            (label_is, label_is, (((refl, refl), refl), x_is)),
            (label_is, ((refl, refl), refl)),
          ),
        ),
      ),
    ),
  ),
)

-- ---- each kind of unit
abbrev every_unit : Region
every_unit = record {
  model_values = codes "defaultInitValue" ∷ [];
  variables = codes "x" ∷ codes "pc" ∷ [];
  definitions = record { title = codes "N"; params = []; body = named (codes "x"); outside = false }
      ∷ record { title = codes "F"; params = codes "a" ∷ codes "b" ∷ []; body = named (codes "a"); outside = false } ∷ [];
  vars = codes "x" ∷ codes "pc" ∷ [];
  process_set = Some (node (strict (operator Cup)) nowhere (tree (named (codes "S")) (tree (named (codes "T")) no_trees)));
  init = named (codes "x") ∷ label ∷ [];
  actions = record { title = codes "L"; parameter = Some (codes "self"); body = all_of every_item }
      ∷ record { title = codes "P"; parameter = None; body = some_of (one_way (call_with (codes "L") (named (codes "x"))) ∷ one_way (call (codes "N")) ∷ []) } ∷ [];
  ended = Some label;
  next = one_way (call (codes "P")) ∷ some_way (codes "self") (named (codes "S")) (call_with (codes "L") (named (codes "self"))) ∷ one_way (call (codes "Terminating")) ∷ [];
  fairness = record { over = None; strong = false; guard = None; action = call (codes "P") }
      ∷ record { over = Some (codes "self", named (codes "S")); strong = true; guard = Some label; action = call_with (codes "L") (named (codes "self")) } ∷ [];
  termination = label;
}

every_unit_is : IsRegion every_unit
every_unit_is = record {
  model_values = (((refl, refl), refl), tt);
  variables = (((refl, refl), refl), ((refl, refl), refl));
  definitions = (
    (((refl, refl), refl), refl, tt, x_is, refl),
    ((((refl, refl), refl), refl, (((refl, refl), refl), (((refl, refl), refl), tt)), is_named (codes "a") ((refl, refl), refl), refl), tt),
  );
  vars = (((refl, refl), refl), ((refl, refl), refl));
  process_set = (is_named (codes "S") ((refl, refl), refl), (is_named (codes "T") ((refl, refl), refl), tt));
  init = (x_is, label_is);
  actions = (
    (((refl, refl), refl), refl, ((refl, refl), refl), every_item_is),
    ((((refl, refl), refl), refl, tt, ((((refl, refl), refl), x_is), ((refl, refl), refl))), tt),
  );
  ended = label_is;
  next = (((refl, refl), refl), ((((refl, refl), refl), is_named (codes "S") ((refl, refl), refl), (((refl, refl), refl), is_named (codes "self") ((refl, refl), refl))), ((refl, refl), refl)));
  fairness = (
    (tt, tt, ((refl, refl), refl)),
    (((((refl, refl), refl), is_named (codes "S") ((refl, refl), refl)), label_is, (((refl, refl), refl), is_named (codes "self") ((refl, refl), refl))), tt),
  );
  termination = label_is;
  terminating = refl;
}

-- its text
every_unit_written : layout every_unit ≡ codes "CONSTANT defaultInitValue\n\nVARIABLES x, pc\n\nN == x\n\nF(a, b) == a\n\nvars == <<x, pc>>\n\nProcSet == S \\cup T\n\nInit ==\n  /\\ x\n  /\\ pc = \"L\"\n\nL(self) ==\n  /\\ (pc = \"L\")\n  /\\ x' = (pc = \"L\")\n  /\\ UNCHANGED <<x, y>>\n  /\\ \\E a \\in S :\n       /\\ (a)\n  /\\ LET b == pc = \"L\" IN\n       /\\ (b)\n  /\\ IF pc = \"L\"\n     THEN\n       /\\ (pc = \"L\")\n     ELSE\n       /\\ x' = x\n  /\\\n       \\/\n            /\\ (pc = \"L\")\n       \\/\n            /\\ UNCHANGED <<y>>\n\nP ==\n  \\/ L(x)\n  \\/ N\n\nTerminating ==\n  /\\ (pc = \"L\")\n  /\\ UNCHANGED vars\n\nNext ==\n  \\/ P\n  \\/ \\E self \\in S : L(self)\n  \\/ Terminating\n\nSpec ==\n  /\\ Init\n  /\\ [][Next]_vars\n  /\\ WF_vars(P)\n  /\\ \\A self \\in S : SF_vars((pc = \"L\") /\\ L(self))\n\nTermination == <>(pc = \"L\")\n"
every_unit_written = refl

-- ---- what can't be written so that it is read back

-- no list is empty
no_empty_list : IsItem (exists (codes "a") (named (codes "S")) no_items) → ⊥
no_empty_list h = h.2

no_empty_tuple : IsItem (unchanged []) → ⊥
no_empty_tuple h = h

-- a reserved word is no name
no_reserved : IsItem (setting (codes "LET") (named (codes "x"))) → ⊥
no_reserved h = (let e : false ≡ true = h.0.1 in cc)

-- the translation's own names have units of their own
no_own : IsAction (record { title = codes "Next"; parameter = None; body = all_of (one (test label)) }) → ⊥
no_own h = (let e : false ≡ true = h.1 in cc)

-- Next calls Terminating where that unit is
no_ending : IsRegion (record every_unit { ended = None }) → ⊥
no_ending h = (let e : false ≡ true = h.terminating in cc)

-- ---- places aside
placeless_items : items_placeless (one (test (node (name (codes "x")) (record { line = 3; col = 7 }) no_trees))) ≡ one (test (named (codes "x")))
placeless_items = refl

placeless_region : region_placeless every_unit ≡ every_unit
placeless_region = refl

-- ---- read back

every_unit_read : (st : State) → IsReadBack st every_unit
every_unit_read st = read_back st every_unit every_unit_is

-- cut as it is written: thirteen units, and nothing before them
thirteen_units : (let c = cut (views (tokens (layout every_unit))) in (c.front ≡ []) × (length c.units ≡ 13))
thirteen_units = (refl, refl)
