-- From nothing to all that is found.
use Rattle.std.proofs.Common.{◌≡◌, ℕ, List, replicate, false, Option, None, ap, subst, ◌∙◌}
use Rattle.tla_token.specs.declared.rule.Refusal.{Refusal}
use Rattle.tla_tree.specs.Tree.{Tree}
use Rattle.tla_value.specs.Outside as pure
use Rattle.pcal_tree.specs.declared.algorithm.Algorithm.{Algorithm}
use Rattle.pcal_tree.specs.Offences.{first}
use Rattle.pcal_tree.specs.Outside.{unit_names}
use Rattle.algorithm_answer.specs.Joined.{joined}
use Rattle.module_outside.specs.declared.modules.Modules.{Modules}
use Rattle.declared_rules.specs.declared.found.Found.{Found}
use Rattle.declared_rules.specs.Parts.{parts_of_algorithm}
use Rattle.declared_rules.specs.Finding.{parts_offences, finding, Joins, Adds}
use Rattle.declared_rules.specs.Titles.{kept_titles, other_titles, title_offences, outside_offences}
use Rattle.declared_rules.specs.Refusal.{offences_found}
use Rattle.declared_rules.proofs.JoinLaws.{joins_then}
use Rattle.declared_rules.proofs.SweepLaws.{finding_none}

pub first_is : (ts : List Tree) (i j k l : Found) (m : Modules) (n : ℕ) (a : Algorithm) (o : pure.Outside) (r : Option Refusal) → i.modules ≡ m → i.first ≡ None → i.marks.items ≡ replicate n false
    → Joins ts i j (outside_offences i.modules o) → Joins ts j k (title_offences j.modules (unit_names o) (kept_titles a) (other_titles a)) → Adds ts k l (parts_of_algorithm ts a) → r ≡ finding ts l
    → r ≡ first (offences_found m ts a o)
first_is ts i j k l m n a o r e f h g t p s =
    s ∙ all.value ∙ ap (λ (x : Option Refusal). joined x (first (offences_found i.modules ts a o))) (finding_none ts i n f h) ∙ ap (λ (z : Modules). first (offences_found z ts a o)) e
  where
    all : Joins ts i l (offences_found i.modules ts a o)
    all =
        joins_then ts i j l _ _ g
        (joins_then ts j k l _ _ (subst (λ (z : Modules). Joins ts j k (title_offences z (unit_names o) (kept_titles a) (other_titles a))) g.modules t)
        (subst (λ (z : Modules). Joins ts k l (parts_offences z (parts_of_algorithm ts a))) (t.modules ∙ g.modules) p.joins))
