-- Of each routine of an algorithm that can be written, and breaks no rule on labels, each step can be written.
use Rattle.std.proofs.Common.{◌≡◌, List, [], ◌∷◌, reverse, true, false, Some, ◌⊎◌, inl, inr}
use Rattle.tla_tree.specs.Tree.{Word}
use Rattle.tla_value.specs.Outside.{Outside}
use Rattle.pcal_tree.specs.Algorithm.{Statements, Routine, procedure_routines, main_routines, routines, Algorithm}
use Rattle.pcal_tree.specs.Expand.{graft_all, written_out, expanded}
use Rattle.pcal_tree.specs.OffencesLabels.{label_offences}
use Rattle.pcal_tree.specs.Processes.{OneOf}
use Rattle.pcal_tree.specs.Program.{Program}
use Rattle.pcal_tree.specs.Run.{unlabelled}
use Rattle.pcal_tree.specs.StepStart.{Begin, begin, at_label}
use Rattle.pcal_tree.proofs.RoutineNames.{one_either}
use Rattle.action_builder.specs.WrittenNames.{with_names, renames, written_statements}
use Rattle.step_forms.specs.Steps.{Step, steps}
use Rattle.translation.specs.laws.WritableAlgorithm.{is_procedure, is_variable, IsWritableAlgorithm}
use Rattle.translation.proofs.FromLabels.{from_label}
use Rattle.translation.proofs.PlacedStatements.{procedure_placed, body_placed_in}
use Rattle.translation.proofs.TidySteps.{PartsOf}
use Rattle.build_premises.specs.Everywhere.{EverywhereOne, Everywhere, EverywhereSome}
use Rattle.build_premises.specs.Buildable.{CallsNamed, HasOne, buildable, Buildable, SettledFor}
use Rattle.step_forms.specs.OldNames.{NoOld}
use Rattle.build_premises.proofs.JumpsSettled.{buildable_settled}
use Rattle.build_premises.proofs.PartsLaws.{less, no_old, everywhere_pass, WrittenOut, WrittenOutSome, written_out_pass}
use Rattle.build_premises.proofs.StepParts.{each_step}
use Rattle.build_premises.proofs.WrittenBodies.{all_loose, Loose, loose_named}

-- ---- what is asked less

pub buildable_no_old : (P : Program) (ss : Statements) → Buildable P ss → NoOld ss
buildable_no_old P ss h = no_old (buildable P) (λ x k. k) ss h

pub buildable_calls : (P : Program) (ss : Statements) → Buildable P ss → CallsNamed (procedure_routines P.algorithm) ss
buildable_calls P ss h = less (buildable P) _ (λ ms k. tt) (λ x k. tt) (λ p k. k) (λ k. tt) (λ k. tt) ss h

-- ---- of an algorithm

has_one : (ws : List Routine) (p : Routine) → OneOf p ws → HasOne ws
has_one [] p k = absurd k
has_one (w ∷ ws) p k = tt

module _ (o : Outside) (g : Algorithm) (h : IsWritableAlgorithm o g) (labels : label_offences g ≡ []) (u : Routine) (there : OneOf u (routines g)) where
  abbrev P : Program
  P = with_names o g

  abbrev body : Statements
  body = expanded (reverse g.macros) u.body

  body_loose : Everywhere (Loose (with_names o g) u there) (expanded (reverse g.macros) u.body)
  body_loose = by (one_either u (procedure_routines g) (main_routines g g.main) there)
    where
      never : false ≡ true → ⊥
      never e = cc

      by : OneOf u (procedure_routines g) ⊎ OneOf u (main_routines g g.main) → Everywhere (Loose (with_names o g) u there) (expanded (reverse g.macros) u.body)
      by (inl k) =
          all_loose (is_procedure g) (is_variable g u) (HasOne (procedure_routines g)) true (λ e. has_one (procedure_routines g) u k) false false (expanded (reverse g.macros) u.body)
          (h.routines u there).body (procedure_placed g labels u k)
      by (inr k) =
          all_loose (is_procedure g) (is_variable g u) (HasOne (procedure_routines g)) false (λ e. absurd (never e)) false false (expanded (reverse g.macros) u.body)
          (h.routines u there).body (body_placed_in g labels u k)

  pub body_built : Buildable P (written_statements P u u.body)
  body_built = loose_named P u there body body_loose

  -- from a label on, with macro calls written out after that, or before
  pub label_built : (l : Word) (b : Begin) → at_label u l ≡ Some b → Buildable P (written_statements P u b.items)
  label_built l b e =
      let R = Loose P u there in
      let X = written_out (reverse g.macros) in
      loose_named P u there (expanded (reverse g.macros) b.items)
      (from_label (WrittenOut R X) (PartsOf (WrittenOut R X) (WrittenOutSome R X)) (WrittenOutSome R X) (written_out_pass R X) l unlabelled u.body u.exit b body_loose e)

  pub begin_built : (l : Word) (b : Begin) → begin l unlabelled body u.exit ≡ Some b → Buildable P (graft_all (renames P u) b.items)
  begin_built l b e =
      let R = Loose P u there in
      loose_named P u there b.items (from_label (Everywhere R) (EverywhereOne R) (EverywhereSome R) (everywhere_pass R) l unlabelled body u.exit b body_loose e)

  pub step_built : (s : Step) → OneOf s (steps unlabelled body u.exit) → Buildable P (graft_all (renames P u) s.begins.items)
  step_built s k =
      let R = Loose P u there in
      loose_named P u there s.begins.items (each_step (Everywhere R) (EverywhereOne R) (EverywhereSome R) (everywhere_pass R) unlabelled body u.exit body_loose s k)

  -- ---- settled

  pub label_settled : (l : Word) (b : Begin) → at_label u l ≡ Some b → SettledFor P u l b.exit (written_statements P u b.items)
  label_settled l b e = buildable_settled P u there l b.exit (written_statements P u b.items) (label_built l b e)

  pub begin_settled : (l : Word) (b : Begin) → begin l unlabelled body u.exit ≡ Some b → SettledFor P u l b.exit (graft_all (renames P u) b.items)
  begin_settled l b e = buildable_settled P u there l b.exit (graft_all (renames P u) b.items) (begin_built l b e)

  pub step_settled : (s : Step) → OneOf s (steps unlabelled body u.exit) → SettledFor P u s.label s.begins.exit (graft_all (renames P u) s.begins.items)
  step_settled s k = buildable_settled P u there s.label s.begins.exit (graft_all (renames P u) s.begins.items) (step_built s k)
