-- In the first values of an accepted algorithm's routines, under any limits: written names and identifiers that are put in capture nothing, and what is read is seen.
use Rattle.std.proofs.Common.{◌≡◌, ◌++◌, [], sym, ap, subst, ◌∙◌}
use Rattle.std.proofs.lemmas.List.{append-nil}
use Rattle.tla_token.specs.Places.{nowhere}
use Rattle.tla_tree.specs.Tree.{Word, binders, Tree, Every}
use Rattle.tla_value.specs.Definitions.{Valuation}
use Rattle.tla_value.specs.Grafts.{owned}
use Rattle.tla_value.specs.Outside.{Outside}
use Rattle.tla_value.specs.Stops.{Check, plain}
use Rattle.tla_value.specs.laws.Grafting.{Apart, ApartForm, BindsClear}
use Rattle.tla_value.proofs.Facts.{each_weaker}
use Rattle.module_tree.specs.Formulas.{self}
use Rattle.pcal_tree.specs.Algorithm.{await, Statements, done, then, Routine, routines, Algorithm}
use Rattle.pcal_tree.specs.BoundNames.{lists_in, lists_in_body}
use Rattle.pcal_tree.specs.Expand.{graft_all}
use Rattle.pcal_tree.specs.OffencesNames.{in_whole}
use Rattle.pcal_tree.specs.OffencesRebind.{whole_rebinds, macro_rebinds}
use Rattle.pcal_tree.specs.Processes.{OneOf}
use Rattle.pcal_tree.specs.Program.{Program}
use Rattle.pcal_tree.specs.Programs.{program_in}
use Rattle.pcal_tree.proofs.CallsFine.{throughout_both}
use Rattle.pcal_tree.proofs.GraftsRead.{tree_wider}
use Rattle.pcal_tree.proofs.NothingCaptured.{Free, BindsFree, pub_keeps, written_bare}
use Rattle.pcal_tree.proofs.Uncaptured.{throughout_weaker, uncaptured}
use Rattle.action_builder.specs.OwnVariables.{is_own_variable}
use Rattle.action_builder.specs.WrittenNames.{renames, renamed}
use Rattle.action_builder.specs.laws.WrittenScope.{Seen}
use Rattle.action_builder.proofs.WrittenStarts.{IsNamed}
use Rattle.tla_value.specs.laws.FreeNames.{Any}
use Rattle.translation.specs.laws.AcceptedAlgorithm.{IsAcceptedInFile}
use Rattle.translation.specs.laws.AcceptedLaws.{extra_of}
use Rattle.translation.proofs.BoundOf.{AllIn, BindsAll, body_bound}
use Rattle.translation.proofs.FromLabels.{More}
use Rattle.translation.proofs.InitNames as init
use Rattle.translation.proofs.InitNames.{sight_of, standings_of, is_named}
use Rattle.translation.proofs.NamesGiven.{Bound, once, bound_apart}
use Rattle.translation.proofs.VariableNames.{each_to, each_two}
use Rattle.accepted_steps.proofs.AnyLimits.{seen_less}
use Rattle.accepted_steps.proofs.CleanSteps.{Aside, bound_aside, aside_apart, renames_has}

-- an expression as a body that reads it
abbrev body_of : Tree → Statements
body_of e = then (record { first = nowhere; last = nowhere }) (await e) done

module _ (o : Outside) (a : Algorithm) (h : IsAcceptedInFile o a) (values : Valuation) (c : Check) (u : Routine) (k : OneOf u (routines a)) where
  abbrev P : Program
  P = program_in c o a values

  abbrev Q : Program
  Q = program_in plain o a values

  -- an expression of a first value in u, which breaks no rule on names
  module _ (e : Tree) (used : in_whole e (sight_of o a u) ≡ []) (again : whole_rebinds o.extended e (standings_of o a u) ≡ []) (bound : AllIn (init.Bound o a) (lists_in e)) where
    abbrev B : Word → Type 0
    B = Bound o a h values

    abbrev F : Word → Type 0
    F = Free o.extended a.procedures (standings_of o a u)

    whole_bound : AllIn B (lists_in_body (body_of e))
    whole_bound = subst (AllIn B) (sym (append-nil (lists_in e))) bound

    at_least : More o.extended a.procedures (macro_rebinds o.extended a.procedures []) (once o a h values u k).standings (standings_of o a u)
    at_least y q = sym ((once o a h values u k).scope y) ∙ q

    apart : (x : Word) → B x → F x → Apart (renames P u) x
    apart = bound_apart o a h values u k (standings_of o a u) at_least

    names_clear : Every (BindsClear c (renames P u)) e
    names_clear =
        let g = renames P u in
        (uncaptured c g (body_of e)
        (throughout_weaker (λ m at. BindsAll B m at × BindsFree o.extended a.procedures (standings_of o a u) m at) (ApartForm g) (λ x. B x × F x) (Apart g) (λ m at f. each_two B F (Apart g) apart (binders m) f.0 f.1) (λ x f. apart x f.0 f.1) (body_of e)
        (throughout_both (BindsAll B) (BindsFree o.extended a.procedures (standings_of o a u)) B F (body_of e) (body_bound B [] (λ d m. absurd m) (body_of e) whole_bound)
        (written_bare o.extended a.procedures [] (body_of e) (standings_of o a u) (ap (λ xs. xs ++ []) again))))).0

    own_clear : Every (BindsClear c (owned self (is_own_variable P))) (renamed P u e)
    own_clear =
        let g = owned self (is_own_variable P) in
        let A : Word → Type 0 = Aside o a h values in
        (uncaptured c g (graft_all (renames P u) (body_of e))
        (throughout_weaker _ _ _ _ (λ m at f. each_weaker A (Apart g) (aside_apart o a h values) (binders m) f) (aside_apart o a h values) (graft_all (renames P u) (body_of e))
        (pub_keeps (BindsAll A) A (renames P u) (λ m p q f. f) (renames_has o a h values A u) (body_of e) (body_bound A [] (λ d m. absurd m) (body_of e) (each_to B A (bound_aside o a h values) _ whole_bound))))).0

    pub first_named : IsNamed P [] u e
    first_named = record {
      names = names_clear;
      own = own_clear;
      reads = tree_wider (Seen Q (extra_of a) u) (Seen P [] u) Any (seen_less o a h values c u) e (is_named o a h values u k e used again bound).reads;
    }
