-- A checked algorithm of a file with which nothing is wrong can run, over its pool and over larger ones.
use Rattle.std.proofs.Common.{◌≡◌, ◌<◌, ◌≤◌, Bool, List, length, None, sym, subst, ◌∙◌, arith}
use Rattle.tla_token.specs.Limits.{past_text}
use Rattle.tla_tree.specs.Tree.{Tree}
use Rattle.tla_tree.specs.Pool.{Keeps}
use Rattle.tla_value.specs.Limits.{bounded}
use Rattle.tla_value.specs.Outside as around
use Rattle.tla_value.specs.States.{Entries}
use Rattle.pcal_tree.specs.Algorithm.{Algorithm}
use Rattle.pcal_tree.specs.InMemory.{algorithm_at}
use Rattle.pcal_tree.specs.Labelled.{labelled}
use Rattle.pcal_tree.specs.Names.{naming}
use Rattle.pcal_tree.specs.Programs.{program_in}
use Rattle.pcal_tree.specs.Variables.{vars}
use Rattle.pcal_tree.proofs.InMemoryGrown.{algorithm_at-kept}
use Rattle.module_tree.specs.TextFront.{Text}
use Rattle.promise.specs.Headline.{Stands}
use Rattle.file_answer.specs.Checking.{AnswersChecking}
use Rattle.file_answer.proofs.SpelledInFile.{stand_there}
use Rattle.action_builder.specs.WrittenNames.{with_names}
use Rattle.translation.specs.laws.AcceptedAlgorithm.{IsAcceptedInFile}
use Rattle.translation.proofs.KeptAccepted.{checked_is_fine, stands_in_file}
use Rattle.build_premises.proofs.CheckedVariables.{checked_few}
use Rattle.name_bits.specs.NamesIn.{most}
use Rattle.module_outside.specs.WholeAt.{outside_at}
use Rattle.checking.specs.CheckedIn.{IsLabelled}
use Rattle.checking.specs.declared.check.Checked.{Checked}
use Rattle.step_runner.specs.Config.{constants_of}
use Rattle.running.proofs.ReadLaws.{read_kept, held_more}
use Rattle.running.specs.Ready.{CanRun, program_read}

-- ---- of a file

module _ (forced : Bool) (x : Text) (ts : List Tree) (c : Checked) (h : IsLabelled forced x ts c) (right : AnswersChecking forced x None) (short : length x < past_text) where
  stands : Stands x h.tree
  stands = stand_there x h.holds.text h.holds.syntax h.tree (checked_is_fine forced x right) h.holds.is_text h.holds.spelled

  pub can_run : CanRun ts c
  can_run = record {
    past = h.past;
    held = h.held;
    names = h.names ∙ (λ i. naming (sym h.algorithm i) (sym h.is_outside i));
    accepted = subst (λ (a : Algorithm). IsAcceptedInFile (outside_at ts c.outside) a) (sym h.algorithm)
        (subst (λ (o : around.Outside). IsAcceptedInFile o (labelled forced h.tree)) (sym h.is_outside) (stands_in_file forced x right h.tree stands h.outside h.has short));
    few = subst (λ (a : Algorithm). length (vars (with_names (outside_at ts c.outside) a)) ≤ most) (sym h.algorithm)
        (checked_few forced x right h.tree stands (outside_at ts c.outside));
  }

-- ---- over a larger pool

module _ (ts us : List Tree) (k : Keeps ts us) (c : Checked) (h : CanRun ts c) where
  pub algorithm_kept : algorithm_at us c.algorithm ≡ algorithm_at ts c.algorithm
  algorithm_kept = algorithm_at-kept ts us k c.algorithm h.past

  pub outside_kept : outside_at us c.outside ≡ outside_at ts c.outside
  outside_kept = λ i. record (outside_at ts c.outside) { definitions = read_kept ts us c.outside.definitions.items k h.held i }

  pub program_kept : (es : Entries) → program_read us c es ≡ program_read ts c es
  program_kept es = λ i. program_in bounded (outside_kept i) (algorithm_kept i) (constants_of es)

  pub run_kept : CanRun us c
  run_kept = record {
    past = (let p = h.past in let l = k.longer in omega (arith, p, l));
    held = held_more (length ts) (length us) c.outside.definitions.items k.longer h.held;
    names = h.names ∙ (λ i. naming (sym algorithm_kept i) (sym outside_kept i));
    accepted = subst (λ (a : Algorithm). IsAcceptedInFile (outside_at us c.outside) a) (sym algorithm_kept)
        (subst (λ (o : around.Outside). IsAcceptedInFile o (algorithm_at ts c.algorithm)) (sym outside_kept) h.accepted);
    few = subst (λ (a : Algorithm). length (vars (with_names (outside_at us c.outside) a)) ≤ most) (sym algorithm_kept)
        (subst (λ (o : around.Outside). length (vars (with_names o (algorithm_at ts c.algorithm))) ≤ most) (sym outside_kept) h.few);
  }
