-- The formulas of fairness of the worked file of processes: each is true of one step of its run and false of another, by computation.
use Rattle.std.proofs.Common.{Bool, inl, inr, refl}
use Rattle.std.specs.List.{AllByRecursion}
use Rattle.module_tree.specs.AlgorithmText.{algorithm_in}
use Rattle.fairness.specs.Demands.{Demand, demands}
use Rattle.translation.specs.Worked.{HasFairness}
use Rattle.translation.specs.WorkedFiles.{adding_file, adding}
use Rattle.translation.proofs.RowsAdding.{adding_text, adder, is_spelled, has, same_labels, right, short, computed}
use Rattle.translation.proofs.RowsFair.{FairComputed, fair_in_file}
use Rattle.translation.proofs.RowsProcedures.{sequences}
use Rattle.translation.proofs.RowsRight.{text_of, spelled_holds}
use Rattle.translation.proofs.RowsShown.{stands, accepted}

abbrev Shown : Demand → Type 0
Shown D = FairComputed sequences adder adding D

-- of 1, in Left, where its step from A is left out, and in Add; and of 3, that step being none of its own
fair_steps : AllByRecursion Shown (demands adder)
fair_steps = (
  record {
    process = _;
    is_process = (_, refl, inl refl);
    taken = _;
    demanded = refl;
    its_own = refl;
    step = _;
    in_run = inr (inl refl);
    is_true = refl;
    other_step = _;
    also_in_run = inl refl;
    is_false = refl;
  },
  (
    record {
      process = _;
      is_process = (_, refl, inl refl);
      taken = _;
      demanded = refl;
      its_own = refl;
      step = _;
      in_run = inr (inl refl);
      is_true = refl;
      other_step = _;
      also_in_run = inl refl;
      is_false = refl;
    },
    (
      record {
        process = _;
        is_process = (_, refl, inl refl);
        taken = _;
        demanded = refl;
        its_own = refl;
        step = _;
        in_run = inr (inr (inl refl));
        is_true = refl;
        other_step = _;
        also_in_run = inl refl;
        is_false = refl;
      },
      (
        record {
          process = _;
          is_process = (_, refl, inr (inr (inl refl)));
          taken = _;
          demanded = refl;
          its_own = refl;
          step = _;
          in_run = inr (inr (inr (inr (inr (inl refl)))));
          is_true = refl;
          other_step = _;
          also_in_run = inl refl;
          is_false = refl;
        },
        tt,
      ),
    ),
  ),
)

pub adding_fair : (forced : Bool) → HasFairness forced adding_file adding 4
adding_fair forced =
    let held = spelled_holds adding_file adding_text (text_of (algorithm_in adding_file)) is_spelled sequences has in
    fair_in_file forced adding_file adder adder sequences adding
    (stands forced adding_file adder adder sequences adding (right forced) short held has (same_labels forced) computed) has (same_labels forced)
    (accepted forced adding_file adder adder sequences adding (right forced) short held has (same_labels forced) computed) computed 4 refl fair_steps
