-- With a file that has a procedure which calls itself nothing is wrong, by computation; so what is written for it is as the law on all texts has it.
use Rattle.std.proofs.Common.{◌<◌, length, [], Bool, true, false, None, refl, sym, subst, arith}
use Rattle.tla_token.specs.Limits.{past_text}
use Rattle.tla_value.specs.Outside.{Outside}
use Rattle.pcal_tree.specs.Algorithm.{Algorithm}
use Rattle.pcal_tree.specs.Grammar.{algorithm_of, p_syntax}
use Rattle.pcal_tree.specs.Labelled.{labelled}
use Rattle.pcal_tree.specs.OpenForms.{opens}
use Rattle.module_tree.specs.Layout.{layout}
use Rattle.module_tree.specs.Walk.{walk}
use Rattle.module_tree.specs.WithTranslation.{WithTranslation}
use Rattle.module_tree.proofs.SomeOutside.{one_outside_of}
use Rattle.promise.specs.Headline.{Headline}
use Rattle.promise.specs.Options.{no_options}
use Rattle.file_answer.specs.Checking.{OfTree, AnswersChecking}
use Rattle.file_answer.specs.Holds.{HoldsTree}
use Rattle.file_answer.specs.Refusals.{Wrong}
use Rattle.file_answer.proofs.OneTree.{one_held}
use Rattle.action_builder.specs.WrittenNames.{with_names}
use Rattle.translation.specs.PromiseWhole.{WrittenWhole}
use Rattle.translation.specs.Region.{region_of}
use Rattle.translation.proofs.AgainFiles.{text_checked_again, text_written_again}
use Rattle.translation.proofs.KeptPromise.{texts_keep_the_promise}
use Rattle.translation.proofs.RowsProcedures as procedures
use Rattle.translation.proofs.RowsStands.{add_text, add_good, add_stands, add_same, add_has}

abbrev nothing : Wrong
nothing = record { bytes = []; parts = []; tokens = []; syntax = None; counts = []; names = []; labels = [] }

abbrev adder : Algorithm
adder = algorithm_of add_text

add_holds : HoldsTree procedures.file adder
add_holds = record { text = _; is_text = refl; syntax = p_syntax; spelled = (add_text, add_good, refl, refl) }

-- also where labels would be added to each algorithm, nothing is wrong with it: each statement that wants a label has one
of_adder : (forced : Bool) → OfTree nothing procedures.sequences (labelled forced adder)
of_adder true = record { names = refl; labels = refl }
of_adder false = record { names = refl; labels = refl }

pub add_is_right : (forced : Bool) → AnswersChecking forced procedures.file None
add_is_right forced = (
  nothing,
  record {
    spelling = record {
      bytes = refl;
      parts = refl;
      algorithm = (refl, ([], opens add_text, (add_text, add_good, refl, refl), search), (adder, (add_text, add_good, refl, refl), refl));
      names = refl;
      labels = refl;
    };
    tree = λ g o h k.
        subst (λ (g : Algorithm). OfTree nothing o (labelled forced g)) (one_held procedures.file adder g add_holds h)
        (subst (λ (o : Outside). OfTree nothing o (labelled forced adder)) (one_outside_of (walk procedures.file) procedures.sequences o add_has k) (of_adder forced));
    no_tree = λ n. absurd (n adder add_holds);
  },
  refl,
)

-- its translation, to the byte
pub add_whole : WrittenWhole no_options procedures.file procedures.translated
add_whole = record {
  algorithm = adder;
  stands = add_stands;
  outside = procedures.sequences;
  has = add_has;
  is = subst (λ (a : Algorithm). WithTranslation procedures.file (layout (region_of false (with_names procedures.sequences a))) procedures.translated) (sym add_same) procedures.put;
}

add_short : length procedures.file < past_text
add_short = omega arith

add_kept : Headline no_options procedures.file procedures.translated
add_kept = texts_keep_the_promise no_options procedures.file procedures.translated (add_is_right false) add_short add_whole

-- with that text nothing is wrong either, and it alone is what is written for it
add_is_right_again : AnswersChecking false procedures.translated None
add_is_right_again = text_checked_again no_options procedures.file procedures.translated (add_is_right false) add_short add_whole

add_stays : WrittenWhole no_options procedures.translated procedures.translated
add_stays = text_written_again no_options procedures.file procedures.translated (add_is_right false) add_short add_whole
