-- With a file that a rewriting doesn't refuse nothing is wrong for a check, where its algorithm breaks no rule on names and labels.
use Rattle.std.proofs.Common.{◌≡◌, Bool, true, List, [], ◌++◌, Option, Some, None, refl, sym, ap, subst, ◌∙◌, append-nil}
use Rattle.std.specs.List.{list_all}
use Rattle.tla_token.specs.declared.rule.Refusal.{Refusal}
use Rattle.tla_value.specs.Outside.{Outside}
use Rattle.pcal_tree.specs.Algorithm.{Algorithm}
use Rattle.pcal_tree.specs.Labelled.{labelled}
use Rattle.pcal_tree.specs.Offences.{first}
use Rattle.pcal_tree.specs.OffencesLabels.{label_offences}
use Rattle.pcal_tree.specs.OffencesOfNames.{name_offences}
use Rattle.module_tree.specs.AlgorithmText.{AlgorithmText, algorithm_in, algorithm_tokens}
use Rattle.module_tree.specs.FileOffences.{file_offences}
use Rattle.module_tree.specs.TextFront.{Text}
use Rattle.module_tree.specs.Walk.{walk}
use Rattle.module_tree.specs.laws.Outsides.{HasOutside}
use Rattle.module_tree.proofs.FineFiles.{all_more}
use Rattle.macro_expand.specs.TooLarge.{too_large}
use Rattle.tla_token.specs.AlgorithmOffences.{algorithm_offences}
use Rattle.algorithm_answer.specs.Answered.{or_counts}
use Rattle.file_answer.specs.Checking.{AnswersChecking}
use Rattle.file_answer.specs.Holds.{HoldsTree}
use Rattle.file_answer.specs.Refusals.{Wrong, or_else, counting, up_to, of_spelling, of_all, refusal_of}
use Rattle.file_answer.specs.Spelling.{of_rules, OfAlgorithm, IsSpelling, AnswersRewriting}
use Rattle.file_answer.proofs.Decided.{is_asked_of, all_up, all_or_else, in_text_asked, read_all}
use Rattle.file_answer.proofs.OneAnswer.{asked, asked_alone}
use Rattle.file_answer.proofs.Unrefused.{is_asked, none_first, rules_asked, tokens_asked}

-- ---- all that is wrong by the rules on spelling is asked

abbrev pub AllAsked : List Refusal → Type 0
AllAsked rs = list_all is_asked_of rs ≡ true

of_algorithm : (x : Text) (w : Wrong) (o : Option AlgorithmText) → OfAlgorithm x w o → AllAsked (w.tokens ++ or_counts w.syntax w.counts)
of_algorithm x w None h = rw (h.0, h.1, h.2) refl
of_algorithm x w (Some a) h =
    all_more is_asked_of w.tokens (or_counts w.syntax w.counts)
    (subst AllAsked (sym h.0) (in_text_asked x (algorithm_offences (algorithm_tokens x a)) (tokens_asked (algorithm_tokens x a))))
    (read_all is_asked refl refl refl x a w.syntax w.counts h.1 h.2)

pub all_asked : (x : Text) (w : Wrong) → IsSpelling x w → AllAsked (asked w)
all_asked x w h =
    let os = file_offences x in
    let bytes = subst AllAsked (sym h.bytes) (in_text_asked x (of_rules 1 4 os) (rules_asked 1 4 refl os)) in
    let parts = subst AllAsked (sym h.parts) (in_text_asked x (of_rules 5 10 os) (rules_asked 5 10 refl os)) in
    all_or_else is_asked_of w.bytes _ bytes (all_more is_asked_of w.parts (w.tokens ++ or_counts w.syntax w.counts) parts (of_algorithm x w (algorithm_in x) h.algorithm))

pub none_asked : (x : Text) (w : Wrong) → IsSpelling x w → refusal_of of_spelling w ≡ None → asked w ≡ []
none_asked x w h e = sym (all_up (asked w) (all_asked x w h)) ∙ sym (asked_alone w h.names h.labels) ∙ none_first (up_to of_spelling (counting w)) e

-- ---- so nothing is, where no other rule is broken

-- what is wrong up to how the algorithm is spelled
abbrev pub spelled_only : Wrong → Wrong
spelled_only w = record w { names = []; labels = [] }

pub same_algorithm : (x : Text) (w : Wrong) (o : Option AlgorithmText) → OfAlgorithm x w o → OfAlgorithm x (spelled_only w) o
same_algorithm x w None h = h
same_algorithm x w (Some a) h = h

none_counts : (x : Text) (w : Wrong) → IsSpelling x w → refusal_of of_spelling w ≡ None → refusal_of of_all (spelled_only w) ≡ None
none_counts x w h e =
    ap (λ (cs : List Refusal). first (up_to of_all (or_else w.bytes (w.parts ++ (w.tokens ++ or_counts w.syntax cs))))) (append-nil w.counts)
    ∙ ap (λ (rs : List Refusal). first (up_to of_all rs)) (none_asked x w h e)

pub checked_clean : (forced : Bool) (x : Text) → AnswersRewriting x None
    → ((g : Algorithm) (o : Outside) → HoldsTree x g → HasOutside (walk x) o → (name_offences (labelled forced g) o ≡ []) × (label_offences (labelled forced g) ≡ []) × (too_large (labelled forced g) ≡ []))
    → AnswersChecking forced x None
checked_clean forced x (w, h, e) none = (
  spelled_only w,
  record {
    spelling = record { bytes = h.bytes; parts = h.parts; algorithm = same_algorithm x w (algorithm_in x) h.algorithm; names = refl; labels = refl };
    tree = λ g o held has. (let k = none g o held has in record { names = sym k.0; labels = λ i. sym k.1 i ++ sym k.2 i });
    no_tree = λ n. (refl, refl);
  },
  none_counts x w h e,
)
