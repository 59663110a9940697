-- What a check of a file is answered: as a rewriting, where that is refused; else by the rules on names, and where none is broken, by those on labels and sizes.
use Rattle.std.proofs.Common.{◌≡◌, ◌⊎◌, inl, inr, nat_le, Bool, true, cond, List, [], ◌∷◌, ◌++◌, Option, Some, None, Ok, Err, refl, sym, ap, subst, ◌∙◌, append_assoc}
use Rattle.std.specs.Prelude.{filter}
use Rattle.std.specs.List.{list_all}
use Rattle.tla_token.specs.declared.rule.Rule.{Rule}
use Rattle.tla_token.specs.declared.rule.Rule.TheVariants.{NotAscii, BadToken, OpenComment, OpenString, NoModule, NoAlgorithm, TwoAlgorithms, BadRegion, Placement, Options, LeftOutWord, NumberTooBig, TooMany, TooDeep, Unknown, Duplicate, Rebind, Reserved, Arity, NotVariable, NeedsModule, OutsideVariable, OpaqueUnit, ProcessNotConstant, InitSelf, InitLater, Infinite, DefinedStale, SelfOutside, FirstLabel, WhileLabel, AfterJump, AfterBranch, LabelInside, AssignTwice, UnknownLabel, ReturnOutside, DoubleLabel, TooLarge, BadLine}
use Rattle.tla_token.specs.declared.rule.Rule.TheVariants as rule
use Rattle.tla_token.specs.declared.rule.Refusal.{Refusal}
use Rattle.tla_token.specs.Rules.{rule_number}
use Rattle.tla_value.specs.Outside.{Outside}
use Rattle.std.proofs.lemmas.Option.{same_Some}
use Rattle.tla_token.specs.Tokens as text
use Rattle.tla_tree.specs.Reader.{Out, Reader}
use Rattle.pcal_tree.specs.AlgorithmTokens.{views}
use Rattle.pcal_tree.specs.Grammar as grammar
use Rattle.pcal_tree.specs.Grammar.{Syntax, p_syntax, c_syntax, algorithm_of, Spells}
use Rattle.syntax_reading.proofs.StopsOf.{ReadsAll}
use Rattle.p_reading.specs.ReadAlgorithm as p
use Rattle.p_reading.proofs.StopsWithin as p_within
use Rattle.c_reading.specs.ReadAlgorithm as c
use Rattle.c_reading.proofs.StopsWithin as c_within
use Rattle.module_tree.specs.AlgorithmText.{AlgorithmText, algorithm_in, algorithm_tokens}
use Rattle.pcal_tree.specs.Algorithm.{Algorithm}
use Rattle.pcal_tree.specs.Labelled.{labelled}
use Rattle.pcal_tree.specs.Names.{naming}
use Rattle.source_map.specs.Lines.{lines, lines_text}
use Rattle.pcal_tree.specs.Offences.{first}
use Rattle.pcal_tree.specs.OffencesLabels.{label_offences}
use Rattle.pcal_tree.specs.OffencesOfNames.{name_offences}
use Rattle.module_tree.specs.TextFront.{Text}
use Rattle.module_tree.specs.Walk.{walk}
use Rattle.module_tree.specs.laws.Outsides.{HasOutside}
use Rattle.module_tree.proofs.SomeOutside.{outside_read, has_outside, one_outside_of}
use Rattle.macro_expand.specs.TooLarge.{too_large}
use Rattle.algorithm_answer.specs.Answered.{or_counts}
use Rattle.file_answer.specs.Checking.{IsChecking, AnswersChecking}
use Rattle.file_answer.specs.Holds.{HoldsTree}
use Rattle.file_answer.specs.Mapped.{IsMapped}
use Rattle.file_answer.specs.Refusals.{Wrong, or_else, counting, up_to, of_spelling, of_all, refusal_of}
use Rattle.file_answer.specs.Spelling.{IsSpelling, AnswersRewriting}
use Rattle.file_answer.proofs.CheckedClean.{AllAsked, all_asked, none_asked, spelled_only, same_algorithm}
use Rattle.file_answer.proofs.Decided.{all_up}
use Rattle.file_answer.proofs.FirstRule.{front_first}
use Rattle.file_answer.proofs.LaterLabels.{labels_are_later}
use Rattle.file_answer.proofs.LaterNames.{AllLater, names_are_later}
use Rattle.file_answer.proofs.OneAnswer.{asked, asked_alone, some_answer, SameSpelling, same_spelling}
use Rattle.file_answer.proofs.OneTree.{one_held}
use Rattle.file_answer.proofs.Unrefused.{unrefused_holds}

-- ---- all rules count

every_rule : (r : Rule) → nat_le (rule_number r) of_all ≡ true
every_rule NotAscii = refl
every_rule BadToken = refl
every_rule OpenComment = refl
every_rule OpenString = refl
every_rule NoModule = refl
every_rule NoAlgorithm = refl
every_rule TwoAlgorithms = refl
every_rule BadRegion = refl
every_rule Placement = refl
every_rule Options = refl
every_rule LeftOutWord = refl
every_rule NumberTooBig = refl
every_rule TooMany = refl
every_rule TooDeep = refl
every_rule rule.Syntax = refl
every_rule Unknown = refl
every_rule Duplicate = refl
every_rule Rebind = refl
every_rule Reserved = refl
every_rule Arity = refl
every_rule NotVariable = refl
every_rule NeedsModule = refl
every_rule OutsideVariable = refl
every_rule OpaqueUnit = refl
every_rule ProcessNotConstant = refl
every_rule InitSelf = refl
every_rule InitLater = refl
every_rule Infinite = refl
every_rule DefinedStale = refl
every_rule SelfOutside = refl
every_rule FirstLabel = refl
every_rule WhileLabel = refl
every_rule AfterJump = refl
every_rule AfterBranch = refl
every_rule LabelInside = refl
every_rule AssignTwice = refl
every_rule UnknownLabel = refl
every_rule ReturnOutside = refl
every_rule DoubleLabel = refl
every_rule TooLarge = refl
every_rule BadLine = refl

all_count : (rs : List Refusal) → up_to of_all rs ≡ rs
all_count [] = refl
all_count (r ∷ rs) = ap (λ (b : Bool). cond b (r ∷ up_to of_all rs) (up_to of_all rs)) (every_rule r.rule) ∙ ap (λ (qs : List Refusal). r ∷ qs) (all_count rs)

-- ---- what counts, with these rules broken besides

abbrev with_later : Wrong → List Refusal → List Refusal → Wrong
with_later w names labels = record w { names = names; labels = labels }

or_later : (names labels : List Refusal) → AllLater names → AllLater labels → AllLater (or_else names labels)
or_later [] labels h k = k
or_later (r ∷ rs) labels h k = h

regrouped : (a b d e : List Refusal) → a ++ (b ++ (d ++ e)) ≡ (a ++ (b ++ d)) ++ e
regrouped a b d e = sym (append_assoc a (b ++ d) e ∙ ap (λ (u : List Refusal). a ++ u) (append_assoc b d e))

-- behind what is asked comes all that is later, or, where something is asked, nothing
data Counts (w : Wrong) (later rs : List Refusal) : Type 0 where
  alone : rs ≡ asked w → (asked w ≡ [] → ⊥) → Counts w later rs
  behind : rs ≡ asked w ++ later → Counts w later rs

abbrev counting_with : Wrong → List Refusal → Option Refusal → List Refusal → List Refusal
counting_with w b s cs = or_else b (w.parts ++ (w.tokens ++ or_counts s cs))

none_behind : (xs ys : List Refusal) → xs ++ ys ≡ [] → ys ≡ []
none_behind [] ys e = e
none_behind (x ∷ xs) ys e = absurd cc

counts : (w : Wrong) (names labels : List Refusal) → Counts w (or_else names labels) (counting (with_later w names labels))
counts w names labels = by w.bytes w.syntax refl refl
  where
    later : List Refusal
    later = or_else names labels

    by : (b : List Refusal) (s : Option Refusal) → w.bytes ≡ b → w.syntax ≡ s → Counts w later (counting_with w w.bytes w.syntax (w.counts ++ later))
    by (r ∷ rs) s e f =
        alone (ap (λ b. counting_with w b w.syntax (w.counts ++ later)) e ∙ sym (ap (λ b. counting_with w b w.syntax w.counts) e))
        (λ g. (let k : r ∷ rs ≡ [] = sym (ap (λ b. counting_with w b w.syntax w.counts) e) ∙ g in absurd cc))
    by [] (Some r) e f =
        alone ((λ i. counting_with w (e i) (f i) (w.counts ++ later)) ∙ sym (λ i. counting_with w (e i) (f i) w.counts))
        (λ g. (let k : r ∷ [] ≡ [] = none_behind w.tokens (r ∷ []) (none_behind w.parts (w.tokens ++ r ∷ []) (sym (λ i. counting_with w (e i) (f i) w.counts) ∙ g)) in absurd cc))
    by [] None e f =
        behind ((λ i. counting_with w (e i) (f i) (w.counts ++ later)) ∙ regrouped w.parts w.tokens w.counts later ∙ sym (λ i. counting_with w (e i) (f i) w.counts ++ later))

-- ---- whether the tokens spell an algorithm

abbrev Spelled : Syntax → List text.Token → Type 0
Spelled s ts = (g : Algorithm) × Spells s ts g

abbrev Unspelled : Syntax → List text.Token → Type 0
Unspelled s ts = (g : Algorithm) → Spells s ts g → ⊥

read_or_not : (s : Syntax) (read : Reader grammar.Text) → ReadsAll s read → (ts : List text.Token) → Spelled s ts ⊎ Unspelled s ts
read_or_not s read facts ts = by (read (views ts)) refl
  where
    by : (z : Out grammar.Text) → read (views ts) ≡ z → Spelled s ts ⊎ Unspelled s ts
    by (Ok (x, rest)) o = (let w = facts.spelled (views ts) x rest o in inl (algorithm_of x, (x, w.0, w.1, refl)))
    by (Err (q, rest)) o = inr (λ g k. facts.unspelled (views ts) rest q o k.0 k.1 k.2)

spelled_or_not : (s : Syntax) (ts : List text.Token) → Spelled s ts ⊎ Unspelled s ts
spelled_or_not p_syntax = read_or_not p_syntax p.read_algorithm p_within.reads_within.all
spelled_or_not c_syntax = read_or_not c_syntax c.read_algorithm c_within.reads_within.all

held_or_not : (x : Text) → ((g : Algorithm) × HoldsTree x g) ⊎ ((g : Algorithm) → HoldsTree x g → ⊥)
held_or_not x = by (algorithm_in x) refl
  where
    there : (a : AlgorithmText) → algorithm_in x ≡ Some a → Spelled p_syntax (algorithm_tokens x a) ⊎ Unspelled p_syntax (algorithm_tokens x a)
        → Spelled c_syntax (algorithm_tokens x a) ⊎ Unspelled c_syntax (algorithm_tokens x a) → ((g : Algorithm) × HoldsTree x g) ⊎ ((g : Algorithm) → HoldsTree x g → ⊥)
    there a e (inl (g, h)) k = inl (g, record { text = a; is_text = e; syntax = p_syntax; spelled = h })
    there a e (inr h) (inl (g, k)) = inl (g, record { text = a; is_text = e; syntax = c_syntax; spelled = k })
    there a e (inr h) (inr k) = inr (λ g held. none held.syntax g (subst (λ (b : AlgorithmText). Spells held.syntax (algorithm_tokens x b) g) (same_Some held.text a (sym held.is_text ∙ e)) held.spelled))
      where
        none : (s : Syntax) (g : Algorithm) → Spells s (algorithm_tokens x a) g → ⊥
        none p_syntax = h
        none c_syntax = k

    by : (o : Option AlgorithmText) → algorithm_in x ≡ o → ((g : Algorithm) × HoldsTree x g) ⊎ ((g : Algorithm) → HoldsTree x g → ⊥)
    by None e = inr (λ g held. (let f : None ≡ Some held.text = sym e ∙ held.is_text in absurd cc))
    by (Some a) e = there a e (spelled_or_not p_syntax (algorithm_tokens x a)) (spelled_or_not c_syntax (algorithm_tokens x a))

-- ---- what is wrong with a file

-- these rules are broken besides
record Broken (forced : Bool) (x : Text) (names labels : List Refusal) : Type 0 where
  tree : (g : Algorithm) (o : Outside) → HoldsTree x g → HasOutside (walk x) o → (names ≡ name_offences (labelled forced g) o) × (labels ≡ label_offences (labelled forced g) ++ too_large (labelled forced g))
  no_tree : ((g : Algorithm) → HoldsTree x g → ⊥) → (names ≡ []) × (labels ≡ [])
  names_later : AllLater names
  labels_later : AllLater labels

of_held : (forced : Bool) (x : Text) (g : Algorithm) (o : Outside) → HoldsTree x g → HasOutside (walk x) o
    → Broken forced x (name_offences (labelled forced g) o) (label_offences (labelled forced g) ++ too_large (labelled forced g))
of_held forced x g o held has = record {
  tree = λ h q held_too has_too. (
    (let same = one_held x g h held held_too in let there = one_outside_of (walk x) o q has has_too in λ i. name_offences (labelled forced (same i)) (there i)),
    (let same = one_held x g h held held_too in λ i. label_offences (labelled forced (same i)) ++ too_large (labelled forced (same i))),
  );
  no_tree = λ none. absurd (none g held);
  names_later = names_are_later (labelled forced g) o;
  labels_later = labels_are_later (labelled forced g);
}

of_none : (forced : Bool) (x : Text) → ((g : Algorithm) → HoldsTree x g → ⊥) → Broken forced x [] []
of_none forced x none = record { tree = λ g o held has. absurd (none g held); no_tree = λ n. (refl, refl); names_later = refl; labels_later = refl }

broken : (forced : Bool) (x : Text) → (names : List Refusal) × (labels : List Refusal) × Broken forced x names labels
broken forced x = by (held_or_not x)
  where
    by : ((g : Algorithm) × HoldsTree x g) ⊎ ((g : Algorithm) → HoldsTree x g → ⊥) → (names : List Refusal) × (labels : List Refusal) × Broken forced x names labels
    by (inl (g, held)) =
        (name_offences (labelled forced g) (outside_read (walk x)), label_offences (labelled forced g) ++ too_large (labelled forced g), of_held forced x g (outside_read (walk x)) held (has_outside (walk x)))
    by (inr none) = ([], [], of_none forced x none)

is_checking : (forced : Bool) (x : Text) (w : Wrong) (names labels : List Refusal) → IsSpelling x w → Broken forced x names labels → IsChecking forced x (with_later w names labels)
is_checking forced x w names labels h b = record {
  spelling = record { bytes = h.bytes; parts = h.parts; algorithm = same_algorithm x w (algorithm_in x) h.algorithm; names = refl; labels = refl };
  tree = λ g o held has. (let k = b.tree g o held has in record { names = k.0; labels = k.1 });
  no_tree = b.no_tree;
}

-- ---- answers

-- the first of all that counts, where what is asked is refused
refused_alike : (w : Wrong) (names labels : List Refusal) (r : Refusal) → AllAsked (asked w) → AllLater (or_else names labels) → first (asked w) ≡ Some r → refusal_of of_all (with_later w names labels) ≡ Some r
refused_alike w names labels r low high e = ap first (all_count (counting (with_later w names labels))) ∙ by (counting (with_later w names labels)) (counts w names labels)
  where
    by : (rs : List Refusal) → Counts w (or_else names labels) rs → first rs ≡ Some r
    by rs (alone f some) = ap first f ∙ e
    by rs (behind f) = ap first f ∙ front_first of_spelling (asked w) (or_else names labels) r low high e

pub check_refused : (forced : Bool) (x : Text) (r : Refusal) → AnswersRewriting x (Some r) → AnswersChecking forced x (Some r)
check_refused forced x r (w, h, e) =
    let b = broken forced x in
    let low = all_asked x w h in
    let asked_first = ap first (sym (asked_alone w h.names h.labels ∙ all_up (asked w) low)) ∙ e in
    (with_later w b.0 b.1, is_checking forced x w b.0 b.1 h b.2, refused_alike w b.0 b.1 r low (or_later b.0 b.1 b.2.names_later b.2.labels_later) asked_first)

-- where nothing is asked, what is broken besides
decided_by : (w : Wrong) (names labels : List Refusal) → asked w ≡ [] → refusal_of of_all (with_later w names labels) ≡ first (or_else names labels)
decided_by w names labels e = ap first (all_count (counting (with_later w names labels))) ∙ by (counting (with_later w names labels)) (counts w names labels)
  where
    by : (rs : List Refusal) → Counts w (or_else names labels) rs → first rs ≡ first (or_else names labels)
    by rs (alone f some) = absurd (some e)
    by rs (behind f) = ap first (f ∙ ap (λ (qs : List Refusal). qs ++ or_else names labels) e)

pub check_decided : (forced : Bool) (x : Text) (g : Algorithm) (o : Outside) → AnswersRewriting x None → HoldsTree x g → HasOutside (walk x) o
    → AnswersChecking forced x (first (or_else (name_offences (labelled forced g) o) (label_offences (labelled forced g) ++ too_large (labelled forced g))))
check_decided forced x g o (w, h, e) held has =
    let names = name_offences (labelled forced g) o in
    let labels = label_offences (labelled forced g) ++ too_large (labelled forced g) in
    (with_later w names labels, is_checking forced x w names labels h (of_held forced x g o held has), decided_by w names labels (none_asked x w h e))

-- ---- each file has one answer

pub some_check : (forced : Bool) (x : Text) → (r : Option Refusal) × AnswersChecking forced x r
some_check forced x = by (some_answer x)
  where
    by : (r : Option Refusal) × AnswersRewriting x r → (r : Option Refusal) × AnswersChecking forced x r
    by (r, (w, h, e)) =
        let b = broken forced x in
        (refusal_of of_all (with_later w b.0 b.1), (with_later w b.0 b.1, is_checking forced x w b.0 b.1 h b.2, refl))

-- with the same rules broken, the same counts
same_later : (forced : Bool) (x : Text) (w v : Wrong) → IsChecking forced x w → IsChecking forced x v → (w.names ≡ v.names) × (w.labels ≡ v.labels)
same_later forced x w v h k = by (held_or_not x)
  where
    by : ((g : Algorithm) × HoldsTree x g) ⊎ ((g : Algorithm) → HoldsTree x g → ⊥) → (w.names ≡ v.names) × (w.labels ≡ v.labels)
    by (inl (g, held)) =
        let o = outside_read (walk x) in
        let a = h.tree g o held (has_outside (walk x)) in
        let b = k.tree g o held (has_outside (walk x)) in
        (a.names ∙ sym b.names, a.labels ∙ sym b.labels)
    by (inr none) = (let a = h.no_tree none in let b = k.no_tree none in (a.0 ∙ sym b.0, a.1 ∙ sym b.1))

pub one_check : (forced : Bool) (x : Text) (r q : Option Refusal) → AnswersChecking forced x r → AnswersChecking forced x q → r ≡ q
one_check forced x r q (w, h, e) (v, k, f) =
    let later = same_later forced x w v h k in
    let a = same_spelling x (spelled_only w) (spelled_only v) h.spelling k.spelling in
    sym e ∙ (λ i. first (up_to of_all (or_else (a.bytes i) (a.parts i ++ (a.tokens i ++ or_counts (a.syntax i) (a.counts i ++ or_else (later.0 i) (later.1 i))))))) ∙ f

-- ---- files that aren't refused

pub accepted_is_rewritten : (forced : Bool) (x : Text) → AnswersChecking forced x None → AnswersRewriting x None
accepted_is_rewritten forced x right = by (some_answer x)
  where
    by : (r : Option Refusal) × AnswersRewriting x r → AnswersRewriting x None
    by (None, a) = a
    by (Some r, a) = (let f : None ≡ Some r = one_check forced x None (Some r) right (check_refused forced x r a) in absurd cc)

pub some_map : (forced : Bool) (x : Text) → AnswersChecking forced x None → (w : Text) × IsMapped forced x w
some_map forced x right =
    let held = unrefused_holds x (accepted_is_rewritten forced x right) in
    let o = outside_read (walk x) in
    let g = labelled forced held.0 in
    (lines_text (lines g (naming g o)), record { tree = held.0; holds = held.1; outside = o; has = has_outside (walk x); lines = refl })

pub one_map : (forced : Bool) (x w v : Text) → IsMapped forced x w → IsMapped forced x v → w ≡ v
one_map forced x w v h k =
    let same = one_held x h.tree k.tree h.holds k.holds in
    let there = one_outside_of (walk x) h.outside k.outside h.has k.has in
    h.lines ∙ (λ i. lines_text (lines (labelled forced (same i)) (naming (labelled forced (same i)) (there i)))) ∙ sym k.lines
