-- What stands before a refused token can be gone on with: each state can be completed, by few tokens.
use Rattle.std.proofs.Common.{◌≡◌, ℕ, zero, suc, ◌+◌, ◌*◌, ◌≤◌, Bool, true, false, not, List, [], ◌++◌, length, length-append, Option, Some, None, refl, ap, ◌∙◌, append_assoc, arith, codes}
use Rattle.std.proofs.lemmas.List.{append-nil}
use Rattle.std.specs.Prelude.{IsTrue}
use Rattle.tla_token.specs.declared.place.Place.{Place}
use Rattle.tla_token.specs.Places.{nowhere}
use Rattle.tla_tree.specs.Tree.{Word, Name}
use Rattle.tla_tree.specs.Lexical.{TokenView, Token, token}
use Rattle.tla_tree.specs.Lexical as tk
use Rattle.tla_tree.specs.FirstStop.{Open}
use Rattle.tla_tree.specs.Reader.{Reader, gives, refuses, skip, tail}
use Rattle.tla_tree.proofs.SpellAhead.{Ahead, held, put_ahead, then_ahead, ahead}
use Rattle.tla_tree.proofs.Mended.{gives_err}
use Rattle.pcal_tree.specs.GrammarParts.{name, key, mark, word, maybe_semicolon, Labels, no_labels, labels, simple_tokens, GoodSimple}
use Rattle.pcal_tree.specs.GrammarParts as g
use Rattle.pcal_tree.specs.GrammarC.{Statement, simple, branch, either, with, while, compound, Labelled, labelled, Else, no_else, else_then, Branches, last_branch, more_branches, Sequence, last_statement, more_statements}
use Rattle.pcal_tree.specs.GrammarC.{statement, labelled_tokens, else_tokens, branches, sequence, labelled_takes_else, labelled_takes_or, Divided, GoodLabelled, GoodSequence}
use Rattle.pcal_tree.specs.OpenForms.{here, plain, after_binds, simple_opens, c_labelled, c_sequence}
use Rattle.syntax_reading.specs.TokenReaders.{Parts}
use Rattle.syntax_reading.specs.ReadAround.{with_label}
use Rattle.syntax_reading.specs.ReadSimple.{simple_words}
use Rattle.syntax_reading.specs.Missing.{Missing, all_of, an_identifier, a_number, PartsMiss}
use Rattle.syntax_reading.specs.MissingParts.{a_close, a_value, no_list}
use Rattle.syntax_reading.specs.MissingSimple.{missing_simple_words}
use Rattle.syntax_reading.proofs.Sound.{sound_pick, sound_stays, sound_refuses}
use Rattle.syntax_reading.proofs.SoundSimple.{named_sound, words_sound}
use Rattle.syntax_reading.proofs.Aheads.{ahead_semicolon, ahead_labels, ahead_binds, ahead_simple}
use Rattle.syntax_reading.proofs.BesideAround.{binds_deep, with_label_opens}
use Rattle.syntax_reading.proofs.Mends as mends
use Rattle.syntax_reading.proofs.Mends.{Fill, Mends, MendsAt, IsPart, AllMend, filled, refilled, mends_gives, mends_refuses, mends_on, mends_bind, mends_then, mends_same, mends_next, mends_stays, mends_past, mends_pick, mends_fits, part_mark}
use Rattle.syntax_reading.proofs.MendParts.{MendsParts, part_colon, part_binds}
use Rattle.syntax_reading.proofs.MendSimple.{named_mends, words_mend}
use Rattle.syntax_reading.proofs.WithLabel.{with_label_tokens}
use Rattle.c_reading.specs.ReadStatements.{Before, none, after, Arms, first_arm, later_arm, Test, if_test, Opening, with_opening, while_opening, Stack, bottom, in_block, in_then, in_else, in_body, in_either, State, begin, ended, Turn, on, done, with_before, joined, tested}
use Rattle.c_reading.specs.ReadStatements.{depth, before_or, opens, either_if, after_name, bracketed, statement_words, statement_by, ask_else, ask_or, ask_other, closed, takes_else, takes_or, closing_words, is_divided, another_if, list_by, ended_by, step, turned, run, read_sequence, closing, rest}
use Rattle.syntax_reading.specs.MissingSimple.{a_skip}
use Rattle.c_reading.specs.MissingStatements.{an_else, missing_bracketed, missing_statement_words, missing_after_name, missing_statement_by, missing_another_by, missing_list_by, missing_closing_words, missing_ended_by, missing_step, missing_turned, missing_run, missing_sequence}
use Rattle.c_reading.proofs.SoundStatements.{before, arms, test, opening, stack, passed, turn, GoodStack, GoodState, GoodTurn, with_before_tokens, with_before_good, joined_tokens, joined_good, joined_takes_else, AllFound, closes, at, divides, step_sound, sequence_sound}
use Rattle.c_reading.proofs.BesideStatements.{stack_opens, with_before_opens, joined_opens, tested_opens}
use Rattle.c_reading.proofs.Closing.{few_closing}

-- ---- tokens before those that come
mutual
  ahead_statement : (a : Statement) → Ahead (statement a)
  ahead_statement (simple s) = ahead_simple s
  ahead_statement (branch p q e r a b) = put_ahead (put_ahead (then_ahead (ahead e) (put_ahead (then_ahead (ahead_labelled a) (ahead_else b)))))
  ahead_statement (either p a bs) = put_ahead (then_ahead (ahead_labelled a) (ahead_branches bs))
  ahead_statement (with p q bs r a) = put_ahead (put_ahead (then_ahead (ahead_binds bs) (put_ahead (ahead_labelled a))))
  ahead_statement (while p q e r a) = put_ahead (put_ahead (then_ahead (ahead e) (put_ahead (ahead_labelled a))))
  ahead_statement (compound p ss q) = put_ahead (then_ahead (ahead_sequence ss) (put_ahead held))

  pub ahead_labelled : (a : Labelled) → Ahead (labelled_tokens a)
  ahead_labelled (labelled ls st) = then_ahead (ahead_labels ls) (ahead_statement st)

  ahead_else : (b : Else) → Ahead (else_tokens b)
  ahead_else no_else = held
  ahead_else (else_then s p a) = then_ahead (ahead_semicolon s) (put_ahead (ahead_labelled a))

  ahead_branches : (bs : Branches) → Ahead (branches bs)
  ahead_branches (last_branch s p a) = then_ahead (ahead_semicolon s) (put_ahead (ahead_labelled a))
  ahead_branches (more_branches s p a bs) = then_ahead (ahead_semicolon s) (put_ahead (then_ahead (ahead_labelled a) (ahead_branches bs)))

  pub ahead_sequence : (ss : Sequence) → Ahead (sequence ss)
  ahead_sequence (last_statement a s) = then_ahead (ahead_labelled a) (ahead_semicolon s)
  ahead_sequence (more_statements a s ss) = then_ahead (ahead_labelled a) (then_ahead (ahead_semicolon s) (ahead_sequence ss))

ahead_before : (b : Before) → Ahead (before b)
ahead_before none = held
ahead_before (after b a s) = then_ahead (ahead_before b) (then_ahead (ahead_labelled a) (ahead_semicolon s))

ahead_arms : (t : Arms) → Ahead (arms t)
ahead_arms (first_arm ls p) = then_ahead (ahead_labels ls) (put_ahead held)
ahead_arms (later_arm t a s p) = then_ahead (ahead_arms t) (then_ahead (ahead_labelled a) (then_ahead (ahead_semicolon s) (put_ahead held)))

ahead_test : (t : Test) → Ahead (test t)
ahead_test (if_test p q e r) = put_ahead (put_ahead (then_ahead (ahead e) (put_ahead held)))

ahead_opening : (o : Opening) → Ahead (opening o)
ahead_opening (with_opening p q bs r) = put_ahead (put_ahead (then_ahead (ahead_binds bs) (put_ahead held)))
ahead_opening (while_opening p q e r) = put_ahead (put_ahead (then_ahead (ahead e) (put_ahead held)))

pub ahead_stack : (st : Stack) → Ahead (stack st)
ahead_stack (bottom b) = ahead_before b
ahead_stack (in_block ls p b st) = then_ahead (ahead_stack st) (then_ahead (ahead_labels ls) (put_ahead (ahead_before b)))
ahead_stack (in_then ls t st) = then_ahead (ahead_stack st) (then_ahead (ahead_labels ls) (ahead_test t))
ahead_stack (in_else ls t a s p st) = then_ahead (ahead_stack st) (then_ahead (ahead_labels ls) (then_ahead (ahead_test t) (then_ahead (ahead_labelled a) (then_ahead (ahead_semicolon s) (put_ahead held)))))
ahead_stack (in_body ls o st) = then_ahead (ahead_stack st) (then_ahead (ahead_labels ls) (ahead_opening o))
ahead_stack (in_either t st) = then_ahead (ahead_stack st) (ahead_arms t)

pub ahead_at : (ls : Labels) (st : Stack) → Ahead (at ls st)
ahead_at ls st = then_ahead (ahead_stack st) (ahead_labels ls)

ahead_word : (ls : Labels) (st : Stack) (p : Place) (v : Word) → Ahead (λ ts. at ls st (key p v ts))
ahead_word ls st p v = then_ahead (ahead_at ls st) (put_ahead held)

pub ahead_passed : (s : State) → Ahead (passed s)
ahead_passed (begin ls st) = ahead_at ls st
ahead_passed (ended a s st) = then_ahead (ahead_stack st) (then_ahead (ahead_labelled a) (ahead_semicolon s))

pub ahead_turn : (t : Turn) → Ahead (turn t)
ahead_turn (on s) = ahead_passed s
ahead_turn (done ss) = ahead_sequence ss

-- ---- the forms that were open at the tokens that were passed, where all that stands open is closed after them
-- at a `;` that has what closes all right after it
abbrev closing_divider : Stack → ℕ
closing_divider (bottom b) = 0
closing_divider (in_block ls p b st) = depth st + 1
closing_divider (in_then ls t st) = depth st + 1
closing_divider (in_else ls t a s p st) = closing_divider st
closing_divider (in_body ls o st) = closing_divider st
closing_divider (in_either (first_arm ls p) st) = depth st + 1
closing_divider (in_either (later_arm t a s p) st) = closing_divider st

abbrev at_opens : Labels → Stack → List Open
at_opens ls st = stack_opens st ++ plain (depth st) (labels ls)

abbrev after_opens : Labelled → Option Place → Stack → List Open
after_opens a s st = stack_opens st ++ c_labelled (depth st) a ++ plain (closing_divider st) (maybe_semicolon s)

abbrev passed_opens : State → List Open
passed_opens (begin ls st) = at_opens ls st
passed_opens (ended a s st) = after_opens a s st

abbrev turn_passed : Turn → List Open
turn_passed (on s) = passed_opens s
turn_passed (done ss) = c_sequence 0 ss

abbrev skips : Labelled
skips = labelled no_labels (simple (g.skip nowhere))

-- with the tokens that close an `if` or an `either`
then_closed : (st : Stack) (ls : Labels) (t : Test) (a : Labelled) (s : Option Place) → after_opens (tested ls t a (else_then s nowhere skips)) None st ≡ after_opens a s (in_then ls t st) ++ (here (depth st + 1) ++ here (depth st + 1))
then_closed st ls t a s = append-nil _ ∙ ap (λ (y : List Open). stack_opens st ++ y) (tested_opens (depth st) ls t a (else_then s nowhere skips)) ∙ simp append_assoc refl

else_closed : (st : Stack) (ls : Labels) (t : Test) (b : Labelled) (q : Option Place) (p : Place) (a : Labelled) (s : Option Place) → after_opens (tested ls t b (else_then q p a)) s st ≡ after_opens a s (in_else ls t b q p st)
else_closed st ls t b q p a s = ap (λ (y : List Open). stack_opens st ++ y ++ plain (closing_divider st) (maybe_semicolon s)) (tested_opens (depth st) ls t b (else_then q p a)) ∙ simp append_assoc refl

arm_closed : (st : Stack) (t : Arms) (a : Labelled) (s : Option Place) → closing_divider (in_either t st) ≡ depth st + 1 → after_opens (joined t a (last_branch s nowhere skips)) None st ≡ after_opens a s (in_either t st) ++ (here (depth st + 1) ++ here (depth st + 1))
arm_closed st t a s e = rw e (append-nil _ ∙ ap (λ (y : List Open). stack_opens st ++ y) (joined_opens (depth st) t a (last_branch s nowhere skips)) ∙ simp append_assoc refl)

-- where a step went: what closes the state there, and nothing after the whole list
abbrev rest_turn : Turn → List Token
rest_turn (on s) = rest s
rest_turn (done ss) = []

-- ---- what completes a state
abbrev Filled : (List Token → List Token) → List Open → List Token → Type 0
Filled x y told = Fill x y GoodSequence sequence (c_sequence 0) mends.none 0 6 told

-- some tokens, where d forms are open at the first, and then what completes it after them
onward : (x y : List Token → List Token) {u v : List Open} {told : List Token} (fix : List Token) (d : ℕ) (os : List Open) → ((ts : List Token) → y ts ≡ x (fix ++ ts)) → v ≡ u ++ (here d ++ os) → suc (length os) ≡ length fix → length fix + length told ≤ 16 * d + 6 → Filled y v told → Filled x u (fix ++ told)
onward x y fix d os e o l few f = mends.onward x y fix (record { expressions = 0; statements = d }) os e o l (omega (arith, few)) f

abbrev behind : Labelled → Option Place → Stack → List Token → List Token
behind a s st ts = stack st (labelled_tokens a (maybe_semicolon s ts))

-- a brace closes a block, and `or skip` an `either`; an `if` gets `else skip`, whatever stands open around it
stack_filled : (st : Stack) → GoodStack st → (a : Labelled) → GoodLabelled a → IsTrue (not (labelled_takes_else a)) → (before_or st ≡ true → IsTrue (not (labelled_takes_or a))) → (s : Option Place) → Filled (behind a s st) (after_opens a s st) (closing st)
stack_filled (bottom b) d a i n c s = (let ss = last_statement a s in filled (with_before b ss) (with_before_good b ss d i) (λ ts. with_before_tokens b ss ts) (with_before_opens 0 b ss ∙ simp append_assoc refl))
stack_filled (in_block ls p b st) d a i n c s =
    (let ss = last_statement a s in
    let it = labelled ls (compound p (with_before b ss) nowhere) in
    let e = depth st in
    let few = few_closing st in
    onward (behind a s (in_block ls p b st)) (behind it None st) (mark nowhere tk.close_brace []) (e + 1) []
    (λ ts. ap (λ (us : List Token). stack st (labels ls (mark p tk.open_brace us))) (with_before_tokens b ss (mark nowhere tk.close_brace ts)))
    (simp (append_assoc, append-nil) refl ∙ ap (λ (y : List Open). (stack_opens st ++ plain e (labels ls) ++ here (e + 1)) ++ y ++ here (e + 1)) (with_before_opens (e + 1) b ss) ∙ simp append_assoc refl)
    refl (omega (arith, few)) (stack_filled st d.1 it (with_before_good b ss d.0 i) refl (λ k. refl) None))
stack_filled (in_then ls (if_test u v e w) st) d a i n c s =
    (let it = labelled ls (branch u v e w a (else_then s nowhere skips)) in
    let few = few_closing st in
    onward (behind a s (in_then ls (if_test u v e w) st)) (behind it None st) (key nowhere (codes "else") (key nowhere (codes "skip") [])) (depth st + 1) (here (depth st + 1)) (λ ts. refl)
    (then_closed st ls (if_test u v e w) a s) refl (omega (arith, few)) (stack_filled st d.1 it (d.0, i, (n, tt)) refl (λ k. refl) None))
stack_filled (in_else ls (if_test u v e w) b q p st) d a i n c s =
    (let it = labelled ls (branch u v e w b (else_then q p a)) in
    refilled (behind a s (in_else ls (if_test u v e w) b q p st)) (behind it s st) (λ ts. refl) (else_closed st ls (if_test u v e w) b q p a s) (stack_filled st d.3 it (d.0, d.1, (d.2, i)) n c s))
stack_filled (in_body ls (with_opening u v bs w) st) d a i n c s =
    (let it = labelled ls (with u v bs w a) in
    refilled (behind a s (in_body ls (with_opening u v bs w) st)) (behind it s st) (λ ts. refl) (simp append_assoc refl) (stack_filled st d.1 it (d.0, i) n c s))
stack_filled (in_body ls (while_opening u v e w) st) d a i n c s =
    (let it = labelled ls (while u v e w a) in
    refilled (behind a s (in_body ls (while_opening u v e w) st)) (behind it s st) (λ ts. refl) (simp append_assoc refl) (stack_filled st d.1 it (d.0, i) n c s))
stack_filled (in_either (first_arm ls p) st) d a i n c s =
    (let it = labelled ls (either p a (last_branch s nowhere skips)) in
    let few = few_closing st in
    onward (behind a s (in_either (first_arm ls p) st)) (behind it None st) (key nowhere (codes "or") (key nowhere (codes "skip") [])) (depth st + 1) (here (depth st + 1)) (λ ts. refl)
    (arm_closed st (first_arm ls p) a s refl) refl (omega (arith, few)) (stack_filled st d.2 it (i, c refl, tt) refl (λ k. absurd (let f = d.1 in cc)) None))
stack_filled (in_either (later_arm t b q p) st) d a i n c s =
    (let bs = last_branch q p a in
    let it = joined t b bs in
    refilled (behind a s (in_either (later_arm t b q p) st)) (behind it s st) (λ ts. ap (stack st) (joined_tokens t b bs (maybe_semicolon s ts)))
    (ap (λ (y : List Open). stack_opens st ++ y ++ plain (closing_divider st) (maybe_semicolon s)) (joined_opens (depth st) t b bs) ∙ simp append_assoc refl)
    (stack_filled st d.2 it (joined_good t b bs d.0.0 d.0.1 d.0.2 i) (ap not (joined_takes_else t b bs) ∙ n) (λ k. absurd (let f = d.1 in cc)) s))

state_filled : (s : State) → GoodState s → Filled (passed s) (passed_opens s) (rest s)
state_filled (begin ls st) i =
    (let it = labelled ls (simple (g.skip nowhere)) in
    let few = few_closing st in
    onward (at ls st) (behind it None st) (key nowhere (codes "skip") []) (depth st) [] (λ ts. refl) (simp (append_assoc, append-nil) refl) refl (omega (arith, few)) (stack_filled st i it tt refl (λ k. refl) None))
state_filled (ended a s st) i = stack_filled st i.3 a i.0 i.1 (λ k. i.2) s

-- ---- a step
abbrev Steps : (List Token → List Token) → List Open → List Token → Missing → Reader Turn → Type 0
Steps x y told n r = Mends x y GoodTurn turn turn_passed rest_turn 0 6 told n r

abbrev StepsAt : Place → TokenView → (List Token → List Token) → List Open → Missing → Reader Turn → Type 0
StepsAt p k x y n r = MendsAt p k x y GoodTurn turn turn_passed rest_turn 0 6 n r

-- where a reader refuses, the counts of what it puts together are told, whatever those before it are
recounted : {p : Place} {k : TokenView} {x : List Token → List Token} {y z : List Open} {n : Missing} {r : Reader Turn} → StepsAt p k x y n r → StepsAt p k x z n r
recounted h = record { is = h.is }

-- nothing is refused
stays : {p : Place} {k : TokenView} {x : List Token → List Token} {y : List Open} {n : Missing} (t : Turn) → StepsAt p k x y n (gives t)
stays t = record { is = λ ts s u e. gives_err t ts u e }

goes : {p : Place} {k : TokenView} {x : List Token → List Token} {y : List Open} {n : Missing} (t : Turn) → StepsAt p k x y n (skip (gives t))
goes t = record { is = λ ts s u e. gives_err t (tail ts) u e }

-- where what was passed is a state, which this closes
abbrev Stands : (List Token → List Token) → List Open → List Token → Type 0
Stands x y ws = Ahead x × Fill x y GoodTurn turn turn_passed rest_turn 0 6 ws

stops : (p : Place) (k : TokenView) (x : List Token → List Token) {y : List Open} {ws : List Token} → Stands x y ws → StepsAt p k x y (all_of ws) refuses
stops p k x i = mends_stays (mends_refuses i.0 i.1)

begin_stands : (ls : Labels) (st : Stack) → GoodStack st → Stands (at ls st) (at_opens ls st) (rest (begin ls st))
begin_stands ls st i = (ahead_at ls st, filled (on (begin ls st)) i (λ ts. refl) refl)

ended_stands : (a : Labelled) (s : Option Place) (st : Stack) → GoodState (ended a s st) → Stands (passed (ended a s st)) (after_opens a s st) (closing st)
ended_stands a s st i = (ahead_passed (ended a s st), filled (on (ended a s st)) i (λ ts. refl) refl)

-- ( .. ), where d forms are open at the first bracket
brackets_mend : {A : Type 0} {P : A → Type 0} {front : A → List Token → List Token} {counts : A → List Open} {i b : ℕ} {n : Missing} {r : Reader A} {x : List Token → List Token} {y : List Open} (part ws : List Token) (d : ℕ) (e : A → ℕ) (f : Place → A → Place → Turn) → Ahead x → IsPart P front counts i b part n r
    → length part + length ws ≤ 16 * d + 4 → b + length ws ≤ 16 * i + 5 → ((a : A) → length ws ≤ 16 * e a + 5)
    → ((q : Place) (a : A) (s : Place) → P a → Steps (λ ts. x (mark q tk.open_bracket (front a (mark s tk.close_bracket ts)))) (((y ++ here d) ++ counts a) ++ here (e a)) ws (all_of []) (gives (f q a s))) → Steps x y (mark nowhere tk.open_bracket (part ++ a_close ws)) (missing_bracketed r n part ws) (bracketed r f)
brackets_mend part ws d e f hx h few less least last =
    mends_bind hx (part_mark d tk.open_bracket) (let k = length-append part (a_close ws) in omega (arith, few, k))
    (λ q u hq. mends_bind hq h (omega (arith, less)) (λ a j ha. mends_bind ha (part_mark (e a) tk.close_bracket) (let k = least a in omega (arith, k)) (λ s v hs. last q a s j)))

module _ (m : Parts) (w : PartsMiss) (h : MendsParts m w) where
  named_steps : (n : ℕ) (ls : Labels) (st : Stack) → GoodStack st → (x : Name) (p : Place) (k : TokenView) → StepsAt p k (λ ts. at ls st (name x ts)) (at_opens ls st ++ here (depth st)) (missing_after_name m w n st x p k) (after_name m n ls st x p k)
  named_steps n ls st i x p (tk.mark tk.colon) =
      (let d = depth st in
      let few = few_closing st in
      mends_stays (mends_bind (then_ahead (ahead_at ls st) (put_ahead held)) (part_colon d) (omega (arith, few)) (λ c u hc. mends_gives (on (begin (with_label ls x c) st)) i (λ ts. ap (stack st) (with_label_tokens ls x c ts)) (rw (with_label_opens d ls x c) (simp append_assoc refl)))))
  named_steps n ls st i x p k =
      (let d = depth st in
      let few = few_closing st in
      mends_then (at ls st) (at_opens ls st) (ahead_at ls st) (sound_stays (named_sound m h.sound n x p k)) (λ a u. ahead_simple a) (named_mends m w h d n x p k) (omega (arith, few)) (λ s l hs. mends_gives (on (ended (labelled ls (simple s)) None st)) (l, refl, refl, i) (λ ts. refl) (simp (append_assoc, append-nil) refl)))

  either_steps : (ls : Labels) (p : Place) (st : Stack) → GoodStack st → (b : Bool) → StepsAt p (tk.reserved (codes "either")) (at ls st) (at_opens ls st) (all_of (rest (begin ls st))) (either_if b m ls p st)
  either_steps ls p st i true = stops p (tk.reserved (codes "either")) (at ls st) (begin_stands ls st i)
  either_steps ls p st i false = mends_fits (h.room (depth st + 1)) (goes (opens (in_either (first_arm ls p) st)))

  words_step : (n : ℕ) (ls : Labels) (st : Stack) → GoodStack st → (p : Place) → AllMend p (at ls st) (at_opens ls st) GoodTurn turn turn_passed rest_turn 0 6 (missing_statement_words m w n st) (statement_words m n ls st p)
  words_step n ls st i p =
      (let d = depth st in
      let few = few_closing st in
      let hx = ahead_word ls st p in (
        refl,
        mends_fits (h.room (d + 1)) (mends_past (here (d + 1)) refl (brackets_mend (a_number []) (a_skip (an_else (closing st))) (d + 1) (λ e. d + 1) (λ q e r. opens (in_then ls (if_test p q e r) st)) (hx _) (h.expr (d + 1)) (omega (arith, few)) (omega (arith, few)) (λ e. omega (arith, few))
            (λ q e r j. mends_gives (opens (in_then ls (if_test p q e r) st)) (j, i) (λ ts. refl) (simp (append_assoc, append-nil) refl)))),
        (
          refl,
          either_steps ls p st i (before_or st),
          (
            refl,
            mends_past (here d) refl (brackets_mend (an_identifier (a_value [])) (a_skip (closing st)) d (λ bs. after_binds d bs) (λ q bs r. opens (in_body ls (with_opening p q bs r) st)) (hx _) (part_binds m w h n d) (omega (arith, few)) (omega (arith, few)) (λ bs. (let o = binds_deep d bs in omega (arith, few, o)))
                (λ q bs r j. mends_gives (opens (in_body ls (with_opening p q bs r) st)) (j, i) (λ ts. refl) (simp (append_assoc, append-nil) refl))),
            (
              refl,
              mends_fits (h.room (d + 1)) (mends_past (here (d + 1)) refl (brackets_mend (a_number []) (a_skip (closing st)) (d + 1) (λ e. d + 1) (λ q e r. opens (in_body ls (while_opening p q e r) st)) (hx _) (h.expr (d + 1)) (omega (arith, few)) (omega (arith, few)) (λ e. omega (arith, few))
                  (λ q e r j. mends_gives (opens (in_body ls (while_opening p q e r) st)) (j, i) (λ ts. refl) (simp (append_assoc, append-nil) refl)))),
              tt,
            ),
          ),
        ),
      ))

  statement_steps : (n : ℕ) (ls : Labels) (st : Stack) → GoodStack st → (p : Place) (k : TokenView) → StepsAt p k (at ls st) (at_opens ls st) (missing_statement_by m w n st p k) (statement_by m n ls st p k)
  statement_steps n ls st i p (tk.word x) =
      (let d = depth st in
      let few = few_closing st in
      let all : Fill (λ ts. at ls st (word p x ts)) (at_opens ls st ++ here d) GoodTurn turn turn_passed rest_turn 0 6 (no_list (closing st)) =
      record {
        whole = on (ended (labelled ls (simple (g.macro (record { place = p; word = x }) (g.no_arguments nowhere nowhere)))) None st);
        good = (tt, refl, refl, i);
        fix = no_list [];
        tokens = λ v. refl;
        given = refl;
        back = here d ++ here d;
        opens = simp (append_assoc, append-nil) refl;
        long = refl;
        enough = omega (arith, few);
      } in
      mends_past (here d) refl (mends_next all (named_steps n ls st i (record { place = p; word = x }))))
  statement_steps n ls st i p (tk.reserved v) =
      (let d = depth st in
      let few = few_closing st in
      let one : Fill (λ ts. ts) [] GoodSimple simple_tokens (simple_opens d) mends.none d 4 (a_skip []) = record { whole = g.skip nowhere; good = tt; fix = a_skip []; tokens = λ v. refl; given = refl; back = here d; opens = refl; long = refl; enough = omega arith } in
      mends_pick v (missing_statement_words m w n st) (statement_words m n ls st p) (words_step n ls st i p)
      (recounted
      (mends_then (at ls st) (at_opens ls st) (ahead_at ls st) (sound_pick v (simple_words m p) refuses (words_sound m h.sound p) (sound_stays sound_refuses)) (λ a u. ahead_simple a)
      (mends_pick v (missing_simple_words m w) (simple_words m p) (words_mend m w h d p) (mends_stays (mends_refuses held one))) (omega (arith, few))
      (λ s l hs. mends_gives (on (ended (labelled ls (simple s)) None st)) (l, refl, refl, i) (λ ts. refl) (simp (append_assoc, append-nil) refl)))))
  statement_steps n ls st i p (tk.mark tk.open_brace) = mends_fits (h.room (depth st + 1)) (goes (opens (in_block ls p none st)))
  statement_steps n ls st i p k = stops p k (at ls st) (begin_stands ls st i)

  -- ---- after a statement, with tokens ws that close it
  module _ (x : List Token → List Token) (y : List Open) (ws : List Token) (i : Stands x y ws) where
    else_taken : (s : Option Place) (p : Place) (o : Option (Labelled × Stack)) → StepsAt p (tk.reserved (codes "else")) x y (all_of ws) (takes_else s p o)
    else_taken s p (Some (a, in_then ls t st)) = goes (opens (in_else ls t a s p st))
    else_taken s p o = stops p (tk.reserved (codes "else")) x i

    or_taken : (s : Option Place) (p : Place) (o : Option (Labelled × Stack)) → StepsAt p (tk.reserved (codes "or")) x y (all_of ws) (takes_or s p o)
    or_taken s p (Some (a, in_either t st)) = goes (opens (in_either (later_arm t a s p) st))
    or_taken s p o = stops p (tk.reserved (codes "or")) x i

    another_steps : (n : ℕ) (s : Option Place) (p : Place) (k : TokenView) (a : Labelled) (st : Stack) → (Divided s a → GoodStack st) → ((ts : List Token) → stack st ts ≡ x ts) → (b : Bool) → is_divided s a ≡ b
        → StepsAt p k x y (missing_another_by b m w n st ws p k) (another_if b (statement_by m n no_labels st p k))
    another_steps n s p (tk.word v) a st g e true d = mends_same e refl (recounted (statement_steps n no_labels st (g (divides s a d)) p (tk.word v)))
    another_steps n s p (tk.reserved v) a st g e true d = mends_same e refl (recounted (statement_steps n no_labels st (g (divides s a d)) p (tk.reserved v)))
    another_steps n s p (tk.mark tk.open_brace) a st g e true d = mends_fits (h.room (depth st + 1)) (goes (opens (in_block no_labels p none st)))
    another_steps n s p k a st g e true d = stops p k x i
    another_steps n s p k a st g e false d = stops p k x i

    list_steps : (n : ℕ) (s : Option Place) (p : Place) (k : TokenView) (z : List Token → List Token) (o : Option (Labelled × Stack)) → AllFound ask_other z o → ((ts : List Token) → z (maybe_semicolon s ts) ≡ x ts) → StepsAt p k x y (missing_list_by m w n s ws p k o) (list_by m n s p k o)
    list_steps n s p (tk.mark tk.close_brace) z (Some (a, bottom b)) f e = stays (done (with_before b (last_statement a s)))
    list_steps n s p (tk.mark tk.close_brace) z (Some (a, in_block ls q b st)) f e = goes (on (ended (labelled ls (compound q (with_before b (last_statement a s)) p)) None st))
    list_steps n s p k z (Some (a, bottom b)) f e =
        another_steps n s p k a (bottom (after b a s)) (λ d. (f.stands, f.good, d)) (λ ts. f.same (maybe_semicolon s ts) ∙ e ts) (is_divided s a) refl
    list_steps n s p k z (Some (a, in_block ls q b st)) f e =
        another_steps n s p k a (in_block ls q (after b a s) st) (λ d. ((f.stands.0, f.good, d), f.stands.1)) (λ ts. f.same (maybe_semicolon s ts) ∙ e ts) (is_divided s a) refl
    list_steps n s p k z o f e = stops p k x i

  ended_steps : (n : ℕ) (a : Labelled) (s : Option Place) (st : Stack) → GoodState (ended a s st) → (p : Place) (k : TokenView) → StepsAt p k (passed (ended a s st)) (after_opens a s st) (missing_ended_by m w n a s st p k) (ended_by m n a s st p k)
  ended_steps n a None st i p (tk.mark tk.semicolon) = goes (on (ended a (Some p) st))
  ended_steps n a s st i p (tk.reserved v) =
      (let x = passed (ended a s st) in
      let o = ended_stands a s st i in
      mends_pick v (missing_closing_words (closing st)) (closing_words a s st p)
      (refl, else_taken x (after_opens a s st) (closing st) o s p (closed ask_else a st), (refl, or_taken x (after_opens a s st) (closing st) o s p (closed ask_or a st), tt))
      (list_steps x (after_opens a s st) (closing st) o n s p (tk.reserved v) (λ ts. stack st (labelled_tokens a ts)) (closed ask_other a st) (closes st ask_other a i.0 tt i.3) (λ ts. refl)))
  ended_steps n a s st i p k =
      list_steps (passed (ended a s st)) (after_opens a s st) (closing st) (ended_stands a s st i) n s p k (λ ts. stack st (labelled_tokens a ts)) (closed ask_other a st) (closes st ask_other a i.0 tt i.3) (λ ts. refl)

  step_mends : (n : ℕ) (s : State) → GoodState s → Steps (passed s) (passed_opens s) (rest s) (missing_step m w n s) (step m n s)
  step_mends n (begin ls st) i = mends_next (filled (on (begin ls st)) i (λ ts. refl) refl) (statement_steps n ls st i)
  step_mends n (ended a s st) i = mends_next (filled (on (ended a s st)) i (λ ts. refl) refl) (ended_steps n a s st i)

  abbrev Runs : (List Token → List Token) → List Open → List Token → Missing → Reader Sequence → Type 0
  Runs x y told n r = Mends x y GoodSequence sequence (c_sequence 0) mends.none 0 6 told n r

  run_mends : (n : ℕ) (s : State) → GoodState s → Runs (passed s) (passed_opens s) (rest s) (missing_run m w n s) (run m n s)
  run_mends zero s i = mends_refuses (ahead_passed s) (state_filled s i)
  run_mends (suc n) s i = mends_on (λ ts. ts) [] held (step_sound m h.sound n s i) (λ a u. ahead_turn a) (step_mends n s i) (turned_mends (run_mends n))
    where
      turned_mends : ((s : State) → GoodState s → Runs (passed s) (passed_opens s) (rest s) (missing_run m w n s) (run m n s)) → (t : Turn) → GoodTurn t → Ahead (turn t) → Runs (turn t) (turn_passed t) (rest_turn t) (missing_turned (missing_run m w n) t) (turned (run m n) t)
      turned_mends r (on s) i ht = r s i
      turned_mends r (done ss) i ht = mends_gives ss i (λ ts. refl) refl

  pub part_sequence : (n : ℕ) → IsPart GoodSequence sequence (c_sequence 0) 0 6 (a_skip []) (missing_sequence m w n) (read_sequence m n)
  part_sequence n = record { sound = sequence_sound m h.sound n; ahead = λ a u. ahead_sequence a; mends = run_mends n (begin no_labels (bottom none)) tt }
