-- A statement that stood open and ends with its last part: its list, its last token, and what it is.
use Rattle.std.proofs.Common.{◌≡◌, ℕ, true, false, List, [], ◌∷◌, ◌++◌, Vec, Global, Option, refl, sym, ap, ◌∙◌, arith, codes}
use Rattle.tla_token.specs.declared.place.Place.{Place}
use Rattle.tla_tree.specs.Tree.{Tree}
use Rattle.tla_tree.specs.Lexical.{Token}
use Rattle.tla_tree.specs.Lexical as tk
use Rattle.tla_tree.specs.Spelling.{Phrase}
use Rattle.pcal_tree.specs.declared.algorithm.Span.{Span}
use Rattle.pcal_tree.specs.declared.algorithm.Stmt.{Stmt}
use Rattle.pcal_tree.specs.declared.algorithm.Stmt.TheVariants as stmt
use Rattle.pcal_tree.specs.declared.algorithm.Bind.{Bind}
use Rattle.pcal_tree.specs.Algorithm.{Statements}
use Rattle.pcal_tree.specs.Algorithm as tree
use Rattle.pcal_tree.specs.InMemory.{statements_at, branches_at, past_statements, past_branches}
use Rattle.pcal_tree.proofs.InMemoryEach.{if_at, either_at, with_at, while_at, past_if, past_either, past_with, past_while, past_one_more}
use Rattle.pcal_tree.specs.GrammarParts.{first_place, last_place, span, key, maybe_semicolon, Binds}
use Rattle.pcal_tree.specs.GrammarC.{Statement, Labelled, labelled, branch, either, with, while, no_else, else_then, Branches, last_branch, more_branches, labelled_tokens, branches, flat, flat_statement, branch_trees, statement, labelled_ends_in_block, branches_end_in_block}
use Rattle.c_reading.specs.ReadStatements.{joined, Arms, Stack, bottom, in_block, in_then, in_else, in_body, in_either, if_test, with_opening, while_opening, first_arm, later_arm}
use Rattle.pcal_tree.specs.Tests.{is_empty}
use Rattle.algorithm_reader.specs.ListsRead.{ListStands}
use Rattle.c_syntax.specs.StatesRead.{FrameStands, past_one, up_to, around, arms_labels, arms_place, arms_tree}
use Rattle.c_syntax.specs.Closes.{can_end, ended_with}
use Rattle.c_syntax.specs.declared.open.Begun.{Begun}
use Rattle.c_syntax.specs.declared.open.Frame.TheVariants as frame
use Rattle.algorithm_reader.proofs.InLists.{one_more_stands, all_of_list, in_branches-all, in_branches-append}
use Rattle.c_reading.proofs.Lasts.{last_labelled, last_put, some_put, some_labelled, put_after, put_both, put_one, put_phrase, put_binds, put_labelled, put_semicolon}

-- ---- the last tokens
last_of_then : (p b : Place) (x : Phrase) (r : Place) (a : Labelled) → last_place (statement (branch p b x r a no_else) []) ≡ last_place (labelled_tokens a [])
last_of_then p b x r a = last_put (put_after (tk.token p (tk.reserved (codes "if"))) (put_after (tk.token b (tk.mark tk.open_bracket)) (put_both (put_phrase x) (put_one (tk.token r (tk.mark tk.close_bracket)))))) (labelled_tokens a []) (some_labelled a)

last_of_else : (p b : Place) (x : Phrase) (r : Place) (c : Labelled) (s : Option Place) (u : Place) (a : Labelled) → last_place (statement (branch p b x r c (else_then s u a)) []) ≡ last_place (labelled_tokens a [])
last_of_else p b x r c s u a =
    last_put (put_after (tk.token p (tk.reserved (codes "if"))) (put_after (tk.token b (tk.mark tk.open_bracket)) (put_both (put_phrase x) (put_after (tk.token r (tk.mark tk.close_bracket)) (put_both (put_labelled c) (put_both (put_semicolon s) (put_one (tk.token u (tk.reserved (codes "else"))))))))))
    (labelled_tokens a []) (some_labelled a)

last_of_with : (p b : Place) (cs : Binds) (r : Place) (a : Labelled) → last_place (statement (with p b cs r a) []) ≡ last_place (labelled_tokens a [])
last_of_with p b cs r a = last_put (put_after (tk.token p (tk.reserved (codes "with"))) (put_after (tk.token b (tk.mark tk.open_bracket)) (put_both (put_binds cs) (put_one (tk.token r (tk.mark tk.close_bracket)))))) (labelled_tokens a []) (some_labelled a)

last_of_while : (p b : Place) (x : Phrase) (r : Place) (a : Labelled) → last_place (statement (while p b x r a) []) ≡ last_place (labelled_tokens a [])
last_of_while p b x r a = last_put (put_after (tk.token p (tk.reserved (codes "while"))) (put_after (tk.token b (tk.mark tk.open_bracket)) (put_both (put_phrase x) (put_one (tk.token r (tk.mark tk.close_bracket)))))) (labelled_tokens a []) (some_labelled a)

-- an `either`, in its last branch: its labels, its place and its branches are those that were read
abbrev shape_of_arms : Arms → Labelled → Branches → Statement
shape_of_arms (first_arm ls p) a bs = either p a bs
shape_of_arms (later_arm t c s p) a bs = shape_of_arms t c (more_branches s p a bs)

joined_is : (t : Arms) (a : Labelled) (bs : Branches) → joined t a bs ≡ labelled (arms_labels t) (shape_of_arms t a bs)
joined_is (first_arm ls p) a bs = refl
joined_is (later_arm t c s p) a bs = joined_is t c (more_branches s p a bs)

first_of_arms : (t : Arms) (a : Labelled) (bs : Branches) → first_place (statement (shape_of_arms t a bs) []) ≡ arms_place t
first_of_arms (first_arm ls p) a bs = refl
first_of_arms (later_arm t c s p) a bs = first_of_arms t c (more_branches s p a bs)

last_of_arms : (t : Arms) (a : Labelled) (bs : Branches) → is_empty (labelled_tokens a (branches bs [])) ≡ false → last_place (statement (shape_of_arms t a bs) []) ≡ last_place (labelled_tokens a (branches bs []))
last_of_arms (first_arm ls p) a bs e = last_put (put_one (tk.token p (tk.reserved (codes "either")))) (labelled_tokens a (branches bs [])) e
last_of_arms (later_arm t c s p) a bs e =
    let x = put_both (put_semicolon s) (put_one (tk.token p (tk.reserved (codes "or")))) in
    last_of_arms t c (more_branches s p a bs) (some_put (put_labelled c) (maybe_semicolon s (key p (codes "or") (labelled_tokens a (branches bs [])))) (some_put (put_semicolon s) (key p (codes "or") (labelled_tokens a (branches bs []))) refl))
    ∙ last_put (put_both (put_labelled c) x) (labelled_tokens a (branches bs [])) e

last_of_either : (t : Arms) (c : Labelled) (s : Option Place) (p : Place) (a : Labelled) → last_place (statement (shape_of_arms t c (last_branch s p a)) []) ≡ last_place (labelled_tokens a [])
last_of_either t c s p a =
    let words = put_both (put_labelled c) (put_both (put_semicolon s) (put_one (tk.token p (tk.reserved (codes "or"))))) in
    last_of_arms t c (last_branch s p a) (some_put words (labelled_tokens a []) (some_labelled a)) ∙ last_put words (labelled_tokens a []) (some_labelled a)

-- so what ends with a statement has its last token, and ends in a block where it does
pub last_ended : (a : Labelled) (st : Stack) → can_end st ≡ true → last_place (labelled_tokens (ended_with a st) []) ≡ last_place (labelled_tokens a [])
last_ended a (bottom b) i = absurd cc
last_ended a (in_block ls p b st) i = absurd cc
last_ended a (in_then ls (if_test p b x r) st) i = last_labelled ls (branch p b x r a no_else) ∙ last_of_then p b x r a
last_ended a (in_else ls (if_test p b x r) c s u st) i = last_labelled ls (branch p b x r c (else_then s u a)) ∙ last_of_else p b x r c s u a
last_ended a (in_body ls (with_opening p b cs r) st) i = last_labelled ls (with p b cs r a) ∙ last_of_with p b cs r a
last_ended a (in_body ls (while_opening p b x r) st) i = last_labelled ls (while p b x r a) ∙ last_of_while p b x r a
last_ended a (in_either (first_arm ls p) st) i = absurd cc
last_ended a (in_either (later_arm t c s p) st) i =
    ap (λ (b : Labelled). last_place (labelled_tokens b [])) (joined_is t c (last_branch s p a)) ∙ last_labelled (arms_labels t) (shape_of_arms t c (last_branch s p a)) ∙ last_of_either t c s p a

block_of_arms : (t : Arms) (a : Labelled) (bs : Branches) → labelled_ends_in_block (joined t a bs) ≡ branches_end_in_block bs
block_of_arms (first_arm ls p) a bs = refl
block_of_arms (later_arm t c s p) a bs = block_of_arms t c (more_branches s p a bs)

pub block_ended : (a : Labelled) (st : Stack) → can_end st ≡ true → labelled_ends_in_block (ended_with a st) ≡ labelled_ends_in_block a
block_ended a (bottom b) i = absurd cc
block_ended a (in_block ls p b st) i = absurd cc
block_ended a (in_then ls (if_test p b x r) st) i = refl
block_ended a (in_else ls (if_test p b x r) c s u st) i = refl
block_ended a (in_body ls (with_opening p b cs r) st) i = refl
block_ended a (in_body ls (while_opening p b x r) st) i = refl
block_ended a (in_either (first_arm ls p) st) i = absurd cc
block_ended a (in_either (later_arm t c s p) st) i = block_of_arms t c (last_branch s p a)

-- ---- the lists
-- an `if` without an `else`
pub then_ended : (ts : List Tree) (a : Labelled) (st : Stack) (g : Begun) (e : ℕ) (last : Place) (list new : Vec Stmt Global) (ss : List Stmt) → new.items ≡ [] → ss ≡ g.list.items ++ stmt.If (record { first = g.first; last = last }) e list new ∷ []
    → FrameStands ts (frame.Then g e) st → ListStands ts list.items (past_one a st) → last ≡ last_place (labelled_tokens a []) → ListStands ts ss (past_one (ended_with a st) (around st))
then_ended ts a (bottom b) g e last list new ss n q h l k = absurd h
then_ended ts a (in_block ls p b st) g e last list new ss n q h l k = absurd h
then_ended ts a (in_else ls t c s p st) g e last list new ss n q h l k = absurd h
then_ended ts a (in_body ls o st) g e last list new ss n q h l k = absurd h
then_ended ts a (in_either t st) g e last list new ss n q h l k = absurd h
then_ended ts a (in_then ls (if_test p b x r) st) g e last list new ss n q h l k =
    let span : Span = record { first = g.first; last = last } in
    let ends : last ≡ last_place (statement (branch p b x r a no_else) []) = k ∙ sym (last_of_then p b x r a) in
    one_more_stands ts g.list.items ss (stmt.If span e list new) (up_to ls st) (past_one (ended_with a (in_then ls (if_test p b x r) st)) st) h.0.list q (omega (arith, past_if span e list new, h.1, l.below, ap past_statements n))
    (λ rest. ap (up_to ls st) (λ j. if_at ts span e list new j rest) ∙ λ j. up_to ls st (tree.then (record { first = h.0.first j; last = ends j }) (tree.branch (h.2 j) (all_of_list l j) (ap (statements_at ts) n j)) rest))

-- one with an `else`
pub else_ended : (ts : List Tree) (a : Labelled) (st : Stack) (g : Begun) (e : ℕ) (last : Place) (then list : Vec Stmt Global) (ss : List Stmt) → ss ≡ g.list.items ++ stmt.If (record { first = g.first; last = last }) e then list ∷ []
    → FrameStands ts (frame.Else g e then) st → ListStands ts list.items (past_one a st) → last ≡ last_place (labelled_tokens a []) → ListStands ts ss (past_one (ended_with a st) (around st))
else_ended ts a (bottom b) g e last then list ss q h l k = absurd h
else_ended ts a (in_block ls p b st) g e last then list ss q h l k = absurd h
else_ended ts a (in_then ls t st) g e last then list ss q h l k = absurd h
else_ended ts a (in_body ls o st) g e last then list ss q h l k = absurd h
else_ended ts a (in_either t st) g e last then list ss q h l k = absurd h
else_ended ts a (in_else ls (if_test p b x r) c s u st) g e last then list ss q h l k =
    let span : Span = record { first = g.first; last = last } in
    let ends : last ≡ last_place (statement (branch p b x r c (else_then s u a)) []) = k ∙ sym (last_of_else p b x r c s u a) in
    one_more_stands ts g.list.items ss (stmt.If span e then list) (up_to ls st) (past_one (ended_with a (in_else ls (if_test p b x r) c s u st)) st) h.0.list q (omega (arith, past_if span e then list, h.1, l.below, h.3.below))
    (λ rest. ap (up_to ls st) (λ j. if_at ts span e then list j rest) ∙ λ j. up_to ls st (tree.then (record { first = h.0.first j; last = ends j }) (tree.branch (h.2 j) (all_of_list h.3 j) (all_of_list l j)) rest))

-- a `with`
pub with_ended : (ts : List Tree) (a : Labelled) (st : Stack) (g : Begun) (bs : Vec Bind Global) (last : Place) (list : Vec Stmt Global) (ss : List Stmt) → ss ≡ g.list.items ++ stmt.With (record { first = g.first; last = last }) bs list ∷ []
    → FrameStands ts (frame.With g bs) st → ListStands ts list.items (past_one a st) → last ≡ last_place (labelled_tokens a []) → ListStands ts ss (past_one (ended_with a st) (around st))
with_ended ts a (bottom b) g bs last list ss q h l k = absurd h
with_ended ts a (in_block ls p b st) g bs last list ss q h l k = absurd h
with_ended ts a (in_then ls t st) g bs last list ss q h l k = absurd h
with_ended ts a (in_else ls t c s u st) g bs last list ss q h l k = absurd h
with_ended ts a (in_either t st) g bs last list ss q h l k = absurd h
with_ended ts a (in_body ls (while_opening p b x r) st) g bs last list ss q h l k = absurd h
with_ended ts a (in_body ls (with_opening p b cs r) st) g bs last list ss q h l k =
    let span : Span = record { first = g.first; last = last } in
    let ends : last ≡ last_place (statement (with p b cs r a) []) = k ∙ sym (last_of_with p b cs r a) in
    one_more_stands ts g.list.items ss (stmt.With span bs list) (up_to ls st) (past_one (ended_with a (in_body ls (with_opening p b cs r) st)) st) h.0.list q (omega (arith, past_with span bs list, h.1, l.below))
    (λ rest. ap (up_to ls st) (λ j. with_at ts span bs list j rest) ∙ λ j. up_to ls st (tree.then (record { first = h.0.first j; last = ends j }) (tree.with (h.2 j) (all_of_list l j)) rest))

-- a `while`
pub while_ended : (ts : List Tree) (a : Labelled) (st : Stack) (g : Begun) (e : ℕ) (last : Place) (list : Vec Stmt Global) (ss : List Stmt) → ss ≡ g.list.items ++ stmt.While (record { first = g.first; last = last }) e list ∷ []
    → FrameStands ts (frame.While g e) st → ListStands ts list.items (past_one a st) → last ≡ last_place (labelled_tokens a []) → ListStands ts ss (past_one (ended_with a st) (around st))
while_ended ts a (bottom b) g e last list ss q h l k = absurd h
while_ended ts a (in_block ls p b st) g e last list ss q h l k = absurd h
while_ended ts a (in_then ls t st) g e last list ss q h l k = absurd h
while_ended ts a (in_else ls t c s u st) g e last list ss q h l k = absurd h
while_ended ts a (in_either t st) g e last list ss q h l k = absurd h
while_ended ts a (in_body ls (with_opening p b cs r) st) g e last list ss q h l k = absurd h
while_ended ts a (in_body ls (while_opening p b x r) st) g e last list ss q h l k =
    let span : Span = record { first = g.first; last = last } in
    let ends : last ≡ last_place (statement (while p b x r a) []) = k ∙ sym (last_of_while p b x r a) in
    one_more_stands ts g.list.items ss (stmt.While span e list) (up_to ls st) (past_one (ended_with a (in_body ls (while_opening p b x r) st)) st) h.0.list q (omega (arith, past_while span e list, h.1, l.below))
    (λ rest. ap (up_to ls st) (λ j. while_at ts span e list j rest) ∙ λ j. up_to ls st (tree.then (record { first = h.0.first j; last = ends j }) (tree.while (h.2 j) (all_of_list l j)) rest))

-- an `either`
flat_of_arms : (t : Arms) (a : Labelled) (bs : Branches) (rest : Statements) → flat_statement (shape_of_arms t a bs) rest ≡ tree.then (span (statement (shape_of_arms t a bs) [])) (tree.either (arms_tree t (tree.or (flat a tree.done) (branch_trees bs)))) rest
flat_of_arms (first_arm ls p) a bs rest = refl
flat_of_arms (later_arm t c s p) a bs rest = flat_of_arms t c (more_branches s p a bs) rest

pub either_ended : (ts : List Tree) (a : Labelled) (st : Stack) (g : Begun) (before all_of : Vec (Vec Stmt Global) Global) (last : Place) (list : Vec Stmt Global) (ss : List Stmt) → all_of.items ≡ before.items ++ list ∷ []
    → ss ≡ g.list.items ++ stmt.Either (record { first = g.first; last = last }) all_of ∷ []
    → FrameStands ts (frame.Either g before) st → ListStands ts list.items (past_one a st) → last ≡ last_place (labelled_tokens a []) → can_end st ≡ true → ListStands ts ss (past_one (ended_with a st) (around st))
either_ended ts a (bottom b) g before all_of last list ss m q h l k i = absurd h
either_ended ts a (in_block ls p b st) g before all_of last list ss m q h l k i = absurd h
either_ended ts a (in_then ls t st) g before all_of last list ss m q h l k i = absurd h
either_ended ts a (in_else ls t c s u st) g before all_of last list ss m q h l k i = absurd h
either_ended ts a (in_body ls o st) g before all_of last list ss m q h l k i = absurd h
either_ended ts a (in_either (first_arm ls p) st) g before all_of last list ss m q h l k i = absurd cc
either_ended ts a (in_either (later_arm t c s p) st) g before all_of last list ss m q h l k i =
    let span' : Span = record { first = g.first; last = last } in
    let ls = arms_labels t in
    let x = last_branch s p a in
    let whole = shape_of_arms t c x in
    let ends : last ≡ last_place (statement whole []) = k ∙ sym (last_of_either t c s p a) in
    let starts : g.first ≡ first_place (statement whole []) = h.0.first ∙ sym (first_of_arms t c x) in
    let all : branches_at ts all_of.items ≡ arms_tree t (tree.or (flat c tree.done) (branch_trees x)) =
    ap (branches_at ts) m ∙ in_branches-all ts (before.items ++ list ∷ []) ∙ in_branches-append ts before.items (list ∷ []) tree.no_branches ∙ h.1.tree (tree.or (statements_at ts list.items) tree.no_branches)
    ∙ (λ j. arms_tree t (tree.or (flat c tree.done) (tree.or (all_of_list l j) tree.no_branches))) in
    one_more_stands ts g.list.items ss (stmt.Either span' all_of) (up_to ls st) (past_one (joined t c x) st) h.0.list q
    (omega (arith, past_either span' all_of, ap past_branches m, past_one_more (λ (b : Vec Stmt Global). past_statements b.items) before.items list, h.1.below, l.below))
    (λ rest. ap (up_to ls st) (λ j. either_at ts span' all_of j rest)
    ∙ (λ j. up_to ls st (tree.then (record { first = starts j; last = ends j }) (tree.either (all j)) rest))
    ∙ ap (up_to ls st) (sym (flat_of_arms t c x rest))
    ∙ ap (λ (b : Labelled). past_one b st rest) (sym (joined_is t c x)))
