-- Reading an expression from left to right, as a function of its tokens ("Specifying Systems", chapter 15).
use Rattle.std.specs.Prelude.{ℕ, zero, suc, ◌+◌, ◌-◌, ◌*◌, Bool, true, false, ◌||◌, ◌&&◌, not, nat_lt, nat_le, nat_eq, List, [], ◌∷◌, Option, Some, None, Result, Ok, Err, length, if◌then◌else◌, min, option_map}
use Rattle.tla_token.specs.declared.place.Place.{Place}
use Rattle.tla_token.specs.Places.{nowhere}
use Rattle.tla_token.specs.declared.rule.Rule.{Rule}
use Rattle.tla_token.specs.declared.rule.Rule.TheVariants.{TooDeep, Syntax}
use Rattle.tla_token.specs.Limits.{deepest_expression}
use Rattle.tla_tree.specs.declared.op.Op.{Op}
use Rattle.tla_tree.specs.declared.op.Op.TheVariants as op
use Rattle.tla_tree.specs.Tree.{Word}
use Rattle.tla_tree.specs.Rank.{rank, is_prefix, is_bullet, same_op}
use Rattle.tla_tree.specs.Lexical.{Mark, Key, TokenView, Token, token}
use Rattle.tla_tree.specs.Lexical as tk
use Rattle.tla_tree.specs.Spelling.{Field, Phrase, number, string, constant, name, primed, call, brackets, no_set, set_of, filter, image, no_tuple, tuple, fields, records, function, functions, except, apply, select, list, quantified, if_then_else, cases, local, infix_of, prefix_of}
use Rattle.tla_tree.specs.Spelling.{Phrases, last, more, Binds, last_bind, bind, share, Fields, last_field, field, Settings, last_setting, setting, Path, path_end, index, at_field, Bullets, last_bullet, bullet, Arms, last_arm, other_arm, arm, Locals, last_local, more_locals}
use Rattle.tla_tree.specs.Nesting.{chain, links, before, nesting_in}
use Rattle.tla_tree.specs.Spelling.{applied, is_above, can_be_left, can_be_right, can_be_under, can_be_head, is_some_path, takes_box}

-- the rule, and the tokens from the refused one on
abbrev pub Stop : Type 0
Stop = Rule × List Token

-- Ok: what was read, and the tokens after it. Err: where it is refused.
abbrev pub Out : Type 0 → Type 0
Out A = Result (A × List Token) Stop

abbrev pub Reader : Type 0 → Type 0
Reader A = List Token → Out A

-- first one, then the other
abbrev pub then_read : {A B : Type 0} → Out A → (A → Reader B) → Out B
then_read (Ok x) f = f x.0 x.1
then_read (Err s) f = Err s

infixl 10 ◌>>=◌
abbrev pub ◌>>=◌ : {A B : Type 0} → Reader A → (A → Reader B) → Reader B
(p >>= f) ts = then_read (p ts) f

abbrev pub gives : {A : Type 0} → A → Reader A
gives a ts = Ok (a, ts)

abbrev pub refuses : {A : Type 0} → Reader A
refuses ts = Err (Syntax, ts)

-- what is seen at the end, and where the next token is not to the right of the edge
abbrev pub end : Token
end = token nowhere (tk.other [])

-- the next token, where it is to the right of the edge
abbrev pub next : ℕ → List Token → Token
next e [] = end
next e (t ∷ ts) = if nat_lt e t.place.col then t else end

abbrev pub tail : List Token → List Token
tail [] = []
tail (t ∷ ts) = ts

-- by the place and kind of the next token, which stays
abbrev pub peek : {A : Type 0} → ℕ → (Place → TokenView → Reader A) → Reader A
peek e f ts = f (next e ts).place (next e ts).kind ts

-- too many forms would be open
abbrev pub too_deep : {A : Type 0} → Reader A
too_deep ts = Err (TooDeep, ts)

-- past the next token
abbrev pub skip : {A : Type 0} → Reader A → Reader A
skip p ts = p (tail ts)

abbrev pub took : {A : Type 0} → Option A → Reader A
took (Some a) ts = Ok (a, tail ts)
took None ts = Err (Syntax, ts)

-- past a token of which f tells something
abbrev pub take : {A : Type 0} → ℕ → (Place → TokenView → Option A) → Reader A
take e f = peek e (λ p k. took (f p k))

-- ---- kinds of tokens
abbrev pub mark_number : Mark → ℕ
mark_number tk.open_bracket = 0
mark_number tk.close_bracket = 1
mark_number tk.open_square = 2
mark_number tk.close_square = 3
mark_number tk.open_brace = 4
mark_number tk.close_brace = 5
mark_number tk.open_tuple = 6
mark_number tk.close_tuple = 7
mark_number tk.comma = 8
mark_number tk.colon = 9
mark_number tk.dot = 10
mark_number tk.bang = 11
mark_number tk.arrow = 12
mark_number tk.maps = 13
mark_number tk.defines = 14
mark_number tk.box = 15
mark_number tk.prime = 16
mark_number tk.assigns = 17
mark_number tk.beside = 18
mark_number tk.semicolon = 19

abbrev pub key_number : Key → ℕ
key_number tk.if_key = 0
key_number tk.then_key = 1
key_number tk.else_key = 2
key_number tk.case_key = 3
key_number tk.other_key = 4
key_number tk.let_key = 5
key_number tk.in_key = 6
key_number tk.except_key = 7
key_number tk.for_all_key = 8
key_number tk.exists_key = 9

abbrev pub is_mark : Mark → TokenView → Bool
is_mark m (tk.mark n) = nat_eq (mark_number m) (mark_number n)
is_mark m k = false

abbrev pub is_key : Key → TokenView → Bool
is_key m (tk.key n) = nat_eq (key_number m) (key_number n)
is_key m k = false

abbrev pub is_sign : Op → TokenView → Bool
is_sign o (tk.sign q) = same_op o q
is_sign o k = false

abbrev pub place_if : (TokenView → Bool) → Place → TokenView → Option Place
place_if f p k = if f k then Some p else None

-- past this mark, key or sign: its place
abbrev pub a_mark : ℕ → Mark → Reader Place
a_mark e m = take e (place_if (is_mark m))

abbrev pub a_key : ℕ → Key → Reader Place
a_key e k = take e (place_if (is_key k))

abbrev pub a_sign : ℕ → Op → Reader Place
a_sign e o = take e (place_if (is_sign o))

abbrev pub word_of : Place → TokenView → Option (Place × Word)
word_of p (tk.word x) = Some (p, x)
word_of p k = None

abbrev pub field_of : Place → TokenView → Option Field
field_of p (tk.word x) = Some (record { place = p; is_reserved = false; text = x })
field_of p (tk.reserved x) = Some (record { place = p; is_reserved = true; text = x })
field_of p k = None

abbrev pub a_word : ℕ → Reader (Place × Word)
a_word e = take e word_of

abbrev pub a_field : ℕ → Reader Field
a_field e = take e field_of

-- ---- where an expression is: free, to the right of an operator, under a prefix operator, or behind `x \in` after `{` or `[`: then all of it is a set for x, or
-- a part of it that goes to the right of that `\in`, and operators after it
pub data Context : Type 0 where
  free : Context
  right_of : Op → Context
  under : Op → Context
  behind : Place → Word → Place → Context

-- the rank that its operators are above
abbrev pub bound : Context → ℕ
bound (right_of o) = (rank o).1
bound (under o) = (rank o).1
bound c = 0

abbrev pub fits : Context → Phrase → Bool
fits (right_of o) a = can_be_right o a
fits (under o) a = can_be_under o a
fits c a = true

-- a prefix operator that may have more than a short form under it
abbrev pub is_free : Context → Op → Bool
is_free (right_of o) q = nat_lt (rank o).1 (rank q).0
is_free (under o) q = nat_lt (rank o).1 (rank q).0 || same_op o q
is_free c q = true

-- the prefix operator of a sign
abbrev pub prefix_by : Op → Option Op
prefix_by op.Minus = Some op.Negate
prefix_by op.Not = Some op.Not
prefix_by op.Subset = Some op.Subset
prefix_by op.Union = Some op.Union
prefix_by op.Domain = Some op.Domain
prefix_by o = None

-- the operator goes on from a phrase at this place, above this rank
abbrev pub goes_on : ℕ → Phrase → Place → Op → Bool
goes_on b a p o = not (is_prefix o) && (nat_lt b (rank o).0 && can_be_left a p o)

-- `x \in` put before the largest left part of a set that may be there
abbrev pub on_left : Option Phrase → Place → Op → Phrase → Option Phrase
on_left (Some a) p o b = if can_be_left a p o then Some (infix_of a p o b) else None
on_left None p o b = None

abbrev pub element : Place → Word → Place → Phrase → Option Phrase
element p x q (infix_of a r o b) = if can_be_right op.In (infix_of a r o b) then Some (infix_of (name p x) q op.In (infix_of a r o b)) else on_left (element p x q a) r o b
element p x q s = if can_be_right op.In s then Some (infix_of (name p x) q op.In s) else None

-- ---- the readers that call one another; each has the edge that all its tokens are to the right of
pub record Readers : Type 0 where
  pub expr : ℕ → Context → Reader Phrase
  pub short : ℕ → Reader Phrase  -- a primary, or a prefix operator with a short form
  pub postfix : ℕ → Phrase → Reader Phrase  -- so far, and then `[a]` and `.b`
  pub climb : ℕ → Context → Phrase → Reader Phrase  -- so far, and then operators
  pub phrases : ℕ → Reader Phrases
  pub binds : ℕ → Place → Word → Reader Binds  -- after a first name
  pub fields : ℕ → Mark → Field → Reader Fields  -- after a first name
  pub settings : ℕ → Reader Settings
  pub path : ℕ → Reader Path
  pub bullets : ℕ → Op → ℕ → Reader Bullets  -- in this column
  pub arms : ℕ → Reader Arms
  pub locals : ℕ → Reader Locals

-- ---- how many forms may still open
-- the readers where so many forms more are open, as long as so many may be; whether a phrase may be read there, of which it is told late what it opens; and whether
-- fields and closed applications count
pub record Room : Type 0 where
  pub at : ℕ → Option Readers
  pub fits : ℕ → Phrase → Bool
  pub linked : Bool

-- where one more is open, and so many besides
abbrev pub within : ℕ → Room → Room
within k m = record { at = λ n. m.at (suc k + n); fits = λ n. m.fits (suc k + n); linked = m.linked }

-- with these readers, or refused
abbrev pub read_by : {A : Type 0} → Option Readers → (Readers → Reader A) → Reader A
read_by (Some d) f = f d
read_by None f = too_deep

-- with one more form open, and so many besides, or refused
abbrev pub opened : {A : Type 0} → Room → ℕ → (Room → Readers → Reader A) → Reader A
opened m k f = read_by (m.at (suc k)) (f (within k m))

-- where this counts, with one more form open, and so many besides, or refused
abbrev pub opened_if : {A : Type 0} → Bool → Room → Readers → ℕ → (Room → Readers → Reader A) → Reader A
opened_if true m r k f = opened m k f
opened_if false m r k f = f m r

-- wherever any number of forms may be open
abbrev pub any : Readers → Room
any r = record { at = λ n. Some r; fits = λ n a. true; linked = true }

-- ---- what is open at an operator after a phrase so far
abbrev pub is_behind_in : Context → Bool
is_behind_in (behind p x q) = true
is_behind_in c = false

-- where the phrase is behind `x \in`, and the operator goes to the right of the part that is in it
abbrev pub chain_of : Room → Option Phrase → Place → Op → Option ℕ
chain_of m (Some a) p o = if not (is_above op.In (applied o)) && (can_be_left a p o && m.fits 0 a) then Some (chain a) else None
chain_of m None p o = None

abbrev pub chain_behind : Room → Context → Phrase → Place → Op → Option ℕ
chain_behind m (behind p x q) a r o = chain_of m (element p x q a) r o
chain_behind m c a r o = None

abbrev pub at_most : ℕ → Option ℕ → ℕ
at_most n (Some k) = min n k
at_most n None = n

abbrev pub fewest : Option ℕ → Option ℕ → Option ℕ
fewest (Some n) k = Some (at_most n k)
fewest None k = k

-- the fewest operators of the chain so far, of those that it can be; none, where all are too deep
abbrev pub so_far : Room → Context → Phrase → Place → Op → Option ℕ
so_far m c a p o = fewest (if m.fits 0 a || not (is_behind_in c) then Some (chain a) else None) (chain_behind m c a p o)

abbrev pub opened_after : {A : Type 0} → Room → Option ℕ → (Room → Readers → Reader A) → Reader A
opened_after m (Some k) f = opened m k f
opened_after m None f = too_deep

-- if a phrase fits, and else it is too deep
abbrev pub if_fits : {A : Type 0} → Bool → Reader A → Reader A
if_fits true f = f
if_fits false f = too_deep

-- a, then a mark, and what both make
abbrev pub ended : {A : Type 0} → ℕ → Mark → (Place → A) → Reader A
ended e m f = a_mark e m >>= λ p. gives (f p)

-- ---- names
abbrev pub named : Room → ℕ → Place → Word → Place → TokenView → Reader Phrase
named m e p x q (tk.mark tk.open_bracket) = opened m 0 (λ i d. skip (d.phrases e >>= λ xs. ended e tk.close_bracket (λ s. call p x q xs s)))
named m e p x q (tk.mark tk.prime) = skip (gives (primed p x q))
named m e p x q k = gives (name p x)

abbrev pub from_name : Room → Readers → ℕ → Place → Word → Reader Phrase
from_name m r e p x = peek e (named m e p x) >>= λ a. r.postfix e a

-- ---- braces
abbrev pub set_rest : Readers → ℕ → Place → Phrase → Place → TokenView → Reader Phrase
set_rest r e p a q (tk.mark tk.comma) = skip (r.phrases e >>= λ xs. ended e tk.close_brace (λ s. set_of p (more a q xs) s))
set_rest r e p a q k = ended e tk.close_brace (λ s. set_of p (last a) s)

abbrev pub image_rest : Readers → ℕ → Place → Phrase → Place → Reader Phrase
image_rest r e p a q = a_word e >>= λ x. r.binds e x.0 x.1 >>= λ bs. ended e tk.close_brace (λ s. image p a q bs s)

abbrev pub brace_rest : Readers → ℕ → Place → Phrase → Place → TokenView → Reader Phrase
brace_rest r e p a q (tk.mark tk.colon) = skip (image_rest r e p a q)
brace_rest r e p a q k = set_rest r e p a q k

abbrev pub set_from : Room → Readers → ℕ → Place → Option Phrase → Reader Phrase
set_from m r e p (Some a) = peek e (λ q k. if_fits (m.fits 0 a || not (is_mark tk.comma k || is_mark tk.close_brace k)) (set_rest r e p a q k))
set_from m r e p None = refuses

-- after `{x \in S`
abbrev pub member_rest : Room → Readers → ℕ → Place → Place → Word → Place → Phrase → Place → TokenView → Reader Phrase
member_rest m r e p q x s a t (tk.mark tk.colon) = if_fits (m.fits 0 a) (skip (r.expr e free >>= λ b. ended e tk.close_brace (λ u. filter p q x s a t b u)))
member_rest m r e p q x s a t k = set_from m r e p (element q x s a)

abbrev pub brace_name : Room → Readers → ℕ → Place → Place → Word → Place → TokenView → Reader Phrase
brace_name m r e p q x s (tk.sign op.In) = skip (r.expr e (behind q x s) >>= λ a. peek e (member_rest m r e p q x s a))
brace_name m r e p q x s k = from_name m r e q x >>= λ a. r.climb e free a >>= λ b. peek e (brace_rest r e p b)

abbrev pub braces : Room → Readers → ℕ → Place → Place → TokenView → Reader Phrase
braces m r e p q (tk.mark tk.close_brace) = skip (gives (no_set p q))
braces m r e p q (tk.word x) = skip (peek e (brace_name m r e p q x))
braces m r e p q k = r.expr e free >>= λ a. peek e (brace_rest r e p a)

-- ---- tuples
abbrev pub tuples : Readers → ℕ → Place → Place → TokenView → Reader Phrase
tuples r e p q (tk.mark tk.close_tuple) = skip (gives (no_tuple p q))
tuples r e p q k = r.phrases e >>= λ xs. ended e tk.close_tuple (λ s. tuple p xs s)

-- ---- square brackets
abbrev pub field_rest : Readers → ℕ → Place → Field → Place → TokenView → Reader Phrase
field_rest r e p f q (tk.mark tk.maps) = r.fields e tk.maps f >>= λ fs. ended e tk.close_square (λ s. fields p fs s)
field_rest r e p f q (tk.mark tk.colon) = r.fields e tk.colon f >>= λ fs. ended e tk.close_square (λ s. records p fs s)
field_rest r e p f q k = refuses

abbrev pub function_rest : Readers → ℕ → Place → Binds → Reader Phrase
function_rest r e p bs = a_mark e tk.maps >>= λ q. r.expr e free >>= λ a. ended e tk.close_square (λ s. function p bs q a s)

abbrev pub square_rest : Readers → ℕ → Place → Phrase → Place → TokenView → Reader Phrase
square_rest r e p a q (tk.mark tk.arrow) = skip (r.expr e free >>= λ b. ended e tk.close_square (λ s. functions p a q b s))
square_rest r e p a q (tk.key tk.except_key) = skip (r.settings e >>= λ ss. ended e tk.close_square (λ s. except p a q ss s))
square_rest r e p a q k = refuses

abbrev pub square_from : Room → Readers → ℕ → Place → Option Phrase → Reader Phrase
square_from m r e p (Some a) = peek e (λ q k. if_fits (m.fits 0 a || not (is_mark tk.arrow k || is_key tk.except_key k)) (square_rest r e p a q k))
square_from m r e p None = refuses

-- after `x \in S`
abbrev pub bind_rest : Readers → ℕ → Place → Word → Place → Phrase → Place → TokenView → Reader Binds
bind_rest r e p x q a s (tk.mark tk.comma) = skip (a_word e >>= λ y. r.binds e y.0 y.1 >>= λ bs. gives (bind p x q a s bs))
bind_rest r e p x q a s k = gives (last_bind p x q a)

-- after `[x \in S`
abbrev pub square_member : Room → Readers → ℕ → Place → Place → Word → Place → Phrase → Place → TokenView → Reader Phrase
square_member m r e p q x s a t (tk.mark tk.maps) = if_fits (m.fits 0 a) (function_rest r e p (last_bind q x s a))
square_member m r e p q x s a t (tk.mark tk.comma) = if_fits (m.fits 0 a) (peek e (bind_rest r e q x s a) >>= λ bs. function_rest r e p bs)
square_member m r e p q x s a t k = square_from m r e p (element q x s a)

abbrev pub plain_field : Place → Word → Field
plain_field p x = record { place = p; is_reserved = false; text = x }

abbrev pub square_name : Room → Readers → ℕ → Place → Place → Word → Place → TokenView → Reader Phrase
square_name m r e p q x s (tk.mark tk.maps) = field_rest r e p (plain_field q x) s (tk.mark tk.maps)
square_name m r e p q x s (tk.mark tk.colon) = field_rest r e p (plain_field q x) s (tk.mark tk.colon)
square_name m r e p q x s (tk.mark tk.comma) = r.binds e q x >>= λ bs. function_rest r e p bs
square_name m r e p q x s (tk.sign op.In) = skip (r.expr e (behind q x s) >>= λ a. peek e (square_member m r e p q x s a))
square_name m r e p q x s k = from_name m r e q x >>= λ a. r.climb e free a >>= λ b. peek e (square_rest r e p b)

abbrev pub squares : Room → Readers → ℕ → Place → Place → TokenView → Reader Phrase
squares m r e p q (tk.reserved x) = skip (peek e (field_rest r e p (record { place = q; is_reserved = true; text = x })))
squares m r e p q (tk.word x) = skip (peek e (square_name m r e p q x))
squares m r e p q k = r.expr e free >>= λ a. peek e (square_rest r e p a)

-- ---- primaries, before `[a]` and `.b`
abbrev pub list_if : Bool → Readers → ℕ → Place → Op → Reader Phrase
list_if true r e p o = r.bullets e o p.col >>= λ bs. r.postfix e (list o bs)
list_if false r e p o = refuses

abbrev pub primary : Room → Readers → ℕ → Place → TokenView → Reader Phrase
primary m r e p (tk.number n) = skip (r.postfix e (number p n))
primary m r e p (tk.string x) = skip (r.postfix e (string p x))
primary m r e p (tk.constant c) = skip (r.postfix e (constant p c))
primary m r e p (tk.word x) = skip (from_name m r e p x)
primary m r e p (tk.mark tk.open_bracket) = opened m 0 (λ i d. skip (d.expr e free >>= λ a. a_mark e tk.close_bracket >>= λ q. r.postfix e (brackets p a q)))
primary m r e p (tk.mark tk.open_brace) = opened m 0 (λ i d. skip (peek e (braces i d e p) >>= λ a. r.postfix e a))
primary m r e p (tk.mark tk.open_tuple) = opened m 0 (λ i d. skip (peek e (tuples d e p) >>= λ a. r.postfix e a))
primary m r e p (tk.mark tk.open_square) = opened m 0 (λ i d. skip (peek e (squares i d e p) >>= λ a. r.postfix e a))
primary m r e p (tk.sign o) = list_if (is_bullet o) r e p o
primary m r e p k = refuses

-- ---- open forms
abbrev pub quantifier : Readers → ℕ → Bool → Place → Reader Phrase
quantifier r e b p = a_word e >>= λ x. r.binds e x.0 x.1 >>= λ bs. a_mark e tk.colon >>= λ q. r.expr e free >>= λ a. gives (quantified b p bs q a)

abbrev pub choice_from : Readers → ℕ → Place → Reader Phrase
choice_from r e p = r.expr e free >>= λ a. a_key e tk.then_key >>= λ q. r.expr e free >>= λ b. a_key e tk.else_key >>= λ s. r.expr e free >>= λ c. gives (if_then_else p a q b s c)

abbrev pub keyed : Room → ℕ → Place → Key → Reader Phrase
keyed m e p tk.if_key = opened m 0 (λ i d. skip (choice_from d e p))
keyed m e p tk.case_key = opened m 0 (λ i d. skip (d.arms e >>= λ xs. gives (cases p xs)))
keyed m e p tk.let_key = opened m 0 (λ i d. skip (d.locals e >>= λ ls. a_key e tk.in_key >>= λ q. d.expr e free >>= λ a. gives (local p ls q a)))
keyed m e p tk.for_all_key = opened m 0 (λ i d. skip (quantifier d e true p))
keyed m e p tk.exists_key = opened m 0 (λ i d. skip (quantifier d e false p))
keyed m e p k = refuses

-- ---- operands
abbrev pub under_by : Bool → Readers → ℕ → Op → Reader Phrase
under_by true r e o = r.expr e (under o)
under_by false r e o = r.short e

abbrev pub signed : Room → Readers → ℕ → Context → Place → Op → Option Op → Reader Phrase
signed m r e c p o (Some q) = opened m 0 (λ i d. skip (under_by (is_free c q) d e q >>= λ a. gives (prefix_of p q a)))
signed m r e c p o None = primary m r e p (tk.sign o)

abbrev pub operand : Room → Readers → ℕ → Context → Place → TokenView → Reader Phrase
operand m r e c p (tk.key k) = keyed m e p k
operand m r e c p (tk.sign o) = signed m r e c p o (prefix_by o)
operand m r e c p k = primary m r e p k

abbrev pub short_signed : Room → Readers → ℕ → Place → Op → Option Op → Reader Phrase
short_signed m r e p o (Some q) = opened m 0 (λ i d. skip (d.short e >>= λ a. gives (prefix_of p q a)))
short_signed m r e p o None = primary m r e p (tk.sign o)

abbrev pub short_by : Room → Readers → ℕ → Place → TokenView → Reader Phrase
short_by m r e p (tk.sign o) = short_signed m r e p o (prefix_by o)
short_by m r e p k = primary m r e p k

-- ---- loops
abbrev pub apply_if : Bool → Room → Readers → ℕ → Phrase → Place → Reader Phrase
apply_if true m r e a p = opened m (before m.linked a) (λ i d. skip (d.phrases e >>= λ xs. a_mark e tk.close_square >>= λ q. r.postfix e (apply a p xs q)))
apply_if false m r e a p = gives a

abbrev pub select_if : Bool → Room → Readers → ℕ → Phrase → Place → Reader Phrase
select_if true m r e a p = opened_if m.linked m r (links a) (λ i d. skip (a_field e >>= λ f. r.postfix e (select a p f)))
select_if false m r e a p = gives a

abbrev pub postfix_by : Room → Readers → ℕ → Phrase → Place → TokenView → Reader Phrase
postfix_by m r e a p (tk.mark tk.open_square) = apply_if (can_be_head a p) m r e a p
postfix_by m r e a p (tk.mark tk.dot) = select_if (can_be_head a p) m r e a p
postfix_by m r e a p k = gives a

abbrev pub climb_if : Bool → Room → Readers → ℕ → Context → Phrase → Place → Op → Reader Phrase
climb_if true m r e c a p o = opened_after m (so_far m c a p o) (λ i d. skip (d.expr e (right_of o) >>= λ s. r.climb e c (infix_of a p o s)))
climb_if false m r e c a p o = gives a

abbrev pub climb_by : Room → Readers → ℕ → Context → Phrase → Place → TokenView → Reader Phrase
climb_by m r e c a p (tk.sign o) = climb_if (goes_on (bound c) a p o) m r e c a p o
climb_by m r e c a p k = gives a

-- ---- lists
abbrev pub phrases_by : Readers → ℕ → Phrase → Place → TokenView → Reader Phrases
phrases_by r e a p (tk.mark tk.comma) = skip (r.phrases e >>= λ xs. gives (more a p xs))
phrases_by r e a p k = gives (last a)

abbrev pub binds_by : Readers → ℕ → Place → Word → Place → TokenView → Reader Binds
binds_by r e p x q (tk.sign op.In) = skip (r.expr e free >>= λ a. peek e (bind_rest r e p x q a))
binds_by r e p x q (tk.mark tk.comma) = skip (a_word e >>= λ y. r.binds e y.0 y.1 >>= λ bs. gives (share p x q bs))
binds_by r e p x q k = refuses

abbrev pub fields_by : Readers → ℕ → Mark → Field → Place → Phrase → Place → TokenView → Reader Fields
fields_by r e m f p a q (tk.mark tk.comma) = skip (a_field e >>= λ g. r.fields e m g >>= λ fs. gives (field f p a q fs))
fields_by r e m f p a q k = gives (last_field f p a)

abbrev pub settings_by : Readers → ℕ → Place → Path → Place → Phrase → Place → TokenView → Reader Settings
settings_by r e p path q a s (tk.mark tk.comma) = skip (r.settings e >>= λ ss. gives (setting p path q a s ss))
settings_by r e p path q a s k = gives (last_setting p path q a)

abbrev pub setting_if : Bool → Readers → ℕ → Place → Path → Reader Settings
setting_if true r e p path = a_sign e op.Equal >>= λ q. r.expr e free >>= λ a. peek e (settings_by r e p path q a)
setting_if false r e p path = refuses

abbrev pub path_by : Room → Readers → ℕ → Place → TokenView → Reader Path
path_by m r e p (tk.mark tk.open_square) = opened m 0 (λ i d. skip (d.phrases e >>= λ xs. a_mark e tk.close_square >>= λ q. r.path e >>= λ path. gives (index p xs q path)))
path_by m r e p (tk.mark tk.dot) = skip (a_field e >>= λ f. r.path e >>= λ path. gives (at_field p f path))
path_by m r e p k = gives path_end

-- a sign of this operator in this column
abbrev pub bullet_of : Op → ℕ → Place → TokenView → Option Place
bullet_of o c p k = if is_sign o k && nat_eq c p.col then Some p else None

abbrev pub bullets_if : Bool → Readers → ℕ → Op → ℕ → Place → Phrase → Reader Bullets
bullets_if true r e o c p a = r.bullets e o c >>= λ bs. gives (bullet p a bs)
bullets_if false r e o c p a = gives (last_bullet p a)

abbrev pub arms_other : Readers → ℕ → Phrase → Place → Phrase → Place → Place → TokenView → Reader Arms
arms_other r e a p b q s (tk.key tk.other_key) = skip (a_mark e tk.arrow >>= λ t. r.expr e free >>= λ c. gives (other_arm a p b q s t c))
arms_other r e a p b q s k = r.arms e >>= λ xs. gives (arm a p b q xs)

-- a `[]` belongs to the nearest CASE that can take it
abbrev pub arms_if : Bool → Readers → ℕ → Phrase → Place → Phrase → Place → Reader Arms
arms_if true r e a p b q = gives (last_arm a p b)
arms_if false r e a p b q = skip (peek e (arms_other r e a p b q))

abbrev pub arms_by : Readers → ℕ → Phrase → Place → Phrase → Place → TokenView → Reader Arms
arms_by r e a p b q (tk.mark tk.box) = arms_if (takes_box q.col b) r e a p b q
arms_by r e a p b q k = gives (last_arm a p b)

abbrev pub locals_by : Readers → ℕ → Place → Word → Place → Phrase → Place → TokenView → Reader Locals
locals_by r e p x q a s (tk.word y) = r.locals e >>= λ ls. gives (more_locals p x q a ls)
locals_by r e p x q a s k = gives (last_local p x q a)

-- one step of each, over readers of what is left
abbrev pub one_step : Room → Readers → Readers
one_step m r = record {
  expr = λ e c. peek e (operand m r e c) >>= λ a. r.climb e c a;
  short = λ e. peek e (short_by m r e);
  postfix = λ e a. peek e (postfix_by m r e a);
  climb = λ e c a. peek e (climb_by m r e c a);
  phrases = λ e. r.expr e free >>= λ a. peek e (phrases_by r e a);
  binds = λ e p x. peek e (binds_by r e p x);
  fields = λ e m f. a_mark e m >>= λ p. r.expr e free >>= λ a. peek e (fields_by r e m f p a);
  settings = λ e. a_mark e tk.bang >>= λ p. r.path e >>= λ path. setting_if (is_some_path path) r e p path;
  path = λ e. peek e (path_by m r e);
  bullets = λ e o c. opened m 0 (λ i d. take e (bullet_of o c) >>= λ p. d.expr c free >>= λ a. peek e (λ q k. bullets_if (is_sign o k && nat_eq c q.col) d e o c p a));
  arms = λ e. r.expr e free >>= λ a. a_mark e tk.arrow >>= λ p. r.expr e free >>= λ b. peek e (arms_by r e a p b);
  locals = λ e. a_word e >>= λ x. a_mark e tk.defines >>= λ q. r.expr e free >>= λ a. peek e (locals_by r e x.0 x.1 q a);
}

abbrev pub no_steps : Readers
no_steps = record {
  expr = λ e c. refuses;
  short = λ e. refuses;
  postfix = λ e a. refuses;
  climb = λ e c a. refuses;
  phrases = λ e. refuses;
  binds = λ e p x. refuses;
  fields = λ e m f. refuses;
  settings = λ e. refuses;
  path = λ e. refuses;
  bullets = λ e o c. refuses;
  arms = λ e. refuses;
  locals = λ e. refuses;
}

-- so many forms may be open; without a number, any
abbrev pub Limit : Type 0
Limit = Option ℕ

abbrev pub less : Bool → ℕ → ℕ → Option Limit
less true b k = Some (Some (b - k))
less false b k = None

-- w tells whether fields and closed applications count
abbrev pub room : Bool → (Limit → Readers) → Limit → Room
room w f None = any (f None)
room w f (Some b) = record { at = λ k. option_map f (less (nat_le k b) b k); fits = λ k a. nat_le (nesting_in w a + k) b; linked = w }

unfoldable pub readers_in : Bool → ℕ → Limit → Readers
readers_in w zero b = no_steps
readers_in w (suc n) b = one_step (room w (readers_in w n) b) (readers_in w n b)

-- where they count
abbrev pub readers : ℕ → Limit → Readers
readers n b = readers_in true n b

-- an expression to the right of the edge, however deep it is; reading takes four steps for each token at most
abbrev pub read : ℕ → Reader Phrase
read e ts = (readers (4 * length ts) None).expr e free ts

-- an expression, within the limit
abbrev pub read_limited : Reader Phrase
read_limited ts = (readers (4 * length ts) (Some deepest_expression)).expr 0 free ts
