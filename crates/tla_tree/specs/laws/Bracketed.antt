-- The phrase that the text of a tree spells: brackets are where they are written.
use Rattle.std.specs.Prelude.{Bool, true, false, List, [], ◌∷◌}
pub use Rattle.tla_token.specs.Places.{nowhere}
use Rattle.tla_tree.specs.declared.op.Op.{Op}
use Rattle.tla_tree.specs.declared.op.Op.TheVariants as op
use Rattle.tla_tree.specs.declared.op.Binder.{Binder}
use Rattle.tla_tree.specs.declared.op.Binder.TheVariants as binder
use Rattle.tla_tree.specs.Tree.{Word, Name, PathStep, Slot, Strict, Form, Tree, Trees, node, no_trees, tree}
use Rattle.tla_tree.specs.Tree as tree
use Rattle.tla_token.specs.Words.{is_pluscal_word}
use Rattle.tla_tree.specs.Lexical.{TokenView, Token}
use Rattle.tla_tree.specs.Lexical as tk
use Rattle.tla_tree.specs.Spelling.{Phrase, Phrases, Binds, Fields, Settings, Path, Arms, Locals, Field}
use Rattle.tla_tree.specs.Spelling as spelled
use Rattle.tla_tree.specs.Written.{Piece, blank, token, is_bracketed}

-- of a tree whose form has another number of parts
abbrev pub no_phrase : Phrase
no_phrase = spelled.name nowhere []

-- a part, in brackets where it needs them as an operand
abbrev pub Part : Type 0
Part = Bool → Phrase

abbrev pub as_operand : Part → Phrase
as_operand a = a true

abbrev pub plain : Part → Phrase
plain a = a false

abbrev pub field_of : Word → Field
field_of x = record { place = nowhere; is_reserved = is_pluscal_word x; text = x }

abbrev pub name : Word → Phrase
name x = spelled.name nowhere x

abbrev pub infix_phrase : Op → List Part → Phrase
infix_phrase o (a ∷ b ∷ []) = spelled.infix_of (as_operand a) nowhere o (as_operand b)
infix_phrase o (a ∷ []) = spelled.prefix_of nowhere o (as_operand a)
infix_phrase o xs = no_phrase

abbrev pub phrases : Part → List Part → Phrases
phrases a [] = spelled.last (plain a)
phrases a (b ∷ xs) = spelled.more (plain a) nowhere (phrases b xs)

abbrev pub set_phrase : List Part → Phrase
set_phrase [] = spelled.no_set nowhere nowhere
set_phrase (a ∷ xs) = spelled.set_of nowhere (phrases a xs) nowhere

abbrev pub tuple_phrase : List Part → Phrase
tuple_phrase [] = spelled.no_tuple nowhere nowhere
tuple_phrase (a ∷ xs) = spelled.tuple nowhere (phrases a xs) nowhere

abbrev pub call_phrase : Word → List Part → Phrase
call_phrase x [] = no_phrase
call_phrase x (a ∷ xs) = spelled.call nowhere x nowhere (phrases a xs) nowhere

abbrev pub fields_of : Word → Part → List Word → List Part → Fields
fields_of x a (y ∷ ys) (b ∷ xs) = spelled.field (field_of x) nowhere (plain a) nowhere (fields_of y b ys xs)
fields_of x a ys xs = spelled.last_field (field_of x) nowhere (plain a)

abbrev pub record_phrase : (Fields → Phrase) → List Word → List Part → Phrase
record_phrase f (x ∷ ys) (a ∷ xs) = f (fields_of x a ys xs)
record_phrase f ys xs = no_phrase

-- a group of names, of which the last is before the set
abbrev pub group_of : Name → List Name → (Word → Binds) → Binds
group_of x [] k = k x.word
group_of x (y ∷ ys) k = spelled.share nowhere x.word nowhere (group_of y ys k)

abbrev pub binds_of : Name → List Name → Part → List (List Name) → List Part → Binds
binds_of x ys a ((z ∷ zs) ∷ gs) (b ∷ xs) = group_of x ys (λ v. spelled.bind nowhere v nowhere (as_operand a) nowhere (binds_of z zs b gs xs))
binds_of x ys a gs xs = group_of x ys (λ v. spelled.last_bind nowhere v nowhere (as_operand a))

abbrev pub locals_of : Name → Part → List Name → List Part → Locals
locals_of x a (y ∷ ys) (b ∷ xs) = spelled.more_locals nowhere x.word nowhere (plain a) (locals_of y b ys xs)
locals_of x a ys xs = spelled.last_local nowhere x.word nowhere (plain a)

-- the part after one for each of these
abbrev pub body : {A : Type 0} → List A → List Part → Part
body [] (a ∷ xs) = a
body (y ∷ ys) (a ∷ xs) = body ys xs
body ys [] = λ b. no_phrase

abbrev pub binding_phrase : Binder → Name → Part → Binds → Part → Phrase
binding_phrase binder.ForAll x a bs e = spelled.quantified true nowhere bs nowhere (plain e)
binding_phrase binder.Exists x a bs e = spelled.quantified false nowhere bs nowhere (plain e)
binding_phrase binder.Filter x a bs e = spelled.filter nowhere nowhere x.word nowhere (as_operand a) nowhere (plain e) nowhere
binding_phrase binder.Image x a bs e = spelled.image nowhere (as_operand e) nowhere bs nowhere
binding_phrase binder.Function x a bs e = spelled.function nowhere bs nowhere (plain e) nowhere

abbrev pub bound_phrase : Binder → List (List Name) → List Part → Phrase
bound_phrase b ((x ∷ ys) ∷ gs) (a ∷ xs) = binding_phrase b x a (binds_of x ys a gs xs) (body gs xs)
bound_phrase b gs xs = no_phrase

abbrev pub path_of : List PathStep → List Part → (Path → List Part → Phrase) → Phrase
path_of [] xs k = k spelled.path_end xs
path_of (tree.index ∷ ss) (a ∷ xs) k = path_of ss xs (λ p ys. k (spelled.index nowhere (spelled.last (plain a)) nowhere p) ys)
path_of (tree.index ∷ ss) [] k = no_phrase
path_of (tree.field x ∷ ss) xs k = path_of ss xs (λ p ys. k (spelled.at_field nowhere (field_of x) p) ys)

abbrev pub right_side : List Part → (Phrase → List Part → Phrase) → Phrase
right_side [] k = no_phrase
right_side (a ∷ xs) k = k (plain a) xs

abbrev pub slots_of : Slot → List Slot → List Part → (Settings → Phrase) → Phrase
slots_of s [] xs k = path_of s.path xs (λ p ys. right_side ys (λ a zs. k (spelled.last_setting nowhere p nowhere a)))
slots_of s (t ∷ ss) xs k = path_of s.path xs (λ p ys. right_side ys (λ a zs. slots_of t ss zs (λ rest. k (spelled.setting nowhere p nowhere a nowhere rest))))

abbrev pub except_phrase : List Slot → List Part → Phrase
except_phrase (s ∷ ss) (a ∷ xs) = slots_of s ss xs (λ rest. spelled.except nowhere (as_operand a) nowhere rest nowhere)
except_phrase ss xs = no_phrase

abbrev pub strict_phrase : Strict → List Part → Phrase
strict_phrase (tree.operator o) xs = infix_phrase o xs
strict_phrase tree.set_of xs = set_phrase xs
strict_phrase tree.tuple xs = tuple_phrase xs
strict_phrase (tree.fields ys) xs = record_phrase (λ fs. spelled.fields nowhere fs nowhere) ys xs
strict_phrase (tree.records ys) xs = record_phrase (λ fs. spelled.records nowhere fs nowhere) ys xs
strict_phrase tree.functions (a ∷ b ∷ []) = spelled.functions nowhere (plain a) nowhere (plain b) nowhere
strict_phrase tree.apply (a ∷ b ∷ []) = spelled.apply (as_operand a) nowhere (spelled.last (plain b)) nowhere
strict_phrase (tree.select x) (a ∷ []) = spelled.select (as_operand a) nowhere (field_of x)
strict_phrase (tree.except ss) xs = except_phrase ss xs
strict_phrase m xs = no_phrase

abbrev pub arms_of : Bool → List Part → (Arms → Phrase) → Phrase
arms_of true (c ∷ a ∷ b ∷ []) k = k (spelled.other_arm (as_operand c) nowhere (as_operand a) nowhere nowhere nowhere (as_operand b))
arms_of false (c ∷ a ∷ []) k = k (spelled.last_arm (as_operand c) nowhere (as_operand a))
arms_of b (c ∷ a ∷ xs) k = arms_of b xs (λ arms. k (spelled.arm (as_operand c) nowhere (as_operand a) nowhere arms))
arms_of b xs k = no_phrase

abbrev pub choice_phrase : List Part → Phrase
choice_phrase (a ∷ b ∷ c ∷ []) = spelled.if_then_else nowhere (plain a) nowhere (plain b) nowhere (plain c)
choice_phrase xs = no_phrase

abbrev pub local_phrase : List Name → List Part → Phrase
local_phrase (x ∷ ys) (a ∷ xs) = spelled.local nowhere (locals_of x a ys xs) nowhere (plain (body ys xs))
local_phrase ys xs = no_phrase

abbrev pub form_phrase : Form → List Part → Phrase
form_phrase (tree.number n) xs = spelled.number nowhere n
form_phrase (tree.string x) xs = spelled.string nowhere x
form_phrase (tree.truth b) xs = spelled.constant nowhere (tk.truth b)
form_phrase tree.booleans xs = spelled.constant nowhere tk.booleans
form_phrase tree.strings xs = spelled.constant nowhere tk.strings
form_phrase (tree.name x) xs = name x
form_phrase (tree.next x) xs = spelled.primed nowhere x nowhere
form_phrase (tree.strict m) xs = strict_phrase m xs
form_phrase (tree.operator_call x) xs = call_phrase x xs
form_phrase tree.conjunction xs = infix_phrase op.And xs
form_phrase tree.disjunction xs = infix_phrase op.Or xs
form_phrase tree.implication xs = infix_phrase op.Implies xs
form_phrase (tree.member true) xs = infix_phrase op.In xs
form_phrase (tree.member false) xs = infix_phrase op.NotIn xs
form_phrase tree.if_then_else xs = choice_phrase xs
form_phrase (tree.cases b) xs = arms_of b xs (λ arms. spelled.cases nowhere arms)
form_phrase (tree.binding b gs) xs = bound_phrase b gs xs
form_phrase (tree.local ys) xs = local_phrase ys xs

abbrev pub in_brackets : Bool → Phrase → Phrase
in_brackets true a = spelled.brackets nowhere a nowhere
in_brackets false a = a

abbrev pub form_part : Form → List Part → Part
form_part m xs true = in_brackets (is_bracketed m) (form_phrase m xs)
form_part m xs false = form_phrase m xs

abbrev mutual
  pub part : Tree → Part
  part (node m at ts) = form_part m (parts ts)

  pub parts : Trees → List Part
  parts no_trees = []
  parts (tree t ts) = part t ∷ parts ts

abbrev pub phrase_of : Tree → Phrase
phrase_of t = plain (part t)

-- what is read of tokens, and of pieces
abbrev pub kinds : List Token → List TokenView
kinds [] = []
kinds (t ∷ ts) = t.kind ∷ kinds ts

abbrev pub tokens_of : List Piece → List TokenView
tokens_of [] = []
tokens_of (blank ∷ ps) = tokens_of ps
tokens_of (token k ∷ ps) = k ∷ tokens_of ps
