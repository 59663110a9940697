-- The forms that are open at the tokens of the parts that both syntaxes spell alike.
use Rattle.std.proofs.Common.{◌≡◌, ℕ, ◌+◌, Bool, true, false, List, [], ◌∷◌, ◌++◌, Option, Some, None, refl, append_assoc}
use Rattle.std.specs.List.{flat_map}
use Rattle.tla_token.specs.declared.place.Place.{Place}
use Rattle.tla_tree.specs.Lexical.{Token, sign_of}
use Rattle.tla_tree.specs.Lexical as tk
use Rattle.tla_tree.specs.Spelling.{Phrase}
use Rattle.tla_tree.specs.Spelling as spelled
use Rattle.tla_tree.specs.FirstStop.{Open}
use Rattle.tla_tree.proofs.BracketCounts.{leads}
use Rattle.pcal_tree.specs.GrammarParts as part
use Rattle.pcal_tree.specs.Grammar as g
use Rattle.pcal_tree.specs.OpenForms.{here, plain, expression_opens, initial_opens, variables_open, section_opens, parameters_open, procedure_parameters_open, definitions_open, left_opens, assignments_open, arguments_open, simple_opens, binds_open, identity_opens, define_opens}
use Rattle.pcal_tree.proofs.HeadWalks.{calm}
use Rattle.pcal_tree.proofs.PartTokens.{assignments_begin}
use Rattle.pcal_tree.proofs.OpenWalks.{Where, plainly, anywhere, Walks, loosen, put, put_before_name, put_field, put_end, put_bracket, first_open, counted_one, counted_all, through, led, begins_below}

-- at all these tokens d forms of statements are open
abbrev pub each_here : ℕ → List Token → List Open
each_here d us = flat_map (λ (t : Token). here d) us

-- an expression, not right behind a bracket
pub expression : {ts : List Token} {os : List Open} → (d : ℕ) (e : Phrase) → Walks plainly ts os → Walks plainly (part.expression e ts) (expression_opens d e ++ os)
expression {os} d e h = loosen (through (counted_one 0 e) d [] os h)

-- behind `:=`
assigned : {w : Where} {p : Place} {ts : List Token} {os : List Open} → (d : ℕ) (e : Phrase) → Walks plainly ts os → Walks w (part.mark p tk.assigns (part.expression e ts)) (here d ++ (expression_opens d e ++ os))
assigned d e h = led (counted_one 0 e) 0 d refl refl refl h

pub semicolons : {ts : List Token} {os : List Open} → (d : ℕ) (x : Option Place) → Walks plainly ts os → Walks plainly (part.maybe_semicolon x ts) (plain d (part.maybe_semicolon x) ++ os)
semicolons d None h = h
semicolons d (Some p) h = put refl refl h

separator : {ts : List Token} {os : List Open} → (d : ℕ) (x : part.Separator) → Walks anywhere ts os → Walks plainly (part.separator x ts) (here d ++ os)
separator d (part.by_semicolon p) h = put refl refl (loosen h)
separator d (part.by_comma p) h = put_before_name refl refl h

separators : {ts : List Token} {os : List Open} → (d : ℕ) (x : Option part.Separator) → Walks anywhere ts os → Walks plainly (part.maybe_separator x ts) (plain d (part.maybe_separator x) ++ os)
separators d None h = loosen h
separators d (Some (part.by_semicolon p)) h = put refl refl (loosen h)
separators d (Some (part.by_comma p)) h = put_before_name refl refl h

-- ---- declarations

initial : {ts : List Token} {os : List Open} → (x : part.Initial) → Walks plainly ts os → Walks plainly (part.initial x ts) (initial_opens x ++ os)
initial part.unset h = h
initial (part.equals p e) h = put refl refl (expression 0 e h)
initial (part.among p e) h = put refl refl (expression 0 e h)

variables : {w : Where} {ts : List Token} {os : List Open} → (x : part.Variables) → Walks anywhere ts os → Walks w (part.variables x ts) (variables_open x ++ os)
variables (part.last_variable x i s) h = simp append_assoc (put refl refl (initial i (separators 0 s h)))
variables (part.variable x i s vs) h = simp append_assoc (put refl refl (initial i (separator 0 s (variables vs h))))

pub section : {ts : List Token} {os : List Open} → (x : part.Section) → Walks anywhere ts os → Walks anywhere (part.section_tokens x ts) (section_opens x ++ os)
section part.no_section h = h
section (part.section p true vs) h = put refl refl (variables vs h)
section (part.section p false vs) h = put refl refl (variables vs h)

-- ---- parameters and definitions

names : {ts : List Token} → (x : part.Names) (us : List Token) (os : List Open) → Walks plainly ts (each_here 0 us ++ os) → Walks anywhere (part.names x ts) (each_here 0 (part.names x us) ++ os)
names (part.last_name x) us os h = put refl refl h
names (part.more_names x p xs) us os h = put refl refl (put_before_name refl refl (names xs us os h))

names_first : (x : part.Names) (ts : List Token) → first_open (part.names x ts) ≡ false
names_first (part.last_name x) ts = refl
names_first (part.more_names x p xs) ts = refl

pub macro_parameters : {w : Where} {ts : List Token} {os : List Open} → (x : part.MacroParameters) → Walks plainly ts os → Walks w (part.macro_parameters x ts) (plain 0 (part.macro_parameters x) ++ os)
macro_parameters (part.no_names p q) h = put_bracket refl (put refl refl h)
macro_parameters {ts} {os} (part.some_names p xs q) h = put_bracket (names_first xs (part.mark q tk.close_bracket ts)) (loosen (names xs (part.mark q tk.close_bracket []) os (put refl refl h)))

parameters : {w : Where} {ts : List Token} {os : List Open} → (x : part.Parameters) → Walks plainly ts os → Walks w (part.parameters x ts) (parameters_open x ++ os)
parameters (part.last_parameter x i) h = put refl refl (initial i h)
parameters (part.parameter x i p xs) h = simp append_assoc (put refl refl (initial i (put_before_name refl refl (parameters xs h))))

parameters_first : (x : part.Parameters) (ts : List Token) → first_open (part.parameters x ts) ≡ false
parameters_first (part.last_parameter x i) ts = refl
parameters_first (part.parameter x i p xs) ts = refl

pub procedure_parameters : {w : Where} {ts : List Token} {os : List Open} → (x : part.ProcedureParameters) → Walks plainly ts os → Walks w (part.procedure_parameters x ts) (procedure_parameters_open x ++ os)
procedure_parameters (part.no_parameters p q) h = put_bracket refl (put refl refl h)
procedure_parameters {ts} (part.some_parameters p xs q) h = simp append_assoc (put_bracket (parameters_first xs (part.mark q tk.close_bracket ts)) (parameters xs (put refl refl h)))

heading : {w : Where} {ts : List Token} {os : List Open} → (x : part.Heading) → Walks plainly ts os → Walks w (part.heading x ts) (plain 0 (part.heading x) ++ os)
heading (part.plain x) h = put refl refl h
heading {ts} {os} (part.applied x p xs q) h = put refl refl (put_bracket (names_first xs (part.mark q tk.close_bracket ts)) (loosen (names xs (part.mark q tk.close_bracket []) os (put refl refl h))))

definitions : {w : Where} {ts : List Token} {os : List Open} → (x : part.Definitions) → Walks plainly ts os → Walks w (part.definitions x ts) (definitions_open x ++ os)
definitions (part.last_definition n p e) h = simp append_assoc (heading n (put refl refl (expression 0 e h)))
definitions (part.more_definitions n p e ds) h = simp append_assoc (heading n (put refl refl (expression 0 e (definitions ds h))))

pub define : {ts : List Token} {os : List Open} → (x : g.Define) → Walks anywhere ts os → Walks anywhere (g.define x ts) (define_opens x ++ os)
define g.no_define h = h
define (g.define_end a ds b d s) h = simp append_assoc (put refl refl (definitions ds (put_end (semicolons 0 s (loosen h)))))
define (g.define_braces a b ds d s) h = simp append_assoc (put refl refl (put refl refl (definitions ds (put refl refl (semicolons 0 s (loosen h))))))

-- ---- labels

colon_tokens : {w : Where} {ts : List Token} → (d : ℕ) (x : part.Colon) (us : List Token) (os : List Open) → Walks plainly ts (each_here d us ++ os) → Walks w (part.colon_tokens x ts) (each_here d (part.colon_tokens x us) ++ os)
colon_tokens d (part.colon p) us os h = put refl refl h
colon_tokens d (part.colon_plus p q) us os h = put refl refl (put refl refl h)
colon_tokens d (part.colon_minus p q) us os h = put refl refl (put refl refl h)

labels_before : {w : Where} {ts : List Token} → (d : ℕ) (x : part.Labels) (us : List Token) (os : List Open) → Walks w ts (each_here d us ++ os) → Walks w (part.labels x ts) (each_here d (part.labels x us) ++ os)
labels_before d part.no_labels us os h = h
labels_before d (part.label x k ls) us os h = put refl refl (colon_tokens d k (part.labels ls us) os (loosen (labels_before d ls us os h)))

pub labels : {w : Where} {ts : List Token} {os : List Open} → (d : ℕ) (x : part.Labels) → Walks w ts os → Walks w (part.labels x ts) (plain d (part.labels x) ++ os)
labels {os} d x h = labels_before d x [] os h

-- ---- simple statements

bind_leads : (b : Bool) → leads (sign_of (part.bind_sign b)) ≡ false
bind_leads true = refl
bind_leads false = refl

bind_calm : (b : Bool) → calm (sign_of (part.bind_sign b)) ≡ true
bind_calm true = refl
bind_calm false = refl

left : (d : ℕ) (l : Phrase) {ts : List Token} {os : List Open} → Walks plainly ts os → Walks anywhere (part.expression l ts) (left_opens d l ++ os)
left d (spelled.apply a p xs q) {ts} {os} h = simp append_assoc (left d a (put_before_name refl refl (through (counted_all 1 xs) d (1 ∷ []) os (put refl refl h))))
left d (spelled.select a p f) h = simp append_assoc (left d a (put_field f h))
left d a {ts} {os} h = through (counted_one 0 a) d [] os h

assignments : (d : ℕ) (x : part.Assignments) {ts : List Token} {os : List Open} → Walks plainly ts os → Walks anywhere (part.assignments x ts) (assignments_open d x ++ os)
assignments d (part.last_assignment l p e) h = simp append_assoc (left d l (assigned d e h))
assignments d (part.assignment l p e q ms) h = simp append_assoc (left d l (assigned d e (put refl refl (loosen (assignments d ms h)))))

arguments : {w : Where} {ts : List Token} {os : List Open} → (d : ℕ) (x : part.Arguments) → Walks plainly ts os → Walks w (part.arguments x ts) (arguments_open d x ++ os)
arguments d (part.no_arguments p q) h = put_bracket refl (put refl refl h)
arguments d (part.some_arguments p xs q) h = simp append_assoc (led (counted_all 0 xs) 0 d refl refl refl (put refl refl h))

pub simple : {w : Where} {ts : List Token} {os : List Open} → (d : ℕ) (x : part.Simple) → Walks plainly ts os → Walks w (part.simple_tokens x ts) (simple_opens d x ++ os)
simple {ts} d (part.assign ms) h = begins_below (assignments_begin ms ts) (assignments d ms h)
simple d (part.await p e) h = put refl refl (expression d e h)
simple d (part.when p e) h = put refl refl (expression d e h)
simple d (part.print p e) h = put refl refl (expression d e h)
simple d (part.assert p e) h = put refl refl (expression d e h)
simple d (part.skip p) h = put refl refl h
simple d (part.goto p x) h = put refl refl (put refl refl h)
simple d (part.call p x xs) h = put refl refl (put refl refl (arguments d xs h))
simple d (part.return p) h = put refl refl h
simple d (part.macro x xs) h = put refl refl (arguments d xs h)

pub binds : {w : Where} {ts : List Token} {os : List Open} → (d : ℕ) (x : part.Binds) → Walks anywhere ts os → Walks w (part.binds x ts) (binds_open d x ++ os)
binds d (part.last_bind x b p e s) h = simp append_assoc (put refl refl (put (bind_leads b) (bind_calm b) (expression (d + 1) e (separators (d + 1) s h))))
binds d (part.bind x b p e s bs) h = simp append_assoc (put refl refl (put (bind_leads b) (bind_calm b) (expression (d + 1) e (separator (d + 1) s (binds (d + 1) bs h)))))

pub binds_first : (x : part.Binds) (ts : List Token) → first_open (part.binds x ts) ≡ false
binds_first (part.last_bind x b p e s) ts = refl
binds_first (part.bind x b p e s bs) ts = refl

pub identity : {w : Where} {ts : List Token} {os : List Open} → (x : g.Identity) → Walks plainly ts os → Walks w (g.identity x ts) (identity_opens x ++ os)
identity (g.bare x b p e) h = put refl refl (put (bind_leads b) (bind_calm b) (expression 0 e h))
identity (g.bracketed q x b p e r) h = simp append_assoc (put_bracket refl (put refl refl (put (bind_leads b) (bind_calm b) (expression 0 e (put refl refl h)))))
