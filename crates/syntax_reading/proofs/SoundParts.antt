-- What is read is spelled: declarations, definitions, labels and what a `with` names.
use Rattle.std.proofs.Common.{◌≡◌, ℕ, zero, suc, ◌+◌, Bool, true, false, Option, Some, None, refl, ap}
use Rattle.tla_token.specs.declared.place.Place.{Place}
use Rattle.tla_tree.specs.declared.op.Op.TheVariants as op
use Rattle.tla_tree.specs.Tree.{Name}
use Rattle.tla_tree.specs.Lexical.{TokenView, Token}
use Rattle.tla_tree.specs.Lexical as tk
use Rattle.tla_tree.specs.Spelling.{Phrase, spell, spell_all, IsGood, GoodAll}
use Rattle.tla_tree.specs.Reader.{Reader, gives, free, readers}
use Rattle.tla_tree.proofs.SoundLists.{sound}
use Rattle.pcal_tree.specs.GrammarParts.{Separator, by_semicolon, by_comma, Initial, unset, equals, among, Variables, last_variable, variable, no_section, section, Names, last_name, more_names, no_names, some_names, Parameters, last_parameter, parameter, no_parameters, some_parameters, Heading, plain, applied, Definitions, last_definition, more_definitions, colon, colon_plus, colon_minus, Binds, last_bind, bind}
use Rattle.pcal_tree.specs.GrammarParts.{name, sign, mark, maybe_semicolon, maybe_separator, initial, GoodInitial, variables, GoodVariables, section_tokens, GoodSection, names, macro_parameters, parameters, GoodParameters, procedure_parameters, GoodProcedureParameters, heading, definitions, GoodDefinitions, colon_tokens, bind_sign, binds, GoodBinds}
use Rattle.syntax_reading.specs.TokenReaders.{past, Parts, parts_of}
use Rattle.syntax_reading.specs.ReadParts.{semicolon_by, read_semicolon, separator_by, read_separator, among_if, initial_by, read_initial, variables_by, read_variables, section_words, section_by, read_section, names_by, read_names, macro_parameters_by, read_macro_parameters, parameters_by, read_parameters, procedure_parameters_by, read_procedure_parameters, heading_by, read_heading, definitions_by, read_definitions, colon_by, read_colon, binds_by, bind_by, read_binds}
use Rattle.syntax_reading.proofs.Sound.{Sound, SoundAt, here, Any, is_other, sound_gives, sound_refuses, sound_bind, sound_next, sound_stays, sound_past, sound_pick, sound_token, sound_mark, sound_name, sound_name_within}

-- the readers of expressions
pub record SoundParts (m : Parts) : Type 0 where
  pub expr : Sound here IsGood spell m.expr
  pub arguments : Sound here (GoodAll 0) spell_all m.arguments
  pub subscripts : Sound here (GoodAll 0) spell_all m.subscripts

-- ---- `;` and `,`
by_semicolon_sound : (p : Place) (k : TokenView) → SoundAt p k here Any maybe_semicolon (semicolon_by p k)
by_semicolon_sound p (tk.mark tk.semicolon) = sound_past refl (sound_gives (Some p) tt (λ ts. refl))
by_semicolon_sound p k = sound_stays (sound_gives None tt (λ ts. refl))

pub semicolon_sound : Sound here Any maybe_semicolon read_semicolon
semicolon_sound = sound_next by_semicolon_sound

by_separator_sound : (p : Place) (k : TokenView) → SoundAt p k here Any maybe_separator (separator_by p k)
by_separator_sound p (tk.mark tk.semicolon) = sound_past refl (sound_gives (Some (by_semicolon p)) tt (λ ts. refl))
by_separator_sound p (tk.mark tk.comma) = sound_past refl (sound_gives (Some (by_comma p)) tt (λ ts. refl))
by_separator_sound p k = sound_stays (sound_gives None tt (λ ts. refl))

pub separator_sound : Sound here Any maybe_separator read_separator
separator_sound = sound_next by_separator_sound

-- ---- declarations
module _ (m : Parts) (h : SoundParts m) where
  by_among_sound : (b : Bool) (p : Place) → SoundAt p (tk.sign op.In) here (GoodInitial b) initial (among_if b m p)
  by_among_sound true p = sound_past refl (sound_bind h.expr (λ e g. sound_gives (among p e) (refl, g) (λ ts. refl)))
  by_among_sound false p = sound_stays (sound_gives unset tt (λ ts. refl))

  by_initial_sound : (b : Bool) (p : Place) (k : TokenView) → SoundAt p k here (GoodInitial b) initial (initial_by b m p k)
  by_initial_sound b p (tk.sign op.Equal) = sound_past refl (sound_bind h.expr (λ e g. sound_gives (equals p e) g (λ ts. refl)))
  by_initial_sound b p (tk.sign op.In) = by_among_sound b p
  by_initial_sound b p k = sound_stays (sound_gives unset tt (λ ts. refl))

  pub initial_sound : (b : Bool) → Sound here (GoodInitial b) initial (read_initial b m)
  initial_sound b = sound_next (by_initial_sound b)

  by_variables_sound : (b : Bool) (r : Reader Variables) → Sound here (GoodVariables b) variables r → (x : Name) (i : Initial) → GoodInitial b i → (s : Option Separator) (p : Place) (k : TokenView)
      → SoundAt p k (λ ts. name x (initial i (maybe_separator s ts))) (GoodVariables b) variables (variables_by r x i s p k)
  by_variables_sound b r n x i g (Some s) p (tk.word y) = sound_stays (sound_bind n (λ vs f. sound_gives (variable x i s vs) (g, f) (λ ts. refl)))
  by_variables_sound b r n x i g s p k = sound_stays (sound_gives (last_variable x i s) g (λ ts. refl))

  pub variables_sound : (b : Bool) (n : ℕ) → Sound here (GoodVariables b) variables (read_variables b m n)
  variables_sound b zero = sound_refuses
  variables_sound b (suc n) =
      sound_bind sound_name (λ x u. sound_bind (initial_sound b) (λ i g. sound_bind separator_sound (λ s v. sound_next (by_variables_sound b (read_variables b m n) (variables_sound b n) x i g s))))

  by_section_sound : (b : Bool) (n : ℕ) (p : Place) (k : TokenView) → SoundAt p k here (GoodSection b) section_tokens (section_by b m n p k)
  by_section_sound b n p (tk.reserved w) =
      sound_pick w (section_words b m n p) (gives no_section)
      (sound_past refl (sound_bind (variables_sound b n) (λ vs g. sound_gives (section p false vs) g (λ ts. refl))), (sound_past refl (sound_bind (variables_sound b n) (λ vs g. sound_gives (section p true vs) g (λ ts. refl))), tt))
      (sound_stays (sound_gives no_section tt (λ ts. refl)))
  by_section_sound b n p k = sound_stays (sound_gives no_section tt (λ ts. refl))

  pub section_sound : (b : Bool) (n : ℕ) → Sound here (GoodSection b) section_tokens (read_section b m n)
  section_sound b n = sound_next (by_section_sound b n)

-- ---- parameters and definitions
by_names_sound : (r : Reader Names) → Sound here Any names r → (x : Name) (p : Place) (k : TokenView) → SoundAt p k (λ ts. name x ts) Any names (names_by r x p k)
by_names_sound r n x p (tk.mark tk.comma) = sound_past refl (sound_bind n (λ xs u. sound_gives (more_names x p xs) tt (λ ts. refl)))
by_names_sound r n x p k = sound_stays (sound_gives (last_name x) tt (λ ts. refl))

pub names_sound : (n : ℕ) → Sound here Any names (read_names n)
names_sound zero = sound_refuses
names_sound (suc n) = sound_bind sound_name (λ x u. sound_next (by_names_sound (read_names n) (names_sound n) x))

by_macro_sound : (n : ℕ) (p q : Place) (k : TokenView) → SoundAt q k (λ ts. mark p tk.open_bracket ts) Any macro_parameters (macro_parameters_by n p q k)
by_macro_sound n p q (tk.mark tk.close_bracket) = sound_past refl (sound_gives (no_names p q) tt (λ ts. refl))
by_macro_sound n p q k = sound_stays (sound_bind (names_sound n) (λ xs u. sound_bind (sound_mark tk.close_bracket) (λ r v. sound_gives (some_names p xs r) tt (λ ts. refl))))

pub macro_parameters_sound : (n : ℕ) → Sound here Any macro_parameters (read_macro_parameters n)
macro_parameters_sound n = sound_bind (sound_mark tk.open_bracket) (λ p u. sound_next (by_macro_sound n p))

by_heading_sound : (n : ℕ) (x : Name) (p : Place) (k : TokenView) → SoundAt p k (λ ts. name x ts) Any heading (heading_by n x p k)
by_heading_sound n x p (tk.mark tk.open_bracket) = sound_past refl (sound_bind (names_sound n) (λ xs u. sound_bind (sound_mark tk.close_bracket) (λ q v. sound_gives (applied x p xs q) tt (λ ts. refl))))
by_heading_sound n x p k = sound_stays (sound_gives (plain x) tt (λ ts. refl))

pub heading_sound : (n : ℕ) → Sound here Any heading (read_heading n)
heading_sound n = sound_bind sound_name (λ x u. sound_next (by_heading_sound n x))

module _ (m : Parts) (h : SoundParts m) where
  by_parameters_sound : (r : Reader Parameters) → Sound here GoodParameters parameters r → (x : Name) (i : Initial) → GoodInitial false i → (p : Place) (k : TokenView)
      → SoundAt p k (λ ts. name x (initial i ts)) GoodParameters parameters (parameters_by r x i p k)
  by_parameters_sound r n x i g p (tk.mark tk.comma) = sound_past refl (sound_bind n (λ xs f. sound_gives (parameter x i p xs) (g, f) (λ ts. refl)))
  by_parameters_sound r n x i g p k = sound_stays (sound_gives (last_parameter x i) g (λ ts. refl))

  pub parameters_sound : (n : ℕ) → Sound here GoodParameters parameters (read_parameters m n)
  parameters_sound zero = sound_refuses
  parameters_sound (suc n) = sound_bind sound_name (λ x u. sound_bind (initial_sound m h false) (λ i g. sound_next (by_parameters_sound (read_parameters m n) (parameters_sound n) x i g)))

  by_procedure_sound : (n : ℕ) (p q : Place) (k : TokenView) → SoundAt q k (λ ts. mark p tk.open_bracket ts) GoodProcedureParameters procedure_parameters (procedure_parameters_by m n p q k)
  by_procedure_sound n p q (tk.mark tk.close_bracket) = sound_past refl (sound_gives (no_parameters p q) tt (λ ts. refl))
  by_procedure_sound n p q k = sound_stays (sound_bind (parameters_sound n) (λ xs g. sound_bind (sound_mark tk.close_bracket) (λ r v. sound_gives (some_parameters p xs r) g (λ ts. refl))))

  pub procedure_parameters_sound : (n : ℕ) → Sound here GoodProcedureParameters procedure_parameters (read_procedure_parameters m n)
  procedure_parameters_sound n = sound_bind (sound_mark tk.open_bracket) (λ p u. sound_next (by_procedure_sound n p))

  by_definitions_sound : (r : Reader Definitions) → Sound here GoodDefinitions definitions r → (x : Heading) (p : Place) (e : Phrase) → IsGood e → (q : Place) (k : TokenView)
      → SoundAt q k (λ ts. heading x (mark p tk.defines (spell e ts))) GoodDefinitions definitions (definitions_by r x p e q k)
  by_definitions_sound r n x p e g q (tk.word y) = sound_stays (sound_bind n (λ ds f. sound_gives (more_definitions x p e ds) (g, f) (λ ts. refl)))
  by_definitions_sound r n x p e g q k = sound_stays (sound_gives (last_definition x p e) g (λ ts. refl))

  pub definitions_sound : (n : ℕ) → Sound here GoodDefinitions definitions (read_definitions m n)
  definitions_sound zero = sound_refuses
  definitions_sound (suc n) =
      sound_bind (heading_sound n) (λ x u. sound_bind (sound_mark tk.defines) (λ p v. sound_bind h.expr (λ e g. sound_next (by_definitions_sound (read_definitions m n) (definitions_sound n) x p e g))))

-- ---- after the name of a label
by_colon_sound : (p q : Place) (k : TokenView) → SoundAt q k (λ ts. mark p tk.colon ts) Any colon_tokens (colon_by p q k)
by_colon_sound p q (tk.sign op.Plus) = sound_past refl (sound_gives (colon_plus p q) tt (λ ts. refl))
by_colon_sound p q (tk.sign op.Minus) = sound_past refl (sound_gives (colon_minus p q) tt (λ ts. refl))
by_colon_sound p q k = sound_stays (sound_gives (colon p) tt (λ ts. refl))

pub colon_sound : Sound here Any colon_tokens read_colon
colon_sound = sound_bind (sound_mark tk.colon) (λ p u. sound_next (by_colon_sound p))

-- ---- what a `with` names
bind_is : (p : Place) (k : TokenView) (b : Bool × Place) → bind_by p k ≡ Some b → (p ≡ b.1) × (k ≡ tk.sign_of (bind_sign b.0))
bind_is p (tk.sign op.In) (true, q) e = (let it : ◌≡◌ {A = Bool × Place} (true, p) (true, q) = cc in ap (λ (z : Bool × Place). z.1) it, refl)
bind_is p (tk.sign op.In) (false, q) e = (let it : ◌≡◌ {A = Bool × Place} (true, p) (false, q) = cc in let same : true ≡ false = ap (λ (z : Bool × Place). z.0) it in absurd cc)
bind_is p (tk.sign op.Equal) (false, q) e = (let it : ◌≡◌ {A = Bool × Place} (false, p) (false, q) = cc in ap (λ (z : Bool × Place). z.1) it, refl)
bind_is p (tk.sign op.Equal) (true, q) e = (let it : ◌≡◌ {A = Bool × Place} (false, p) (true, q) = cc in let same : false ≡ true = ap (λ (z : Bool × Place). z.0) it in absurd cc)
bind_is p k b e = absurd cc

a_sign : (b : Bool × Place) → is_other (tk.sign_of (bind_sign b.0)) ≡ false
a_sign (true, p) = refl
a_sign (false, p) = refl

pub bind_sound : Sound here Any (λ b ts. sign b.1 (bind_sign b.0) ts) (past bind_by)
bind_sound = sound_token bind_by (λ b. b.1) (λ b. tk.sign_of (bind_sign b.0)) a_sign bind_is

module _ (m : Parts) (h : SoundParts m) where
  by_binds_sound : (r : Reader Binds) → Sound here GoodBinds binds r → (x : Name) (b : Bool) (q : Place) (e : Phrase) → IsGood e → (s : Option Separator) (p : Place) (k : TokenView)
      → SoundAt p k (λ ts. name x (sign q (bind_sign b) (spell e (maybe_separator s ts)))) GoodBinds binds (binds_by r x b q e s p k)
  by_binds_sound r n x b q e g (Some s) p (tk.word y) = sound_stays (sound_bind n (λ bs f. sound_gives (bind x b q e s bs) (g, f) (λ ts. refl)))
  by_binds_sound r n x b q e g s p k = sound_stays (sound_gives (last_bind x b q e s) g (λ ts. refl))

  pub binds_sound : (n d : ℕ) → Sound here GoodBinds binds (read_binds m n d)
  binds_sound zero d = sound_refuses
  binds_sound (suc n) d =
      sound_bind (sound_name_within (m.room (d + 1))) (λ x u. sound_bind bind_sound (λ b v. sound_bind h.expr (λ e g. sound_bind separator_sound (λ s w. sound_next (by_binds_sound (read_binds m n (d + 1)) (binds_sound n (d + 1)) x b.0 b.1 e g s)))))

-- the readers of expressions, with any number of steps
pub parts_sound : (n : ℕ) → SoundParts (parts_of (readers n None))
parts_sound n = record {
  expr = record { is = λ ts a us e. (let w = (sound n).expr 0 free ts a us e in (w.0, w.2)) };
  arguments = record { is = λ ts xs us e. (sound n).phrases 0 ts xs us e };
  subscripts = record { is = λ ts xs us e. (sound n).phrases 0 ts xs us e };
}
