-- What is spelled is read: all forms together, and so one phrase for a list of tokens.
use Rattle.std.proofs.Common.{◌≡◌, ℕ, ◌+◌, ◌*◌, length, List, [], Ok, Err, refl, sym, ap, ◌∙◌, arith, None}
use Rattle.tla_tree.specs.Tree.{Tree}
use Rattle.tla_tree.specs.Lexical.{Token}
use Rattle.tla_tree.specs.Spelling.{Phrase, number, string, constant, name, primed, call, brackets, no_set, set_of, filter, image, no_tuple, tuple, fields, records, function, functions, except, apply, select, list, quantified, if_then_else, cases, local, infix_of, prefix_of}
use Rattle.tla_tree.specs.Spelling.{Phrases, last, more, Binds, last_bind, bind, share, Fields, last_field, field, Settings, last_setting, setting, Path, path_end, index, at_field, Bullets, last_bullet, bullet, Arms, last_arm, other_arm, arm, Locals, last_local, more_locals}
use Rattle.tla_tree.specs.Spelling.{spell, tree_of, Good, Spells}
use Rattle.tla_tree.specs.Reader.{Out, free, readers, read}
use Rattle.tla_tree.proofs.Steps.{steps, few}
use Rattle.tla_tree.proofs.ReadStops.{Calm}
use Rattle.tla_tree.proofs.ReadPhrases.{Reads, closed, ReadsAll, reads_last, reads_more, reads_number, reads_quote, reads_constant, reads_name, reads_primed, reads_call, reads_brackets, reads_no_set, reads_no_tuple, reads_infix, reads_prefix}
use Rattle.tla_tree.proofs.ReadForms.{ReadsBinds, ReadsLocals, reads_tuple, reads_apply, reads_select, reads_last_bind, reads_bind, reads_share, reads_for, reads_choice, reads_last_local, reads_more_locals, reads_local}
use Rattle.tla_tree.proofs.ReadLists.{ReadsBullets, reads_last_bullet, reads_bullet, reads_list, ReadsArms, reads_last_arm, reads_other_arm, reads_arm, reads_cases}
use Rattle.tla_tree.proofs.ReadMembers.{cut}
use Rattle.tla_tree.proofs.ReadElements.{reads_image, reads_set_last, reads_set_more}
use Rattle.tla_tree.proofs.ReadSquares.{ReadsFields, reads_last_field, reads_field, reads_fields, reads_records, reads_function_last, reads_function_bind, reads_function_share, reads_filter}
use Rattle.tla_tree.proofs.ReadFunctions.{ReadsPath, reads_path_end, reads_index, reads_at_field, ReadsSettings, reads_last_setting, reads_setting, reads_functions, reads_except}

-- ---- all forms
mutual
  pub reads : (a : Phrase) → Reads a
  reads (number p n) = reads_number p n
  reads (string p x) = reads_quote p x
  reads (constant p c) = reads_constant p c
  reads (name p x) = reads_name p x
  reads (primed p x q) = reads_primed p x q
  reads (call p x q xs r) = reads_call p x q xs r (reads_all xs)
  reads (brackets p a q) = reads_brackets p a q (reads a)
  reads (no_set p q) = reads_no_set p q
  reads (set_of p (last a) q) = reads_set_last p a q (reads a) (reads_cut a (reads a))
  reads (set_of p (more a t xs) q) = reads_set_more p a t xs q (reads a) (reads_cut a (reads a)) (reads_all xs)
  reads (filter p q x r s t a u) = reads_filter p q x r s t a u (reads s) (reads a)
  reads (image p a q bs s) = reads_image p a q bs s (reads a) (reads_binds bs)
  reads (no_tuple p q) = reads_no_tuple p q
  reads (tuple p xs q) = reads_tuple p xs q (reads_all xs)
  reads (fields p fs q) = reads_fields p fs q (reads_in_fields fs)
  reads (records p fs q) = reads_records p fs q (reads_in_fields fs)
  reads (function p (last_bind y x z b) q a s) = reads_function_last p y x z b q a s (reads b) (reads a)
  reads (function p (bind y x z b t bs) q a s) = reads_function_bind p y x z b t bs q a s (reads b) (reads_binds bs) (reads a)
  reads (function p (share y x z bs) q a s) = reads_function_share p y x z bs q a s (reads_binds bs) (reads a)
  reads (functions p a q b s) = reads_functions p a q b s (reads a) (reads_cut a (reads a)) (reads b)
  reads (except p a q ss s) = reads_except p a q ss s (reads a) (reads_cut a (reads a)) (reads_settings ss)
  reads (apply a p xs q) = reads_apply a p xs q (reads a) (reads_all xs)
  reads (select a p f) = reads_select a p f (reads a)
  reads (list o bs) = reads_list o bs (reads_bullets bs)
  reads (quantified b p bs q a) = reads_for b p bs q a (reads_binds bs) (reads a)
  reads (if_then_else p a q b r c) = reads_choice p a q b r c (reads a) (reads b) (reads c)
  reads (cases p xs) = reads_cases p xs (reads_arms xs)
  reads (local p ls q a) = reads_local p ls q a (reads_locals ls) (reads a)
  reads (infix_of a p o b) = reads_infix a p o b (reads a) (reads b)
  reads (prefix_of p o a) = reads_prefix p o a (reads a)

  -- what is after `x \in`
  pub reads_cut : (a : Phrase) → Reads a → Reads (cut a)
  reads_cut (infix_of (name p x) q o b) h = reads b
  reads_cut (infix_of a q o b) h = reads_infix (cut a) q o b (reads_cut a (reads a)) (reads b)
  reads_cut a h = h

  pub reads_all : (xs : Phrases) → ReadsAll xs
  reads_all (last a) = reads_last a (reads a)
  reads_all (more a p xs) = reads_more a p xs (reads a) (reads_all xs)

  pub reads_binds : (bs : Binds) → ReadsBinds bs
  reads_binds (last_bind p x q a) = reads_last_bind p x q a (reads a)
  reads_binds (bind p x q a r bs) = reads_bind p x q a r bs (reads a) (reads_binds bs)
  reads_binds (share p x q bs) = reads_share p x q bs (reads_binds bs)

  pub reads_locals : (ls : Locals) → ReadsLocals ls
  reads_locals (last_local p x q a) = reads_last_local p x q a (reads a)
  reads_locals (more_locals p x q a ls) = reads_more_locals p x q a ls (reads a) (reads_locals ls)

  pub reads_in_fields : (fs : Fields) → ReadsFields fs
  reads_in_fields (last_field f p a) = reads_last_field f p a (reads a)
  reads_in_fields (field f p a q fs) = reads_field f p a q fs (reads a) (reads_in_fields fs)

  pub reads_settings : (ss : Settings) → ReadsSettings ss
  reads_settings (last_setting p path q a) = reads_last_setting p path q a (reads_path path) (reads a)
  reads_settings (setting p path q a s ss) = reads_setting p path q a s ss (reads_path path) (reads a) (reads_settings ss)

  pub reads_path : (path : Path) → ReadsPath path
  reads_path path_end = reads_path_end
  reads_path (index p xs q path) = reads_index p xs q path (reads_all xs) (reads_path path)
  reads_path (at_field p f path) = reads_at_field p f path (reads_path path)

  pub reads_bullets : (bs : Bullets) → ReadsBullets bs
  reads_bullets (last_bullet p a) = reads_last_bullet p a (reads a)
  reads_bullets (bullet p a bs) = reads_bullet p a bs (reads a) (reads_bullets bs)

  pub reads_arms : (xs : Arms) → ReadsArms xs
  reads_arms (last_arm a p b) = reads_last_arm a p b (reads a) (reads b)
  reads_arms (other_arm a p b q r s c) = reads_other_arm a p b q r s c (reads a) (reads b) (reads c)
  reads_arms (arm a p b q xs) = reads_arm a p b q xs (reads a) (reads b) (reads_arms xs)

-- ---- what is spelled is spelled in one way
-- before tokens that go on nothing
pub one_before : (e : ℕ) (a b : Phrase) → Good e a → Good e b → (r s : List Token) → Calm e r → Calm e s → spell a r ≡ spell b s → (a ≡ b) × (r ≡ s)
one_before e a b ga gb r s ca cb same_tokens =
    let u = closed a (reads a) e ga r ca in
    let v = closed b (reads b) e gb s cb in
    let n = (steps a + 3) + (steps b + 3) in
    let pair : ◌≡◌ {A = Out Phrase} (Ok (a, r)) (Ok (b, s)) = sym (u n (omega arith)) ∙ ap (λ (ts : List Token). (readers n None).expr e free ts) same_tokens ∙ v n (omega arith) in
    (ap (λ (x : Out Phrase). phrase_of a x) pair, ap (λ (x : Out Phrase). rest_of r x) pair)
  where
    phrase_of : Phrase → Out Phrase → Phrase
    phrase_of d (Ok x) = x.0
    phrase_of d (Err ts) = d

    rest_of : List Token → Out Phrase → List Token
    rest_of d (Ok x) = x.1
    rest_of d (Err ts) = d

pub spelled_is_read : (e : ℕ) (a : Phrase) → Good e a → read e (spell a []) ≡ Ok (a, [])
spelled_is_read e a g = closed a (reads a) e g [] refl (4 * length (spell a [])) (omega (arith, few a []))

pub one_phrase : (e : ℕ) (a b : Phrase) → Good e a → Good e b → spell a [] ≡ spell b [] → a ≡ b
one_phrase e a b ga gb same_tokens = (one_before e a b ga gb [] [] refl refl same_tokens).0

pub one_tree : (ts : List Token) (t u : Tree) → Spells ts t → Spells ts u → t ≡ u
one_tree ts t u (a, ga, sa, ta) (b, gb, sb, tb) = sym ta ∙ ap tree_of (one_phrase 0 a b ga gb (sym sa ∙ sb)) ∙ tb
