-- An expression from a token on, by how many tokens it has, and where it is refused.
use Rattle.std.proofs.Common.{◌≡◌, ℕ, suc, ◌+◌, ◌-◌, ◌≤◌, List, [], ◌∷◌, length, map, drop, get_or, Result, Ok, Err, Some, refl, sym, ap, ◌∙◌, subst, length-append, arith, true}
use Rattle.std.proofs.lemmas.List.{length-drop, drop-map, get_or-drop}
use Rattle.tla_token.specs.declared.place.Place.{Place}
use Rattle.tla_token.specs.declared.rule.Rule.{Rule}
use Rattle.tla_token.specs.declared.rule.Refusal.{Refusal}
use Rattle.tla_token.specs.declared.rule.Stop.{Stop}
use Rattle.tla_token.specs.declared.rule.Stop.TheVariants as stop
use Rattle.tla_token.specs.declared.token.Token as code_token
use Rattle.tla_token.specs.declared.token.Tokens.{Tokens}
use Rattle.tla_token.specs.Limits.{deepest_expression}
use Rattle.tla_tree.specs.Tree.{Tree}
use Rattle.tla_tree.specs.Lexical.{Token}
use Rattle.tla_tree.specs.Spelling.{Phrase, spell, tree_of}
use Rattle.tla_tree.specs.Pool.{at as tree_at}
use Rattle.tla_tree.specs.Reader.{Out, free, read_limited}
use Rattle.tla_tree.specs.Whole.{whole}
use Rattle.tla_tree.specs.FirstStop.{ReadsExpression, RefusesExpression}
use Rattle.tla_tree.proofs.Whole.{limited_is}
use Rattle.tla_tree.proofs.SpellAppend.{spell_then}
use Rattle.tla_tree.proofs.SoundLists.{read_is_spelled}
use Rattle.tla_tree.proofs.MendedLists.{refused_fits}
use Rattle.tla_tree.proofs.LimitedStops.{is_read, is_refused, read_within}
use Rattle.expr_nodes.specs.declared.cursor.Halt.TheVariants as halt
use Rattle.expr_nodes.specs.declared.make.Read.{Read}
use Rattle.expr_nodes.specs.ReadIn.{seen, IsIn, Reads, Fails}
use Rattle.expr_nodes.specs.Ahead.{ahead}

-- ---- places
abbrev places : List code_token.Token → List Place
places ts = map (λ (t : code_token.Token). t.place) ts

-- as they are seen, they have the same places
places_seen : (bytes : List ℕ) (ts : List code_token.Token) → map (λ (t : Token). t.place) (seen bytes ts) ≡ places ts
places_seen bytes [] = refl
places_seen bytes (t ∷ ts) = ap (λ (ps : List Place). t.place ∷ ps) (places_seen bytes ts)

seen_length : (bytes : List ℕ) (ts : List code_token.Token) → length (seen bytes ts) ≡ length ts
seen_length bytes [] = refl
seen_length bytes (t ∷ ts) = ap suc (seen_length bytes ts)

module _ (v : Tokens) (i : ℕ) (inside : i ≤ length v.items.items) where
  ahead_length : length (ahead v i) + i ≡ length v.items.items
  ahead_length = (let m = seen_length v.bytes.items (drop i v.items.items) in let d = length-drop i v.items.items in omega (arith, m, d, inside))

  -- the place behind so many tokens
  place_ahead : (n k : ℕ) → n + k ≡ length (ahead v i) → get_or (map (λ (t : Token). t.place) (ahead v i)) n v.end ≡ get_or (places v.items.items) (length v.items.items - k) v.end
  place_ahead n k e =
      let l = ahead_length in
      let m : i + n ≡ length v.items.items - k = omega (arith, l, e) in
      ap (λ (ps : List Place). get_or ps n v.end) (places_seen v.bytes.items (drop i v.items.items) ∙ sym (drop-map (λ (t : code_token.Token). t.place) i v.items.items))
      ∙ get_or-drop i (places v.items.items) n v.end
      ∙ ap (λ (m : ℕ). get_or (places v.items.items) m v.end) m

  -- ---- what is read
  pub reads_there : (new : List Tree) (x : Read) (j : ℕ) → j ≤ length v.items.items → Reads (IsIn true new x) (ahead v j) ((whole (Some deepest_expression)).expr 0 free (ahead v i)) → ReadsExpression (ahead v i) (j - i) (tree_at new x.id)
  reads_there new x j k r =
      let o : read_limited (ahead v i) ≡ Ok (r.what, ahead v j) = limited_is (ahead v i) ∙ r.is in
      let s = (read_is_spelled 0 (ahead v i) (ahead v j) r.what (read_within (ahead v i) (ahead v j) r.what o).0).1 in
      let n : length (ahead v i) ≡ length (spell r.what []) + length (ahead v j) = ap length (s ∙ spell_then r.what (ahead v j)) ∙ length-append (spell r.what []) (ahead v j) in
      let l = ahead_length in
      let m = seen_length v.bytes.items (drop j v.items.items) in
      let d = length-drop j v.items.items in
      let w : length (spell r.what []) ≡ j - i = omega (arith, n, l, m, d, k) in
      subst (λ (t : Tree). ReadsExpression (ahead v i) (j - i) t) (sym r.told.tree) (subst (λ (n : ℕ). ReadsExpression (ahead v i) n (tree_of r.what)) w (is_read (ahead v i) (ahead v j) r.what o))

  -- ---- where it is refused
  pub refuses_there : (rule : Rule) (n : ℕ) → Fails (halt.Refused rule n) ((whole (Some deepest_expression)).expr 0 free (ahead v i)) → RefusesExpression (ahead v i) v.end (record { rule = rule; place = get_or (places v.items.items) (length v.items.items - n) v.end })
  refuses_there rule n f = by ((whole (Some deepest_expression)).expr 0 free (ahead v i)) refl f
    where
      by : (z : Out Phrase) → (whole (Some deepest_expression)).expr 0 free (ahead v i) ≡ z → Fails (halt.Refused rule n) z → RefusesExpression (ahead v i) v.end (record { rule = rule; place = get_or (places v.items.items) (length v.items.items - n) v.end })
      by (Ok x) e f = absurd f
      by (Err (q, rest)) e f =
          let ts = ahead v i in
          let o : read_limited ts ≡ Err (q, rest) = limited_is ts ∙ e in
          let m = refused_fits ts (q, rest) o in
          let l : length m.0 + n ≡ length ts = (let a = ap length m.3 in let b = length-append m.0 rest in omega (arith, a, b, f.1)) in
          let w = is_refused ts m.0 rest v.end q o m.3 in
          subst (λ (r : Rule). RefusesExpression ts v.end (record { rule = r; place = get_or (places v.items.items) (length v.items.items - n) v.end })) f.0
          (subst (λ (p : Place). RefusesExpression ts v.end (record { rule = q; place = p })) (place_ahead (length m.0) n l) w)

-- one refusal is told
pub refused_as : (P : Refusal → Type 0) (p q : Refusal) → ◌≡◌ {A = Result (ℕ × ℕ) Stop} (Err (stop.Refused p)) (Err (stop.Refused q)) → P p → P q
refused_as P p q e h = subst P (ap of e) h
  where
    of : Result (ℕ × ℕ) Stop → Refusal
    of (Ok x) = p
    of (Err stop.Memory) = p
    of (Err (stop.Refused r)) = r
