-- How deep expressions nest: the forms that are open at a token, and those round a part of a tree.
use Rattle.std.specs.Prelude.{ℕ, ◌+◌, max, Bool, true, false, List, [], ◌∷◌}
use Rattle.tla_tree.specs.Tree.{Form, name, Tree, Trees, node, no_trees, tree}
use Rattle.tla_tree.specs.Spelling.{Phrase, Phrases, Binds, Fields, Settings, Path, Bullets, Arms, Locals}
use Rattle.tla_tree.specs.Spelling as spelled

-- ---- on the text
-- the infix operators that the phrase groups from the left, without brackets
abbrev pub chain : Phrase → ℕ
chain (spelled.infix_of a p o b) = chain a + 1
chain a = 0

-- the fields and applications that follow one another at the end of a primary
abbrev pub links : Phrase → ℕ
links (spelled.apply a p xs q) = links a + 1
links (spelled.select a p f) = links a + 1
links a = 0

-- What is open of a primary at an application or a field behind it. Where links count, as in an algorithm, these are all those before it; where they don't, as in a
-- module, an application that is closed and a field are none.
abbrev pub before : Bool → Phrase → ℕ
before true a = links a
before false a = 0

-- what is open at a field, n being open round the primary
abbrev pub at_field : Bool → ℕ → Phrase → ℕ
at_field true n a = n + links a + 1
at_field false n a = n

-- The forms that are open at each token, n being open round the phrase, before further counts; w tells whether links count. A form counts from its own token
-- on: brackets to their end, prefix operators and open forms to that of their last part, an infix operator to the end of its
-- chain, a bullet to that of its list, and where links count a field or application to that of the primary.
abbrev mutual
  pub counts_in : Bool → ℕ → Phrase → List ℕ → List ℕ
  counts_in w n (spelled.number p k) r = n ∷ r
  counts_in w n (spelled.string p x) r = n ∷ r
  counts_in w n (spelled.constant p c) r = n ∷ r
  counts_in w n (spelled.name p x) r = n ∷ r
  counts_in w n (spelled.primed p x q) r = n ∷ n ∷ r
  counts_in w n (spelled.call p x q xs t) r = n ∷ (n + 1) ∷ all_in w (n + 1) xs ((n + 1) ∷ r)
  counts_in w n (spelled.brackets p a q) r = (n + 1) ∷ counts_in w (n + 1) a ((n + 1) ∷ r)
  counts_in w n (spelled.no_set p q) r = (n + 1) ∷ (n + 1) ∷ r
  counts_in w n (spelled.set_of p xs q) r = (n + 1) ∷ all_in w (n + 1) xs ((n + 1) ∷ r)
  counts_in w n (spelled.filter p q x v s t a u) r = (n + 1) ∷ (n + 1) ∷ (n + 1) ∷ counts_in w (n + 1) s ((n + 1) ∷ counts_in w (n + 1) a ((n + 1) ∷ r))
  counts_in w n (spelled.image p a q bs t) r = (n + 1) ∷ counts_in w (n + 1) a ((n + 1) ∷ binds_in w (n + 1) bs ((n + 1) ∷ r))
  counts_in w n (spelled.no_tuple p q) r = (n + 1) ∷ (n + 1) ∷ r
  counts_in w n (spelled.tuple p xs q) r = (n + 1) ∷ all_in w (n + 1) xs ((n + 1) ∷ r)
  counts_in w n (spelled.fields p fs q) r = (n + 1) ∷ fields_in w (n + 1) fs ((n + 1) ∷ r)
  counts_in w n (spelled.records p fs q) r = (n + 1) ∷ fields_in w (n + 1) fs ((n + 1) ∷ r)
  counts_in w n (spelled.function p bs q a t) r = (n + 1) ∷ binds_in w (n + 1) bs ((n + 1) ∷ counts_in w (n + 1) a ((n + 1) ∷ r))
  counts_in w n (spelled.functions p a q b t) r = (n + 1) ∷ counts_in w (n + 1) a ((n + 1) ∷ counts_in w (n + 1) b ((n + 1) ∷ r))
  counts_in w n (spelled.except p a q ss t) r = (n + 1) ∷ counts_in w (n + 1) a ((n + 1) ∷ settings_in w (n + 1) ss ((n + 1) ∷ r))
  counts_in w n (spelled.apply a p xs q) r = counts_in w n a (let m : ℕ = n + before w a + 1 in m ∷ all_in w m xs (m ∷ r))
  counts_in w n (spelled.select a p f) r = counts_in w n a (let m : ℕ = at_field w n a in m ∷ m ∷ r)
  counts_in w n (spelled.list o bs) r = bullets_in w n bs r
  counts_in w n (spelled.quantified b p bs q a) r = (n + 1) ∷ binds_in w (n + 1) bs ((n + 1) ∷ counts_in w (n + 1) a r)
  counts_in w n (spelled.if_then_else p a q b t c) r = (n + 1) ∷ counts_in w (n + 1) a ((n + 1) ∷ counts_in w (n + 1) b ((n + 1) ∷ counts_in w (n + 1) c r))
  counts_in w n (spelled.cases p xs) r = (n + 1) ∷ arms_in w (n + 1) xs r
  counts_in w n (spelled.local p ls q a) r = (n + 1) ∷ locals_in w (n + 1) ls ((n + 1) ∷ counts_in w (n + 1) a r)
  counts_in w n (spelled.infix_of a p o b) r = counts_in w n a (let m : ℕ = n + chain a + 1 in m ∷ counts_in w m b r)
  counts_in w n (spelled.prefix_of p o a) r = (n + 1) ∷ counts_in w (n + 1) a r

  pub all_in : Bool → ℕ → Phrases → List ℕ → List ℕ
  all_in w n (spelled.last a) r = counts_in w n a r
  all_in w n (spelled.more a p xs) r = counts_in w n a (n ∷ all_in w n xs r)

  pub binds_in : Bool → ℕ → Binds → List ℕ → List ℕ
  binds_in w n (spelled.last_bind p x q a) r = n ∷ n ∷ counts_in w n a r
  binds_in w n (spelled.bind p x q a t bs) r = n ∷ n ∷ counts_in w n a (n ∷ binds_in w n bs r)
  binds_in w n (spelled.share p x q bs) r = n ∷ n ∷ binds_in w n bs r

  pub fields_in : Bool → ℕ → Fields → List ℕ → List ℕ
  fields_in w n (spelled.last_field f p a) r = n ∷ n ∷ counts_in w n a r
  fields_in w n (spelled.field f p a q fs) r = n ∷ n ∷ counts_in w n a (n ∷ fields_in w n fs r)

  pub settings_in : Bool → ℕ → Settings → List ℕ → List ℕ
  settings_in w n (spelled.last_setting p path q a) r = n ∷ path_in w n path (n ∷ counts_in w n a r)
  settings_in w n (spelled.setting p path q a t ss) r = n ∷ path_in w n path (n ∷ counts_in w n a (n ∷ settings_in w n ss r))

  -- a subscript of a path counts_in w to its bracket's end, a field not at all
  pub path_in : Bool → ℕ → Path → List ℕ → List ℕ
  path_in w n spelled.path_end r = r
  path_in w n (spelled.index p xs q path) r = (n + 1) ∷ all_in w (n + 1) xs ((n + 1) ∷ path_in w n path r)
  path_in w n (spelled.at_field p f path) r = n ∷ n ∷ path_in w n path r

  pub bullets_in : Bool → ℕ → Bullets → List ℕ → List ℕ
  bullets_in w n (spelled.last_bullet p a) r = (n + 1) ∷ counts_in w (n + 1) a r
  bullets_in w n (spelled.bullet p a bs) r = (n + 1) ∷ counts_in w (n + 1) a (bullets_in w (n + 1) bs r)

  pub arms_in : Bool → ℕ → Arms → List ℕ → List ℕ
  arms_in w n (spelled.last_arm a p b) r = counts_in w n a (n ∷ counts_in w n b r)
  arms_in w n (spelled.other_arm a p b q s t c) r = counts_in w n a (n ∷ counts_in w n b (n ∷ n ∷ n ∷ counts_in w n c r))
  arms_in w n (spelled.arm a p b q xs) r = counts_in w n a (n ∷ counts_in w n b (n ∷ arms_in w n xs r))

  pub locals_in : Bool → ℕ → Locals → List ℕ → List ℕ
  locals_in w n (spelled.last_local p x q a) r = n ∷ n ∷ counts_in w n a r
  locals_in w n (spelled.more_locals p x q a ls) r = n ∷ n ∷ counts_in w n a (locals_in w n ls r)

-- ---- in an algorithm
abbrev pub counts : ℕ → Phrase → List ℕ → List ℕ
counts n a r = counts_in true n a r

abbrev pub counts_all : ℕ → Phrases → List ℕ → List ℕ
counts_all n xs r = all_in true n xs r

abbrev pub counts_binds : ℕ → Binds → List ℕ → List ℕ
counts_binds n bs r = binds_in true n bs r

abbrev pub counts_fields : ℕ → Fields → List ℕ → List ℕ
counts_fields n fs r = fields_in true n fs r

abbrev pub counts_settings : ℕ → Settings → List ℕ → List ℕ
counts_settings n ss r = settings_in true n ss r

abbrev pub counts_path : ℕ → Path → List ℕ → List ℕ
counts_path n path r = path_in true n path r

abbrev pub counts_bullets : ℕ → Bullets → List ℕ → List ℕ
counts_bullets n bs r = bullets_in true n bs r

abbrev pub counts_arms : ℕ → Arms → List ℕ → List ℕ
counts_arms n xs r = arms_in true n xs r

abbrev pub counts_locals : ℕ → Locals → List ℕ → List ℕ
counts_locals n ls r = locals_in true n ls r

abbrev pub greatest : List ℕ → ℕ
greatest [] = 0
greatest (n ∷ ns) = max n (greatest ns)

-- the most forms that are open at a token
abbrev pub nesting_in : Bool → Phrase → ℕ
nesting_in w a = greatest (counts_in w 0 a [])

abbrev pub text_nesting : Phrase → ℕ
text_nesting a = nesting_in true a

-- how many forms may be open at a token of a module's translation, where fields and closed applications don't count
abbrev pub deepest_in_module : ℕ
deepest_in_module = 1200

-- ---- on the tree: each form counts one in each of its parts, and a name has none
abbrev pub form_nesting : Form → ℕ → ℕ
form_nesting (name x) n = 0
form_nesting m n = n

abbrev mutual
  pub tree_nesting : Tree → ℕ
  tree_nesting (node m at ts) = form_nesting m (trees_nesting ts)

  pub trees_nesting : Trees → ℕ
  trees_nesting no_trees = 0
  trees_nesting (tree t ts) = max (1 + tree_nesting t) (trees_nesting ts)
