-- What the lines of a rule text say, told from the rows of each key: the pattern, the code and the action.
-- Where each key's lines stand once or under their own code, the head and the parts are those of one key.
use Rattle.std.specs.Prelude.{ℕ, zero, suc, ◌/◌, ◌%◌, ◌^◌, ◌<◌, ◌≤◌, ◌≡◌, refl, true, false, ◌&&◌, List, [], ◌∷◌, ◌++◌, map, length, get_or, eqb, Option, Some}
use Rattle.std.proofs.Common.{arith, ap, ap₂, ◌∙◌, sym, append-nil}
use Rattle.std.proofs.Math.Bool.{or-false}
use Rattle.std.proofs.Math.Nat.{le-max_right}
use Rattle.std.proofs.lemmas.List.{get_or_past}
use Rattle.std.proofs.lemmas.Simd.{map-map}
use Rattle.std.proofs.lemmas.Bool.{eqb-false}
use Rattle.lists.specs.Lists.{any, ◌!◌}
use Rattle.lists.proofs.Laws.Maps.{map_same}
use Rattle.model.specs.Graph.{Triple, Node}
use Rattle.model.specs.Operations.{Action, pattern_only, add_node, add_edges, delete_node, delete_edges, abstract}
use Rattle.model.specs.Files.{numbers_of, triple_of}
use Rattle.model.specs.Files.RuleText.{RuleKey, op=, pnode=, pedge=, make=, arm=, put=, drop=, cut=, group=, rule_form, RuleLines, nodes_from, pattern_in}
use Rattle.model.specs.Files.RuleText.{arm_of, numbers_at, action_in, stand, has_code}
use Rattle.model.specs.InForm.{code_of}
use Rattle.graph.specs.Operations.{code_of as code_of_operation}
use Rattle.graph.specs.Packed.{unpack_triple, unpack_arm, unpack_pattern_nodes, pattern_of, action_of as packed_action}
use Rattle.graph.specs.declared.rule.Operation.{Operation}
use Rattle.graph.specs.declared.rule.Operation.TheVariants.{PatternOnly, NodeAddition, EdgeAddition, NodeDeletion, EdgeDeletion, Abstraction, Other}
use Rattle.rules.specs.Rules.{Parts}
use Rattle.rules.specs.Laws.RuleRows.{fields, Rows, turn, HasRows, last_row, gathered}

nodes-from : (i : ℕ) (xs : List ℕ) → nodes_from i (map (fields pnode=) xs) ≡ unpack_pattern_nodes i xs
nodes-from i [] = refl
nodes-from i (x ∷ xs) = ap₂ ◌∷◌ refl (nodes-from (suc i) xs)

pub pattern-rows : (ls : RuleLines) (rows : Rows) → HasRows ls rows → pattern_in ls ≡ pattern_of (rows pnode=) (rows pedge=)
pattern-rows ls rows h =
    ap₂ (λ (xs es : List (List ℕ)). record { nodes = nodes_from 0 xs; edges = map triple_of es }) (h pnode=) (h pedge=)
    ∙ ap₂ (λ (ns : List (Node (Option ℕ))) (es : List Triple). record { nodes = ns; edges = es })
    (nodes-from 0 (rows pnode=)) (map-map triple_of (fields pedge=) (rows pedge=))

-- what a key of one row says, told from the row, or from 0 if there is none
first-row : {A : Type 0} (g : List ℕ → A) (k : RuleKey) (xs : List ℕ) → length xs ≤ 1 → g [] ≡ g (fields k 0)
    → g (get_or (map (fields k) xs) 0 []) ≡ g (fields k (last_row xs))
first-row g k [] l e = e
first-row g k (x ∷ []) l e = refl
first-row g k (x ∷ y ∷ xs) l e = absurd (omega arith)

code-rows : (xs : List ℕ) (c : ℕ) → length xs ≤ 1
    → any (λ x. eqb (x ! 0) c) (map (fields op=) xs) ≡ (any (λ x. true) (map (fields op=) xs) && eqb (last_row xs) c)
code-rows [] c l = refl
code-rows (x ∷ []) c l = or-false (eqb x c)
code-rows (x ∷ y ∷ xs) c l = absurd (omega arith)

-- op stands once, and so there is one code
pub has_code_lem : (ls : RuleLines) (rows : Rows) → HasRows ls rows → length (rows op=) ≤ 1
    → (c : ℕ) → has_code c ls ≡ (stand op= ls && eqb (last_row (rows op=)) c)
has_code_lem ls rows h once c =
    ap (any (λ x. eqb (x ! 0) c)) (h op=)
    ∙ code-rows (rows op=) c once
    ∙ ap (λ (xs : List (List ℕ)). any (λ x. true) xs && eqb (last_row (rows op=)) c) (sym (h op=))

-- of three lists, the only one that isn't empty
pub only-first : (a b c : List ℕ) → b ≡ [] → c ≡ [] → a ++ (b ++ c) ≡ a
only-first a b c h k = rw (h, k) (append-nil a)

only-second : (a b c : List ℕ) → a ≡ [] → c ≡ [] → a ++ (b ++ c) ≡ b
only-second a b c h k = rw (h, k) (append-nil b)

only_third : (a b c : List ℕ) → a ≡ [] → b ≡ [] → a ++ (b ++ c) ≡ c
only_third a b c h k = rw (h, k)

-- an action's parts, as the code says
abbrev pub action_of : Parts → Action
action_of t =
    get_or
    (pattern_only
    ∷ add_node t.head (map unpack_arm t.parts)
    ∷ add_edges (map unpack_triple t.parts)
    ∷ delete_node t.head
    ∷ delete_edges (map unpack_triple t.parts)
    ∷ abstract (t.head / 2 ^ 18) (t.head / 2 ^ 12 % 2 ^ 6) (t.head / 2 ^ 6 % 2 ^ 6) (t.head % 2 ^ 6)
    ∷ [])
    t.code
    pattern_only

-- the action of an operation is that of its code
pub action-coded : (o : Operation) (nodes edges : List ℕ) (head : ℕ) (parts : List ℕ)
    → packed_action o head parts ≡ action_of (record { code = code_of_operation o; nodes = nodes; edges = edges; head = head; parts = parts })
action-coded PatternOnly nodes edges head parts = refl
action-coded NodeAddition nodes edges head parts = refl
action-coded EdgeAddition nodes edges head parts = refl
action-coded NodeDeletion nodes edges head parts = refl
action-coded EdgeDeletion nodes edges head parts = refl
action-coded Abstraction nodes edges head parts = refl
action-coded (Other number) nodes edges head parts = sym (search (get_or_past, le-max_right))

-- "Op, make, drop and group stand once", and action lines under their own code
pub record Ruled (rows : Rows) : Type 0 where
  pub once : (k : RuleKey) → (rule_form k).by ≡ Some 0 → length (rows k) ≤ 1
  pub alone : (k : RuleKey) → turn pedge= < turn k → (last_row (rows op=) ≡ code_of k → ⊥) → rows k ≡ []

module _ (ls : RuleLines) (rows : Rows) (h : HasRows ls rows) (r : Ruled rows) where
  first_said : {A : Type 0} (g : List ℕ → A) (k : RuleKey) → (rule_form k).by ≡ Some 0 → g [] ≡ g (fields k 0)
      → g (numbers_at k ls) ≡ g (fields k (last_row (rows k)))
  first_said g k e z = ap (λ (xs : List (List ℕ)). g (get_or xs 0 [])) (h k) ∙ first-row g k (rows k) (r.once k e) z

  abbrev code : ℕ
  code = last_row (rows op=)

  -- lines of another code don't stand, so that under each code the head and the parts are those of its own lines
  other : (c : ℕ) → code ≡ c → (k : RuleKey) → turn pedge= < turn k → eqb c (code_of k) ≡ false → rows k ≡ []
  other c e k l d = r.alone k l (λ q. eqb-false c (code_of k) d (sym e ∙ q))

  make-head : code ≡ 1 → (gathered rows).head ≡ last_row (rows make=)
  make-head e =
      ap last_row (only-first (rows make=) (rows drop=) (rows group=) (other 1 e drop= (omega arith) refl) (other 1 e group= (omega arith) refl))

  drop_head : code ≡ 3 → (gathered rows).head ≡ last_row (rows drop=)
  drop_head e =
      ap last_row (only-second (rows make=) (rows drop=) (rows group=) (other 3 e make= (omega arith) refl) (other 3 e group= (omega arith) refl))

  group-head : code ≡ 5 → (gathered rows).head ≡ last_row (rows group=)
  group-head e =
      ap last_row (only_third (rows make=) (rows drop=) (rows group=) (other 5 e make= (omega arith) refl) (other 5 e drop= (omega arith) refl))

  pub arm-parts : code ≡ 1 → (gathered rows).parts ≡ rows arm=
  arm-parts e = only-first (rows arm=) (rows put=) (rows cut=) (other 1 e put= (omega arith) refl) (other 1 e cut= (omega arith) refl)

  pub put-parts : code ≡ 2 → (gathered rows).parts ≡ rows put=
  put-parts e = only-second (rows arm=) (rows put=) (rows cut=) (other 2 e arm= (omega arith) refl) (other 2 e cut= (omega arith) refl)

  pub cut_parts : code ≡ 4 → (gathered rows).parts ≡ rows cut=
  cut_parts e = only_third (rows arm=) (rows put=) (rows cut=) (other 4 e arm= (omega arith) refl) (other 4 e put= (omega arith) refl)

  pub made-class : code ≡ 1 → numbers_at make= ls ! 0 ≡ (gathered rows).head
  made-class e = first_said (λ x. x ! 0) make= refl refl ∙ sym (make-head e)

  abbrev held : (code : ℕ) → Action
  held c =
      let t = gathered rows in
      action_of (record { code = c; nodes = t.nodes; edges = t.edges; head = t.head; parts = t.parts })

  parts_said : {A : Type 0} (f : List ℕ → A) (g : ℕ → A) (k : RuleKey) → ((x : ℕ) → f (fields k x) ≡ g x) → (gathered rows).parts ≡ rows k
      → map f (numbers_of rule_form k ls) ≡ map g (gathered rows).parts
  parts_said f g k e q =
      ap (map f) (h k) ∙ map-map f (fields k) (rows k) ∙ map_same (λ x. f (fields k x)) g (rows k) (λ x i. e x) ∙ ap (map g) (sym q)

  op-said : (c : ℕ) → code ≡ c → numbers_at op= ls ! 0 ≡ c
  op-said c e = first_said (λ x. x ! 0) op= refl refl ∙ e

  by_code : (c : ℕ) → code ≡ c → action_in ls ≡ held c
  by_code zero e = rw (op-said 0 e)
  by_code (suc zero) e = rw (op-said 1 e) (ap₂ add_node (made-class e) (parts_said arm_of unpack_arm arm= (λ x. refl) (arm-parts e)))
  by_code (suc (suc zero)) e = rw (op-said 2 e) (ap add_edges (parts_said triple_of unpack_triple put= (λ x. refl) (put-parts e)))
  by_code (suc (suc (suc zero))) e = rw (op-said 3 e) (ap delete_node (first_said (λ x. x ! 0) drop= refl refl ∙ sym (drop_head e)))
  by_code (suc (suc (suc (suc zero)))) e = rw (op-said 4 e) (ap delete_edges (parts_said triple_of unpack_triple cut= (λ x. refl) (cut_parts e)))
  by_code (suc (suc (suc (suc (suc zero))))) e =
      rw (op-said 5 e)
      (first_said (λ x. abstract (x ! 0) (x ! 1) (x ! 2) (x ! 3)) group= refl refl
      ∙ ap (λ n. abstract (n / 2 ^ 18) (n / 2 ^ 12 % 2 ^ 6) (n / 2 ^ 6 % 2 ^ 6) (n % 2 ^ 6)) (sym (group-head e)))
  by_code (suc (suc (suc (suc (suc (suc c)))))) e = rw (op-said (suc (suc (suc (suc (suc (suc c)))))) e)

  pub action-rows : action_in ls ≡ action_of (gathered rows)
  action-rows = by_code code refl
