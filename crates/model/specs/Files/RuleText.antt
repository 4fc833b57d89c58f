-- "Rule: op=code, code 0..5; pnode=class,given,value ..; pedge=node,name,node. Then for 1 make=class and arm=name,node;
-- 2 put=node,name,node; 3 drop=node; 4 cut=node,name,node; 5 group=p,K,a,b; 0, a pattern only, has no more."
use Rattle.std.specs.Prelude.{ℕ, suc, Bool, true, cond, not, ◌&&◌, ◌||◌, List, [], ◌∷◌, ◌++◌, map, get_or, eqb, ltb, Option, None, Some}
use Rattle.lists.specs.Lists.{any, ◌!◌}
use Rattle.model.specs.Limits
use Rattle.model.specs.Graph.{Scheme, Node, Pattern, declares, is_object, is_functional, is_multivalued, has, joins}
use Rattle.model.specs.Graph.{stands, of_class, permits, pattern_conforms}
use Rattle.model.specs.Operations.{Arm, Action, pattern_only, add_node, add_edges, delete_node, delete_edges, abstract, Rule}
use Rattle.model.specs.Refusals.{Outcome, accepted, ◌>>=◌}
use Rattle.model.specs.Files.{Form, form, Line, Checks, checks, Format, numbers_of, read, triple_of}

pub data RuleKey : Type 0 where
  op= pnode= pedge= make= arm= put= drop= cut= group= : RuleKey

-- "A pattern node's number is written 0..5."
abbrev pattern_edge : List ℕ
pattern_edge = Limits.pattern_nodes ∷ Limits.names ∷ Limits.pattern_nodes ∷ []

-- "Op, make, drop and group stand once"; "pnode: free"
abbrev pub rule_form : RuleKey → Form
rule_form op= = form 0 "op" (Limits.codes ∷ []) (Some 0) None
rule_form pnode= = form 1 "pnode" (Limits.classes ∷ Limits.kinds ∷ suc Limits.last_value ∷ []) None (Some Limits.pattern_nodes)
rule_form pedge= = form 2 "pedge" pattern_edge (Some 3) (Some Limits.pattern_edges)
rule_form make= = form 3 "make" (Limits.classes ∷ []) (Some 0) None
rule_form arm= = form 4 "arm" (Limits.names ∷ Limits.pattern_nodes ∷ []) (Some 1) (Some Limits.arms)
rule_form put= = form 5 "put" pattern_edge (Some 3) (Some Limits.puts)
rule_form drop= = form 6 "drop" (Limits.pattern_nodes ∷ []) (Some 0) None
rule_form cut= = form 7 "cut" pattern_edge (Some 3) (Some Limits.cuts)
rule_form group= = form 8 "group" (Limits.pattern_nodes ∷ Limits.classes ∷ Limits.names ∷ Limits.names ∷ []) (Some 0) None

abbrev pub rule_keys : List RuleKey
rule_keys = op= ∷ pnode= ∷ pedge= ∷ make= ∷ arm= ∷ put= ∷ drop= ∷ cut= ∷ group= ∷ []

abbrev pub RuleLines : Type 0
RuleLines = List (Line RuleKey)

-- # What the lines say
-- pattern nodes, numbered from i on
abbrev pub nodes_from : ℕ → List (List ℕ) → List (Node (Option ℕ))
nodes_from i [] = []
nodes_from i (x ∷ xs) =
    record { number = i; class = x ! 0; value = cond (eqb (x ! 1) 1) (Some (x ! 2)) None } ∷ nodes_from (suc i) xs

abbrev pub pattern_in : RuleLines → Pattern
pattern_in ls =
    record { nodes = nodes_from 0 (numbers_of rule_form pnode= ls); edges = map triple_of (numbers_of rule_form pedge= ls) }

abbrev pub arm_of : List ℕ → Arm
arm_of x = record { name = x ! 0; node = x ! 1 }

-- the numbers of the first line that has the key
abbrev pub numbers_at : RuleKey → RuleLines → List ℕ
numbers_at k ls = get_or (numbers_of rule_form k ls) 0 []

abbrev pub action_in : RuleLines → Action
action_in ls =
    let g = numbers_at group= ls in
    get_or
    (pattern_only
    ∷ add_node (numbers_at make= ls ! 0) (map arm_of (numbers_of rule_form arm= ls))
    ∷ add_edges (map triple_of (numbers_of rule_form put= ls))
    ∷ delete_node (numbers_at drop= ls ! 0)
    ∷ delete_edges (map triple_of (numbers_of rule_form cut= ls))
    ∷ abstract (g ! 0) (g ! 1) (g ! 2) (g ! 3)
    ∷ [])
    (numbers_at op= ls ! 0)
    pattern_only

abbrev pub rule_in : RuleLines → Rule
rule_in ls = record { pattern = pattern_in ls; action = action_in ls }

-- # Causes 1 and 3 to 5
abbrev pub stand : RuleKey → RuleLines → Bool
stand k ls = any (λ x. true) (numbers_of rule_form k ls)

abbrev pub has_code : ℕ → RuleLines → Bool
has_code c ls = any (λ x. eqb (x ! 0) c) (numbers_of rule_form op= ls)

-- the open scheme: "a rule's classes and names: in the open scheme"
module _ (s : Scheme) where
  -- an edge between pattern nodes above, with a declared name
  abbrev pub knows : Pattern → List ℕ → Bool
  knows p x = stands p (x ! 0) && declares s.names (x ! 1) && stands p (x ! 2)

  -- with the line, the rule's pattern conforms
  abbrev pub pattern_with : RuleLines → RuleKey → List ℕ → Bool
  pattern_with above k x = pattern_conforms s (pattern_in (above ++ (record { key = k; numbers = x } ∷ [])))

  -- 1: op comes first, an action line stands under its own code, arm after make, and "value 0 when given is 0"; 4: "given 1, on an object
  -- node; line breaks conformity"; 5: "action line: wrong kind of class or name, triple not permitted (for group: K, b, class of p), cut of
  -- an edge not in the pattern"
  unfoldable pub rule_checks : RuleLines → RuleKey → List ℕ → Checks
  rule_checks above op= x = checks true true true true
  rule_checks above pnode= x =
      let placed = stand op= above && (eqb (x ! 1) 1 || eqb (x ! 2) 0) in
      let valued = not (is_object s (x ! 0)) || eqb (x ! 1) 0 in
      checks placed (declares s.classes (x ! 0)) (valued && pattern_with above pnode= x) true
  rule_checks above pedge= x = checks (stand op= above) (knows (pattern_in above) x) (pattern_with above pedge= x) true
  rule_checks above make= x = checks (has_code 1 above) (declares s.classes (x ! 0)) true (is_object s (x ! 0))
  rule_checks above arm= x =
      let p = pattern_in above in
      let joined = joins s (eqb (numbers_at make= above ! 0)) (x ! 0) (of_class p (x ! 1)) in
      checks (stand make= above) (declares s.names (x ! 0) && stands p (x ! 1)) true (is_functional s (x ! 0) && joined)
  rule_checks above put= x = let p = pattern_in above in checks (has_code 2 above) (knows p x) true (permits s p (triple_of x))
  rule_checks above drop= x = checks (has_code 3 above) (stands (pattern_in above) (x ! 0)) true true
  rule_checks above cut= x = let p = pattern_in above in checks (has_code 4 above) (knows p x) true (has p.edges (triple_of x))
  rule_checks above group= x =
      let p = pattern_in above in
      let known = stands p (x ! 0) && declares s.classes (x ! 1) && declares s.names (x ! 2) && declares s.names (x ! 3) in
      let joined = joins s (eqb (x ! 1)) (x ! 3) (of_class p (x ! 0)) in
      checks (has_code 5 above) known true (is_object s (x ! 1) && is_multivalued s (x ! 2) && is_multivalued s (x ! 3) && joined)

  -- "Op, make, drop and group stand once; put and cut at least once": under code 1 to 5 an action line, which comes after the pedge lines
  unfoldable pub rule_format : Format RuleKey
  rule_format =
      record {
        keys = rule_keys;
        form_of = rule_form;
        checks_at = rule_checks;
        complete = λ ls. has_code 0 ls || any (λ l. ltb (rule_form pedge=).turn (rule_form l.key).turn) ls;
      }

  unfoldable pub read_rule : List ℕ → Outcome Rule
  read_rule text = read rule_format text >>= λ ls. accepted (rule_in ls)
