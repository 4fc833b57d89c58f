-- A line of a rule text under lines that pass: the verdict that is told from the rows above it is the definition's.
-- Each of the five tests is told from the rows; the pattern conforms already, so that only what the line adds is looked at.
use Prim.Native.Nat.{ℕ, suc, ◌/◌, ◌%◌, ◌^◌, ◌<◌}
use Rattle.std.proofs.Common.{arith, ap₂, ◌∙◌, length-append, eqb-true, eq-eqb, ne_eqb, lt-ltb}
use Rattle.std.specs.Prelude.{◌≡◌, Bool, false, cond, not, ◌&&◌, length, ltb, Option, None, Some}
use Rattle.std.proofs.Math.Path.{refl, ap, sym, subst}
use Rattle.std.proofs.Math.Bool.{true, ◌||◌, and-false, or-true}
use Rattle.std.proofs.lemmas.Bool.{false≢true, eqb-false}
use mathlib.Core.List.{List, [], ◌∷◌, ◌++◌, map, map-append}
use Rattle.std.proofs.lemmas.List.{length-map}
use Rattle.std.proofs.Math.Dec.{eqb}
use Rattle.lists.specs.Lists.{any, ◌!◌, last_of}
use Rattle.lists.specs.Order.{rising}
use Rattle.lists.proofs.Laws.Lists.{both, any-member, no_member}
use Rattle.model.specs.Graph.{Scheme, Pattern, declares, is_object, is_value, is_functional, joins, of_class, both_given, pattern_conforms, scheme_listed}
use Rattle.model.specs.Files.{Checks, full, numbers_of, follows, in_place, crowded}
use Rattle.model.specs.Files.RuleText.{RuleKey, op=, pnode=, pedge=, make=, arm=, put=, drop=, cut=, group=, rule_form, RuleLines, pattern_in, stand, has_code}
use Rattle.model.specs.Files.RuleText.{rule_checks, rule_format}
use Rattle.model.proofs.Laws.Graph.{listed-scheme}
use Rattle.model.proofs.Laws.Kinds.{value-class}
use Rattle.model.specs.InForm.{LineInForm}
use Rattle.model.proofs.Laws.Passing.{Passing}
use Rattle.model.proofs.Laws.RulePatterns.{pattern-conforms}
use Rattle.model.proofs.Laws.RuleActions.{led-by}
use Rattle.text.specs.Lines.{rule_line}
use Rattle.text.specs.declared.lines.Line.{Line as PackedLine}
use Rattle.std.specs.Option.{is_some}
use Rattle.graph.specs.Packed.{unpack_triple, unpack_arm, unpack_pattern_node, unpack_pattern_nodes, pattern_of}
use Rattle.verdicts.specs.Verdicts.{verdict}
use Rattle.verdicts.proofs.Laws.Verdicts.{Agree, verdict-agrees, verdict_of}
use Rattle.verdicts.proofs.Laws.Edges.{edge-conforms, node-conforms}
use Rattle.pattern_lines.specs.PatternLines.{knows, pnode_checks, pedge_checks}
use Rattle.action_lines.specs.ActionLines.{make_checks, arm_checks, put_checks, drop_checks, cut_checks, group_checks}
use Rattle.rule_lines.specs.RuleLines.{line_checks, lines_above, in_action, placed}
use Rattle.pattern_lines.specs.Laws.Patterns.{nodes-length, nodes-rise, node-more, edge_more}
use Rattle.rules.specs.Rules.{Parts}
use Rattle.rules.specs.Rules.{is_complete}
use Rattle.rules.specs.Laws.RuleRows.{fields, row_line, Rows, HasRows, rows-with, rows_with, last_row, gathered}
use Rattle.rules.specs.Laws.RuleContents.{pattern-rows, has_code_lem, Ruled, arm-parts, put-parts, cut_parts, made-class}
use Rattle.rules.specs.Laws.RuleOrder.{op-first, LastRead, Ends, ruled, later_rows, edges-rise-with, acting, made}

-- # Values
both-given-symmetric : (v w : Option ℕ) → both_given v w ≡ true → both_given w v ≡ true
both-given-symmetric None w h = absurd (false≢true h)
both-given-symmetric (Some v) None h = h
both-given-symmetric (Some v) (Some w) h = eq-eqb w v (sym (eqb-true v w h))

left_out : (v : Option ℕ) → both_given v None ≡ false
left_out None = refl
left_out (Some v) = refl

-- a node's value fits exactly if it is given in a value class only, and no node above has the same one
value-fits : (s : Scheme) (p : Pattern) (c given v : ℕ) → given < 2 → (is_object s c ≡ false → is_value s c ≡ true)
    → let w : Option ℕ = cond (eqb given 1) (Some v) None in
    (pnode_checks s p (record { number = 0; class = c; value = w })).conforming
    ≡ ((not (is_object s c) || eqb given 0) && not (is_value s c && any (λ m. eqb m.class c && both_given m.value w) p.nodes))
unfolding pnode_checks
value-fits s p c given v l value = go (eqb given 1) refl (is_object s c) refl
  where
    go : (t : Bool) → eqb given 1 ≡ t → (o : Bool) → is_object s c ≡ o
        → let w : Option ℕ = cond t (Some v) None in
        (pnode_checks s p (record { number = 0; class = c; value = w })).conforming
        ≡ ((not (is_object s c) || eqb given 0) && not (is_value s c && any (λ m. eqb m.class c && both_given m.value w) p.nodes))
    go true e true o = let one = eqb-true given 1 e in rw (o, ne_eqb given 0 (λ z. omega arith))
    go true e false o = rw (o, value o)
    go false e b o =
        let other : given ≡ 1 → ⊥ = eqb-false given 1 e in
        let none-twin : any (λ m. eqb m.class c && both_given m.value None) p.nodes ≡ false =
        (no_member (λ m. eqb m.class c && both_given m.value None) p.nodes).1 (λ m i. rw left_out (and-false (eqb m.class c))) in
        rw (eq-eqb given 0 (omega arith), or-true, none-twin, and-false)

-- # Verdicts
crowded-agrees : (line : ℕ) (in_place c d : Bool) (x : Checks) → (in_place ≡ true → c ≡ d) → verdict line in_place c x ≡ verdict line in_place d x
unfolding verdict
crowded-agrees line true c d x h = rw (h refl)
crowded-agrees line false c d x h = refl

placed-agrees : (a b c : Bool) → (a ≡ true → b ≡ c) → (a && b) ≡ (a && c)
placed-agrees true b c h = h refl
placed-agrees false b c h = refl

-- # A line in form
module _ (s : Scheme) (above : RuleLines) (passing : Passing (rule_format s) above) (rows : Rows) (h : HasRows above rows) where
  abbrev t : Parts
  t = gathered rows

  abbrev p : Pattern
  p = pattern_of (rows pnode=) (rows pedge=)

  abbrev code : ℕ
  code = last_row (rows op=)

  whole : Ruled rows
  whole = ruled s above passing rows h

  pattern-above : pattern_in above ≡ p
  pattern-above = pattern-rows above rows h

  conforms-above : pattern_conforms s p ≡ true
  conforms-above = ap (pattern_conforms s) (sym pattern-above) ∙ pattern-conforms s above passing

  code-above : (c : ℕ) → has_code c above ≡ (ltb 0 (length above) && eqb code c)
  code-above c = has_code_lem above rows h (whole.once op= refl) c ∙ ap (λ b. b && eqb code c) (op-first s above passing)

  code_is : (c : ℕ) → has_code c above ≡ true → code ≡ c
  code_is c e = eqb-true code c ((both (ltb 0 (length above)) (eqb code c)).0 (sym (code-above c) ∙ e)).1

  made_code : stand make= above ≡ true → code ≡ 1
  made_code e =
      let r = (any-member (λ x. true) (numbers_of rule_form make= above)).0 e in
      code_is 1 (led-by s above passing make= r.0 r.1 (omega arith)).0

  -- how many lines have a key
  counted : (k : RuleKey) (xs : List ℕ) → xs ≡ rows k → length xs ≡ length (numbers_of rule_form k above)
  counted k xs e = ap length e ∙ sym (length-map (rows k) (fields k)) ∙ ap length (sym (h k))

  crowded-same : (k : RuleKey) (x : List ℕ) → (rule_checks s above k x).placed ≡ true
      → full (rule_form k).most (lines_above p (length t.parts) k) ≡ full (rule_form k).most (length (numbers_of rule_form k above))
  unfolding lines_above rule_checks
  crowded-same op= x c = refl
  crowded-same pnode= x c = ap (full (rule_form pnode=).most) (nodes-length 0 (rows pnode=) ∙ counted pnode= (rows pnode=) refl)
  crowded-same pedge= x c = ap (full (rule_form pedge=).most) (length-map (rows pedge=) unpack_triple ∙ counted pedge= (rows pedge=) refl)
  crowded-same make= x c = refl
  crowded-same arm= x c = ap (full (rule_form arm=).most) (counted arm= t.parts (arm-parts above rows h whole (made_code c)))
  crowded-same put= x c = ap (full (rule_form put=).most) (counted put= t.parts (put-parts above rows h whole (code_is 2 c)))
  crowded-same drop= x c = refl
  crowded-same cut= x c = ap (full (rule_form cut=).most) (counted cut= t.parts (cut_parts above rows h whole (code_is 4 c)))
  crowded-same group= x c = refl

  module _ (x : ℕ) where
    module _ (in-form : LineInForm (rule_format s) (row_line pnode= x)) (in-turn : follows rule_form (last_of above) (row_line pnode= x) ≡ true) where
      -- no edge stands yet
      pnode-conforming : scheme_listed s ≡ true → declares s.classes (fields pnode= x ! 0) ≡ true
          → (pnode_checks s p (unpack_pattern_node 0 x)).conforming ≡ (rule_checks s above pnode= (fields pnode= x)).conforming
      unfolding rule_checks
      pnode-conforming listed d =
          let c = fields pnode= x ! 0 in
          let nodes = rows pnode= in
          let ns = unpack_pattern_nodes 0 nodes in
          let n = unpack_pattern_node (length nodes) x in
          let no_edge : rows pedge= ≡ [] = later_rows s above passing rows h pnode= x in-form in-turn pedge= (omega arith) in
          let bare = ap (λ (es : List ℕ). pattern_conforms s (pattern_of nodes es)) (sym no_edge) ∙ conforms-above in
          let rise : rising (map (λ m. m.number ∷ []) (ns ++ (n ∷ []))) ≡ true =
          ap (λ (q : Pattern). rising (map (λ m. m.number ∷ []) q.nodes)) (sym (node-more nodes [] x)) ∙ nodes-rise 0 (nodes ++ (x ∷ [])) in
          let conforming = ap (pattern_conforms s) (
          pattern-rows (above ++ (row_line pnode= x ∷ [])) (rows_with rows pnode= x) (rows-with above rows pnode= x h)
          ∙ ap (pattern_of (nodes ++ (x ∷ []))) no_edge
          ∙ node-more nodes [] x)
          ∙ node-conforms both_given s both-given-symmetric ns n bare rise in
          value-fits s p c (fields pnode= x ! 1) (fields pnode= x ! 2) (omega arith)
          (value-class s ((listed-scheme s).0 listed).classes c d)
          ∙ ap (λ b. (not (is_object s c) || eqb (fields pnode= x ! 1) 0) && b) (sym conforming)

    pedge-conforming : LineInForm (rule_format s) (row_line pedge= x) → follows rule_form (last_of above) (row_line pedge= x) ≡ true
        → (pedge_checks s p (unpack_triple x)).conforming ≡ (rule_checks s above pedge= (fields pedge= x)).conforming
    unfolding rule_checks pedge_checks
    pedge-conforming i f =
        sym (ap (pattern_conforms s) (
        pattern-rows (above ++ (row_line pedge= x ∷ [])) (rows_with rows pedge= x) (rows-with above rows pedge= x h)
        ∙ edge_more (rows pnode=) (rows pedge=) x)
        ∙ edge-conforms both_given s p (unpack_triple x) conforms-above
        (rw map-append at (edges-rise-with s above passing rows h x i f)))

  -- causes 3 to 5 of a line that may stand there come to what the definition says
  checks-agree : scheme_listed s ≡ true → (k : RuleKey) (x : ℕ) → LineInForm (rule_format s) (row_line k x)
      → follows rule_form (last_of above) (row_line k x) ≡ true
      → (rule_checks s above k (fields k x)).placed ≡ true → Agree (line_checks s (pattern_in above) t.head k x) (rule_checks s above k (fields k x))
  unfolding rule_checks line_checks pnode_checks pedge_checks make_checks arm_checks put_checks drop_checks cut_checks group_checks knows
  checks-agree listed op= x i f c = record { declared = refl; conforming = λ d. refl; suited = refl }
  checks-agree listed pnode= x i f c =
      record {
        declared = refl;
        conforming = λ d. ap (λ g. (pnode_checks s g (unpack_pattern_node 0 x)).conforming) pattern-above ∙ pnode-conforming x i f listed d;
        suited = refl;
      }
  checks-agree listed pedge= x i f c =
      record {
        declared = refl;
        conforming = λ d. ap (λ g. (pedge_checks s g (unpack_triple x)).conforming) pattern-above ∙ pedge-conforming x i f;
        suited = refl;
      }
  checks-agree listed make= x i f c = record { declared = refl; conforming = λ d. refl; suited = refl }
  checks-agree listed arm= x i f c =
      let a = unpack_arm x in
      record {
        declared = refl;
        conforming = λ d. refl;
        suited =
            ap (λ K. is_functional s a.name && joins s (eqb K) a.name (of_class (pattern_in above) a.node))
            (sym (made-class above rows h whole (made_code c)));
      }
  checks-agree listed put= x i f c = record { declared = refl; conforming = λ d. refl; suited = refl }
  checks-agree listed drop= x i f c = record { declared = refl; conforming = λ d. refl; suited = refl }
  checks-agree listed cut= x i f c = record { declared = refl; conforming = λ d. refl; suited = refl }
  checks-agree listed group= x i f c = record { declared = refl; conforming = λ d. refl; suited = refl }

  -- # Where a line may stand
  some-above : (a : PackedLine) → LastRead a above → ltb 0 (length above) ≡ true
  some-above a q = lt-ltb 0 (length above) (omega (arith, ap length q.split, length-append q.front (rule_line a ∷ [])))

  some-line : (last : Option PackedLine) → Ends last above → is_some last ≡ ltb 0 (length above)
  some-line None e = rw e
  some-line (Some a) q = sym (some-above a q)

  under-make : (last : Option PackedLine) → Ends last above → (x : ℕ) → follows rule_form (last_of above) (row_line arm= x) ≡ true
      → in_action last ≡ stand make= above
  under-make None e x f = rw e
  under-make (Some a) q x f = sym (made s above passing a q x f)

  -- none is missing at the end: code 0, or an action line
  pub complete-same : (last : Option PackedLine) → Ends last above → is_complete last code ≡ (rule_format s).complete above
  unfolding is_complete rule_format
  complete-same None e = subst (λ (ls : RuleLines). false ≡ (rule_format s).complete ls) (sym e) refl
  complete-same (Some a) q =
      let coded : eqb code 0 ≡ has_code 0 above = sym (code-above 0 ∙ ap (λ b. b && eqb code 0) (some-above a q)) in
      ap₂ ◌||◌ coded (sym (acting s above passing a q))

  module _ (last : Option PackedLine) (ends : Ends last above) where
    under-code : (c : ℕ) → (is_some last && eqb code c) ≡ has_code c above
    under-code c = ap (λ b. b && eqb code c) (some-line last ends) ∙ sym (code-above c)

    placed_same : (k : RuleKey) (x : ℕ) → follows rule_form (last_of above) (row_line k x) ≡ true
        → placed last code k x ≡ (rule_checks s above k (fields k x)).placed
    unfolding placed rule_checks
    placed_same op= x f = refl
    placed_same pnode= x f = ap (λ b. b && (eqb (x / 2 ^ 32 % 2) 1 || eqb (x % 2 ^ 32) 0)) (some-line last ends ∙ sym (op-first s above passing))
    placed_same pedge= x f = some-line last ends ∙ sym (op-first s above passing)
    placed_same make= x f = under-code 1
    placed_same arm= x f = under-make last ends x f
    placed_same put= x f = under-code 2
    placed_same drop= x f = under-code 3
    placed_same cut= x f = under-code 4
    placed_same group= x f = under-code 5

    -- the verdict told from the rows is the definition's
    pub line-verdict : scheme_listed s ≡ true → (k : RuleKey) (x : ℕ) → LineInForm (rule_format s) (row_line k x)
        → verdict (suc (length above)) (follows rule_form (last_of above) (row_line k x) && placed last code k x)
        (full (rule_form k).most (lines_above p (length t.parts) k)) (line_checks s p t.head k x)
        ≡ verdict_of (rule_format s) above (row_line k x)
    unfolding rule_format
    line-verdict listed k x i =
        let line = suc (length above) in
        let l = row_line k x in
        let here = in_place (rule_format s) above l in
        let stands : here ≡ true → (follows rule_form (last_of above) l ≡ true) × ((rule_checks s above k (fields k x)).placed ≡ true) =
        (both (follows rule_form (last_of above) l) (rule_checks s above k (fields k x)).placed).0 in
        let agrees : Pattern → Type 0 = λ g. Agree (line_checks s g t.head k x) (rule_checks s above k (fields k x)) in
        let told = full (rule_form k).most (lines_above p (length t.parts) k) in
        ap (λ b. verdict line b told (line_checks s p t.head k x))
        (placed-agrees (follows rule_form (last_of above) l) (placed last code k x) (rule_checks s above k (fields k x)).placed (placed_same k x))
        ∙ crowded-agrees line here told (crowded (rule_format s) above l) (line_checks s p t.head k x) (λ e. crowded-same k (fields k x) (stands e).1)
        ∙ verdict-agrees line here (crowded (rule_format s) above l) (line_checks s p t.head k x) (rule_checks s above k (fields k x))
        (λ e. subst agrees pattern-above (checks-agree listed k x i (stands e).0 (stands e).1))
