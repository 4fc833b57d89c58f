-- Rule texts whose lines pass: op comes first, action lines stand under their own code, and no row is of a later turn than the last line.
-- From what each line met under the lines above it, and from the order of the lines.
use Rattle.std.specs.Prelude.{ℕ, suc, ◌+◌, ◌<◌, ◌≤◌, ◌≡◌, ◌⊎◌, Bool, ◌||◌, length, take, eqb, ltb, Option, None, Some, option_map}
use Rattle.std.proofs.Common.{eq-or-lt_of_le, arith, ◌∙◌, subst, inl, inr, ⊎_elim}
use Rattle.std.proofs.Math.Path.{refl, ap, sym}
use Rattle.std.proofs.Math.Bool.{true, false}
use Rattle.std.proofs.lemmas.Bool.{false≢true}
use mathlib.Core.List.Memᴰ
use mathlib.Core.List.{List, [], ◌∷◌, ◌++◌, map, map-map, map-append, map-eq-nil_iff}
use Rattle.std.proofs.Math.ListN.{length-append}
use Rattle.std.proofs.lemmas.List.{length-map}
use Rattle.std.proofs.Math.Dec.{leb}
use borrow.Author.Tests.{eqb-true, lt-ltb, ltb-true, le-leb, leb-true, leb-false}
use Rattle.lists.specs.Lists.{◌∈◌, any, ◌!◌, last_of}
use Rattle.lists.specs.Order.{rising}
use Rattle.lists.specs.Radix.{within}
use Rattle.lists.proofs.Laws.Lists.{both, one_of, any-member, any_append, in-append, in_map, same_truth}
use Rattle.lists.proofs.Laws.Count.{rising-count, within-cons}
use Rattle.lists.proofs.Laws.Order.{lexicographic}
use Rattle.lists.proofs.Laws.OneMore.{last-of-append}
use Rattle.model.specs.Limits
use Rattle.model.specs.Graph.{Scheme, row}
use Rattle.model.specs.Files.{Line, rises, numbers_of, follows}
use Rattle.model.specs.Files.RuleText.{RuleKey, op=, pnode=, pedge=, make=, arm=, put=, drop=, cut=, group=, rule_form, RuleLines, stand, has_code}
use Rattle.model.specs.Files.RuleText.{rule_checks, rule_format}
use Rattle.model.specs.Causes.{passes}
use Rattle.model.specs.InForm.{LineInForm}
use Rattle.model.proofs.Laws.Passing.{Passing, meets-iff, passing-keeps, passing-in-order, numbers-append}
use Rattle.model.proofs.Laws.Keys.{later-not-yet}
use Rattle.model.proofs.Laws.RulePatterns.{regular, limits, rise}
use Rattle.model.specs.InForm.{code_of}
use Rattle.model.proofs.Laws.RuleActions.{line-numbers, led-by}
use Rattle.forms.specs.Forms.{of_drawing, turn_of}
use Rattle.text.specs.Lines.{rule_line}
use Rattle.forms.specs.Laws.Kinds.{rule-turn}
use Rattle.text.specs.declared.lines.Line.{Line as PackedLine}
use Rattle.graph.specs.Packed.{unpack_triple}
use Rattle.verdicts.proofs.Laws.InTurn.{none-later, rows-rise-with}
use Rattle.rules.specs.Laws.RuleRows.{fields, row_line, Rows, turn, HasRows, last_row, gathered}
use Rattle.rules.specs.Laws.RuleContents.{has_code_lem, only-first, Ruled}

-- # Op comes first
code-stands : (c : ℕ) (ls : RuleLines) → has_code c ls ≡ true → stand op= ls ≡ true
code-stands c ls h =
    let r = (any-member (λ x. eqb (x ! 0) c) (numbers_of rule_form op= ls)).0 h in (any-member (λ x. true) (numbers_of rule_form op= ls)).1 (r.0, r.1, refl)

module _ (s : Scheme) where
  op-with : (above : RuleLines) (l : Line RuleKey) → stand op= above ≡ ltb 0 (length above) → LineInForm (rule_format s) l
      → passes (rule_format s) above l ≡ true → stand op= (above ++ (l ∷ [])) ≡ ltb 0 (length (above ++ (l ∷ [])))
  unfolding rule_format rule_checks
  op-with above l first i p =
      go l.key l.numbers ((meets-iff (rule_format s) above l).0 p).placed
      ∙ sym (lt-ltb 0 (length (above ++ (l ∷ []))) (omega (arith, length-append above (l ∷ []))))
    where
      joined : (k : RuleKey) (x : List ℕ) → (stand op= above ≡ true) ⊎ (stand op= (record { key = k; numbers = x } ∷ []) ≡ true)
          → stand op= (above ++ (record { key = k; numbers = x } ∷ [])) ≡ true
      joined k x h =
          let new : RuleLines = record { key = k; numbers = x } ∷ [] in
          ap (any (λ y. true)) (numbers-append rule_form op= above new)
          ∙ any_append (λ y. true) (numbers_of rule_form op= above) (numbers_of rule_form op= new)
          ∙ (one_of (stand op= above) (stand op= new)).1 h

      made : (ls : RuleLines) → stand op= ls ≡ ltb 0 (length ls) → stand make= ls ≡ true → stand op= ls ≡ true
      made [] e h = absurd (false≢true h)
      made (a ∷ ls) e h = e ∙ lt-ltb 0 (suc (length ls)) (omega arith)

      go : (k : RuleKey) (x : List ℕ) → (rule_checks s above k x).placed ≡ true → stand op= (above ++ (record { key = k; numbers = x } ∷ [])) ≡ true
      go op= x c = joined op= x (inr refl)
      go pnode= x c = joined pnode= x (inl ((both (stand op= above) (eqb (x ! 1) 1 || eqb (x ! 2) 0)).0 c).0)
      go pedge= x c = joined pedge= x (inl c)
      go make= x c = joined make= x (inl (code-stands 1 above c))
      go arm= x c = joined arm= x (inl (made above first c))
      go put= x c = joined put= x (inl (code-stands 2 above c))
      go drop= x c = joined drop= x (inl (code-stands 3 above c))
      go cut= x c = joined cut= x (inl (code-stands 4 above c))
      go group= x c = joined group= x (inl (code-stands 5 above c))

-- the last line that was read, of those that were
pub record LastRead (a : PackedLine) (above : RuleLines) : Type 0 where
  pub front : RuleLines
  pub split : above ≡ front ++ (rule_line a ∷ [])
  pub kind : of_drawing a.kind ≡ false

-- no line was read, or the last one
abbrev pub Ends : Option PackedLine → RuleLines → Type 0
Ends None above = above ≡ []
Ends (Some a) above = LastRead a above

pub last-above : (last : Option PackedLine) (above : RuleLines) → Ends last above → option_map rule_line last ≡ last_of above
last-above None above e = rw e
last-above (Some a) above q = sym (ap last_of q.split ∙ last-of-append q.front (rule_line a))

pub last-kind : (last : Option PackedLine) (above : RuleLines) → Ends last above → (a : PackedLine) → last ≡ Some a → of_drawing a.kind ≡ false
last-kind None above e a i = let z : ◌≡◌ {A = ℕ} 0 1 = cc in absurd (omega arith)
last-kind (Some b) above q a i = let same : b ≡ a = cc in subst (λ c. of_drawing c.kind ≡ false) same q.kind

make-turn : (k : RuleKey) → turn k ≡ turn make= → k ≡ make=
make-turn make= e = refl
make-turn _ e = absurd (omega arith)

arm-turn : (k : RuleKey) → turn k ≡ turn arm= → k ≡ arm=
arm-turn arm= e = refl
arm-turn _ e = absurd (omega arith)

module _ (s : Scheme) (above : RuleLines) (passing : Passing (rule_format s) above) where
  pub op-first : stand op= above ≡ ltb 0 (length above)
  op-first = passing-keeps (rule_format s) (λ ls. stand op= ls ≡ ltb 0 (length ls)) (op-with s) refl above passing

  -- # Once, and under one code
  once-numbers : (k : RuleKey) → (rule_form k).by ≡ Some 0 → length (numbers_of rule_form k above) ≤ 1
  once-numbers k e =
      let xs = numbers_of rule_form k above in
      let few = rising-count [] (map (take 0) xs) (rise s above passing k 0 e) (λ y i. ap (within []) ((in_map (take 0) xs).0 i).2) in
      rw length-map at few

  module _ (rows : Rows) (h : HasRows above rows) where
    once-rows : (k : RuleKey) → (rule_form k).by ≡ Some 0 → length (rows k) ≤ 1
    once-rows k e = rw (h k, length-map) at (once-numbers k e)

    alone-rows : (k : RuleKey) → turn pedge= < turn k → (last_row (rows op=) ≡ code_of k → ⊥) → rows k ≡ []
    alone-rows k l d = go (rows k) refl
      where
        go : (xs : List ℕ) → rows k ≡ xs → xs ≡ []
        go [] e = refl
        go (x ∷ xs) e =
            let member : fields k x ∈ numbers_of rule_form k above = rw (h k, e) (Memᴰ.head refl) in
            let coded = sym (has_code_lem above rows h (once-rows op= refl) (code_of k)) ∙ (led-by s above passing k (fields k x) member l).0 in
            absurd (d (eqb-true (last_row (rows op=)) (code_of k) ((both (stand op= above) _).0 coded).1))

    pub ruled : Ruled rows
    ruled = record { once = once-rows; alone = alone-rows }

    -- # A line in its turn
    module _ (k : RuleKey) (x : ℕ) (in-form : LineInForm (rule_format s) (row_line k x))
        (in-turn : follows rule_form (last_of above) (row_line k x) ≡ true) where
      pub later_rows : (j : RuleKey) → turn k < turn j → rows j ≡ []
      unfolding rule_format
      later_rows j l = (map-eq-nil_iff (fields j)).0 (sym (h j) ∙ none-later (rule_format s) (regular s) above (row_line k x) passing in-form in-turn j l)

    -- the last head under which an arm line may come is a make line's, whose class is one
    pub arm-head : (x : ℕ) → LineInForm (rule_format s) (row_line arm= x) → follows rule_form (last_of above) (row_line arm= x) ≡ true
        → (gathered rows).head < Limits.classes
    arm-head x i f =
        let none-later-on : (j : RuleKey) → turn arm= < turn j → rows j ≡ [] = later_rows arm= x i f in
        let only = only-first (rows make=) (rows drop=) (rows group=) (none-later-on drop= (omega arith)) (none-later-on group= (omega arith)) in
        rw only (go (rows make=) refl)
      where
        go : (xs : List ℕ) → rows make= ≡ xs → last_row xs < Limits.classes
        go [] e = omega arith
        go (y ∷ []) e =
            let member : fields make= y ∈ numbers_of rule_form make= above = rw (h make=, e) (Memᴰ.head refl) in
            ((within-cons Limits.classes y [] []).0 (limits s above passing make= (fields make= y) member)).0
        go (y ∷ z ∷ ys) e = absurd (omega (arith, once-rows make= refl, ap length e))

    rows-rise : (xs : List ℕ) (ns : List (List ℕ)) → ns ≡ map (fields pedge=) xs → rising (map (take 3) ns) ≡ true
        → rising (map row (map unpack_triple xs)) ≡ true
    rows-rise xs ns e r = ap rising (map-map row unpack_triple xs ∙ sym (map-map (take 3) (fields pedge=) xs) ∙ ap (map (take 3)) (sym e)) ∙ r

    pub edges-rise : rising (map row (map unpack_triple (rows pedge=))) ≡ true
    edges-rise = rows-rise (rows pedge=) (numbers_of rule_form pedge= above) (h pedge=) (rise s above passing pedge= 3 refl)

    -- with one edge more, in its turn
    pub edges-rise-with : (x : ℕ) → LineInForm (rule_format s) (row_line pedge= x) → follows rule_form (last_of above) (row_line pedge= x) ≡ true
        → rising (map row (map unpack_triple (rows pedge= ++ (x ∷ [])))) ≡ true
    unfolding rule_format
    edges-rise-with x i e =
        rows-rise (rows pedge= ++ (x ∷ [])) (numbers_of rule_form pedge= above ++ (fields pedge= x ∷ []))
        (ap (λ (ns : List (List ℕ)). ns ++ (fields pedge= x ∷ [])) (h pedge=) ∙ sym (map-append (fields pedge=) (rows pedge=) (x ∷ [])))
        (rows-rise-with (rule_format s) (regular s) above (row_line pedge= x) passing i e 3 refl)

  -- # The last line
  module _ (a : PackedLine) (q : LastRead a above) where
    abbrev m : Line RuleKey
    m = rule_line a

    last_turn : turn m.key + 5 ≡ turn_of a.kind
    last_turn = rule-turn a.kind q.kind

    last-in : m ∈ above
    last-in = rw q.split ((in-append q.front (m ∷ [])).1 (inr (Memᴰ.head refl)))

    -- no line is of a later turn
    not-later : (j : RuleKey) (x : List ℕ) → x ∈ numbers_of rule_form j above → turn j + 5 ≤ turn_of a.kind
    unfolding rule_format
    not-later j x i = go (leb (turn j + 5) (turn_of a.kind)) refl
      where
        go : (t : Bool) → leb (turn j + 5) (turn_of a.kind) ≡ t → turn j + 5 ≤ turn_of a.kind
        go true e = leb-true (turn j + 5) (turn_of a.kind) e
        go false e =
            let later : turn m.key < turn j = omega (arith, last_turn, leb-false (turn j + 5) (turn_of a.kind) e) in
            let none : numbers_of rule_form j above ≡ [] =
            ap (numbers_of rule_form j) q.split
            ∙ later-not-yet (rule_format s) above q.front [] m (passing-in-order (rule_format s) (regular s) above passing) q.split j later in
            absurd (Memᴰ.not-nil (subst (λ (xs : List (List ℕ)). x ∈ xs) none i))

    last-before : (l : Line RuleKey) → follows rule_form (last_of above) l ≡ true → turn_of a.kind ≤ turn l.key + 5
    last-before l f =
        let e : follows rule_form (Some m) l ≡ true = rw (← last-above (Some a) above q) at f in
        ⊎_elim (λ (b : turn m.key < turn l.key). omega (arith, last_turn)) (λ b. let t = b.0 in omega (arith, last_turn))
        ((lexicographic (turn m.key) (turn l.key) (rises (rule_form l.key).by m.numbers l.numbers)).0 e)

    last-stands : (k : RuleKey) → m.key ≡ k → m.numbers ∈ numbers_of rule_form k above
    last-stands k e = subst (λ j. m.numbers ∈ numbers_of rule_form j above) e (line-numbers s above passing m last-in)

    -- a make line stands where the last line is make or arm
    made-above : turn make= + 5 ≤ turn_of a.kind → turn_of a.kind ≤ turn arm= + 5 → stand make= above ≡ true
    made-above l u =
        ⊎_elim
        (λ e.
        let same : turn m.key ≡ turn make= = omega (arith, last_turn) in
        (any-member (λ x. true) (numbers_of rule_form make= above)).1 (m.numbers, last-stands make= (make-turn m.key same), refl))
        (λ (b : turn make= + 5 < turn_of a.kind).
        let same : turn m.key ≡ turn arm= = omega (arith, last_turn) in
        (led-by s above passing arm= m.numbers (last-stands arm= (arm-turn m.key same)) (omega arith)).1)
        (eq-or-lt_of_le l)

    -- an action line stands exactly if the last line is one
    pub acting : any (λ l. ltb (turn pedge=) (turn l.key)) above ≡ leb (turn make= + 5) (turn_of a.kind)
    acting =
        same_truth (any (λ l. ltb (turn pedge=) (turn l.key)) above) (leb (turn make= + 5) (turn_of a.kind)) (
          (λ e.
              let r = (any-member (λ (l : Line RuleKey). ltb (turn pedge=) (turn l.key)) above).0 e in
              let b = r.0 in
              let late = ltb-true (turn pedge=) (turn b.key) r.2 in
              le-leb (turn make= + 5) (turn_of a.kind) (omega (arith, not-later b.key b.numbers (line-numbers s above passing b r.1)))),
          λ e.
              let late = leb-true (turn make= + 5) (turn_of a.kind) e in
              (any-member (λ (l : Line RuleKey). ltb (turn pedge=) (turn l.key)) above).1
              (m, last-in, lt-ltb (turn pedge=) (turn m.key) (omega (arith, last_turn))),
        )

    -- where an arm line is in its turn, a make line stands exactly if the last line is an action line
    pub made : (x : ℕ) → follows rule_form (last_of above) (row_line arm= x) ≡ true
        → stand make= above ≡ leb (turn make= + 5) (turn_of a.kind)
    made x f =
        same_truth (stand make= above) (leb (turn make= + 5) (turn_of a.kind)) (
          (λ e.
              let r = (any-member (λ x. true) (numbers_of rule_form make= above)).0 e in
              le-leb (turn make= + 5) (turn_of a.kind) (not-later make= r.0 r.1)),
          λ e. made-above (leb-true (turn make= + 5) (turn_of a.kind) e) (last-before (row_line arm= x) f),
        )
