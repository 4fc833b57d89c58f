-- Rule texts by the rows of their lines: the rows of each key, and what stands with one line more.
-- A row is taken apart into its line's numbers by arithmetic; the rest is by the keys.
use Rattle.std.specs.Prelude.{ℕ, ◌/◌, ◌%◌, ◌^◌, ◌<◌, ◌≡◌, Bool, true, false, cond, List, [], ◌∷◌, ◌++◌, map, get_or, eqb}
use Rattle.std.proofs.Common.{arith, ap₂, ◌∙◌, sym, append_assoc, append-nil, eqb-true}
use Rattle.std.proofs.Math.Path.{refl, ap}
use Rattle.std.proofs.lemmas.List.{map-append}
use Rattle.lists.specs.Radix.{product, unrank}
use Rattle.model.specs.Graph.{row}
use Rattle.model.specs.Files.{Line, numbers_of}
use Rattle.model.specs.Files.RuleText.{RuleKey, op=, pnode=, pedge=, make=, arm=, put=, drop=, cut=, group=, rule_form, RuleLines}
use Rattle.model.proofs.Laws.Passing.{numbers-append}
use Rattle.model.specs.Files.RuleText.{rule_keys}
use Rattle.forms.specs.Forms.{rule_kind, of_drawing, rule_key}
use Rattle.text.specs.Lines.{rule_line, Tabled}
use Rattle.forms.specs.Laws.Kinds.{rule-kind}
use Rattle.text.specs.declared.lines.Line.{Line as PackedLine}
use Rattle.graph.specs.Packed.{unpack_triple}
use Rattle.graph.proofs.Laws.Fields.{triple-fields}
use Rattle.rules.specs.Rules.{Parts, with}

-- # A line's numbers
abbrev pub fields : RuleKey → (row : ℕ) → List ℕ
fields op= x = x ∷ []
fields pnode= x = x / 2 ^ 33 % 2 ^ 6 ∷ x / 2 ^ 32 % 2 ∷ x % 2 ^ 32 ∷ []
fields pedge= x = row (unpack_triple x)
fields make= x = x ∷ []
fields arm= x = x / 2 ^ 16 ∷ x % 2 ^ 16 ∷ []
fields put= x = row (unpack_triple x)
fields drop= x = x ∷ []
fields cut= x = row (unpack_triple x)
fields group= x = x / 2 ^ 18 ∷ x / 2 ^ 12 % 2 ^ 6 ∷ x / 2 ^ 6 % 2 ^ 6 ∷ x % 2 ^ 6 ∷ []

number-fields : (b x : ℕ) → unrank (b ∷ []) x ≡ x ∷ []
number-fields b x = let e : x / 1 ≡ x = omega arith in ap (λ n. n ∷ []) e

row-fields : (k : RuleKey) (x : ℕ) → x < product (rule_kind k).rooms → unrank (rule_kind k).rooms x ≡ fields k x
row-fields op= x h = number-fields (2 ^ 3) x
row-fields pnode= x h =
    let class : x / 2 ^ 33 ≡ x / 2 ^ 33 % 2 ^ 6 = omega arith in
    let given : x % 2 ^ 33 / 2 ^ 32 ≡ x / 2 ^ 32 % 2 = omega arith in
    let value : x % 2 ^ 33 % 2 ^ 32 / 1 ≡ x % 2 ^ 32 = omega arith in
    ap (λ c. c ∷ (x % 2 ^ 33 / 2 ^ 32) ∷ (x % 2 ^ 33 % 2 ^ 32 / 1) ∷ []) class ∙ ap₂ (λ g v. x / 2 ^ 33 % 2 ^ 6 ∷ g ∷ v ∷ []) given value
row-fields pedge= x h = triple-fields x
row-fields make= x h = number-fields (2 ^ 6) x
row-fields arm= x h = let node : x % 2 ^ 16 / 1 ≡ x % 2 ^ 16 = omega arith in ap (λ n. x / 2 ^ 16 ∷ n ∷ []) node
row-fields put= x h = triple-fields x
row-fields drop= x h = number-fields (2 ^ 3) x
row-fields cut= x h = triple-fields x
row-fields group= x h =
    let class : x % 2 ^ 18 / 2 ^ 12 ≡ x / 2 ^ 12 % 2 ^ 6 = omega arith in
    let a : x % 2 ^ 18 % 2 ^ 12 / 2 ^ 6 ≡ x / 2 ^ 6 % 2 ^ 6 = omega arith in
    let b : x % 2 ^ 18 % 2 ^ 12 % 2 ^ 6 / 1 ≡ x % 2 ^ 6 = omega arith in
    ap (λ c. x / 2 ^ 18 ∷ c ∷ (x % 2 ^ 18 % 2 ^ 12 / 2 ^ 6) ∷ (x % 2 ^ 18 % 2 ^ 12 % 2 ^ 6 / 1) ∷ []) class
    ∙ ap₂ (λ m n. x / 2 ^ 18 ∷ x / 2 ^ 12 % 2 ^ 6 ∷ m ∷ n ∷ []) a b

-- the line that has a row
abbrev pub row_line : RuleKey → (row : ℕ) → Line RuleKey
row_line k x = record { key = k; numbers = fields k x }

pub line_row : (l : PackedLine) → Tabled l → of_drawing l.kind ≡ false → rule_line l ≡ row_line (rule_key l.kind) l.row
line_row l t h =
    let k = rule_key l.kind in
    let e = rule-kind l.kind h in
    let small : l.row < product (rule_kind k).rooms = rw e at t.row in
    ap (λ (ns : List ℕ). record { key = k; numbers = ns }) (ap (λ m. unrank m.rooms l.row) e ∙ row-fields k l.row small)

-- # The rows of each key
abbrev pub Rows : Type 0
Rows = RuleKey → List ℕ

abbrev pub turn : RuleKey → ℕ
turn k = (rule_form k).turn

abbrev pub rows_with : Rows → RuleKey → (row : ℕ) → Rows
rows_with rows k x j = cond (eqb (turn k) (turn j)) (rows j ++ (x ∷ [])) (rows j)

-- the lines of each key have these rows
abbrev pub HasRows : RuleLines → Rows → Type 0
HasRows ls rows = (k : RuleKey) → numbers_of rule_form k ls ≡ map (fields k) (rows k)

key-at-turn : (k : RuleKey) → get_or rule_keys (turn k) op= ≡ k
key-at-turn op= = refl
key-at-turn pnode= = refl
key-at-turn pedge= = refl
key-at-turn make= = refl
key-at-turn arm= = refl
key-at-turn put= = refl
key-at-turn drop= = refl
key-at-turn cut= = refl
key-at-turn group= = refl

pub rows-with : (ls : RuleLines) (rows : Rows) (k : RuleKey) (x : ℕ) → HasRows ls rows → HasRows (ls ++ (row_line k x ∷ [])) (rows_with rows k x)
rows-with ls rows k x h j = numbers-append rule_form j ls (row_line k x ∷ []) ∙ go (eqb (turn k) (turn j)) refl
  where
    go : (t : Bool) → eqb (turn k) (turn j) ≡ t
        → numbers_of rule_form j ls ++ map (λ l. l.numbers) (cond t (row_line k x ∷ []) []) ≡ map (fields j) (cond t (rows j ++ (x ∷ [])) (rows j))
    go true e =
        let same_key : k ≡ j = sym (key-at-turn k) ∙ ap (λ n. get_or rule_keys n op=) (eqb-true (turn k) (turn j) e) ∙ key-at-turn j in
        ap₂ (λ (xs : List (List ℕ)) (i : RuleKey). xs ++ (fields i x ∷ [])) (h j) same_key ∙ sym (map-append (fields j) (rows j) (x ∷ []))
    go false e = append-nil (numbers_of rule_form j ls) ∙ h j

-- # What stands
-- the last row, 0 if there is none
abbrev pub last_row : List ℕ → ℕ
last_row [] = 0
last_row (x ∷ []) = x
last_row (x ∷ y ∷ xs) = last_row (y ∷ xs)

last_snoc : (xs : List ℕ) (x : ℕ) → last_row (xs ++ (x ∷ [])) ≡ x
last_snoc [] x = refl
last_snoc (y ∷ []) x = refl
last_snoc (y ∷ z ∷ xs) x = last_snoc (z ∷ xs) x

-- the last of make, drop and group lines, of which one kind stands; arm, put and cut lines, of which one kind stands too
abbrev heads : Rows → List ℕ
heads rows = rows make= ++ (rows drop= ++ rows group=)

abbrev pub gathered : Rows → Parts
gathered rows =
    record {
      code = last_row (rows op=);
      nodes = rows pnode=;
      edges = rows pedge=;
      head = last_row (heads rows);
      parts = rows arm= ++ (rows put= ++ rows cut=);
    }

-- a row after the first, the second or the third of three lists, where nothing follows it
at_first : (a b c : List ℕ) (x : ℕ) → b ≡ [] → c ≡ [] → (a ++ (x ∷ [])) ++ (b ++ c) ≡ (a ++ (b ++ c)) ++ (x ∷ [])
at_first a b c x h k = rw (h, k) (simp append-nil)

at_second : (a b c : List ℕ) (x : ℕ) → c ≡ [] → a ++ ((b ++ (x ∷ [])) ++ c) ≡ (a ++ (b ++ c)) ++ (x ∷ [])
at_second a b c x k = rw k (simp (append-nil, append_assoc))

at-third : (a b c : List ℕ) (x : ℕ) → a ++ (b ++ (c ++ (x ∷ []))) ≡ (a ++ (b ++ c)) ++ (x ∷ [])
at-third a b c x = simp append_assoc

-- what stands with a line whose turn is not before that of any row
module _ (rows : Rows) (x : ℕ) where
  abbrev t : Parts
  t = gathered rows

  abbrev holding : (head : ℕ) (parts : List ℕ) → Parts
  holding head parts = record { code = t.code; nodes = t.nodes; edges = t.edges; head = head; parts = parts }

  headed : (hs : List ℕ) → hs ≡ heads rows ++ (x ∷ []) → holding x t.parts ≡ holding (last_row hs) t.parts
  headed hs e = ap (λ h. holding h t.parts) (sym (last_snoc (heads rows) x) ∙ ap last_row (sym e))

  parted : (ps : List ℕ) → ps ≡ t.parts ++ (x ∷ []) → holding t.head (t.parts ++ (x ∷ [])) ≡ holding t.head ps
  parted ps e = ap (holding t.head) (sym e)

  pub gathered-with : (k : RuleKey) → ((j : RuleKey) → turn k < turn j → rows j ≡ []) → with (gathered rows) k x ≡ gathered (rows_with rows k x)
  unfolding with
  gathered-with op= h =
      ap (λ c. record { code = c; nodes = t.nodes; edges = t.edges; head = t.head; parts = t.parts }) (sym (last_snoc (rows op=) x))
  gathered-with pnode= h = refl
  gathered-with pedge= h = refl
  gathered-with make= h = headed _ (at_first (rows make=) (rows drop=) (rows group=) x (h drop= (omega arith)) (h group= (omega arith)))
  gathered-with arm= h = parted _ (at_first (rows arm=) (rows put=) (rows cut=) x (h put= (omega arith)) (h cut= (omega arith)))
  gathered-with put= h = parted _ (at_second (rows arm=) (rows put=) (rows cut=) x (h cut= (omega arith)))
  gathered-with drop= h = headed _ (at_second (rows make=) (rows drop=) (rows group=) x (h group= (omega arith)))
  gathered-with cut= h = parted _ (at-third (rows arm=) (rows put=) (rows cut=) x)
  gathered-with group= h = headed _ (at-third (rows make=) (rows drop=) (rows group=) x)
