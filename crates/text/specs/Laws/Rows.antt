-- The row of a line's numbers, number by number: the numbers that are read, and the limits, rooms and pieces that are left, give the whole row.
use Rattle.std.specs.Prelude.{ℕ, suc, ◌+◌, ◌*◌, ◌-◌, ◌^◌, ◌<◌, ◌≤◌, ◌≡◌, refl, Bool, true, false, cond, ◌&&◌, List, [], ◌∷◌, map, take, drop, Option, None, Some}
use Rattle.std.proofs.Math.Nat.{mul_assoc}
use Rattle.std.proofs.Common.{mul-le-mul_right, le-mul_of_pos_right, add-one, ap₂, ◌∙◌, length-drop, drop_of_length-le, take_all, drop-drop, lt-ltb, le-ltb, ltb-true, ltb-false}
use native.Mathlib.Omega.{arith}
use Rattle.std.proofs.Math.Path.{ap, sym}
use Rattle.std.proofs.Math.ListN.{length, get_or}
use Rattle.std.proofs.Math.Seq.{drop-cons}
use Rattle.std.proofs.Math.Dec.{ltb}
use borrow.Author.Rules.{part_to_end}
use Rattle.lists.specs.Text.{pieces}
use Rattle.lists.specs.Decimal.{value, is_numeral}
use Rattle.lists.specs.Radix.{product, rank}
use Rattle.lists.proofs.Laws.Lists.{both}
use Rattle.lists.proofs.Laws.Radix.{product-left}
use Rattle.model.specs.Files.{in_form}
use Rattle.numerals.specs.Scan.{up_to, numeral_below}
use Rattle.forms.specs.Forms.{kind_of, packed_form}
use Rattle.text.specs.Lines.{row_in}
use Rattle.numerals.specs.Laws.Scan.{up_to-bound, pieces-up-to, pieces_whole}
use Rattle.forms.specs.Laws.Kinds.{kind-roomy, padded-at, form-room}
use Rattle.forms.specs.declared.Form.{Form as PackedForm}
use Rattle.forms.specs.declared.LineKind.{LineKind}

-- the row whose numbers so far make `row`, where these limits, rooms and pieces are left
unfoldable pub row_left : (row : ℕ) (below rooms : List ℕ) → List (List ℕ) → Option ℕ
row_left row below rooms ts = cond (in_form below ts) (Some (row * product rooms + rank rooms (map value ts))) None

-- the pieces from a place of the text on: none past its end, where the last piece ended
unfoldable pub pieces_from : ℕ → List ℕ → List (List ℕ)
pieces_from at s = cond (ltb (length s) at) [] (pieces 44 (drop at s))

-- # A number and its piece
-- what a test decides tells the test
pub tested-is : (u : Bool) (x v : ℕ) → cond u (Some x) None ≡ Some v → (u ≡ true) × (x ≡ v)
tested-is true x v h = (refl, cc)
tested-is false x v h = let z : ◌≡◌ {A = ℕ} 0 1 = cc in absurd (omega arith)

pub tested-not : (u : Bool) (x : ℕ) → cond u (Some x) None ≡ None → u ≡ false
tested-not true x h = let z : ◌≡◌ {A = ℕ} 0 1 = cc in absurd (omega arith)
tested-not false x h = refl

module _ (b : ℕ) (t : List ℕ) where
  numeral-is : (v : ℕ) → numeral_below b t ≡ Some v → ((is_numeral t && ltb (value t) b) ≡ true) × (value t ≡ v)
  unfolding numeral_below
  numeral-is v h = tested-is (is_numeral t && ltb (value t) b) (value t) v h

  numeral-not : numeral_below b t ≡ None → (is_numeral t && ltb (value t) b) ≡ false
  unfolding numeral_below
  numeral-not h = tested-not (is_numeral t && ltb (value t) b) (value t) h

  module _ (row r : ℕ) (bs rs : List ℕ) (ts : List (List ℕ)) where
    left-more : (v : ℕ) → numeral_below b t ≡ Some v → row_left row (b ∷ bs) (r ∷ rs) (t ∷ ts) ≡ row_left (row * r + v) bs rs ts
    unfolding row_left
    left-more v h =
        let n = numeral-is v h in
        let p = product rs in
        let ranked : row * (r * p) + (value t * p + rank rs (map value ts)) ≡ (row * r + v) * p + rank rs (map value ts) =
        omega (arith, mul_assoc row r p, ap (λ m. m * p) n.1) in
        rw (n.0, ranked)

    left_not : numeral_below b t ≡ None → row_left row (b ∷ bs) (r ∷ rs) (t ∷ ts) ≡ None
    unfolding row_left
    left_not h = rw (numeral-not h)

-- # The pieces of a text from a place on
module _ (sep : ℕ) (s : List ℕ) (at n : ℕ) (h : at ≤ length s) (found : n ≡ up_to sep (drop at s)) where
  next-within : at + n ≤ length s
  next-within = omega (arith, up_to-bound sep (drop at s), length-drop at s)

  pub next-piece : at + n < length s → pieces sep (drop at s) ≡ take n (drop at s) ∷ pieces sep (drop (at + n + 1) s)
  next-piece l =
      let after : at + suc n ≡ at + n + 1 = omega arith in
      let later : drop (suc n) (drop at s) ≡ drop (at + n + 1) s = drop-drop (suc n) at s ∙ ap (λ m. drop m s) after in
      rw (← later, found) (pieces-up-to sep (drop at s) (omega (arith, length-drop at s)))

  pub last-piece : length s ≤ at + n → pieces sep (drop at s) ≡ drop at s ∷ []
  last-piece l = pieces_whole sep (drop at s) (omega (arith, length-drop at s))

pieces-past : (s : List ℕ) (at : ℕ) → length s < at → pieces_from at s ≡ []
unfolding pieces_from
pieces-past s at h = rw (lt-ltb (length s) at h)

pieces-here : (s : List ℕ) (at : ℕ) → at ≤ length s → pieces_from at s ≡ pieces 44 (drop at s)
unfolding pieces_from
pieces-here s at h = rw (le-ltb (length s) at h)

pieces-next : (s : List ℕ) (at n : ℕ) → at ≤ length s → n ≡ up_to 44 (drop at s)
    → pieces_from at s ≡ take n (drop at s) ∷ pieces_from (at + n + 1) s
pieces-next s at n h found = pieces-here s at h ∙ go (ltb (at + n) (length s)) refl
  where
    go : (b : Bool) → ltb (at + n) (length s) ≡ b → pieces 44 (drop at s) ≡ take n (drop at s) ∷ pieces_from (at + n + 1) s
    go true e =
        let l = ltb-true (at + n) (length s) e in
        next-piece 44 s at n h found l ∙ ap (λ ts. take n (drop at s) ∷ ts) (sym (pieces-here s (at + n + 1) (omega arith)))
    go false e =
        let l = ltb-false (at + n) (length s) e in
        last-piece 44 s at n h found l
        ∙ ap₂ (λ t ts. t ∷ ts) (sym (take_all n (drop at s) (omega (arith, length-drop at s)))) (sym (pieces-past s (at + n + 1) (omega arith)))

-- # Reading the row
-- i numbers of the line are read, and the next is at `at`. What is left has room under 2 ^ 54, so that the row never wraps
pub record Rowed (kind : LineKind) (form : PackedForm) (s : List ℕ) (row at i : ℕ) : Type 0 where
  pub made : form ≡ packed_form (kind_of kind)
  pub counted : i ≤ form.numbers
  pub few : form.numbers ≤ 4
  pub reached : at ≤ length s + 1
  pub room : (row + 1) * product (drop i (kind_of kind).rooms) ≤ 2 ^ 54
  pub left : row_in kind s ≡ row_left row (drop i (kind_of kind).form.below) (drop i (kind_of kind).rooms) (pieces_from at s)

module _ {kind : LineKind} {form : PackedForm} {s : List ℕ} where
  pub rowed-none : form ≡ packed_form (kind_of kind) → Rowed kind form s 0 0 0
  unfolding packed_form row_in row_left
  rowed-none made =
      let k = kind-roomy kind in
      let numbers : form.numbers ≡ length (kind_of kind).form.below = ap (λ f. f.numbers) made in
      let ranked = rank (kind_of kind).rooms (map value (pieces 44 s)) in
      let nothing_read : 0 * product (kind_of kind).rooms + ranked ≡ ranked = omega arith in
      record {
        made = made;
        counted = omega arith;
        few = omega (arith, k.few);
        reached = omega arith;
        room = omega (arith, k.small);
        left = rw (pieces-here s 0 (omega arith), nothing_read);
      }

  module _ {row at i : ℕ} (r : Rowed kind form s row at i) where
    abbrev below : List ℕ
    below = (kind_of kind).form.below

    abbrev rooms : List ℕ
    rooms = (kind_of kind).rooms

    numbers : form.numbers ≡ length below
    unfolding packed_form
    numbers = ap (λ f. f.numbers) r.made

    pub row_small : row < 2 ^ 54
    row_small =
        let some_left : 0 < product (drop i rooms) = product-left i 0 rooms (kind-roomy kind).some-room in
        omega (arith, r.room, le-mul_of_pos_right (row + 1) some_left)

    -- a number is missing
    pub row-short : i < form.numbers → length s < at → None ≡ row_in kind s
    unfolding row_left
    row-short h l = sym (r.left ∙ rw (pieces-past s at l, drop-cons below i 0 (omega (arith, numbers))))

    module _ (all : form.numbers ≤ i) where
      done : (drop i below ≡ []) × (drop i rooms ≡ [])
      done =
          let k = kind-roomy kind in
          (drop_of_length-le below {i = i} (omega (arith, numbers)), drop_of_length-le rooms {i = i} (omega (arith, numbers, k.as_many)))

      -- the text ends with the last number, or goes on
      pub row-end : at ≡ length s + 1 → Some row ≡ row_in kind s
      unfolding row_left
      row-end e =
          let none_left : (drop i below ≡ []) × (drop i rooms ≡ []) = done in
          let whole : row * 1 + 0 ≡ row = omega arith in
          sym (r.left ∙ rw (none_left.0, none_left.1, pieces-past s at (omega arith), whole))

      pub row_more : (at ≡ length s + 1 → ⊥) → None ≡ row_in kind s
      unfolding row_left
      row_more e =
          let here : at ≤ length s = omega (arith, r.reached) in
          sym (r.left ∙ rw (done.0, pieces-next s at (up_to 44 (drop at s)) here refl))

    module _ (here : at ≤ length s) {n : ℕ} (found : n ≡ up_to 44 (take (length s - at) (drop at s))) where
      at_piece : n ≡ up_to 44 (drop at s)
      at_piece = found ∙ ap (up_to 44) (part_to_end s at)

      pub piece-within : at + n ≤ length s
      piece-within = next-within 44 s at n here at_piece

      module _ (h : i < form.numbers) {m : Option ℕ} (read : m ≡ numeral_below (get_or form.below i 0) (take (at + n - at) (drop at s))) where
        limit : get_or form.below i 0 ≡ get_or below i 0
        unfolding packed_form
        limit = ap (λ f. get_or f.below i 0) r.made ∙ padded-at below i (omega (arith, numbers, r.few)) (omega (arith, numbers))

        width : get_or form.room i 0 ≡ get_or rooms i 0
        width = form-room kind r.made i h

        numeral : numeral_below (get_or below i 0) (take n (drop at s)) ≡ m
        numeral =
            let shift : at + n - at ≡ n = omega arith in
            sym (read ∙ rw (limit, shift))

        left_here : row_in kind s
            ≡ row_left row (get_or below i 0 ∷ drop (suc i) below) (get_or rooms i 0 ∷ drop (suc i) rooms) (take n (drop at s) ∷ pieces_from (at + n + 1) s)
        left_here =
            let k = kind-roomy kind in
            r.left
            ∙ rw (
              drop-cons below i 0 (omega (arith, numbers)),
              drop-cons rooms i 0 (omega (arith, numbers, k.as_many)),
              pieces-next s at n here at_piece,
            )

        -- the next number is out of form, or is read
        pub row-not : m ≡ None → None ≡ row_in kind s
        row-not e = sym (left_here ∙ left_not (get_or below i 0) (take n (drop at s)) row (get_or rooms i 0) (drop (suc i) below) (drop (suc i) rooms)
            (pieces_from (at + n + 1) s) (numeral ∙ e))

        pub rowed-next : {v : ℕ} → m ≡ Some v → Rowed kind form s (row * get_or form.room i 0 + v) (at + n + 1) (i + 1)
        rowed-next {v} e =
            let k = kind-roomy kind in
            let b = get_or below i 0 in
            let w = get_or rooms i 0 in
            let t = take n (drop at s) in
            let p = product (drop (suc i) rooms) in
            let is = numeral-is b t v (numeral ∙ e) in
            let v<b : v < b = omega (arith, is.1, ltb-true (value t) b ((both (is_numeral t) (ltb (value t) b)).0 is.0).1) in
            let v<w : v < w = omega (arith, k.wide i (omega (arith, numbers))) in
            let whole : (row + 1) * (w * p) ≤ 2 ^ 54 = rw (drop-cons rooms i 0 (omega (arith, numbers, k.as_many))) at r.room in
            let fits : row * w + v + 1 ≤ (row + 1) * w = omega arith in
            let room : (row * w + v + 1) * p ≤ 2 ^ 54 = omega (arith, mul-le-mul_right p fits, mul_assoc (row + 1) w p) in
            record {
              made = r.made;
              counted = omega arith;
              few = r.few;
              reached = omega (arith, piece-within);
              room = rw (add-one i, width) room;
              left =
                  left_here
                  ∙ left-more b t row w (drop (suc i) below) (drop (suc i) rooms) (pieces_from (at + n + 1) s) v (numeral ∙ e)
                  ∙ rw (add-one i, width);
            }
