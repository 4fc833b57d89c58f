-- The numbers of a row, got from the last on: those of what is left of the row, then those that were got, are the row's numbers.
-- The last number of a row is its remainder by the last room.
use Rattle.std.specs.Prelude.{ℕ, suc, ◌+◌, ◌/◌, ◌%◌, ◌<◌, ◌≤◌, ◌≡◌, refl, List, [], ◌∷◌, ◌++◌, length, get_or, take, drop, set}
use Rattle.std.proofs.Common.{div-one, add-one, arith, ap, ap₂, ◌∙◌, sym, append_assoc, length-set, drop-cons, get_or-set_same, drop-set-lt}
use Rattle.std.proofs.Math.Seq.{take-length}
use Rattle.lists.specs.Radix.{product, unrank}
use Rattle.lists.proofs.Laws.Radix.{product-first, product-left, unrank-length, unrank-next}
use Rattle.forms.specs.Forms.{kind_of, most_numbers, padded, packed_form}
use Rattle.forms.specs.Laws.Kinds.{kind-roomy, filled, form-numbers, form-few, form-room}
use Rattle.forms.specs.declared.Form.{Form as PackedForm}
use Rattle.forms.specs.declared.LineKind.{LineKind}

-- the first i numbers are those of `rest`; the others are got
pub record Divided (kind : LineKind) (row : ℕ) (form : PackedForm) (numbers : List ℕ) (rest i : ℕ) : Type 0 where
  pub made : form ≡ packed_form (kind_of kind)
  pub some : 1 ≤ i
  pub counted : i ≤ form.numbers
  pub few : form.numbers ≤ most_numbers
  pub places : length numbers ≡ most_numbers
  pub left : unrank (take i (kind_of kind).rooms) rest ++ drop i numbers ≡ padded (unrank (kind_of kind).rooms row)

module _ {kind : LineKind} {row : ℕ} {form : PackedForm} where
  pub divided-none : form ≡ packed_form (kind_of kind) → Divided kind row form (0 ∷ 0 ∷ 0 ∷ 0 ∷ []) row form.numbers
  divided-none made =
      let k = kind-roomy kind in
      let rooms = (kind_of kind).rooms in
      let numbers = form-numbers kind made in
      let as_many : form.numbers ≡ length (unrank rooms row) = numbers ∙ sym (unrank-length rooms row) in
      record {
        made = made;
        some = omega (arith, numbers, k.as_many, k.some_number);
        counted = omega arith;
        few = form-few kind made;
        places = refl;
        left =
            ap₂ (λ i j. unrank (take i rooms) row ++ drop j (0 ∷ 0 ∷ 0 ∷ 0 ∷ [])) numbers as_many
            ∙ ap (λ bs. unrank bs row ++ drop (length (unrank rooms row)) (0 ∷ 0 ∷ 0 ∷ 0 ∷ [])) (take-length rooms)
            ∙ filled (unrank rooms row) (omega (arith, unrank-length rooms row, k.as_many, k.few));
      }

  module _ {numbers : List ℕ} {rest : ℕ} where
    module _ (j : ℕ) (d : Divided kind row form numbers rest (j + 1)) (h : 1 ≤ j) where
      abbrev rooms : List ℕ
      rooms = (kind_of kind).rooms

      here : get_or form.room j 0 ≡ get_or rooms j 0
      here = form-room kind d.made j (omega (arith, d.counted))

      -- no room is 0
      pub room-some : 0 < get_or form.room j 0
      room-some =
          let left : 0 < product (drop j rooms) = product-left j 0 rooms (kind-roomy kind).some-room in
          let split = drop-cons rooms j 0 (omega (arith, d.counted, form-numbers kind d.made)) in
          rw here (product-first (get_or rooms j 0) (drop (suc j) rooms) (rw split at left))

      pub divided-next : Divided kind row form (set numbers j (rest % get_or form.room j 0)) (rest / get_or form.room j 0) j
      divided-next =
          let k = kind-roomy kind in
          let room = get_or rooms j 0 in
          let inside : j < length numbers = omega (arith, d.places, d.counted, d.few) in
          let got = drop-cons (set numbers j (rest % room)) j 0 (omega (arith, length-set numbers j (rest % room))) in
          record {
            made = d.made;
            some = h;
            counted = omega (arith, d.counted);
            few = d.few;
            places = length-set numbers j _ ∙ d.places;
            left =
                rw (here, got, get_or-set_same numbers j (rest % room) 0 inside, drop-set-lt (suc j) numbers j (rest % room) (omega arith))
                (sym (append_assoc (unrank (take j rooms) (rest / room)) (rest % room ∷ []) (drop (suc j) numbers))
                ∙ ap (λ l. l ++ drop (suc j) numbers)
                (sym (unrank-next rooms j (omega arith) (omega (arith, d.counted, form-numbers kind d.made)) k.some-room rest))
                ∙ ap (λ n. unrank (take n rooms) rest ++ drop n numbers) (sym (add-one j))
                ∙ d.left);
          }

    -- the first number is what is left
    pub divided-all : (i : ℕ) → Divided kind row form numbers rest i → i ≤ 1 → set numbers 0 rest ≡ padded (unrank (kind_of kind).rooms row)
    divided-all i d h = first numbers (kind_of kind).rooms d.places (omega (arith, d.some, d.counted, form-numbers kind d.made))
        (ap (λ n. unrank (take n (kind_of kind).rooms) rest ++ drop n numbers) (sym one) ∙ d.left)
      where
        one : i ≡ 1
        one = omega (arith, d.some)

        first : (ns bs : List ℕ) → length ns ≡ most_numbers → 1 ≤ length bs → {to : List ℕ} → unrank (take 1 bs) rest ++ drop 1 ns ≡ to → set ns 0 rest ≡ to
        first [] bs l m e = absurd (omega arith)
        first (n ∷ ns) [] l m e = absurd (omega arith)
        first (n ∷ ns) (b ∷ bs) l m e = ap (λ k. k ∷ ns) (sym (div-one rest)) ∙ e
